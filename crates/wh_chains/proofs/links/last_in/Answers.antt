use Rattle.std.proofs.Common.{◌∙◌}
use Rattle.wh_chains.proofs.Linking.{starts}
use Rattle.wh_chains.proofs.Walks.{landed, reaches}
use Rattle.wh_chains.proofs.links.last_in.Goals as goal

pub sought-requires-clause-within : goal.sought-requires-clause-within
sought-requires-clause-within c =
    (landed _ _ _ _ _ (starts c.args.links.now.heads.items c.args.links.now.nexts.items c.args.keys.now c.args.key _ c.index.result.now c.requires (c.len-buckets.ensures ∙ c.args.links.now.heads.ok.0) c.index.ensures)).0

pub sought-requires-clause-bucket : goal.sought-requires-clause-bucket
sought-requires-clause-bucket c =
    (landed _ _ _ _ _ (starts c.args.links.now.heads.items c.args.links.now.nexts.items c.args.keys.now c.args.key _ c.index.result.now c.requires (c.len-buckets.ensures ∙ c.args.links.now.heads.ok.0) c.index.ensures)).1

pub returns : goal.returns
returns c =
    c.sought.ensures
    ∙ reaches c.args.keys.now c.len-buckets.result c.args.key _ c.index.result.now
    (starts c.args.links.now.heads.items c.args.links.now.nexts.items c.args.keys.now c.args.key _ c.index.result.now c.requires (c.len-buckets.ensures ∙ c.args.links.now.heads.ok.0) c.index.ensures)
