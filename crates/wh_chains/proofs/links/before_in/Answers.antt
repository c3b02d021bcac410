use Rattle.std.proofs.Common.{arith, ◌≡◌, ◌≤◌, ◌∙◌, ◌%◌}
use Rattle.wh_chains.specs.Links.{last_link, in_bucket}
use Rattle.wh_chains.proofs.Linking.{goes_on}
use Rattle.wh_chains.proofs.Walks.{landed, reaches}
use Rattle.wh_chains.proofs.links.before_in.Goals as goal

pub sought-requires-clause-within : goal.sought-requires-clause-within
sought-requires-clause-within c =
    let link : c.index.result.now ≡ last_link (in_bucket c.args.keys.now c.len.result (c.args.key % c.len.result)) c.args.slot =
    goes_on c.args.links.now.heads.items c.args.links.now.nexts.items c.args.keys.now c.args.key c.args.slot c.len.result c.index.result.now c.requires.chained (c.len.ensures ∙ c.args.links.now.heads.ok.0) c.requires.within c.requires.same c.index.ensures in
    let low : c.index.result.now ≤ c.args.slot = (landed _ _ _ _ _ link).0 in
    omega (arith, low, c.requires.within)

pub sought-requires-clause-bucket : goal.sought-requires-clause-bucket
sought-requires-clause-bucket c =
    (landed _ _ _ _ _ (goes_on c.args.links.now.heads.items c.args.links.now.nexts.items c.args.keys.now c.args.key c.args.slot c.len.result c.index.result.now c.requires.chained (c.len.ensures ∙ c.args.links.now.heads.ok.0) c.requires.within c.requires.same c.index.ensures)).1

pub returns : goal.returns
returns c =
    c.sought.ensures
    ∙ reaches c.args.keys.now c.len.result c.args.key c.args.slot c.index.result.now
    (goes_on c.args.links.now.heads.items c.args.links.now.nexts.items c.args.keys.now c.args.key c.args.slot c.len.result c.index.result.now c.requires.chained (c.len.ensures ∙ c.args.links.now.heads.ok.0) c.requires.within c.requires.same c.index.ensures)
