use Rattle.std.proofs.Common.{◌≡◌, ◌∙◌, ap}
use Rattle.wh_chains.specs.Chains.{has_key, last_slot}
use Rattle.wh_chains.specs.Links.{slot_at}
use Rattle.wh_chains.proofs.Walks.{slot_at-last_link}
use Rattle.wh_chains.proofs.chains.Chains.before.Goals as goal

pub returns : goal.returns
returns c =
    let keys : c.as_slice.result.now ≡ c.args.self.now.keys = c.as_slice.ensures.value ∙ ap (λ t. t.keys) c.self.view_is in
    c.slot_at.ensures ∙ ap slot_at c.before_in.ensures ∙ slot_at-last_link (has_key c.as_slice.result.now c.args.key) c.args.slot ∙ ap (λ ks. last_slot (has_key ks c.args.key) c.args.slot) keys
