use Rattle.std.proofs.Common.{ap, ◌∙◌}
use Rattle.std.proofs.lemmas.Result.{IfOk-weaker}
use Rattle.wh_answer.proofs.Below.{fit_over}
use Rattle.wh_store.proofs.TextualLemmas.{textual_has_keys, textual_is_numbered, textual_is_well_formed}
use Rattle.wh_report.proofs.GivenBack.{below_held, relations_held}
use Rattle.wh_report.proofs.held.held_relations.Goals as goal

pub new-stored-requires-clause-fits : goal.new-stored-requires-clause-fits
new-stored-requires-clause-fits g c = fit_over c.args.w.now c.requires c.in_ok-heads.heads c.in_ok-heads.ensures

pub new-inverse-requires-clause-rules : goal.new-inverse-requires-clause-rules
new-inverse-requires-clause-rules g c = textual_is_well_formed c.args.w.now.plan.spec c.requires.textual

pub new-inverse-requires-clause-keys : goal.new-inverse-requires-clause-keys
new-inverse-requires-clause-keys g c = textual_has_keys c.args.w.now.plan.spec c.requires.textual

pub new-inverse-requires-clause-numbered : goal.new-inverse-requires-clause-numbered
new-inverse-requires-clause-numbered g c = textual_is_numbered c.args.w.now.plan.spec c.requires.textual

pub returns-clause-rows : goal.returns-clause-rows
returns-clause-rows g c =
    let w = c.args.w.now in
    let known = ap (λ p. p.spec) c.new-inverse.ensures.plan in
    let below = c.new-inverse.ensures.below in
    let tables =
    below_held w c.requires _ _ _ known (ap (λ b. b.heads.now) below ∙ c.new-stored.ensures.heads ∙ c.in_ok-heads.ensures) (ap (λ b. b.tables.now) below ∙ c.new-stored.ensures.tables) in
    IfOk-weaker c.relations.result _ _ (λ s same. relations_held w c.requires _ _ s known tables same) c.relations.ensures.rows
