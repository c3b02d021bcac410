use Rattle.std.proofs.Common.{length, ap, ◌∙◌}
use Rattle.wh_answer.proofs.Below.{fit_over}
use Rattle.wh_store.proofs.TextualLemmas.{textual_has_keys, textual_is_numbered, textual_is_well_formed}
use Rattle.wh_check.proofs.HeldLemmas.{both_so, held_rows, relations_held}
use Rattle.wh_check.proofs.sources.held_sources.Goals as goal

pub new-stored-requires-clause-fits : goal.new-stored-requires-clause-fits
new-stored-requires-clause-fits g c = fit_over c.args.w.now c.requires c.in_ok-heads.heads c.in_ok-heads.ensures

pub new-inverse-requires-clause-rules : goal.new-inverse-requires-clause-rules
new-inverse-requires-clause-rules g c = textual_is_well_formed c.args.w.now.plan.spec c.requires.textual

pub new-inverse-requires-clause-keys : goal.new-inverse-requires-clause-keys
new-inverse-requires-clause-keys g c = textual_has_keys c.args.w.now.plan.spec c.requires.textual

pub new-inverse-requires-clause-numbered : goal.new-inverse-requires-clause-numbered
new-inverse-requires-clause-numbered g c = textual_is_numbered c.args.w.now.plan.spec c.requires.textual

pub returns-clause-rows : goal.returns-clause-rows
returns-clause-rows g c =
    let w = c.args.w.now in
    let plan = c.new-inverse.ensures.plan in
    let below = c.new-inverse.ensures.below in
    both_so c.relations.result _ _ _
    (λ s count rows i k.
    held_rows w i k s (count ∙ ap (λ p. length p.spec.relations) plan)
    (relations_held w c.requires _ _ _ s (ap (λ p. p.spec) plan) (ap (λ b. b.heads.now) below ∙ c.new-stored.ensures.heads ∙ c.in_ok-heads.ensures) (ap (λ b. b.tables.now) below ∙ c.new-stored.ensures.tables) rows))
    c.relations.ensures.count c.relations.ensures.rows
