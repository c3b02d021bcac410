use Rattle.std.proofs.Common.{◌∙◌}
use Rattle.std.proofs.lemmas.Result.{IfOk-weaker}
use Rattle.wh_store.proofs.TextualLemmas.{textual_is_numbered}
use Rattle.wh_check.proofs.HeldLemmas.{broken_is, delta_count}
use Rattle.wh_check.proofs.broken.first_broken.Goals as goal

pub changed_sources-requires-clause-count : goal.changed_sources-requires-clause-count
changed_sources-requires-clause-count g c = delta_count c.args.w.now c.requires.form c.args.d.now c.requires.deltas

pub first_broken-requires-clause-numbered : goal.first_broken-requires-clause-numbered
first_broken-requires-clause-numbered g c = textual_is_numbered c.args.w.now.plan.spec c.requires.form.textual

pub returns-clause-first : goal.returns-clause-first
returns-clause-first g c =
    IfOk-weaker c.first_broken.result _ _
    (λ found is i k. is ∙ broken_is c.args.w.now i c.args.d.now c.in_ok-changed.changed k (c.in_ok-changed.ensures.rows i k))
    c.first_broken.ensures
