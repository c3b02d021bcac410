use Rattle.std.proofs.Common.{map, length, sym, ap, ◌∙◌}
use Rattle.std.proofs.lemmas.Result.{IfOk-weaker}
use Rattle.wh_fit.specs.Differences.{differences}
use Rattle.wh_fit.specs.Fit.{as_line}
use Rattle.wh_schema.specs.Changes.{apply}
use Rattle.wh_check.specs.Check.{held_sources}
use Rattle.wh_check.proofs.HeldLemmas.{image_of, is_image_of, relation_count}
use Rattle.wh_check.proofs.NetLemmas.{differences_length}
use Rattle.wh_check.proofs.net.effective.Goals as goal

pub returns-clause-count : goal.returns-clause-count
returns-clause-count g c =
    let w = c.args.w.now in
    let i = image_of w in
    let k = is_image_of w c.requires.form in
    IfOk-weaker c.deltas_of.result _ _
    (λ d h.
    ap length (h (held_sources i) (sym (relation_count w i k) ∙ sym c.in_ok-held.ensures.count) (c.in_ok-held.ensures.rows i k))
    ∙ differences_length (held_sources i) (apply (held_sources i) (map as_line c.as_slice.result.now)) ∙ sym (relation_count w i k))
    c.deltas_of.ensures

pub returns-clause-deltas : goal.returns-clause-deltas
returns-clause-deltas g c =
    let w = c.args.w.now in
    IfOk-weaker c.deltas_of.result _ _
    (λ d h i k.
    h (held_sources i) (sym (relation_count w i k) ∙ sym c.in_ok-held.ensures.count) (c.in_ok-held.ensures.rows i k)
    ∙ ap (λ lines. differences (held_sources i) (apply (held_sources i) (map as_line lines))) c.as_slice.ensures)
    c.deltas_of.ensures
