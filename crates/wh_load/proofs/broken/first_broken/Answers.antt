use Rattle.std.proofs.Common.{◌≡◌, ◌+◌, ◌∙◌, sym, ap, arith, map, length}
use Rattle.std.proofs.lemmas.List.FromFn.{length-map-range_with_len}
use Rattle.std.proofs.lemmas.Result.{IfOk-weaker}
use Rattle.wh_schema.specs.Constraints.{repeated_keys, missing_values, first_break}
use Rattle.wh_schema.specs.Warehouse.{numbers}
use Rattle.wh_load.proofs.BreakLemmas.{first_of_both, second_of_both}
use Rattle.wh_load.proofs.broken.first_broken.Goals as goal

pub returns-in-Some : goal.returns-in-Some
returns-in-Some c =
    let spec = c.args.spec.now in
    let keys = map (repeated_keys spec c.args.s.now) (numbers (length spec.relations)) in
    let inclusions = map (missing_values spec c.args.s.now) spec.inclusions in
    sym (first_of_both 1 keys inclusions c.in-Some.key (sym c.in_ok-key.ensures ∙ c.in-Some.is))

pub returns-in-None : goal.returns-in-None
returns-in-None c =
    let spec = c.args.spec.now in
    let keys = map (repeated_keys spec c.args.s.now) (numbers (length spec.relations)) in
    let inclusions = map (missing_values spec c.args.s.now) spec.inclusions in
    let counted : length spec.relations + 1 ≡ length keys + 1 = omega (arith, length-map-range_with_len (repeated_keys spec c.args.s.now) 0 (length spec.relations)) in
    IfOk-weaker c.broken_inclusion.result _ _
    (λ first h. h ∙ ap (λ n. first_break n inclusions) counted ∙ sym (second_of_both 1 keys inclusions (sym c.in_ok-key.ensures ∙ c.in-None.is)))
    c.broken_inclusion.ensures
