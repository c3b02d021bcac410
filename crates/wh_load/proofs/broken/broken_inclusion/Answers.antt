use Rattle.std.proofs.Common.{◌≡◌, ◌<◌, ◌+◌, ◌∙◌, sym, ap, arith, map, length, drop, get_or, []}
use Rattle.std.proofs.lemmas.List.{length-map, get_or-map}
use Rattle.wh_base.specs.RowSet.{has, SameRows}
use Rattle.wh_schema.specs.Constraints.{missing_values, first_break}
use Rattle.wh_schema.specs.Warehouse.{no_inclusion}
use Rattle.wh_load.proofs.BreakLemmas.{ends_here, goes_on}
use Rattle.wh_load.proofs.broken.broken_inclusion.Goals as goal

pub returns-then-is_some : goal.returns-then-is_some
returns-then-is_some c =
    let f = missing_values c.args.spec.now c.args.s.now in
    let inclusions = c.args.spec.now.inclusions in
    let i = c.loop-number.number in
    let n = c.len-keys.result + i + 1 in
    let below : i < length inclusions = omega (arith, c.len-number-end.ensures) in
    let within : i < length (map f inclusions) = omega (arith, below, length-map inclusions f) in
    let same : SameRows c.in_ok-values.values (get_or (map f inclusions) i []) =
    λ q. ap (λ values. has values q) (c.in_ok-values.ensures ∙ ap f c.inclusion_at.ensures ∙ sym (get_or-map f inclusions i no_inclusion [] below)) in
    ends_here n i (map f inclusions) c.in_ok-values.values c.in_ok-least.least within same c.in_ok-least.ensures (sym c.is_some.ensures ∙ c.if-is_some.true)
    ∙ ap (λ k. first_break (k + i + 1) (drop i (map f inclusions))) c.len-keys.ensures
    ∙ sym c.loop-number.invariant

pub loop-number-preserved : goal.loop-number-preserved
loop-number-preserved c =
    let f = missing_values c.args.spec.now c.args.s.now in
    let inclusions = c.args.spec.now.inclusions in
    let i = c.loop-number.number in
    let n = c.len-keys.result + i + 1 in
    let below : i < length inclusions = omega (arith, c.len-number-end.ensures) in
    let within : i < length (map f inclusions) = omega (arith, below, length-map inclusions f) in
    let same : SameRows c.in_ok-values.values (get_or (map f inclusions) i []) =
    λ q. ap (λ values. has values q) (c.in_ok-values.ensures ∙ ap f c.inclusion_at.ensures ∙ sym (get_or-map f inclusions i no_inclusion [] below)) in
    let next : n + 1 ≡ length c.args.spec.now.relations + (i + 1) + 1 = omega (arith, c.len-keys.ensures) in
    c.loop-number.invariant
    ∙ ap (λ k. first_break (k + i + 1) (drop i (map f inclusions))) (sym c.len-keys.ensures)
    ∙ goes_on n i (map f inclusions) c.in_ok-values.values c.in_ok-least.least within same c.in_ok-least.ensures (sym c.is_some.ensures ∙ c.if-is_some.false)
    ∙ ap (λ k. first_break k (drop (i + 1) (map f inclusions))) next
