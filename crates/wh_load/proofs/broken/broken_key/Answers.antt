use Rattle.std.proofs.Common.{◌≡◌, ◌<◌, ◌+◌, ◌∙◌, sym, ap, arith, map, length, drop, get_or, [], zero-add}
use Rattle.std.proofs.Math.Seq.{drop-length}
use Rattle.std.proofs.lemmas.List.FromFn.{get_or-map-range_with_len, length-map-range_with_len}
use Rattle.wh_base.specs.RowSet.{has, SameRows}
use Rattle.wh_schema.specs.Constraints.{repeated_keys, first_break}
use Rattle.wh_schema.specs.Warehouse.{numbers}
use Rattle.wh_load.proofs.BreakLemmas.{ends_here, goes_on}
use Rattle.wh_load.proofs.broken.broken_key.Goals as goal

pub returns-then-is_some : goal.returns-then-is_some
returns-then-is_some c =
    let f = repeated_keys c.args.spec.now c.args.s.now in
    let n = length c.args.spec.now.relations in
    let i = c.loop-relation.relation in
    let below : i < n = omega (arith, c.len-relation-end.ensures) in
    let within : i < length (map f (numbers n)) = omega (arith, below, length-map-range_with_len f 0 n) in
    let same : SameRows c.in_ok-values.values (get_or (map f (numbers n)) i []) =
    λ q. c.in_ok-values.ensures q ∙ ap (λ values. has values q) (sym (get_or-map-range_with_len f 0 n i i [] below (zero-add i))) in
    ends_here (i + 1) i (map f (numbers n)) c.in_ok-values.values c.in_ok-least.least within same c.in_ok-least.ensures (sym c.is_some.ensures ∙ c.if-is_some.true)
    ∙ sym c.loop-relation.invariant

pub loop-relation-preserved : goal.loop-relation-preserved
loop-relation-preserved c =
    let f = repeated_keys c.args.spec.now c.args.s.now in
    let n = length c.args.spec.now.relations in
    let i = c.loop-relation.relation in
    let below : i < n = omega (arith, c.len-relation-end.ensures) in
    let within : i < length (map f (numbers n)) = omega (arith, below, length-map-range_with_len f 0 n) in
    let same : SameRows c.in_ok-values.values (get_or (map f (numbers n)) i []) =
    λ q. c.in_ok-values.ensures q ∙ ap (λ values. has values q) (sym (get_or-map-range_with_len f 0 n i i [] below (zero-add i))) in
    c.loop-relation.invariant
    ∙ goes_on (i + 1) i (map f (numbers n)) c.in_ok-values.values c.in_ok-least.least within same c.in_ok-least.ensures (sym c.is_some.ensures ∙ c.if-is_some.false)

pub returns : goal.returns
returns c =
    let f = repeated_keys c.args.spec.now c.args.s.now in
    let n = length c.args.spec.now.relations in
    let i = c.loop-relation.relation in
    let all : i ≡ length (map f (numbers n)) = omega (arith, c.len-relation-end.ensures, length-map-range_with_len f 0 n) in
    sym (c.loop-relation.invariant ∙ ap (λ k. first_break (i + 1) (drop k (map f (numbers n)))) all ∙ ap (first_break (i + 1)) (drop-length (map f (numbers n))))
