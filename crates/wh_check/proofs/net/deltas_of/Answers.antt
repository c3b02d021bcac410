use Rattle.std.proofs.Common.{◌≡◌, ◌<◌, ◌++◌, ◌∷◌, [], map, length, sym, ap, ◌∙◌, arith, zero-add}
use Rattle.std.proofs.lemmas.List.FromFn.{map-range_with_len_more}
use Rattle.wh_base.specs.RowSet.{has}
use Rattle.wh_fit.specs.Fit.{as_line}
use Rattle.wh_schema.specs.Warehouse.{numbers}
use Rattle.wh_check.proofs.NetLemmas.{delta_at}
use Rattle.wh_check.proofs.net.deltas_of.Goals as goal

pub loop-relation-init : goal.loop-relation-init
loop-relation-init c = λ s long same. c.new-deltas.ensures

pub loop-relation-preserved : goal.loop-relation-preserved
loop-relation-preserved c = λ s long same.
    let n = c.loop-relation.relation in
    let below : n < length c.args.held.now = omega (arith, c.len-relation-end.ensures) in
    c.in_ok-push.ensures.ok
    ∙ (λ j. c.loop-relation.invariant s long same j ++ c.in_ok-delta_of.ensures s (omega (arith, below, long)) (λ q. ap (λ rows. has rows q) c.rows_at.ensures ∙ same n below q) j ∷ [])
    ∙ sym (map-range_with_len_more (delta_at s (map as_line c.args.lines.now)) 0 n n (zero-add n))

pub returns : goal.returns
returns c = λ s long same.
    let all : c.loop-relation.relation ≡ length s = omega (arith, c.loop-relation.auto.relation-end, c.loop-relation-test.false, c.len-relation-end.ensures, long) in
    c.loop-relation.invariant s long same ∙ ap (λ n. map (delta_at s (map as_line c.args.lines.now)) (numbers n)) all
