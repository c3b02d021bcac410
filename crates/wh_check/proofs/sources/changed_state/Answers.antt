use Rattle.std.proofs.Common.{◌≡◌, ◌++◌, ◌∷◌, [], map, length, sym, ap, ◌∙◌, arith, zero-add}
use Rattle.std.proofs.lemmas.List.FromFn.{map-range_with_len_more}
use Rattle.wh_base.specs.RowSet.{first_seen}
use Rattle.wh_base.specs.Tables.{without}
use Rattle.wh_schema.specs.Warehouse.{numbers}
use Rattle.wh_check.proofs.HeldLemmas.{changed_at}
use Rattle.wh_check.proofs.sources.changed_state.Goals as goal

pub loop-relation-preserved : goal.loop-relation-preserved
loop-relation-preserved c =
    let n = c.loop-relation.relation in
    c.in_ok-push.ensures.ok
    ∙ (λ j. c.loop-relation.invariant j ++ c.in_ok-rows.ensures j ∷ [])
    ∙ (λ j. map (changed_at c.args.held.now c.args.d.now) (numbers n) ++ first_seen (without (c.rows_at.ensures j) (c.delta_at.ensures j).deleted ++ (c.delta_at.ensures j).inserted) ∷ [])
    ∙ sym (map-range_with_len_more (changed_at c.args.held.now c.args.d.now) 0 n n (zero-add n))

pub returns : goal.returns
returns c =
    let all : c.loop-relation.relation ≡ length c.args.held.now = omega (arith, c.loop-relation.auto.relation-end, c.loop-relation-test.false, c.len-relation-end.ensures) in
    c.loop-relation.invariant ∙ ap (λ n. map (changed_at c.args.held.now c.args.d.now) (numbers n)) all
