use Rattle.std.proofs.Common.{◌∙◌, ◌<◌, ◌≤◌, refl, arith, ap, sym, subst, length}
use Rattle.wh_table.proofs.Indexes.{same_sets, all_grown, roomy_more}
use Rattle.wh_table.proofs.index.reserve_all.Goals as goal

pub returns-in_err-reserve-clause-sets : goal.returns-in_err-reserve-clause-sets
returns-in_err-reserve-clause-sets c =
    let lt : c.loop-index.index-index < length c.loop-index.indexes = omega (arith, c.loop-index.auto.indexes, c.loop-index-test.true) in
    same_sets c.loop-index.indexes c.loop-index.index-index c.index-item.result _ lt refl ∙ c.loop-index.invariant.sets

pub returns-in_err-reserve-clause-kept : goal.returns-in_err-reserve-clause-kept
returns-in_err-reserve-clause-kept c =
    λ rows spare all.
    let x = c.index-item.result in
    let same = sym c.index-item.is in
    let lt : c.loop-index.index-index < length c.loop-index.indexes = omega (arith, c.loop-index.auto.indexes, c.loop-index-test.true) in
    all_grown rows spare c.loop-index.indexes c.loop-index.index-index x _ lt c.index-item.is (ap (λ z. z.places) same) (c.reserve.ensures.keys ∙ ap (λ z. z.chains.keys) same)
    (subst (λ z. z.chains.spare ≤ c.reserve.new.self.spare) same c.reserve.ensures.spare) (c.loop-index.invariant.kept rows spare all)

pub loop-index-preserved : goal.loop-index-preserved
loop-index-preserved c =
    let x = c.index-item.result in
    let same = sym c.index-item.is in
    let lt : c.loop-index.index-index < length c.loop-index.indexes = omega (arith, c.loop-index.auto.indexes, c.loop-index-test.true) in
    record {
      sets = same_sets c.loop-index.indexes c.loop-index.index-index x _ lt refl ∙ c.loop-index.invariant.sets;
      kept = λ rows spare all.
          all_grown rows spare c.loop-index.indexes c.loop-index.index-index x _ lt c.index-item.is (ap (λ z. z.places) same) (c.reserve.ensures.keys ∙ ap (λ z. z.chains.keys) same)
          (subst (λ z. z.chains.spare ≤ c.reserve.new.self.spare) same c.reserve.ensures.spare) (c.loop-index.invariant.kept rows spare all);
      room = roomy_more c.args.additional c.loop-index.indexes c.loop-index.index-index _ lt c.in_ok-reserve.ensures.room c.loop-index.invariant.room;
    }
