use Rattle.std.proofs.Common.{◌≡◌, ◌∙◌, ◌≤◌, ◌+◌, arith, ap, sym, subst, length, vec_len, vec_capacity}
use Rattle.wh_table.specs.Slots.{column_sets, rows_of, AreIndexesOf, AreKept}
use Rattle.wh_table.proofs.Indexes.{written_back, as_many, all_roomy}
use Rattle.wh_table.proofs.Kept.{kept-roomier}
use Rattle.wh_table.proofs.slots.Slots.reserve.Goals as goal

pub invariant_of-self-in_err-reserve_all : goal.invariant_of-self-in_err-reserve_all
invariant_of-self-in_err-reserve_all c =
    let in_old = c.self-2.inside in
    let same : length c.reserve_all.new.indexes ≡ length in_old.indexes.items = as_many _ _ (c.reserve_all.ensures.sets ∙ ap column_sets c.as_mut_slice.ensures.value) in
    let back = written_back in_old.indexes.items c.reserve_all.new.indexes in_old.indexes.len in_old.indexes.ok.0 same in
    let kept : AreKept c.reserve.new.self.items in_old.live in_old.spare in_old.whole in_old.indexes.items = subst (λ ss. AreKept ss in_old.live in_old.spare in_old.whole in_old.indexes.items) (sym c.reserve.ensures.items) c.self-2.invariant.0 in
    let all : AreIndexesOf (rows_of c.reserve.new.self.items) in_old.spare c.reserve_all.new.indexes = c.reserve_all.ensures.kept _ _ (subst (AreIndexesOf (rows_of c.reserve.new.self.items) in_old.spare) (sym c.as_mut_slice.ensures.value) kept.indexed) in
    let room = kept.whole_room in
    let fits : vec_len c.reserve.new.self + in_old.spare ≤ vec_capacity c.reserve.new.self = omega (arith, c.reserve.ensures.len, c.reserve.ensures.capacity, c.self-2.invariant.1) in (
      kept-roomier c.reserve.new.self.items in_old.live in_old.spare in_old.spare in_old.whole c.reserve-2.new.self in_old.indexes.items _ kept c.reserve-2.ensures.keys (omega (arith, room, c.reserve-2.ensures.spare))
          (subst (AreIndexesOf (rows_of c.reserve.new.self.items) in_old.spare) (sym back) all),
      fits,
    )

pub invariant_of-self-2 : goal.invariant_of-self-2
invariant_of-self-2 c =
    let in_old = c.self-2.inside in
    let same : length c.reserve_all.new.indexes ≡ length in_old.indexes.items = as_many _ _ (c.reserve_all.ensures.sets ∙ ap column_sets c.as_mut_slice.ensures.value) in
    let back = written_back in_old.indexes.items c.reserve_all.new.indexes in_old.indexes.len in_old.indexes.ok.0 same in
    let kept : AreKept c.reserve.new.self.items in_old.live in_old.spare in_old.whole in_old.indexes.items = subst (λ ss. AreKept ss in_old.live in_old.spare in_old.whole in_old.indexes.items) (sym c.reserve.ensures.items) c.self-2.invariant.0 in
    let all : AreIndexesOf (rows_of c.reserve.new.self.items) in_old.spare c.reserve_all.new.indexes = c.reserve_all.ensures.kept _ _ (subst (AreIndexesOf (rows_of c.reserve.new.self.items) in_old.spare) (sym c.as_mut_slice.ensures.value) kept.indexed) in
    let roomy : AreIndexesOf (rows_of c.reserve.new.self.items) c.max-spare.result c.reserve_all.new.indexes = all_roomy _ _ c.max-spare.result c.reserve_all.new.indexes c.in_ok-reserve_all.ensures.room all in (
      kept-roomier c.reserve.new.self.items in_old.live in_old.spare c.max-spare.result in_old.whole c.reserve-2.new.self in_old.indexes.items _ kept c.reserve-2.ensures.keys c.in_ok-reserve-2.ensures.room
          (subst (AreIndexesOf (rows_of c.reserve.new.self.items) c.max-spare.result) (sym back) roomy),
      c.in_ok-reserve.ensures.ok,
    )
