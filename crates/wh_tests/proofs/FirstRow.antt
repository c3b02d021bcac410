-- One row for an empty table.
use Rattle.std.proofs.Common.{◌≡◌, ℕ, ◌<◌, ◌^◌, FitsSigned, pos, List, [], ◌∷◌, length, get_or, refl, sym, subst, lit<, arith}
use Rattle.std.specs.Int.{w64}
use Rattle.std.specs.List.{AllByRecursion, IsDistinct}
use Rattle.std.specs.List.Sorted.{IsStrictlySortedBy}
use Rattle.wh_base.specs.declared.value.Delta.{Delta}
use Rattle.wh_base.specs.declared.value.Value.{Value}
use Rattle.wh_base.specs.declared.value.Value.TheVariants.{Int}
use Rattle.wh_base.specs.RowSet.{AreDistinct, IsAscending}
use Rattle.wh_codec.specs.Body.{IsSpelledDelta, IsSpelledTable}
use Rattle.wh_table.specs.Table.{CanApply, IndexedRows}
use Rattle.wh_store.specs.Commit.{CanApplyAll}
use Rattle.wh_store.specs.Image.{no_delta}
use Rattle.wh_store.specs.Warehouse.{table_at}

none_distinct : AreDistinct []
unfolding IsDistinct
none_distinct = tt

one_distinct : (row : List Value) → AreDistinct (row ∷ [])
unfolding IsDistinct
one_distinct row = (tt, tt)

none_ascend : IsAscending []
unfolding IsStrictlySortedBy
none_ascend = tt

one_ascends : (row : List Value) → IsAscending (row ∷ [])
unfolding IsStrictlySortedBy
one_ascends row = (tt, tt)

none_spelled : IsSpelledTable []
none_spelled = record { count = lit< tt; rows = tt; alike = tt; ascending = none_ascend }

five_spelled : IsSpelledTable ((Int (pos 5) ∷ []) ∷ [])
five_spelled = record { count = lit< tt; rows = (record { width = lit< tt; values = (omega arith, tt) }, tt); alike = tt; ascending = one_ascends (Int (pos 5) ∷ []) }

pub can_apply_five : (tables : List IndexedRows) (deltas : List Delta) → tables ≡ record { rows = []; width = 1; indexes = []; spare = 0 } ∷ [] → deltas ≡ record { deleted = []; inserted = (Int (pos 5) ∷ []) ∷ [] } ∷ [] → CanApplyAll tables deltas
can_apply_five tables deltas one_table one_delta =
    subst (λ (ts : List IndexedRows). CanApplyAll ts deltas) (sym one_table)
    (subst (λ (ds : List Delta). CanApplyAll (record { rows = []; width = 1; indexes = []; spare = 0 } ∷ []) ds) (sym one_delta)
    (record { count = refl; each = λ k below. at k (omega arith) }))
  where
    at : (k : ℕ) → k ≡ 0 → CanApply (table_at (record { rows = []; width = 1; indexes = []; spare = 0 } ∷ []) k).rows (get_or (record { deleted = []; inserted = (Int (pos 5) ∷ []) ∷ [] } ∷ []) k no_delta)
    at k first = subst (λ (n : ℕ). CanApply (table_at (record { rows = []; width = 1; indexes = []; spare = 0 } ∷ []) n).rows (get_or (record { deleted = []; inserted = (Int (pos 5) ∷ []) ∷ [] } ∷ []) n no_delta)) (sym first)
        (record { present = refl; absent = refl; deleted_once = none_distinct; inserted_once = one_distinct (Int (pos 5) ∷ []) })

pub five_is_spelled : (deltas : List Delta) → deltas ≡ record { deleted = []; inserted = (Int (pos 5) ∷ []) ∷ [] } ∷ [] → AllByRecursion IsSpelledDelta deltas
five_is_spelled deltas one_delta = subst (AllByRecursion IsSpelledDelta) (sym one_delta) (record { deleted = none_spelled; inserted = five_spelled }, tt)
