-- Lists of distinct rows.
use Rattle.std.proofs.Common.{◌≡◌, zero, suc, Bool, true, false, not, cond, List, [], ◌∷◌, ◌++◌, filter, refl}
use Rattle.std.specs.List.{AllByRecursion, IsDistinct}
use Rattle.std.proofs.lemmas.Map.Keys.{IsDistinct-cons}
use Rattle.wh_base.specs.declared.value.Value.{Value}
use Rattle.wh_base.specs.RowSet.{AreDistinct, first_seen}
use Rattle.wh_base.specs.Value.{row_eq}
use Rattle.wh_base.proofs.RowSets.{IsDistinct-filter}
use Rattle.wh_load.specs.Load.{HasDistinctRows}

none : AreDistinct []
unfolding IsDistinct
none = tt

unlike : (x : List Value) (ys : List (List Value)) → AllByRecursion (λ y. row_eq x y ≡ false) (filter (λ y. not (row_eq x y)) ys)
unlike x [] = tt
unlike x (y ∷ ys) = by (row_eq x y) refl (unlike x ys)
  where
    by : (b : Bool) → row_eq x y ≡ b → AllByRecursion (λ z. row_eq x z ≡ false) (filter (λ z. not (row_eq x z)) ys)
        → AllByRecursion (λ z. row_eq x z ≡ false) (cond (not b) (y ∷ filter (λ z. not (row_eq x z)) ys) (filter (λ z. not (row_eq x z)) ys))
    by true e more = more
    by false e more = (e, more)

-- rows that are kept where they stand first are distinct
pub AreDistinct-first_seen : (rows : List (List Value)) → AreDistinct (first_seen rows)
AreDistinct-first_seen [] = none
AreDistinct-first_seen (x ∷ xs) =
    IsDistinct-cons row_eq x (filter (λ y. not (row_eq x y)) (first_seen xs)) (unlike x (first_seen xs))
    (IsDistinct-filter (λ y. not (row_eq x y)) (first_seen xs) (AreDistinct-first_seen xs))

-- a state that is built relation by relation
pub HasDistinctRows-nil : HasDistinctRows []
HasDistinctRows-nil n = none

pub HasDistinctRows-push : (s : List (List (List Value))) (rows : List (List Value)) → HasDistinctRows s → AreDistinct rows → HasDistinctRows (s ++ rows ∷ [])
HasDistinctRows-push [] rows h k zero = k
HasDistinctRows-push [] rows h k (suc n) = none
HasDistinctRows-push (x ∷ s) rows h k zero = h zero
HasDistinctRows-push (x ∷ s) rows h k (suc n) = HasDistinctRows-push s rows (λ m. h (suc m)) k n
