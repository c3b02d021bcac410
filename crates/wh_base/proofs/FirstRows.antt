-- The rows that are seen first are the rows, each once.
use Rattle.std.proofs.Common.{◌≡◌, Bool, true, false, not, ◌&&◌, ◌||◌, cond, List, [], ◌∷◌, filter, refl, sym, ap, ◌∙◌}
use Rattle.std.specs.List.{AllByRecursion, IsDistinct}
use Rattle.std.proofs.lemmas.Map.Keys.{IsDistinct-cons}
use Rattle.wh_base.specs.declared.value.Value.{Value}
use Rattle.wh_base.specs.RowSet.{has, AreDistinct, SameRows, IsSetOf, first_seen}
use Rattle.wh_base.specs.Value.{row_eq}
use Rattle.wh_base.specs.ValueLaws.{row_eq_equiv}
use Rattle.wh_base.proofs.RowSets.{has-filter, IsDistinct-filter}

others_differ : (x : List Value) (rows : List (List Value)) → AllByRecursion (λ y. row_eq x y ≡ false) (filter (λ y. not (row_eq x y)) rows)
others_differ x [] = tt
others_differ x (row ∷ rows) = by (row_eq x row) refl (others_differ x rows)
  where
    by : (b : Bool) → row_eq x row ≡ b → AllByRecursion (λ y. row_eq x y ≡ false) (filter (λ y. not (row_eq x y)) rows)
        → AllByRecursion (λ y. row_eq x y ≡ false) (cond (not b) (row ∷ filter (λ y. not (row_eq x y)) rows) (filter (λ y. not (row_eq x y)) rows))
    by true e k = k
    by false e k = (e, k)

distinct_rows : (rows : List (List Value)) → AreDistinct (first_seen rows)
unfolding IsDistinct
distinct_rows [] = tt
distinct_rows (row ∷ rows) = IsDistinct-cons row_eq row _ (others_differ row (first_seen rows)) (IsDistinct-filter (λ y. not (row_eq row y)) (first_seen rows) (distinct_rows rows))

and_true : (b : Bool) → (b && true) ≡ b
and_true true = refl
and_true false = refl

same_rows : (rows : List (List Value)) → SameRows (first_seen rows) rows
same_rows [] r = refl
same_rows (x ∷ rows) r = ap (λ b. row_eq r x || b) (has-filter (λ y. not (row_eq x y)) (first_seen rows) r) ∙ by (row_eq r x) refl (same_rows rows r)
  where
    by : (b : Bool) → row_eq r x ≡ b → has (first_seen rows) r ≡ has rows r → (row_eq r x || (has (first_seen rows) r && not (row_eq x r))) ≡ (row_eq r x || has rows r)
    by true e same = ap (λ b. b || (has (first_seen rows) r && not (row_eq x r))) e ∙ sym (ap (λ b. b || has rows r) e)
    by false e same =
        let other : row_eq x r ≡ false = row_eq_equiv.symm x r ∙ e in
        ap (λ b. row_eq r x || b) (ap (λ b. has (first_seen rows) r && not b) other ∙ and_true (has (first_seen rows) r) ∙ same)

-- the rows that are seen first are the rows as a set
pub IsSetOf-first_seen : (rows : List (List Value)) → IsSetOf (first_seen rows) rows
IsSetOf-first_seen rows = record { distinct = distinct_rows rows; same = same_rows rows }
