-- Tables of two columns, and changes of one row.
use Rattle.std.proofs.Common.{◌≡◌, ◌<◌, ℕ, true, false, eqb, Bool, ◌||◌, ◌&&◌, List, [], ◌∷◌, All, IsPermutation, refl, sym, ap, subst, ◌∙◌, arith}
use Rattle.std.specs.List.{IsDistinct, list_all, list_any}
use Rattle.std.proofs.lemmas.List.Elements.{All-from_recursion}
use Rattle.wh_base.specs.declared.value.Delta.{Delta}
use Rattle.wh_base.specs.declared.value.Value.{Value}
use Rattle.wh_base.specs.RowSet.{has, AreDistinct}
use Rattle.wh_base.specs.Value.{row_eq}
use Rattle.wh_table.specs.Table.{CanApply, IsColumnSet}

one_alone : (i : ℕ) → IsDistinct eqb (i ∷ [])
unfolding IsDistinct
one_alone i = (tt, tt)

both_differ : IsDistinct eqb (0 ∷ 1 ∷ [])
unfolding IsDistinct
both_differ = ((refl, tt), (tt, tt))

single_set : (i : ℕ) → i < 2 → IsColumnSet 2 (i ∷ [])
single_set i below = record {
  nonempty = omega arith;
  distinct = one_alone i;
  below = All-from_recursion (λ place. place < 2) (i ∷ []) (below, tt);
}

both_set : IsColumnSet 2 (0 ∷ 1 ∷ [])
both_set = record {
  nonempty = omega arith;
  distinct = both_differ;
  below = All-from_recursion (λ place. place < 2) (0 ∷ 1 ∷ []) (omega arith, (omega arith, tt));
}

pub sets_fit : (sets : List (List ℕ)) → sets ≡ (0 ∷ []) ∷ (1 ∷ []) ∷ (0 ∷ 1 ∷ []) ∷ [] → All (IsColumnSet 2) sets
sets_fit sets is =
    subst (All (IsColumnSet 2)) (sym is)
    (All-from_recursion (IsColumnSet 2) ((0 ∷ []) ∷ (1 ∷ []) ∷ (0 ∷ 1 ∷ []) ∷ []) (single_set 0 (omega arith), (single_set 1 (omega arith), (both_set, tt))))

pub both_turned : IsPermutation {X = ℕ} (0 ∷ 1 ∷ []) (1 ∷ 0 ∷ [])
both_turned = record { moves = (0, 1) ∷ []; below = (omega arith, omega arith, tt); is = refl }

none_distinct : AreDistinct []
unfolding IsDistinct
none_distinct = tt

one_distinct : (row : List Value) → AreDistinct (row ∷ [])
unfolding IsDistinct
one_distinct row = (tt, tt)

-- a change that adds one row, and one that takes one
pub one_comes : (rows : List (List Value)) (row : List Value) (delta : Delta) → has rows row ≡ false → delta.deleted ≡ [] → delta.inserted ≡ row ∷ [] → CanApply rows delta
one_comes rows row delta missing gone come = record {
  present = ap (λ (l : List (List Value)). list_all (has rows) l) gone;
  absent = ap (λ (l : List (List Value)). list_any (has rows) l) come ∙ ap (λ b. b || false) missing;
  deleted_once = subst AreDistinct (sym gone) none_distinct;
  inserted_once = subst AreDistinct (sym come) (one_distinct row);
}

pub one_goes : (rows : List (List Value)) (row : List Value) (delta : Delta) → has rows row ≡ true → delta.deleted ≡ row ∷ [] → delta.inserted ≡ [] → CanApply rows delta
one_goes rows row delta there gone come = record {
  present = ap (λ (l : List (List Value)). list_all (has rows) l) gone ∙ ap (λ b. b && true) there;
  absent = ap (λ (l : List (List Value)). list_any (has rows) l) come;
  deleted_once = subst AreDistinct (sym gone) (one_distinct row);
  inserted_once = subst AreDistinct (sym come) none_distinct;
}
