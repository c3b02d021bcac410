-- The search for the first constraint that is broken.
use Rattle.std.proofs.Common.{◌≡◌, ℕ, suc, ◌+◌, ◌<◌, true, false, List, [], ◌∷◌, ◌++◌, length, get_or, drop, refl, sym, ap, ◌∙◌, arith, add-one, zero-add, Some, true≢false}
use Rattle.std.specs.Prelude.{Option, None, is_some}
use Rattle.std.proofs.Math.Seq.{drop-cons}
use Rattle.wh_base.specs.declared.value.Value.{Value}
use Rattle.wh_base.specs.RowSet.{in_order, SameRows}
use Rattle.wh_base.proofs.InOrder.{in_order-same}
use Rattle.wh_schema.specs.declared.broken.Broken.{Broken}
use Rattle.wh_schema.specs.Constraints.{least_or, first_break}

-- the first list of those from the i-th on
at_list : (n i : ℕ) (lists : List (List (List Value))) → i < length lists → first_break n (drop i lists) ≡ least_or n (in_order (get_or lists i [])) (first_break (n + 1) (drop (i + 1) lists))
at_list n i lists h = ap (first_break n) (drop-cons lists i [] h) ∙ ap (λ k. least_or n (in_order (get_or lists i [])) (first_break (n + 1) (drop k lists))) (sym (add-one i))

found : (n : ℕ) (rows : List (List Value)) (later : Option Broken) → is_some (least_or n rows None) ≡ true → least_or n rows None ≡ least_or n rows later
found n [] later h = absurd (true≢false (sym h))
found n (row ∷ rows) later h = refl

not_found : (n : ℕ) (rows : List (List Value)) (later : Option Broken) → is_some (least_or n rows None) ≡ false → least_or n rows later ≡ later
not_found n [] later h = refl
not_found n (row ∷ rows) later h = absurd (true≢false h)

module _ (n i : ℕ) (lists : List (List (List Value))) (values : List (List Value)) (least : Option Broken) (within : i < length lists) (same : SameRows values (get_or lists i [])) (is : least ≡ least_or n (in_order values) None) where
  same_order : in_order values ≡ in_order (get_or lists i [])
  same_order = in_order-same values (get_or lists i []) same

  pub ends_here : is_some least ≡ true → least ≡ first_break n (drop i lists)
  ends_here h =
      is ∙ found n (in_order values) (first_break (n + 1) (drop (i + 1) lists)) (ap is_some (sym is) ∙ h)
      ∙ ap (λ rows. least_or n rows (first_break (n + 1) (drop (i + 1) lists))) same_order
      ∙ sym (at_list n i lists within)

  pub goes_on : is_some least ≡ false → first_break n (drop i lists) ≡ first_break (n + 1) (drop (i + 1) lists)
  goes_on h =
      at_list n i lists within
      ∙ ap (λ rows. least_or n rows (first_break (n + 1) (drop (i + 1) lists))) (sym same_order)
      ∙ not_found n (in_order values) (first_break (n + 1) (drop (i + 1) lists)) (ap is_some (sym is) ∙ h)

-- ---- the lists of two kinds of constraint

same_later : (n : ℕ) (rows : List (List Value)) (l m : Option Broken) (b : Broken) → (l ≡ Some b → m ≡ Some b) → least_or n rows l ≡ Some b → least_or n rows m ≡ Some b
same_later n [] l m b f h = f h
same_later n (row ∷ rows) l m b f h = h

none_later : (n : ℕ) (rows : List (List Value)) (l : Option Broken) → least_or n rows l ≡ None → l ≡ None
none_later n [] l h = h
none_later n (row ∷ rows) l h = cc

none_here : (n : ℕ) (rows : List (List Value)) (l m : Option Broken) → least_or n rows l ≡ None → least_or n rows m ≡ m
none_here n [] l m h = refl
none_here n (row ∷ rows) l m h = cc

pub first_of_both : (n : ℕ) (xs ys : List (List (List Value))) (b : Broken) → first_break n xs ≡ Some b → first_break n (xs ++ ys) ≡ Some b
first_of_both n [] ys b h = cc
first_of_both n (x ∷ xs) ys b h = same_later n (in_order x) (first_break (n + 1) xs) (first_break (n + 1) (xs ++ ys)) b (first_of_both (n + 1) xs ys b) h

pub second_of_both : (n : ℕ) (xs ys : List (List (List Value))) → first_break n xs ≡ None → first_break n (xs ++ ys) ≡ first_break (length xs + n) ys
second_of_both n [] ys h = ap (λ k. first_break k ys) (sym (zero-add n))
second_of_both n (x ∷ xs) ys h =
    let counted : length xs + (n + 1) ≡ suc (length xs) + n = omega arith in
    none_here n (in_order x) (first_break (n + 1) xs) (first_break (n + 1) (xs ++ ys)) h
    ∙ second_of_both (n + 1) xs ys (none_later n (in_order x) (first_break (n + 1) xs) h)
    ∙ ap (λ k. first_break k ys) counted
