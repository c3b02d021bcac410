-- What `in_order` makes of a list of rows.
use Rattle.std.proofs.Common.{◌∙◌, sym, ◌≡◌, true, inl, inr, List, [], ◌∷◌, Contains, subst}
use Rattle.std.specs.BTreeSet.{insert_key}
use Rattle.indexmap.proofs.CallerLemmas.{Contains-list_any}
use Rattle.std.proofs.lemmas.List.Folds.{list_any-from_Any}
use Rattle.std.specs.Prelude.{◌↔◌}
use Rattle.std.specs.Cmp.{both_ways}
use Rattle.std.specs.List.{dedup, list_any}
use Rattle.std.specs.List.Sorted.{IsPermutation, IsSorted, IsStrictlySortedBy}
use Rattle.std.proofs.lemmas.List.Kept.{Contains-dedup, Contains-from_dedup, IsStrictlySortedBy-dedup}
use Rattle.std.proofs.lemmas.List.Sorted.{Contains-permutation, IsPermutation-sym}
use Rattle.wh_base.specs.declared.value.Value.{Value}
use Rattle.wh_base.specs.RowSet.{IsAscending, SameRows, has, in_order}
use Rattle.wh_base.specs.Value.{row_cmp, row_eq}
use Rattle.wh_base.specs.ValueLaws.{row_cmp_total, row_cmp_exact, row_eq_equiv, row_eq_exact, row_ties}
use Rattle.wh_base.proofs.OrderedLists.{Contains-there, Contains-here, Contains-cons_cases, Contains-from_insert_key, Contains-insert_key_old, Contains-insert_key_new, insert_key-sorted, sorted_unique}

nil_ascending : IsAscending []
unfolding IsStrictlySortedBy
nil_ascending = tt

pub IsAscending-in_order : (rows : List (List Value)) → IsAscending (in_order rows)
IsAscending-in_order [] = nil_ascending
IsAscending-in_order (row ∷ rows) = insert_key-sorted row_cmp_total (in_order rows) row (IsAscending-in_order rows)

pub Contains-in_order : (rows : List (List Value)) (q : List Value) → Contains rows q → Contains (in_order rows) q
Contains-in_order [] q h = h
Contains-in_order (row ∷ rows) q h = elim (Contains-cons_cases row rows q h) [
  | inl e ↦ subst (Contains (insert_key row_cmp (in_order rows) row)) e (Contains-insert_key_new row_cmp_total row_cmp_exact (in_order rows) row)
  | inr t ↦ Contains-insert_key_old row_cmp_total (in_order rows) row q (Contains-in_order rows q t)
]

pub Contains-from_in_order : (rows : List (List Value)) (q : List Value) → Contains (in_order rows) q → Contains rows q
Contains-from_in_order [] q h = h
Contains-from_in_order (row ∷ rows) q h = elim (Contains-from_insert_key row_cmp_total (in_order rows) row q h) [
  | inl e ↦ subst (Contains (row ∷ rows)) e (Contains-here row rows)
  | inr t ↦ Contains-there row rows q (Contains-from_in_order rows q t)
]

-- the same rows, by membership
abbrev pub SameMembers : List (List Value) → List (List Value) → Type 0
SameMembers xs ys = (row : List Value) → Contains xs row ↔ Contains ys row

-- an ascending list with the same rows is the canonical form
pub in_order-unique : (rows sorted : List (List Value)) → IsAscending sorted → SameMembers rows sorted → sorted ≡ in_order rows
in_order-unique rows sorted s same = sorted_unique row_cmp_total sorted (in_order rows) s (IsAscending-in_order rows)
    (λ q h. Contains-in_order rows q ((same q).1 h)) (λ q h. (same q).0 (Contains-from_in_order rows q h))

pub in_order-members : (xs ys : List (List Value)) → SameMembers xs ys → in_order xs ≡ in_order ys
in_order-members xs ys same = in_order-unique ys (in_order xs) (IsAscending-in_order xs)
    (λ q. (λ h. Contains-in_order xs q ((same q).1 h), λ h. (same q).0 (Contains-from_in_order xs q h)))

-- a sort and then a removal of neighbours that are equal give the canonical form
pub dedup-in_order : (rows moved : List (List Value)) → IsPermutation rows moved → IsSorted row_cmp moved → dedup row_eq moved ≡ in_order rows
dedup-in_order rows moved p s = in_order-unique rows (dedup row_eq moved) (IsStrictlySortedBy-dedup row_cmp_total row_ties moved s)
    (λ q. (
      λ h. Contains-dedup row_eq_equiv row_eq_exact moved q (Contains-permutation rows moved q p h),
      λ h. Contains-permutation moved rows q (IsPermutation-sym rows moved p) (Contains-from_dedup row_eq moved q h),
    ))

-- a search by `==` finds the rows that are in the list
pub any-Contains : (rows : List (List Value)) (q : List Value) → (list_any (row_eq q) rows ≡ true) ↔ Contains rows q
any-Contains rows q = (to rows, from rows)
  where
    to : (xs : List (List Value)) → list_any (row_eq q) xs ≡ true → Contains xs q
    to xs h = Contains-list_any row_eq row_eq_exact xs q h

    from : (xs : List (List Value)) → Contains xs q → list_any (row_eq q) xs ≡ true
    from xs h = list_any-from_Any (row_eq q) xs (h.0, q, h.1, h.2, row_eq_equiv.refl q)

-- the two ways to say that lists have the same rows
pub SameMembers-from : (xs ys : List (List Value)) → SameRows xs ys → SameMembers xs ys
SameMembers-from xs ys same q = (
  λ h. (any-Contains ys q).0 (sym (same q) ∙ (any-Contains xs q).1 h),
  λ h. (any-Contains xs q).0 (same q ∙ (any-Contains ys q).1 h),
)

pub SameRows-from : (xs ys : List (List Value)) → SameMembers xs ys → SameRows xs ys
SameRows-from xs ys same q = both_ways (has xs q) (has ys q)
    (λ h. (any-Contains ys q).1 ((same q).0 ((any-Contains xs q).0 h)))
    (λ h. (any-Contains xs q).1 ((same q).1 ((any-Contains ys q).0 h)))

-- two lists with the same rows have one canonical form
pub in_order-same : (xs ys : List (List Value)) → SameRows xs ys → in_order xs ≡ in_order ys
in_order-same xs ys same = in_order-members xs ys (SameMembers-from xs ys same)

pub SameRows-in_order : (rows : List (List Value)) → SameRows (in_order rows) rows
SameRows-in_order rows = SameRows-from (in_order rows) rows (λ q. (Contains-from_in_order rows q, Contains-in_order rows q))
