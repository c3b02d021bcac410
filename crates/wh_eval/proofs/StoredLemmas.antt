-- Tables that fit their heads, and the indexed sets among some columns.
use Rattle.std.proofs.Common.{◌≡◌, ℕ, suc, ◌+◌, ◌-◌, ◌<◌, Bool, true, false, ◌&&◌, ◌||◌, if◌then◌else◌, List, [], ◌∷◌, ◌++◌, get_or, length-append, map, length, take, Some, nat_eq, nat_le, nat_lt, refl, sym, ap, subst, ◌∙◌, true≢false, arith}
use Rattle.std.specs.Prelude.{IsPermutation, sum_by}
use Rattle.std.specs.Cmp.Lexicographic.{pointwise}
use Rattle.std.specs.List.{list_any, range_with_len}
use Rattle.std.proofs.lemmas.Bool.Decides.{Decides-eqb, nat_tests}
use Rattle.std.proofs.lemmas.List.{length-map, get_or_append_left}
use Rattle.std.proofs.lemmas.List.Elements.{Contains-append_left, Contains-get_or}
use Rattle.std.proofs.lemmas.List.Folds.{Any-from_list_any, list_any_at}
use Rattle.std.proofs.lemmas.List.FromFn.{length-range_with_len, get_or-range_with_len, length-map-range_with_len, get_or-map-range_with_len}
use Rattle.std.proofs.lemmas.List.Sorted.{IsPermutation-refl, Contains-permutation, length_permutation, sum_by-IsPermutation}
use Rattle.std.proofs.lemmas.List.Sums.{AllPass-from_list_all, list_all-from_AllPass}
use Rattle.std.proofs.lemmas.Slice.Eq.{slice_eq-Decides}
use Rattle.wh_base.specs.declared.head.Head.{Head}
use Rattle.wh_base.specs.declared.value.Attr.{Attr}
use Rattle.wh_base.specs.Columns.{name_eq, is_in, all_in, place_of}
use Rattle.wh_base.specs.Heads.{attrs_at, columns_at}
use Rattle.wh_eval.specs.Stored.{first_stored, is_stored, stored_table, has_single, has_singles, fits, FitHeads, IsFit}
use Rattle.wh_table.specs.Table.{IndexedRows, IsIndexed, HasSetWithin}

-- ---- one column as an indexed set

is_single : (set : List ℕ) (p : ℕ) → pointwise nat_eq set (p ∷ []) ≡ true → set ≡ p ∷ []
is_single set p h = (slice_eq-Decides Decides-eqb set (p ∷ []) _ refl).0 h

pub single_indexed : (indexes : List (List ℕ)) (p : ℕ) → has_single indexes p ≡ true → IsIndexed indexes (p ∷ [])
single_indexed indexes p h =
    let found = Any-from_list_any (λ (set : List ℕ). pointwise nat_eq set (p ∷ [])) indexes h in
    (found.0, found.1, found.2, found.3, subst (IsPermutation found.1) (is_single found.1 p found.4) (IsPermutation-refl found.1))

alone : (set : List ℕ) (p : ℕ) → IsPermutation set (p ∷ []) → pointwise nat_eq set (p ∷ []) ≡ true
alone [] p h = let long = length_permutation [] (p ∷ []) h in absurd (omega (arith, long))
alone (q ∷ []) p h =
    let total : sum_by (λ (x : ℕ). x) (p ∷ []) ≡ sum_by (λ (x : ℕ). x) (q ∷ []) = sum_by-IsPermutation (λ x. x) (q ∷ []) (p ∷ []) h in
    let same : q ≡ p = omega (arith, total) in
    (slice_eq-Decides Decides-eqb (q ∷ []) (p ∷ []) _ refl).1 (ap (λ x. x ∷ []) same)
alone (q ∷ r ∷ set) p h = let long = length_permutation (q ∷ r ∷ set) (p ∷ []) h in absurd (omega (arith, long))

pub indexed_single : (indexes : List (List ℕ)) (p : ℕ) → IsIndexed indexes (p ∷ []) → has_single indexes p ≡ true
indexed_single indexes p h =
    let test = λ (set : List ℕ). pointwise nat_eq set (p ∷ []) in
    list_any_at test indexes h.0 h.1 h.2 (ap test h.3 ∙ alone h.1 p h.4)

pub singles_at : (indexes : List (List ℕ)) (w i : ℕ) → has_singles indexes w ≡ true → i < w → has_single indexes i ≡ true
singles_at indexes w i h below =
    let within : i < length (range_with_len 0 w) = omega (arith, below, length-range_with_len 0 w) in
    let from_zero : 0 + i ≡ i = omega arith in
    sym (ap (has_single indexes) (get_or-range_with_len 0 w i i below ∙ from_zero)) ∙ AllPass-from_list_all (has_single indexes) (range_with_len 0 w) h i i within

pub singles_from : (indexes : List (List ℕ)) (w : ℕ) → ((i : ℕ) → i < w → has_single indexes i ≡ true) → has_singles indexes w ≡ true
singles_from indexes w h =
    list_all-from_AllPass (has_single indexes) (range_with_len 0 w) (λ k d l.
    let below : k < w = omega (arith, l, length-range_with_len 0 w) in
    let from_zero : 0 + k ≡ k = omega arith in
    ap (has_single indexes) (get_or-range_with_len 0 w k d below ∙ from_zero) ∙ h k below)

-- ---- tables that fit

left_and : (a b : Bool) → (a && b) ≡ true → a ≡ true
left_and true b h = refl
left_and false b h = h

right_and : (a b : Bool) → (a && b) ≡ true → b ≡ true
right_and true b h = h
right_and false b h = absurd (true≢false (sym h))

both : (a b : Bool) → a ≡ true → b ≡ true → (a && b) ≡ true
both true b h k = k
both false b h k = h

pub fits_from : (attrs : List Attr) (t : IndexedRows) → IsFit attrs t → fits attrs (Some t) ≡ true
fits_from attrs t h =
    both (nat_eq t.width (length attrs)) (has_singles t.indexes (length attrs)) ((Decides-eqb t.width (length attrs)).1 h.width)
    (singles_from t.indexes (length attrs) (λ i l. indexed_single t.indexes i (h.singles i (omega (arith, l, h.width)))))

pub fits_to : (attrs : List Attr) (t : IndexedRows) → fits attrs (Some t) ≡ true → IsFit attrs t
fits_to attrs t h =
    let width : t.width ≡ length attrs = (Decides-eqb t.width (length attrs)).0 (left_and (nat_eq t.width (length attrs)) (has_singles t.indexes (length attrs)) h) in
    let singles = right_and (nat_eq t.width (length attrs)) (has_singles t.indexes (length attrs)) h in
    record { width = width; singles = λ i l. single_indexed t.indexes i (singles_at t.indexes (length attrs) i singles (omega (arith, l, width))) }

pub fits_begun : (attrs : List Attr) (t : IndexedRows) (more : List (List ℕ)) → t.width ≡ length attrs → t.indexes ≡ map (λ i. i ∷ []) (range_with_len 0 t.width) ++ more → fits attrs (Some t) ≡ true
fits_begun attrs t more width is =
    both (nat_eq t.width (length attrs)) (has_singles t.indexes (length attrs)) ((Decides-eqb t.width (length attrs)).1 width)
    (singles_from t.indexes (length attrs) (λ i l.
    let test = λ (set : List ℕ). pointwise nat_eq set (i ∷ []) in
    let singles = map (λ (k : ℕ). k ∷ []) (range_with_len 0 t.width) in
    let inside : i < t.width = omega (arith, l, width) in
    let long : length singles ≡ t.width = length-map-range_with_len (λ (k : ℕ). k ∷ []) 0 t.width in
    let early : i < length singles = omega (arith, inside, long) in
    let within : i < length (singles ++ more) = omega (arith, early, length-append singles more) in
    let here : get_or (singles ++ more) i [] ≡ i ∷ [] =
    get_or_append_left singles more [] i early ∙ get_or-map-range_with_len (λ (k : ℕ). k ∷ []) 0 t.width i i [] inside (omega arith) in
    ap (λ sets. list_any test sets) is ∙ list_any_at test (singles ++ more) i [] within (ap test here ∙ (slice_eq-Decides Decides-eqb (i ∷ []) (i ∷ []) _ refl).1 refl)))

-- the table of a number can be looked up by each of its columns
pub fits_at : (heads : List Head) (tables : List IndexedRows) (n : ℕ) (t : IndexedRows) → FitHeads heads tables → is_stored heads tables n ≡ true → stored_table heads tables n ≡ Some t
    → has_singles t.indexes (length (columns_at heads n)) ≡ true
fits_at heads tables n t fit held is =
    let first = first_stored heads tables in
    let low : nat_le first n ≡ true = left_and (nat_le first n) (nat_lt n (length heads)) held in
    let above : first + (n - first) ≡ n = grind (arith, nat_tests) in
    let there : fits (attrs_at heads n) (Some t) ≡ true = sym (λ i. fits (attrs_at heads (above i)) (is i)) ∙ fit (n - first) in
    let singles = right_and (nat_eq t.width (length (attrs_at heads n))) (has_singles t.indexes (length (attrs_at heads n))) there in
    ap (has_singles t.indexes) (length-map (attrs_at heads n) (λ (a : Attr). a.name)) ∙ singles

-- ---- the first of some columns

place_below : (columns : List (List ℕ)) (n : List ℕ) → is_in columns n ≡ true → place_of columns n < length columns
place_below [] n h = absurd (true≢false (sym h))
place_below (m ∷ columns) n h = by (name_eq n m) h (place_below columns n)
  where
    by : (b : Bool) → (b || is_in columns n) ≡ true → (is_in columns n ≡ true → place_of columns n < length columns) → (if b then 0 else suc (place_of columns n)) < suc (length columns)
    by true e k = omega arith
    by false e k = let less = k e in omega (arith, less)

pub first_indexed : (indexes : List (List ℕ)) (columns names : List (List ℕ)) → has_singles indexes (length columns) ≡ true → all_in columns names ≡ true → 0 < length names
    → IsIndexed indexes (map (place_of columns) (take 1 names))
first_indexed indexes columns [] h all some = absurd (omega (arith, some))
first_indexed indexes columns (n ∷ names) h all some =
    single_indexed indexes (place_of columns n) (singles_at indexes (length columns) (place_of columns n) h (place_below columns n (left_and (is_in columns n) (all_in columns names) all)))

-- the set of the first column is among all of them
pub within_first : (indexes : List (List ℕ)) (columns names : List (List ℕ)) → has_singles indexes (length columns) ≡ true → all_in columns names ≡ true → 0 < length names
    → HasSetWithin indexes (map (place_of columns) names)
within_first indexes columns [] h all some = absurd (omega (arith, some))
within_first indexes columns (n ∷ names) h all some =
    let w = first_indexed indexes columns (n ∷ names) h all some in (
      w.0,
      w.1,
      w.2,
      w.3,
      λ k d lt.
          Contains-append_left (place_of columns n ∷ []) (map (place_of columns) names) (get_or w.1 k d)
          (Contains-permutation w.1 (place_of columns n ∷ []) (get_or w.1 k d) w.4 (Contains-get_or w.1 k d lt)),
    )
