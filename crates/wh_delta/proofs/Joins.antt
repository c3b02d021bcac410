-- A join goes row for row, and a row's partners are those that have its values at the shared columns.
use Rattle.std.proofs.Common.{◌≡◌, ◌≢◌, ℕ, ◌<◌, ◌+◌, Bool, true, false, cond, not, List, [], ◌∷◌, ◌++◌, map, filter, fold, length, take, get_or, refl, sym, ◌∙◌, ap, subst}
use Rattle.std.specs.Cmp.{both_ways}
use Rattle.std.specs.List.{flat_map}
use Rattle.std.proofs.lemmas.Bool.{and_parts, and_from}
use Rattle.std.proofs.lemmas.List.{take_more, append-nil, map-append}
use Rattle.std.proofs.lemmas.Grind.{flat_map-append}
use Rattle.wh_base.specs.declared.value.Value.{Value}
use Rattle.wh_base.specs.Columns.{cut, picked, place_of, is_in, all_in, shared, others}
use Rattle.wh_base.specs.RowSet.{has, SameRows}
use Rattle.wh_base.specs.Tables.{Table, join, joined, agree, matching}
use Rattle.wh_base.specs.Value.{row_eq}
use Rattle.wh_base.specs.ValueLaws.{row_eq-Decides}
use Rattle.wh_base.proofs.RowSets.{SameRows-append, SameRows-map}
use Rattle.wh_expr.specs.SameTable.{SameTable}
use Rattle.wh_expr.specs.Typing.{are_distinct}
use Rattle.wh_expr.proofs.Congruence.{same_trans, SameTable-join}
use Rattle.wh_laws.proofs.Lists.{filter_from}
use Rattle.wh_laws.proofs.Equality.{is_in_decides, is_not, is_not_in, all_in_when, shared_from}
use Rattle.wh_delta.specs.Join.{joined_with, SharesColumns}

abbrev Row : Type 0
Row = List Value

abbrev Name : Type 0
Name = List ℕ

-- ---- the key

pub distinct_filter : (p : Name → Bool) (names : List Name) → are_distinct names ≡ true → are_distinct (filter p names) ≡ true
distinct_filter p [] e = e
distinct_filter p (n ∷ ns) e = by (p n) (distinct_filter p ns parts.1)
  where
    parts : (not (is_in ns n) ≡ true) × (are_distinct ns ≡ true)
    parts = and_parts (not (is_in ns n)) (are_distinct ns) e

    fresh : not (is_in (filter p ns) n) ≡ true
    fresh =
        is_not_in (is_in (filter p ns) n) (is_in_decides (filter p ns) n)
        (λ h. is_not (is_in ns n) (is_in_decides ns n) parts.0 (filter_from p ns n h).0)

    by : (b : Bool) → are_distinct (filter p ns) ≡ true → are_distinct (cond b (n ∷ filter p ns) (filter p ns)) ≡ true
    by true k = and_from (not (is_in (filter p ns) n)) (are_distinct (filter p ns)) fresh k
    by false k = k

pub shared_within : (left right : List Name) → all_in right (shared left right) ≡ true
shared_within left right = all_in_when right (shared left right) (λ n h. (shared_from left right n h).1)

-- ---- partners

filter_same : (p q : Row → Bool) → ((r : Row) → p r ≡ q r) → (rows : List Row) → filter p rows ≡ filter q rows
filter_same p q h [] = refl
filter_same p q h (r ∷ rows) = ap (λ b. cond b (r ∷ filter p rows) (filter p rows)) (h r) ∙ ap (λ k. cond (q r) (r ∷ k) k) (filter_same p q h rows)

row_eq_back : (x y : Row) → row_eq x y ≡ row_eq y x
row_eq_back x y =
    both_ways (row_eq x y) (row_eq y x)
    (λ e. (row_eq-Decides y x).1 (sym ((row_eq-Decides x y).0 e)))
    (λ e. (row_eq-Decides x y).1 (sym ((row_eq-Decides y x).0 e)))

-- the partners of a row are those that have its values at the shared columns
joined_is : (left right : List Name) (rows : List Row) (x : Row)
    → joined left right rows x ≡ map (λ y. x ++ cut right (others left right) y) (matching right (shared left right) (cut left (shared left right) x) rows)
joined_is left right rows x =
    let key = shared left right in
    ap (map (λ y. x ++ cut right (others left right) y))
    (filter_same (agree left right x) (λ y. row_eq (cut right key y) (cut left key x)) (λ y. row_eq_back (cut left key x) (cut right key y)) rows)

-- what a row gives with partners that were found, as a set
pub partners_same : (columns key : List Name) (places rest : List ℕ) (row values : Row) (slice partners meant rows : List Row)
    → rows ≡ map (λ y. row ++ picked rest y) slice → slice ≡ partners → SameRows partners (matching columns key values meant) → values ≡ picked places row
    → SameRows rows (map (λ y. row ++ picked rest y) (matching columns key (picked places row) meant))
partners_same columns key places rest row values slice partners meant rows made is same v r =
    let f : Row → Row = λ y. row ++ picked rest y in
    ap (λ z. has z r) made ∙ ap (λ z. has (map f z) r) is ∙ SameRows-map f partners (matching columns key values meant) same r
    ∙ ap (λ z. has (map f (matching columns key z meant)) r) v

-- the join with rows that are known as a set
pub whole_same : (both left : Table) (columns names : List Name) (slice rows meant : List Row)
    → both ≡ join left (record { columns = names; rows = slice }) → names ≡ columns → slice ≡ rows → SameRows rows meant
    → SameTable both (join left (record { columns = columns; rows = meant }))
whole_same both left columns names slice rows meant made e is same =
    let right : Table = record { columns = names; rows = slice } in
    let P : Table → Type 0 = λ z. SameTable z (join left (record { columns = columns; rows = meant })) in
    subst P (sym made)
    (SameTable-join left right left (record { columns = columns; rows = meant }) (record { columns = refl; rows = λ r. refl })
    (record { columns = e; rows = λ r. ap (λ z. has z r) is ∙ same r }))

-- ---- one row more

pub joined_more : (left right key : List Name) (places rest : List ℕ) (rows meant so_far found new : List Row) (i : ℕ) (x : Row)
    → key ≡ shared left right → places ≡ map (place_of left) key → rest ≡ map (place_of right) (others left right)
    → i < length rows → x ≡ get_or rows i x
    → SameRows found (map (λ y. x ++ picked rest y) (matching right key (picked places x) meant))
    → SameRows so_far (flat_map (joined left right meant) (take i rows)) → new ≡ so_far ++ found
    → SameRows new (flat_map (joined left right meant) (take (i + 1) rows))
joined_more left right key places rest rows meant so_far found new i x k p q within is same before now r =
    let f = joined left right meant in
    let one : map (λ y. x ++ picked rest y) (matching right key (picked places x) meant) ≡ f x =
    (λ j. map (λ y. x ++ picked (q j) y) (matching right key (picked (p j) x) meant))
    ∙ (λ j. map (λ y. x ++ cut right (others left right) y) (matching right (k j) (cut left (k j) x) meant))
    ∙ sym (joined_is left right meant x) in
    let found_same : SameRows found (f x) = λ w. same w ∙ ap (λ z. has z w) one in
    let more : flat_map f (take (i + 1) rows) ≡ flat_map f (take i rows) ++ f x =
    ap (flat_map f) (take_more rows i x within) ∙ flat_map-append f (take i rows) (get_or rows i x ∷ []) ∙ ap (λ z. flat_map f (take i rows) ++ flat_map f (z ∷ [])) (sym is) ∙ ap (λ z. flat_map f (take i rows) ++ z) (append-nil (f x)) in
    ap (λ z. has z r) now ∙ SameRows-append so_far found (flat_map f (take i rows)) (f x) before found_same r ∙ ap (λ z. has z r) (sym more)

-- ---- one number more

fold_append : (t : Table) (us vs : List Table) → fold join t (us ++ vs) ≡ fold join (fold join t us) vs
fold_append t [] vs = refl
fold_append t (u ∷ us) vs = fold_append (join t u) us vs

pub joined_with_more : (first : Table) (table : ℕ → Table) (numbers : List ℕ) (i n : ℕ) → i < length numbers → n ≡ get_or numbers i 0
    → (before after : Table) → SameTable before (joined_with first table (take i numbers)) → SameTable after (join before (table n))
    → SameTable after (joined_with first table (take (i + 1) numbers))
joined_with_more first table numbers i n within is before after h k =
    let whole = joined_with first table (take i numbers) in
    let more : join whole (table n) ≡ joined_with first table (take (i + 1) numbers) =
    ap (λ z. join whole (table z)) is
    ∙ sym (fold_append first (map table (take i numbers)) (table (get_or numbers i 0) ∷ []))
    ∙ ap (fold join first) (sym (map-append table (take i numbers) (get_or numbers i 0 ∷ [])))
    ∙ ap (joined_with first table) (sym (take_more numbers i 0 within)) in
    let same : SameTable (table n) (table n) = record { columns = refl; rows = λ r. refl } in
    subst (SameTable after) more (same_trans after (join before (table n)) (join whole (table n)) k (SameTable-join before (table n) whole (table n) h same))

-- where the numbers share columns, the next one has a column to be looked up by
pub shares_next : (first : Table) (table : ℕ → Table) (numbers : List ℕ) (i n : ℕ) → i < length numbers → n ≡ get_or numbers i 0
    → (before : List Name) → before ≡ (joined_with first table (take i numbers)).columns → SharesColumns first table numbers
    → shared before (table n).columns ≢ []
shares_next first table numbers i n within is before e h k =
    h i within (ap (λ z. shared z (table (get_or numbers i 0)).columns) (sym e) ∙ ap (λ z. shared before (table z).columns) (sym is) ∙ k)
