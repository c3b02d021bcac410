-- Deltas for which a warehouse is ready obey the rules behind its image.
use Rattle.std.proofs.Common.{◌≡◌, ◌⊎◌, inl, inr, ℕ, ◌+◌, ◌-◌, ◌<◌, ◌≤◌, Bool, true, false, ◌&&◌, ◌||◌, not, cond, eqb, ltb, List, [], ◌∷◌, ◌++◌, length, get_or, filter, Option, None, Some, refl, sym, ap, subst, ◌∙◌, eq-eqb, arith}
use Rattle.std.specs.BTreeSet.{insert_key}
use Rattle.std.specs.List.{AllByRecursion, list_all, list_any, position, position_or_len}
use Rattle.std.specs.Ordering.{match_ordering}
use Rattle.std.specs.declared.cmp.Ordering.{Ordering}
use Rattle.std.specs.declared.cmp.Ordering.TheVariants.{Less, Equal, Greater}
use Rattle.std.proofs.lemmas.Bool.{and_parts, and_from, true≢false, eqb-true, ltb-false, le-ltb}
use Rattle.std.proofs.lemmas.List.{length-append}
use Rattle.std.proofs.lemmas.List.Filters.{length-filter_both}
use Rattle.std.proofs.lemmas.List.FromFn.{get_or-map-range_with_len, get_or-range_with_len, length-map-range_with_len, length-range_with_len}
use Rattle.std.proofs.lemmas.List.Sums.{fails_before_first, position_or_len_is}
use Rattle.std.proofs.lemmas.Map.Keys.{IsDistinct-head, IsDistinct-tail}
use Rattle.wh_base.specs.declared.value.Delta.{Delta}
use Rattle.wh_base.specs.RowSet.{AreDistinct, SameRows, has, in_order}
use Rattle.wh_base.specs.Tables.{without}
use Rattle.std.specs.Cmp.Lexicographic.{pointwise}
use Rattle.std.specs.Option.{is_some}
use Rattle.wh_base.specs.Value.{kinds, row_cmp, row_eq, row_kinds}
use Rattle.wh_expr.specs.Typing.{kind_eq}
use Rattle.wh_base.specs.ValueLaws.{row_eq-Decides}
use Rattle.wh_base.proofs.InOrder.{Contains-from_in_order, any-Contains, in_order-same}
use Rattle.wh_base.proofs.RowSets.{SameRows-append, SameRows-filter, has-append, has-filter, has_itself}
use Rattle.wh_laws.proofs.Lists.{every_from, every_in}
use Rattle.wh_schema.specs.declared.spec.Spec.{Spec}
use Rattle.wh_schema.specs.Warehouse.{Row, numbers}
use Rattle.wh_table.specs.Table.{CanApply}
use Rattle.wh_store.specs.declared.warehouse.Warehouse.{Warehouse}
use Rattle.wh_store.specs.Commit.{CanApplyAll, first_over_after, rows_after}
use Rattle.wh_store.specs.Image.{Image, applies, apply_to, are_stored_deltas, are_stored_tables, changed_table, changed_tables, first_over, fit_stored, fits_stored, no_delta, row_limit, stored_attrs, stored_count}
use Rattle.wh_store.specs.Warehouse.{IsWarehouseOf, table_at}

or_either : (a b : Bool) → (a || b) ≡ true → (a ≡ true) ⊎ (b ≡ true)
or_either true b h = inl refl
or_either false b h = inr h

or_second : (a b : Bool) → b ≡ true → (a || b) ≡ true
or_second true b h = refl
or_second false b h = h

-- ---- how many rows are left

-- a row that equals none of some rows is not among them
not_among : (row : Row) (rows : List Row) → AllByRecursion (λ y. row_eq row y ≡ false) rows → has rows row ≡ false
not_among row [] differ = refl
not_among row (x ∷ rows) differ = rw (differ.0) (not_among row rows differ.1)

some_row : (rows : List Row) (row : Row) → has rows row ≡ true → 1 ≤ length rows
some_row [] row there = absurd (true≢false (sym there))
some_row (x ∷ rows) row there = omega arith

-- distinct rows that are all among others are no more than these
pub no_more : (gone rows : List Row) → AreDistinct gone → ((row : Row) → has gone row ≡ true → has rows row ≡ true) → length gone ≤ length rows
no_more [] rows distinct inside = omega arith
no_more (x ∷ gone) rows distinct inside =
    let rest = filter (λ y. not (row_eq x y)) rows in
    let here = filter (λ y. row_eq x y) rows in
    let first : has rows x ≡ true = inside x (ap (λ b. b || has gone x) (has_itself x)) in
    let one : 1 ≤ length here = some_row here x (has-filter (λ y. row_eq x y) rows x ∙ and_from (has rows x) (row_eq x x) first (has_itself x)) in
    let less : length gone ≤ length rest = no_more gone rest (IsDistinct-tail row_eq x gone distinct) (λ row there. still x gone rows row (not_among x gone (IsDistinct-head row_eq x gone distinct)) inside there) in
    omega (arith, one, less, length-filter_both (λ y. row_eq x y) (λ y. not (row_eq x y)) (λ y. refl) rows)
  where
    other : (x row : Row) (gone : List Row) → has gone x ≡ false → has gone row ≡ true → (b : Bool) → row_eq x row ≡ b → not b ≡ true
    other x row gone lacks there true e = absurd (true≢false (sym there ∙ ap (has gone) (sym ((row_eq-Decides x row).0 e)) ∙ lacks))
    other x row gone lacks there false e = refl

    still : (x : Row) (gone rows : List Row) (row : Row) → has gone x ≡ false → ((r : Row) → has (x ∷ gone) r ≡ true → has rows r ≡ true) → has gone row ≡ true → has (filter (λ y. not (row_eq x y)) rows) row ≡ true
    still x gone rows row lacks inside there =
        has-filter (λ y. not (row_eq x y)) rows row
        ∙ and_from (has rows row) (not (row_eq x row)) (inside row (or_second (row_eq row x) (has gone row) there)) (other x row gone lacks there (row_eq x row) refl)

-- rows without distinct ones of them
pub fewer : (rows gone : List Row) → AreDistinct gone → list_all (has rows) gone ≡ true → length (without rows gone) + length gone ≤ length rows
fewer rows gone distinct present =
    let kept = length-filter_both (has gone) (λ r. not (has gone r)) (λ r. refl) rows in
    let taken = no_more gone (filter (has gone) rows) distinct
    (λ row there. has-filter (has gone) rows row ∙ and_from (has rows row) (has gone row) (every_from (has rows) gone present row ((any-Contains gone row).0 there)) there) in
    omega (arith, kept, taken)

inserted_length : (rows : List Row) (row : Row) → length (insert_key row_cmp rows row) ≤ length rows + 1
inserted_length [] row = omega arith
inserted_length (x ∷ rows) row = by (row_cmp row x) (inserted_length rows row)
  where
    by : (o : Ordering) → length (insert_key row_cmp rows row) ≤ length rows + 1 → length (match_ordering o (row ∷ x ∷ rows) (x ∷ rows) (x ∷ insert_key row_cmp rows row)) ≤ length (x ∷ rows) + 1
    by Less less = omega arith
    by Equal less = omega arith
    by Greater less = omega arith

in_order_length : (rows : List Row) → length (in_order rows) ≤ length rows
in_order_length [] = omega arith
in_order_length (row ∷ rows) = omega (arith, inserted_length (in_order rows) row, in_order_length rows)

-- a changed table has no more rows than are counted before the change
changed_length : (held meant : List Row) (d : Delta) → SameRows held meant → CanApply held d → length (changed_table meant d) ≤ length held - length d.deleted + length d.inserted
changed_length held meant d same can =
    let gone = λ (r : Row). not (has d.deleted r) in
    let one : changed_table held d ≡ changed_table meant d = in_order-same (without held d.deleted ++ d.inserted) (without meant d.deleted ++ d.inserted)
    (SameRows-append (without held d.deleted) d.inserted (without meant d.deleted) d.inserted (SameRows-filter gone gone (λ r. refl) held meant same) (λ r. refl)) in
    omega (arith, ap length one, in_order_length (without held d.deleted ++ d.inserted), length-append (without held d.deleted) d.inserted, fewer held d.deleted can.deleted_once can.present)

-- ---- the rules

pub list_all_same : (p q : Row → Bool) → ((r : Row) → p r ≡ q r) → (rows : List Row) → list_all p rows ≡ list_all q rows
list_all_same p q same [] = refl
list_all_same p q same (x ∷ rows) = ap (λ b. b && list_all p rows) (same x) ∙ ap (λ b. q x && b) (list_all_same p q same rows)

pub list_any_same : (p q : Row → Bool) → ((r : Row) → p r ≡ q r) → (rows : List Row) → list_any p rows ≡ list_any q rows
list_any_same p q same [] = refl
list_any_same p q same (x ∷ rows) = ap (λ b. b || list_any p rows) (same x) ∙ ap (λ b. q x || b) (list_any_same p q same rows)

still_applies : (held meant : List Row) (d : Delta) → SameRows held meant → CanApply held d → applies meant d ≡ true
still_applies held meant d same can =
    and_from (list_all (has meant) d.deleted) (not (list_any (has meant) d.inserted)) (sym (list_all_same (has held) (has meant) same d.deleted) ∙ can.present)
    (ap not (sym (list_any_same (has held) (has meant) same d.inserted) ∙ can.absent))

-- a test that the rows and the inserted ones pass is passed after the change
all_changed : (test : Row → Bool) (rows : List Row) (d : Delta) → list_all test rows ≡ true → list_all test d.inserted ≡ true → list_all test (changed_table rows d) ≡ true
all_changed test rows d old new =
    every_in test (changed_table rows d)
    (λ y there. pass y (or_either (has (without rows d.deleted) y) (has d.inserted y) (sym (has-append (without rows d.deleted) d.inserted y) ∙ (any-Contains (without rows d.deleted ++ d.inserted) y).1 (Contains-from_in_order (without rows d.deleted ++ d.inserted) y there))))
  where
    pass : (y : Row) → (has (without rows d.deleted) y ≡ true) ⊎ (has d.inserted y ≡ true) → test y ≡ true
    pass y (inl kept) = every_from test rows old y ((any-Contains rows y).0 (and_parts (has rows y) (not (has d.deleted y)) (sym (has-filter (λ r. not (has d.deleted r)) rows y) ∙ kept)).0)
    pass y (inr added) = every_from test d.inserted new y ((any-Contains d.inserted y).0 added)

-- ---- tests on each number

all_numbers : (p : ℕ → Bool) (n : ℕ) → ((k : ℕ) → k < n → p k ≡ true) → list_all p (numbers n) ≡ true
all_numbers p n each = every_in p (numbers n)
    (λ y there. let k = there.0 in let at : y ≡ k = sym there.2 ∙ get_or-range_with_len 0 n k y (omega (arith, there.1, length-range_with_len 0 n)) ∙ (omega arith) in
    subst (λ (m : ℕ). p m ≡ true) (sym at) (each k (omega (arith, there.1, length-range_with_len 0 n))))

at_number : (p : ℕ → Bool) (n k : ℕ) → k < n → list_all p (numbers n) ≡ true → p k ≡ true
at_number p n k below all = every_from p (numbers n) all k (k, omega (arith, below, length-range_with_len 0 n), get_or-range_with_len 0 n k k below ∙ (omega arith))

-- where no place passes first, none passes
pub none_passes : {X : Type 0} (p : X → Bool) (xs : List X) (k : ℕ) (d : X) → position p xs ≡ None → k < length xs → p (get_or xs k d) ≡ false
none_passes p xs k d none below = fails_before_first p xs k d (past (position_or_len p xs) (length xs) (ltb (position_or_len p xs) (length xs)) refl none below)
  where
    past : (i n : ℕ) (b : Bool) → ltb i n ≡ b → ◌≡◌ {A = Option ℕ} (cond (ltb i n) (Some i) None) None → k < n → k < i
    past i n true less none below = absurd (some_none i (ap (λ b. cond b (Some i) None) (sym less) ∙ none))
      where
        some_none : (i : ℕ) → ◌≡◌ {A = Option ℕ} (Some i) None → ⊥
        some_none i e = cc
    past i n false less none below = omega (arith, ltb-false i n less, below)

none_first : {X : Type 0} (p : X → Bool) (xs : List X) (d : X) → ((k : ℕ) → k < length xs → p (get_or xs k d) ≡ false) → position p xs ≡ None
none_first p xs d fails =
    let all : position_or_len p xs ≡ length xs = position_or_len_is p xs (length xs) d (omega arith) fails (λ less. absurd (omega arith)) in
    rw (all, le-ltb (length xs) (length xs) (omega arith)) refl

-- ---- all tables

-- a table is within the limit after its delta where none is over it
pub within : (w : Warehouse) (deltas : List Delta) (k : ℕ) → first_over_after w.tables deltas ≡ None → k < length w.tables → rows_after w.tables deltas k ≤ row_limit
within w deltas k room below =
    let test = λ (m : ℕ). ltb row_limit (rows_after w.tables deltas m) in
    let fails = none_passes test (numbers (length w.tables)) k 0 room (omega (arith, below, length-range_with_len 0 (length w.tables))) in
    let at : get_or (numbers (length w.tables)) k 0 ≡ k = get_or-range_with_len 0 (length w.tables) k 0 below ∙ (omega arith) in
    ltb-false row_limit (rows_after w.tables deltas k) (ap test (sym at) ∙ fails)

pub may_follow : (i : Image) (w : Warehouse) (deltas : List Delta) → IsWarehouseOf i w → are_stored_tables i.spec i.tables ≡ true → CanApplyAll w.tables deltas
    → ((k : ℕ) → k < stored_count i.spec → fits_stored i.spec k (get_or deltas k no_delta).inserted ≡ true) → first_over_after w.tables deltas ≡ None → are_stored_deltas i.spec i.tables deltas ≡ true
may_follow i w deltas is stored can fit room =
    let n = length i.tables in
    let after = changed_tables i.tables deltas in
    let parts = and_parts (fit_stored i.spec i.tables) (not (is_some (first_over i.tables))) stored in
    let fits = and_parts (eqb n (stored_count i.spec)) (list_all (λ k. fits_stored i.spec k (get_or i.tables k [])) (numbers (stored_count i.spec))) parts.0 in
    let count : n ≡ stored_count i.spec = eqb-true n (stored_count i.spec) fits.0 in
    let held : length w.tables ≡ stored_count i.spec = is.form.count ∙ ap stored_count is.spec in
    let change = λ (k : ℕ). changed_table (get_or i.tables k []) (get_or deltas k no_delta) in
    let long : length after ≡ n = length-map-range_with_len change 0 n in
    let at : (k : ℕ) → k < n → get_or after k [] ≡ change k = λ k below. get_or-map-range_with_len change 0 n k k [] below (omega arith) in
    let each : (k : ℕ) → k < n → CanApply (table_at w.tables k).rows (get_or deltas k no_delta) = λ k below. can.each k (omega (arith, below, count, held)) in
    let same : (k : ℕ) → k < n → SameRows (table_at w.tables k).rows (get_or i.tables k []) = λ k below. is.rows k (omega (arith, below, count)) in
    and_from (apply_to i.tables deltas) (are_stored_tables i.spec after)
    (and_from (eqb (length deltas) n) (list_all (λ k. applies (get_or i.tables k []) (get_or deltas k no_delta)) (numbers n))
    (eq-eqb (length deltas) n (omega (arith, can.count, held, count)))
    (all_numbers (λ k. applies (get_or i.tables k []) (get_or deltas k no_delta)) n (λ k below. still_applies (table_at w.tables k).rows (get_or i.tables k []) (get_or deltas k no_delta) (same k below) (each k below))))
    (and_from (fit_stored i.spec after) (not (is_some (first_over after)))
    (and_from (eqb (length after) (stored_count i.spec)) (list_all (λ k. fits_stored i.spec k (get_or after k [])) (numbers (stored_count i.spec)))
    (eq-eqb (length after) (stored_count i.spec) (long ∙ count))
    (all_numbers (λ k. fits_stored i.spec k (get_or after k [])) (stored_count i.spec) (λ k below. subst (λ (rows : List Row). fits_stored i.spec k rows ≡ true) (sym (at k (omega (arith, below, count))))
    (all_changed (fits_row i.spec k) (get_or i.tables k []) (get_or deltas k no_delta) (at_number (λ m. fits_stored i.spec m (get_or i.tables m [])) (stored_count i.spec) k below fits.1) (fit k below)))))
    (ap (λ (o : Option ℕ). not (is_some o)) (none_first (λ rows. ltb row_limit (length rows)) after [] (λ k below. subst (λ (rows : List Row). ltb row_limit (length rows) ≡ false) (sym (at k (omega (arith, below, long))))
    (le-ltb row_limit (length (change k)) (omega (
      arith,
      changed_length (table_at w.tables k).rows (get_or i.tables k []) (get_or deltas k no_delta) (same k (omega (arith, below, long))) (each k (omega (arith, below, long))),
      within w deltas k room (omega (arith, below, long, count, held)),
    )))))))
  where
    fits_row : Spec → ℕ → Row → Bool
    fits_row spec k row = pointwise kind_eq (row_kinds row) (kinds (stored_attrs spec k))
