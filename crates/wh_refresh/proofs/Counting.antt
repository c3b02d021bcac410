-- How many rows the differences leave, and that they can be applied to tables with the rows they were made from.
use Rattle.std.proofs.Common.{◌≡◌, ℕ, ◌+◌, ◌-◌, ◌<◌, ◌≤◌, Bool, true, false, ◌&&◌, ◌||◌, not, cond, eqb, ltb, List, [], ◌∷◌, length, map, get_or, filter, Option, None, Some, Contains, refl, sym, ap, subst, ◌∙◌, arith}
use Rattle.std.specs.BTreeSet.{insert_key}
use Rattle.std.specs.List.{AllByRecursion, list_all, list_any, position, position_or_len}
use Rattle.std.specs.Ordering.{match_ordering}
use Rattle.std.specs.declared.cmp.Ordering.{Ordering}
use Rattle.std.specs.declared.cmp.Ordering.TheVariants.{Less, Equal, Greater}
use Rattle.std.proofs.lemmas.Bool.{and_parts, and_from, true≢false, ltb-false, le-ltb}
use Rattle.std.proofs.lemmas.List.Elements.{Contains-get_or}
use Rattle.std.proofs.lemmas.List.Filters.{length-filter_both}
use Rattle.std.proofs.lemmas.List.Folds.{list_any_none}
use Rattle.std.proofs.lemmas.List.FromFn.{get_or-map-range_with_len, get_or-range_with_len, length-map-range_with_len, length-range_with_len}
use Rattle.std.proofs.lemmas.List.Sums.{position_or_len_is}
use Rattle.std.proofs.lemmas.Map.Keys.{IsDistinct-head, IsDistinct-tail}
use Rattle.wh_base.specs.declared.value.Delta.{Delta}
use Rattle.wh_base.specs.RowSet.{AreDistinct, has, in_order}
use Rattle.wh_base.specs.Tables.{without}
use Rattle.wh_base.specs.Value.{row_cmp, row_eq}
use Rattle.wh_base.specs.ValueLaws.{row_eq-Decides}
use Rattle.wh_base.proofs.InOrder.{IsAscending-in_order, SameRows-in_order, any-Contains}
use Rattle.wh_base.proofs.RowSets.{IsDistinct-filter, has-filter, has_itself}
use Rattle.wh_fit.specs.Differences.{difference, differences}
use Rattle.wh_fit.proofs.Each.{not_placed}
use Rattle.wh_laws.proofs.Lists.{every_in}
use Rattle.wh_schema.specs.Warehouse.{Row, numbers}
use Rattle.wh_store.specs.Commit.{CanApplyAll, first_over_after, rows_after}
use Rattle.wh_store.specs.Image.{first_over, no_delta, row_limit}
use Rattle.wh_store.specs.Warehouse.{table_at}
use Rattle.wh_store.proofs.TableLemmas.{ascending_distinct}
use Rattle.wh_table.specs.Table.{CanApply, IndexedRows}

or_second : (a b : Bool) → b ≡ true → (a || b) ≡ true
or_second true b h = refl
or_second false b h = h

not_true : (b : Bool) → not b ≡ true → b ≡ false
not_true true h = absurd (true≢false (sym h))
not_true false h = refl

-- ---- lengths

inserted_length : (rows : List Row) (row : Row) → length (insert_key row_cmp rows row) ≤ length rows + 1
inserted_length [] row = omega arith
inserted_length (x ∷ rows) row = by (row_cmp row x) (inserted_length rows row)
  where
    by : (o : Ordering) → length (insert_key row_cmp rows row) ≤ length rows + 1 → length (match_ordering o (row ∷ x ∷ rows) (x ∷ rows) (x ∷ insert_key row_cmp rows row)) ≤ length (x ∷ rows) + 1
    by Less less = omega arith
    by Equal less = omega arith
    by Greater less = omega arith

pub in_order_length : (rows : List Row) → length (in_order rows) ≤ length rows
in_order_length [] = omega arith
in_order_length (row ∷ rows) = omega (arith, inserted_length (in_order rows) row, in_order_length rows)

pub none_first : {X : Type 0} (p : X → Bool) (xs : List X) (d : X) → ((k : ℕ) → k < length xs → p (get_or xs k d) ≡ false) → position p xs ≡ None
none_first p xs d fails =
    let all : position_or_len p xs ≡ length xs = position_or_len_is p xs (length xs) d (omega arith) fails (λ less. absurd (omega arith)) in
    rw (all, le-ltb (length xs) (length xs) (omega arith)) refl

-- a row that equals none of some rows is not among them
not_among : (row : Row) (rows : List Row) → AllByRecursion (λ y. row_eq row y ≡ false) rows → has rows row ≡ false
not_among row [] differ = refl
not_among row (x ∷ rows) differ = rw (differ.0) (not_among row rows differ.1)

some_row : (rows : List Row) (row : Row) → has rows row ≡ true → 1 ≤ length rows
some_row [] row there = absurd (true≢false (sym there))
some_row (x ∷ rows) row there = omega arith

-- distinct rows that are all among others are no more than these
no_more : (gone rows : List Row) → AreDistinct gone → ((row : Row) → has gone row ≡ true → has rows row ≡ true) → length gone ≤ length rows
no_more [] rows distinct inside = omega arith
no_more (x ∷ gone) rows distinct inside =
    let rest = filter (λ y. not (row_eq x y)) rows in
    let here = filter (λ y. row_eq x y) rows in
    let first : has rows x ≡ true = inside x (ap (λ b. b || has gone x) (has_itself x)) in
    let one : 1 ≤ length here = some_row here x (has-filter (λ y. row_eq x y) rows x ∙ and_from (has rows x) (row_eq x x) first (has_itself x)) in
    let less : length gone ≤ length rest = no_more gone rest (IsDistinct-tail row_eq x gone distinct) (λ row there. still x gone rows row (not_among x gone (IsDistinct-head row_eq x gone distinct)) inside there) in
    omega (arith, one, less, length-filter_both (λ y. row_eq x y) (λ y. not (row_eq x y)) (λ y. refl) rows)
  where
    other : (x row : Row) (gone : List Row) → has gone x ≡ false → has gone row ≡ true → (b : Bool) → row_eq x row ≡ b → not b ≡ true
    other x row gone lacks there true e = absurd (true≢false (sym there ∙ ap (has gone) (sym ((row_eq-Decides x row).0 e)) ∙ lacks))
    other x row gone lacks there false e = refl

    still : (x : Row) (gone rows : List Row) (row : Row) → has gone x ≡ false → ((r : Row) → has (x ∷ gone) r ≡ true → has rows r ≡ true) → has gone row ≡ true → has (filter (λ y. not (row_eq x y)) rows) row ≡ true
    still x gone rows row lacks inside there =
        has-filter (λ y. not (row_eq x y)) rows row
        ∙ and_from (has rows row) (not (row_eq x row)) (inside row (or_second (row_eq row x) (has gone row) there)) (other x row gone lacks there (row_eq x row) refl)

-- ---- one table

-- the rows that the difference takes and brings
lost_has : (before after : List Row) (row : Row) → has (in_order (without before after)) row ≡ (has before row && not (has after row))
lost_has before after row = SameRows-in_order (without before after) row ∙ has-filter (λ r. not (has after r)) before row

module _ (held after : List Row) where
  lost_held : (row : Row) → has (in_order (without (in_order held) after)) row ≡ (has held row && not (has after row))
  lost_held row = lost_has (in_order held) after row ∙ ap (λ b. b && not (has after row)) (SameRows-in_order held row)

  -- no more rows than stand there after
  pub rows_left : AreDistinct held → length held - length (in_order (without (in_order held) after)) + length (in_order (without after (in_order held))) ≤ length after
  rows_left distinct =
      let stays : Row → Bool = has after in
      let was : Row → Bool = has (in_order held) in
      let split_held = length-filter_both stays (λ r. not (stays r)) (λ r. refl) held in
      let split_after = length-filter_both was (λ r. not (was r)) (λ r. refl) after in
      let gone : length (filter (λ r. not (stays r)) held) ≤ length (in_order (without (in_order held) after)) =
      no_more (filter (λ r. not (stays r)) held) (in_order (without (in_order held) after)) (IsDistinct-filter (λ r. not (stays r)) held distinct)
      (λ row there. lost_held row ∙ sym (has-filter (λ r. not (stays r)) held row) ∙ there) in
      let kept : length (filter stays held) ≤ length (filter was after) =
      no_more (filter stays held) (filter was after) (IsDistinct-filter stays held distinct)
      (λ row there.
      let parts = and_parts (has held row) (stays row) (sym (has-filter stays held row) ∙ there) in
      has-filter was after row ∙ and_from (has after row) (was row) parts.1 (SameRows-in_order held row ∙ parts.0)) in
      let come = in_order_length (without after (in_order held)) in
      omega (arith, split_held, split_after, gone, kept, come)

  pub can_apply_one : CanApply held (difference (in_order held) after)
  can_apply_one =
      let lost = in_order (without (in_order held) after) in
      let gained = in_order (without after (in_order held)) in
      record {
        present = every_in (has held) lost (λ x there. (and_parts (has held x) (not (has after x)) (sym (lost_held x) ∙ (any-Contains lost x).1 there)).0);
        absent = list_any_none (has held) gained (λ k e below.
            let x = get_or gained k e in
            sym (SameRows-in_order held x)
            ∙ not_true (has (in_order held) x) (and_parts (has after x) (not (has (in_order held) x)) (sym (lost_has after (in_order held) x) ∙ (any-Contains gained x).1 (Contains-get_or gained k e below))).1);
        deleted_once = ascending_distinct lost (IsAscending-in_order (without (in_order held) after));
        inserted_once = ascending_distinct gained (IsAscending-in_order (without after (in_order held)));
      }

-- ---- all tables

pub difference_at : (before after : List (List Row)) (k : ℕ) → k < length before → get_or (differences before after) k no_delta ≡ difference (get_or before k []) (get_or after k [])
difference_at before after k below = get_or-map-range_with_len (λ n. difference (get_or before n []) (get_or after n [])) 0 (length before) k k no_delta below (omega arith)

pub differences_count : (before after : List (List Row)) → length (differences before after) ≡ length before
differences_count before after = length-map-range_with_len (λ n. difference (get_or before n []) (get_or after n [])) 0 (length before)

module _ (tables : List IndexedRows) (before after : List (List Row)) (count : length before ≡ length tables) (is : (k : ℕ) → get_or before k [] ≡ in_order (table_at tables k).rows) where
  here : (k : ℕ) → k < length tables → get_or (differences before after) k no_delta ≡ difference (in_order (table_at tables k).rows) (get_or after k [])
  here k below = difference_at before after k (omega (arith, below, count)) ∙ ap (λ (rows : List Row). difference rows (get_or after k [])) (is k)

  pub can_apply_all : CanApplyAll tables (differences before after)
  can_apply_all = record {
    count = differences_count before after ∙ count;
    each = λ k below. subst (CanApply (table_at tables k).rows) (sym (here k below)) (can_apply_one (table_at tables k).rows (get_or after k []));
  }

  few_left : ((k : ℕ) → k < length tables → AreDistinct (table_at tables k).rows) → length after ≡ length tables → first_over after ≡ None → (k : ℕ) → k < length tables → rows_after tables (differences before after) k ≤ row_limit
  few_left distinct long under k below =
      let held = (table_at tables k).rows in
      let there = get_or after k [] in
      let small : length there ≤ row_limit = ltb-false row_limit (length there) (not_placed (λ (rows : List Row). ltb row_limit (length rows)) after under there (Contains-get_or after k [] (omega (arith, below, long)))) in
      subst (λ (d : Delta). length held - length d.deleted + length d.inserted ≤ row_limit) (sym (here k below))
      (omega (arith, small, rows_left held there (distinct k below)))

  pub stays_under : ((k : ℕ) → k < length tables → AreDistinct (table_at tables k).rows) → length after ≡ length tables → first_over after ≡ None → first_over_after tables (differences before after) ≡ None
  stays_under distinct long under =
      let n = length tables in
      let left : ℕ → ℕ = rows_after tables (differences before after) in
      none_first (λ k. ltb row_limit (left k)) (numbers n) 0 (λ k below.
      let within : k < n = omega (arith, below, length-range_with_len 0 n) in
      let at : get_or (numbers n) k 0 ≡ k = get_or-range_with_len 0 n k 0 within ∙ (omega arith) in
      ap (λ (m : ℕ). ltb row_limit (left m)) at ∙ le-ltb row_limit (left k) (few_left distinct long under k within))
