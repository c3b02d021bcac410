-- The rows of a warehouse's tables have the kinds of the tables and a spelling, and are few enough.
use Rattle.std.proofs.Common.{◌≡◌, ℕ, ◌+◌, ◌-◌, ◌<◌, ◌≤◌, Bool, true, List, [], ◌++◌, length, get_or, None, Contains, nat_eq, nat_lt, sym, subst, ◌∙◌, arith}
use Rattle.std.specs.Cmp.Lexicographic.{pointwise}
use Rattle.std.specs.List.{AllByRecursion, list_all}
use Rattle.std.proofs.lemmas.Bool.{eqb-true, ltb-false}
use Rattle.std.proofs.lemmas.List.{length-append}
use Rattle.wh_base.specs.declared.head.Head.{Head}
use Rattle.wh_base.specs.declared.value.Attr.{Attr}
use Rattle.wh_base.specs.declared.value.Delta.{Delta}
use Rattle.wh_base.specs.RowSet.{AreDistinct, SameRows}
use Rattle.wh_base.specs.Tables.{without}
use Rattle.wh_base.specs.Value.{kinds, row_kinds}
use Rattle.wh_base.proofs.InOrder.{any-Contains}
use Rattle.wh_codec.specs.Body.{IsSpelledDelta, IsSpelledValue}
use Rattle.wh_expr.specs.Typing.{kind_eq}
use Rattle.wh_laws.proofs.Lists.{every_from, every_in}
use Rattle.wh_plan.specs.declared.plan.Plan.{Plan}
use Rattle.wh_schema.specs.Warehouse.{Row, numbers}
use Rattle.wh_table.specs.Table.{CanApply}
use Rattle.wh_store.specs.declared.warehouse.Warehouse.{Warehouse}
use Rattle.wh_store.specs.Commit.{AreChanged, CanApplyAll, first_over_after}
use Rattle.wh_store.specs.Image.{first_over, fit_attrs, fit_stored, fits_stored, no_delta, row_limit, stored_attrs, stored_count}
use Rattle.wh_store.specs.Opening.{AreSpelledTables, AreTablesOf}
use Rattle.wh_store.specs.Warehouse.{HoldsValues, IsInForm, table_at}
use Rattle.wh_store.proofs.Allowed.{fewer, no_more, none_passes, within}
use Rattle.wh_store.proofs.SpelledTables.{AreSpelled, after_change, all_rows, each_row, inserted_spelled}
use Rattle.wh_store.proofs.StoredLemmas.{all_at, and_true, item_of}

-- a row has the kinds of the attributes
abbrev suits : List Attr → Row → Bool
suits attrs row = pointwise kind_eq (row_kinds row) (kinds attrs)

-- ---- the same rows

module _ (held meant : List Row) (same : SameRows held meant) where
  member : (x : Row) → Contains held x → Contains meant x
  member x there = (any-Contains meant x).0 (sym (same x) ∙ (any-Contains held x).1 there)

  same_fit : (attrs : List Attr) → fit_attrs attrs meant ≡ true → fit_attrs attrs held ≡ true
  same_fit attrs fit = every_in (suits attrs) held (λ x there. every_from (suits attrs) meant fit x (member x there))

  same_spelled : AreSpelled meant → AreSpelled held
  same_spelled all = all_rows (AllByRecursion IsSpelledValue) held (λ x there. each_row (AllByRecursion IsSpelledValue) meant all x (member x there))

  same_few : AreDistinct held → length held ≤ length meant
  same_few distinct = no_more held meant distinct (λ row there. sym (same row) ∙ there)

-- ---- tables of rows

module _ (w : Warehouse) (stored : List Head) (rows : List (List Row)) (fits : fit_stored w.plan.spec rows ≡ true) (spelled : AreSpelledTables rows) (few : first_over rows ≡ None) (are : AreTablesOf w.plan stored rows w.tables) where
  parts : (nat_eq (length rows) (stored_count w.plan.spec) ≡ true) × (list_all (λ k. fits_stored w.plan.spec k (get_or rows k [])) (numbers (stored_count w.plan.spec)) ≡ true)
  parts = and_true (nat_eq (length rows) (stored_count w.plan.spec)) (list_all (λ k. fits_stored w.plan.spec k (get_or rows k [])) (numbers (stored_count w.plan.spec))) fits

  inside : (k : ℕ) → k < stored_count w.plan.spec → k < length rows
  inside k below = omega (arith, below, eqb-true (length rows) (stored_count w.plan.spec) parts.0)

  same_at : (k : ℕ) → k < stored_count w.plan.spec → SameRows (table_at w.tables k).rows (get_or rows k [])
  same_at k below = (are.each k (inside k below)).rows_same

  few_at : (k : ℕ) → k < stored_count w.plan.spec → length (get_or rows k []) ≤ row_limit
  few_at k below = ltb-false row_limit (length (get_or rows k [])) (none_passes (λ (r : List Row). nat_lt row_limit (length r)) rows k [] few (inside k below))

  pub holds_values : HoldsValues w
  holds_values = record {
    fits = λ k below. same_fit (table_at w.tables k).rows (get_or rows k []) (same_at k below) (stored_attrs w.plan.spec k)
        (all_at (λ j. fits_stored w.plan.spec j (get_or rows j [])) (stored_count w.plan.spec) k parts.1 below);
    spelled = λ k below. same_spelled (table_at w.tables k).rows (get_or rows k []) (same_at k below) (item_of AreSpelled rows [] k spelled (inside k below));
    under = λ k below. omega (arith, same_few (table_at w.tables k).rows (get_or rows k []) (same_at k below) (are.each k (inside k below)).distinct, few_at k below);
  }

-- ---- one table after its delta

module _ (old new : List Row) (d : Delta) (same : SameRows new (without old d.deleted ++ d.inserted)) where
  abbrev after : List Row
  after = without old d.deleted ++ d.inserted

  fits_after : (attrs : List Attr) → fit_attrs attrs old ≡ true → fit_attrs attrs d.inserted ≡ true → fit_attrs attrs new ≡ true
  fits_after attrs fit come =
      same_fit new after same attrs
      (every_in (suits attrs) after (after_change (λ x. suits attrs x ≡ true) old d (every_from (suits attrs) old fit) (every_from (suits attrs) d.inserted come)))

  spelled_after : AreSpelled old → AreSpelled d.inserted → AreSpelled new
  spelled_after all come =
      let P : Row → Type 0 = AllByRecursion IsSpelledValue in
      same_spelled new after same (all_rows P after (after_change P old d (each_row P old all) (each_row P d.inserted come)))

  few_after : AreDistinct new → CanApply old d → length new ≤ length old - length d.deleted + length d.inserted
  few_after distinct can =
      omega (arith, same_few new after same distinct, length-append (without old d.deleted) d.inserted, fewer old d.deleted can.deleted_once can.present)

-- ---- all tables after their deltas

module _ (w_old w_new : Warehouse) (deltas : List Delta) (same : w_new.plan ≡ w_old.plan) (form : IsInForm w_old) (holds : HoldsValues w_old) (can : CanApplyAll w_old.tables deltas) (are : AreChanged w_old.tables deltas w_new.tables)
    (fit : (k : ℕ) → k < stored_count w_old.plan.spec → fits_stored w_old.plan.spec k (get_or deltas k no_delta).inserted ≡ true) (spelled : AllByRecursion IsSpelledDelta deltas)
    (room : first_over_after w_old.tables deltas ≡ None) where
  abbrev held : ℕ → List Row
  held k = (table_at w_old.tables k).rows

  abbrev now : ℕ → List Row
  now k = (table_at w_new.tables k).rows

  abbrev delta : ℕ → Delta
  delta k = get_or deltas k no_delta

  back : (k : ℕ) → k < stored_count w_new.plan.spec → k < stored_count w_old.plan.spec
  back k below = subst (λ (p : Plan). k < stored_count p.spec) same below

  one : (k : ℕ) → k < stored_count w_old.plan.spec → k < length w_old.tables
  one k below = omega (arith, below, form.count)

  fits_now : (k : ℕ) → k < stored_count w_old.plan.spec → fits_stored w_old.plan.spec k (now k) ≡ true
  fits_now k below = fits_after (held k) (now k) (delta k) (are.rows k (one k below)) (stored_attrs w_old.plan.spec k) (holds.fits k below) (fit k below)

  pub changed_hold_values : HoldsValues w_new
  changed_hold_values = record {
    fits = λ k below. subst (λ (p : Plan). fits_stored p.spec k (now k) ≡ true) (sym same) (fits_now k (back k below));
    spelled = λ k below. spelled_after (held k) (now k) (delta k) (are.rows k (one k (back k below))) (holds.spelled k (back k below)) (inserted_spelled deltas spelled k);
    under = λ k below.
        let here = one k (back k below) in
        omega (arith, few_after (held k) (now k) (delta k) (are.rows k here) (are.distinct k here) (can.each k here), within w_old deltas k room here);
  }
