-- Tables in memory beside the lists of rows that they stand for.
use Rattle.std.proofs.Common.{◌≡◌, ℕ, zero, suc, ◌<◌, Bool, true, false, not, ◌&&◌, List, [], ◌∷◌, ◌++◌, length, get_or, Option, None, Some, is_some, if◌then◌else◌, nat_eq, nat_lt, refl, sym, ap, subst, ◌∙◌, arith, eq-eqb}
use Rattle.std.specs.List.{AllByRecursion, list_all, list_any, position}
use Rattle.std.proofs.lemmas.Bool.{eqb-true}
use Rattle.std.proofs.lemmas.List.{length-map, ext_get_or, append-nil}
use Rattle.wh_base.specs.declared.head.Head.{Head}
use Rattle.wh_base.specs.declared.value.Attr.{Attr}
use Rattle.wh_base.specs.declared.value.Delta.{Delta}
use Rattle.wh_base.specs.Heads.{attrs_at}
use Rattle.wh_base.specs.RowSet.{AreDistinct, IsAscending, SameRows, has, in_order}
use Rattle.wh_base.specs.Tables.{without}
use Rattle.wh_base.proofs.InOrder.{IsAscending-in_order, SameRows-in_order, in_order-same, in_order-unique}
use Rattle.wh_base.proofs.RowSets.{SameRows-append, SameRows-filter}
use Rattle.wh_codec.specs.Body.{IsSpelledDelta}
use Rattle.wh_plan.specs.declared.plan.Plan.{Plan}
use Rattle.wh_schema.specs.Warehouse.{Row, numbers}
use Rattle.wh_table.specs.Table.{IndexedRows, CanApply}
use Rattle.wh_store.specs.Commit.{AreChanged, CanApplyAll}
use Rattle.wh_store.specs.Image.{applies, are_stored_deltas, changed_table, changed_tables, first_over, fit_attrs, fit_stored, no_delta, row_limit}
use Rattle.wh_store.specs.Opening.{stored_heads, takes, all_take, ordered_rows, AreDistinctTables, AreSoundTables, AreSpelledTables, AreTablesOf}
use Rattle.wh_store.specs.Warehouse.{no_table, table_at}
use Rattle.wh_store.proofs.Allowed.{list_all_same, list_any_same, no_more}
use Rattle.wh_store.proofs.ChangedTables.{changed_all, keep_all, new_fits, not_stored, stored_by_rows}
use Rattle.wh_store.proofs.SpelledTables.{changed_spelled}
use Rattle.wh_store.proofs.StoredLemmas.{all_at, all_below, and_both, and_fails, and_true, item_of, one_fails}
use Rattle.wh_store.proofs.TableLemmas.{ascending_distinct}
use Rattle.wh_store.proofs.TableSteps.{position_same}
use Rattle.wh_store.proofs.SoundFiles.{none_is}

-- ---- one table

same_applies : (held meant : List Row) (d : Delta) → SameRows held meant → applies held d ≡ applies meant d
same_applies held meant d same = λ i. list_all_same (has held) (has meant) same d.deleted i && not (list_any_same (has held) (has meant) same d.inserted i)

ordered_takes : (attrs : List Attr) (rows : List Row) (d : Delta) → takes attrs (in_order rows) d ≡ takes attrs rows d
ordered_takes attrs rows d = ap (λ (b : Bool). b && fit_attrs attrs d.inserted) (same_applies (in_order rows) rows d (SameRows-in_order rows))

-- distinct rows are as many in order
ordered_length : (rows : List Row) → AreDistinct rows → length (in_order rows) ≡ length rows
ordered_length rows distinct =
    let same = SameRows-in_order rows in
    omega (
      arith,
      no_more (in_order rows) rows (ascending_distinct (in_order rows) (IsAscending-in_order rows)) (λ row there. sym (same row) ∙ there),
      no_more rows (in_order rows) distinct (λ row there. same row ∙ there),
    )

ascending_itself : (rows : List Row) → IsAscending rows → in_order rows ≡ rows
ascending_itself rows up = sym (in_order-unique rows rows up (λ q. (λ h. h, λ h. h)))

-- a change with no row leaves the rows
pub untouched : (rows : List Row) (d : Delta) → d.deleted ≡ [] → d.inserted ≡ [] → without rows d.deleted ++ d.inserted ≡ rows
untouched rows d gone come = (λ i. without rows (gone i) ++ come i) ∙ append-nil (without rows []) ∙ keep_all rows

changed_in_order : (rows : List Row) (d : Delta) → in_order (without rows d.deleted ++ d.inserted) ≡ changed_table (in_order rows) d
changed_in_order rows d =
    let gone = λ (r : Row). not (has d.deleted r) in
    in_order-same (without rows d.deleted ++ d.inserted) (without (in_order rows) d.deleted ++ d.inserted)
    (SameRows-append (without rows d.deleted) d.inserted (without (in_order rows) d.deleted) d.inserted
    (SameRows-filter gone gone (λ r. refl) rows (in_order rows) (λ r. sym (SameRows-in_order rows r))) (λ r. refl))

-- ---- all tables

pub ordered_count : (tables : List IndexedRows) → length (ordered_rows tables) ≡ length tables
ordered_count tables = length-map tables (λ t. in_order t.rows)

pub ordered_at : (tables : List IndexedRows) (k : ℕ) → get_or (ordered_rows tables) k [] ≡ in_order (table_at tables k).rows
ordered_at [] k = refl
ordered_at (t ∷ tables) zero = refl
ordered_at (t ∷ tables) (suc k) = ordered_at tables k

-- tables of rows in order
pub ordered_is : (plan : Plan) (stored : List Head) (rows : List (List Row)) (tables : List IndexedRows) → AreTablesOf plan stored rows tables → AllByRecursion IsAscending rows → ordered_rows tables ≡ rows
ordered_is plan stored rows tables are up =
    let count = ordered_count tables ∙ are.count in
    ext_get_or [] (ordered_rows tables) rows count (λ k below.
    let inside : k < length rows = omega (arith, count) in
    ordered_at tables k ∙ in_order-same (table_at tables k).rows (get_or rows k []) (are.each k inside).rows_same ∙ ascending_itself (get_or rows k []) (item_of IsAscending rows [] k up inside))

pub distinct_tables : (plan : Plan) (stored : List Head) (tables : List IndexedRows) → AreTablesOf plan stored (ordered_rows tables) tables → AreDistinctTables tables
distinct_tables plan stored tables are k below = (are.each k (omega (arith, ordered_count tables))).distinct

-- the first table over the limit is that of the list over the limit
first_held : (tables : List IndexedRows) → AreDistinctTables tables → position (λ t. nat_lt row_limit (length t.rows)) tables ≡ first_over (ordered_rows tables)
first_held tables distinct =
    position_same (λ t. nat_lt row_limit (length t.rows)) (λ rows. nat_lt row_limit (length rows)) tables (ordered_rows tables) no_table [] (ordered_count tables)
    (λ k below. ap (λ (rows : List Row). nat_lt row_limit (length rows)) (ordered_at tables k) ∙ ap (λ (n : ℕ). nat_lt row_limit n) (ordered_length (table_at tables k).rows (distinct k below)))

-- ---- whether all tables take their deltas

module _ (stored : List Head) (tables : List IndexedRows) (deltas : List Delta) where
  abbrev Takes : ℕ → Bool
  Takes k = takes (attrs_at stored k) (get_or (ordered_rows tables) k []) (get_or deltas k no_delta)

  held_takes : (k : ℕ) → Takes k ≡ takes (attrs_at stored k) (table_at tables k).rows (get_or deltas k no_delta)
  held_takes k = ap (λ (rows : List Row). takes (attrs_at stored k) rows (get_or deltas k no_delta)) (ordered_at tables k) ∙ ordered_takes (attrs_at stored k) (table_at tables k).rows (get_or deltas k no_delta)

  pub take_all : length deltas ≡ length tables → ((k : ℕ) → k < length tables → takes (attrs_at stored k) (table_at tables k).rows (get_or deltas k no_delta) ≡ true) → true ≡ all_take stored (ordered_rows tables) deltas
  take_all count each =
      sym (and_both (nat_eq (length deltas) (length (ordered_rows tables))) (list_all Takes (numbers (length (ordered_rows tables))))
      (eq-eqb (length deltas) (length (ordered_rows tables)) (count ∙ sym (ordered_count tables)))
      (all_below Takes (length (ordered_rows tables)) (λ k below. held_takes k ∙ each k (omega (arith, ordered_count tables)))))

  pub take_fails : (k : ℕ) → k < length tables → takes (attrs_at stored k) (table_at tables k).rows (get_or deltas k no_delta) ≡ false → false ≡ all_take stored (ordered_rows tables) deltas
  take_fails k below fails =
      sym (and_fails (nat_eq (length deltas) (length (ordered_rows tables))) (list_all Takes (numbers (length (ordered_rows tables))))
      (one_fails Takes (length (ordered_rows tables)) k (omega (arith, ordered_count tables)) (held_takes k ∙ fails)))

  pub take_count : (length deltas ≡ length tables → ⊥) → false ≡ all_take stored (ordered_rows tables) deltas
  take_count other = by (nat_eq (length deltas) (length (ordered_rows tables))) refl
    where
      by : (b : Bool) → nat_eq (length deltas) (length (ordered_rows tables)) ≡ b → false ≡ all_take stored (ordered_rows tables) deltas
      by true e = absurd (other (eqb-true (length deltas) (length (ordered_rows tables)) e ∙ ordered_count tables))
      by false e = sym (ap (λ (b : Bool). b && list_all Takes (numbers (length (ordered_rows tables)))) e)

  pub can_apply : all_take stored (ordered_rows tables) deltas ≡ true → AllByRecursion IsSpelledDelta deltas → CanApplyAll tables deltas
  can_apply all spelled =
      let parts = and_true (nat_eq (length deltas) (length (ordered_rows tables))) (list_all Takes (numbers (length (ordered_rows tables)))) all in
      let count : length deltas ≡ length (ordered_rows tables) = eqb-true (length deltas) (length (ordered_rows tables)) parts.0 in
      record { count = count ∙ ordered_count tables; each = λ k below. one k (omega (arith, count, ordered_count tables)) (all_at Takes (length (ordered_rows tables)) k parts.1 (omega (arith, ordered_count tables))) }
    where
      not_false : (b : Bool) → not b ≡ true → b ≡ false
      not_false false e = refl
      not_false true e = absurd cc

      one : (k : ℕ) → k < length deltas → Takes k ≡ true → CanApply (table_at tables k).rows (get_or deltas k no_delta)
      one k below told =
          let rows = (table_at tables k).rows in
          let d = get_or deltas k no_delta in
          let use_it = and_true (applies rows d) (fit_attrs (attrs_at stored k) d.inserted) (sym (held_takes k) ∙ told) in
          let both = and_true (list_all (has rows) d.deleted) (not (list_any (has rows) d.inserted)) use_it.0 in
          let spelling = item_of IsSpelledDelta deltas no_delta k spelled below in
          record {
            present = both.0;
            absent = not_false (list_any (has rows) d.inserted) both.1;
            deleted_once = ascending_distinct d.deleted spelling.deleted.ascending;
            inserted_once = ascending_distinct d.inserted spelling.inserted.ascending;
          }

-- ---- all tables after their deltas

pub ordered_changed : (old : List IndexedRows) (deltas : List Delta) (new : List IndexedRows) → AreChanged old deltas new → ordered_rows new ≡ changed_tables (ordered_rows old) deltas
ordered_changed old deltas new are =
    changed_all (ordered_rows old) deltas (ordered_rows new) (ordered_count new ∙ are.count ∙ sym (ordered_count old))
    (λ k below. let d = get_or deltas k no_delta in
    ordered_at new k
    ∙ in_order-same (table_at new k).rows (without (table_at old k).rows d.deleted ++ d.inserted) (are.rows k (omega (arith, ordered_count old)))
    ∙ changed_in_order (table_at old k).rows d
    ∙ ap (λ (rows : List Row). changed_table rows d) (sym (ordered_at old k)))

form_kept : (plan : Plan) (stored : List Head) (old : List IndexedRows) (deltas : List Delta) (new : List IndexedRows) → AreTablesOf plan stored (ordered_rows old) old → AreChanged old deltas new → AreTablesOf plan stored (ordered_rows new) new
form_kept plan stored old deltas new form are = record {
  count = sym (ordered_count new);
  each = λ k below.
      let inside : k < length old = omega (arith, ordered_count new, are.count) in
      let before = form.each k (omega (arith, inside, ordered_count old)) in
      record {
        rows_same = λ r. sym (ap (λ (rows : List Row). has rows r) (ordered_at new k) ∙ SameRows-in_order (table_at new k).rows r);
        distinct = are.distinct k inside;
        width_is = are.widths k ∙ before.width_is;
        indexes_are = are.indexes k ∙ before.indexes_are;
      };
}

-- tables of a snapshot
pub sound_from : (plan : Plan) (stored : List Head) (rows : List (List Row)) (tables : List IndexedRows) → AreTablesOf plan stored rows tables → ordered_rows tables ≡ rows
    → fit_stored plan.spec rows ≡ true → AreSpelledTables rows → first_over rows ≡ None → AreSoundTables plan stored tables
sound_from plan stored rows tables are is fits spelled few = record {
  form = subst (λ (r : List (List Row)). AreTablesOf plan stored r tables) (sym is) are;
  fits = ap (fit_stored plan.spec) is ∙ fits;
  spelled = subst AreSpelledTables (sym is) spelled;
  few = ap first_over is ∙ few;
}

module _ (plan : Plan) (stored : List Head) (old : List IndexedRows) (deltas : List Delta) (is : stored ≡ stored_heads plan.spec) (sound : AreSoundTables plan stored old) where
  abbrev Next : Option (List (List Row))
  Next = if are_stored_deltas plan.spec (ordered_rows old) deltas then Some (changed_tables (ordered_rows old) deltas) else None

  pub next_refused : all_take stored (ordered_rows old) deltas ≡ false → None ≡ Next
  next_refused fails =
      sym (ap (λ (b : Bool). if b then Some (changed_tables (ordered_rows old) deltas) else None)
      (not_stored plan.spec (ordered_rows old) deltas sound.fits (ap (λ (hs : List Head). all_take hs (ordered_rows old) deltas) (sym is) ∙ fails)))

  module _ (all : all_take stored (ordered_rows old) deltas ≡ true) (new : List IndexedRows) (are : AreChanged old deltas new) where
    taken : all_take (stored_heads plan.spec) (ordered_rows old) deltas ≡ true
    taken = ap (λ (hs : List Head). all_take hs (ordered_rows old) deltas) (sym is) ∙ all

    form_after : AreTablesOf plan stored (ordered_rows new) new
    form_after = form_kept plan stored old deltas new sound.form are

    rows_after : ordered_rows new ≡ changed_tables (ordered_rows old) deltas
    rows_after = ordered_changed old deltas new are

    over : position (λ t. nat_lt row_limit (length t.rows)) new ≡ first_over (changed_tables (ordered_rows old) deltas)
    over = first_held new (distinct_tables plan stored new form_after) ∙ ap first_over rows_after

    next_is : (b : Bool) → is_some (position (λ t. nat_lt row_limit (length t.rows)) new) ≡ b → (if not b then Some (changed_tables (ordered_rows old) deltas) else None) ≡ Next
    next_is b e =
        sym (ap (λ (c : Bool). if c then Some (changed_tables (ordered_rows old) deltas) else None)
        (stored_by_rows plan.spec (ordered_rows old) deltas sound.fits taken ∙ ap not (sym (ap is_some over) ∙ e)))

    pub next_full : is_some (position (λ t. nat_lt row_limit (length t.rows)) new) ≡ true → None ≡ Next
    next_full e = next_is true e

    pub next_made : is_some (position (λ t. nat_lt row_limit (length t.rows)) new) ≡ false → Some (ordered_rows new) ≡ Next
    next_made e = ap (λ (t : List (List Row)). Some t) rows_after ∙ next_is false e

    pub sound_after : AllByRecursion IsSpelledDelta deltas → is_some (position (λ t. nat_lt row_limit (length t.rows)) new) ≡ false → AreSoundTables plan stored new
    sound_after spelled e = record {
      form = form_after;
      fits = ap (fit_stored plan.spec) rows_after ∙ new_fits plan.spec (ordered_rows old) deltas sound.fits taken;
      spelled = subst AreSpelledTables (sym rows_after) (changed_spelled (ordered_rows old) deltas sound.spelled spelled);
      few = ap first_over rows_after ∙ none_is (first_over (changed_tables (ordered_rows old) deltas)) (ap not (sym (ap is_some over) ∙ e));
    }
