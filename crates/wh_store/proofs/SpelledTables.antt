-- Rows whose values have a spelling, before and after changes that have one.
use Rattle.std.proofs.Common.{ℕ, zero, suc, not, inl, inr, List, [], ◌∷◌, ◌++◌, length, get_or, Contains, subst}
use Rattle.std.specs.List.{AllByRecursion}
use Rattle.std.proofs.lemmas.List.Elements.{Contains-append_cases, Contains-get_or}
use Rattle.wh_base.specs.declared.value.Delta.{Delta}
use Rattle.wh_base.specs.RowSet.{has}
use Rattle.wh_base.specs.Tables.{without}
use Rattle.wh_base.proofs.InOrder.{Contains-from_in_order}
use Rattle.wh_codec.specs.Body.{IsSpelledDelta, IsSpelledRow, IsSpelledTable, IsSpelledValue}
use Rattle.wh_laws.proofs.Lists.{filter_from}
use Rattle.wh_schema.specs.Warehouse.{Row, numbers}
use Rattle.wh_store.specs.Image.{changed_table, changed_tables, no_delta}
use Rattle.wh_store.specs.Opening.{AreSpelledTables}
use Rattle.wh_store.proofs.StoredLemmas.{all_from, all_mapped, item_of}

-- each value of each row has a spelling
abbrev pub AreSpelled : List Row → Type 0
AreSpelled = AllByRecursion (AllByRecursion IsSpelledValue)

-- ---- what holds of each row

pub each_row : (P : Row → Type 0) (rows : List Row) → AllByRecursion P rows → (x : Row) → Contains rows x → P x
each_row P rows all x there = subst P there.2 (item_of P rows x there.0 all there.1)

pub all_rows : (P : Row → Type 0) (rows : List Row) → ((x : Row) → Contains rows x → P x) → AllByRecursion P rows
all_rows P rows h = all_from P rows [] (λ k below. h (get_or rows k []) (Contains-get_or rows k [] below))

-- what holds of each row of a table and of each inserted one holds of each row after the change
pub after_change : (P : Row → Type 0) (rows : List Row) (d : Delta) → ((x : Row) → Contains rows x → P x) → ((x : Row) → Contains d.inserted x → P x)
    → (x : Row) → Contains (without rows d.deleted ++ d.inserted) x → P x
after_change P rows d old new x there =
    elim (Contains-append_cases (without rows d.deleted) d.inserted x there) [
      | inl kept ↦ old x (filter_from (λ r. not (has d.deleted r)) rows x kept).0
      | inr come ↦ new x come
    ]

-- ---- rows that have a spelling

pub rows_values : (rows : List Row) → AllByRecursion IsSpelledRow rows → AreSpelled rows
rows_values [] all = tt
rows_values (row ∷ rows) all = (all.0.values, rows_values rows all.1)

pub tables_values : (tables : List (List Row)) → AllByRecursion (AllByRecursion IsSpelledRow) tables → AreSpelledTables tables
tables_values [] all = tt
tables_values (rows ∷ tables) all = (rows_values rows all.0, tables_values tables all.1)

pub tables_spelled : (tables : List (List Row)) → AllByRecursion IsSpelledTable tables → AreSpelledTables tables
tables_spelled [] all = tt
tables_spelled (rows ∷ tables) all = (rows_values rows all.0.rows, tables_spelled tables all.1)

table_spelled : (tables : List (List Row)) → AreSpelledTables tables → (k : ℕ) → AreSpelled (get_or tables k [])
table_spelled [] all k = tt
table_spelled (rows ∷ tables) all zero = all.0
table_spelled (rows ∷ tables) all (suc k) = table_spelled tables all.1 k

pub inserted_spelled : (deltas : List Delta) → AllByRecursion IsSpelledDelta deltas → (k : ℕ) → AreSpelled (get_or deltas k no_delta).inserted
inserted_spelled [] all k = tt
inserted_spelled (d ∷ deltas) all zero = rows_values d.inserted all.0.inserted.rows
inserted_spelled (d ∷ deltas) all (suc k) = inserted_spelled deltas all.1 k

-- ---- changes

changed_rows : (rows : List Row) (d : Delta) → AreSpelled rows → AreSpelled d.inserted → AreSpelled (changed_table rows d)
changed_rows rows d old new =
    let P : Row → Type 0 = AllByRecursion IsSpelledValue in
    all_rows P (changed_table rows d) (λ x there.
    after_change P rows d (each_row P rows old) (each_row P d.inserted new) x (Contains-from_in_order (without rows d.deleted ++ d.inserted) x there))

-- tables keep their spelling through deltas that have one
pub changed_spelled : (tables : List (List Row)) (deltas : List Delta) → AreSpelledTables tables → AllByRecursion IsSpelledDelta deltas → AreSpelledTables (changed_tables tables deltas)
changed_spelled tables deltas old new =
    all_mapped AreSpelled (λ k. changed_table (get_or tables k []) (get_or deltas k no_delta)) (numbers (length tables))
    (λ k. changed_rows (get_or tables k []) (get_or deltas k no_delta) (table_spelled tables old k) (inserted_spelled deltas new k))
