-- A change of a warehouse: what it takes to be ready for it, and what committing it does.
use Rattle.std.specs.Prelude.{◌≡◌, ◌⊎◌, ℕ, ◌+◌, ◌-◌, ◌^◌, ◌<◌, ◌≤◌, nat_lt, Bool, true, List, ◌++◌, length, get_or, Option, None, Some, Result, Ok, Err}
use Rattle.std.specs.List.{position, AllByRecursion}
use Rattle.wh_base.specs.declared.value.Delta.{Delta}
use Rattle.wh_base.specs.RowSet.{AreDistinct, SameRows}
use Rattle.wh_base.specs.Tables.{without}
use Rattle.wh_codec.specs.declared.frame.Frame.TheVariants.{Change}
use Rattle.wh_codec.specs.Body.{IsSpelledDelta, frame_bytes}
use Rattle.wh_journal.specs.declared.journal.Journal.{Journal}
use Rattle.wh_schema.specs.Warehouse.{numbers}
use Rattle.wh_store.specs.declared.fault.StoreFault.{StoreFault}
use Rattle.wh_store.specs.declared.fault.StoreFault.TheVariants as fault
use Rattle.wh_store.specs.declared.warehouse.Place.{Place}
use Rattle.wh_store.specs.declared.warehouse.Warehouse.{Warehouse}
use Rattle.wh_store.specs.declared.warehouse.Which.{Which}
use Rattle.wh_store.specs.declared.warehouse.Which.TheVariants.{First, Second}
use Rattle.wh_store.specs.Image.{Image, Active, Holding, holding, no_delta, row_limit, changed_tables, are_stored_deltas, end_behind}
use Rattle.wh_store.specs.Warehouse.{IsWarehouseOf, IsPlaceOf, table_at}
use Rattle.wh_table.specs.Table.{IndexedRows, CanApply}

-- the body of a change with a number
abbrev pub change_body : ℕ → List Delta → List ℕ
change_body seq deltas = frame_bytes (Change seq deltas)

-- deltas, and the body of the frame that tells them
pub record ReadyChange : Type 0 where
  pub deltas : List Delta
  pub body : List ℕ

-- one delta for each table, which can be applied to it
pub record CanApplyAll (tables : List IndexedRows) (deltas : List Delta) : Type 0 where
  pub count : length deltas ≡ length tables
  pub each : (k : ℕ) → k < length tables → CanApply (table_at tables k).rows (get_or deltas k no_delta)

-- how many rows a table has after its delta
abbrev pub rows_after : List IndexedRows → List Delta → ℕ → ℕ
rows_after tables deltas k = let d = get_or deltas k no_delta in length (table_at tables k).rows - length d.deleted + length d.inserted

-- the first table that would have more than 4,000,000 rows
abbrev pub first_over_after : List IndexedRows → List Delta → Option ℕ
first_over_after tables deltas = position (λ k. nat_lt row_limit (rows_after tables deltas k)) (numbers (length tables))

-- the file would pass 2^40 bytes
abbrev pub is_past_limit : ℕ → List ℕ → Bool
is_past_limit end body = nat_lt (2 ^ 40) (end + 10 + length body)

-- what getting ready answers, for a warehouse at a place
abbrev pub IsMadeReady : Warehouse → Place → List Delta → Result ReadyChange StoreFault → Type 0
IsMadeReady w p deltas (Ok r) = (r ≡ record { deltas = deltas; body = change_body (w.seq + 1) deltas })
    × (first_over_after w.tables deltas ≡ None) × (w.seq < 2 ^ 64 - 1) × (p.journal.end + 10 + length r.body ≤ 2 ^ 40)
IsMadeReady w p deltas (Err (fault.RowLimit k)) = first_over_after w.tables deltas ≡ Some k
IsMadeReady w p deltas (Err fault.SequenceLimit) = (first_over_after w.tables deltas ≡ None) × (w.seq ≡ 2 ^ 64 - 1)
IsMadeReady w p deltas (Err fault.FileLimit) = (first_over_after w.tables deltas ≡ None) × (w.seq < 2 ^ 64 - 1) × (2 ^ 40 < p.journal.end + 10 + length (change_body (w.seq + 1) deltas))
IsMadeReady w p deltas (Err fault.NoMemory) = Unit {0}
IsMadeReady w p deltas (Err other) = ⊥

-- each table has room for the inserted rows
abbrev pub HasRoom : List IndexedRows → List Delta → Type 0
HasRoom tables deltas = (k : ℕ) → k < length tables → length (get_or deltas k no_delta).inserted ≤ (table_at tables k).spare

-- the tables have the same rows, width and indexed sets, and no less room
pub record AreKept (old new : List IndexedRows) : Type 0 where
  pub count : length new ≡ length old
  pub rows : (k : ℕ) → (table_at new k).rows ≡ (table_at old k).rows
  pub widths : (k : ℕ) → (table_at new k).width ≡ (table_at old k).width
  pub indexes : (k : ℕ) → (table_at new k).indexes ≡ (table_at old k).indexes
  pub room : (k : ℕ) → (table_at old k).spare ≤ (table_at new k).spare

-- the tables have the rows that the deltas make of them, each once
pub record AreChanged (old : List IndexedRows) (deltas : List Delta) (new : List IndexedRows) : Type 0 where
  pub count : length new ≡ length old
  pub rows : (k : ℕ) → k < length old → SameRows (table_at new k).rows (without (table_at old k).rows (get_or deltas k no_delta).deleted ++ (get_or deltas k no_delta).inserted)
  pub distinct : (k : ℕ) → k < length old → AreDistinct (table_at new k).rows
  pub widths : (k : ℕ) → (table_at new k).width ≡ (table_at old k).width
  pub indexes : (k : ℕ) → (table_at new k).indexes ≡ (table_at old k).indexes

-- ---- the files after a change

-- the active file with one change more
abbrev pub image_with : Image → List Delta → Image
image_with i deltas = record {
  generation = i.generation;
  seq = i.seq + 1;
  spec = i.spec;
  tables = changed_tables i.tables deltas;
  end = end_behind i.end (change_body (i.seq + 1) deltas);
}

abbrev pub active_with : Active → List Delta → Active
active_with a deltas = record { which = a.which; image = image_with a.image deltas }

-- of two, the one that stands for the active file, and the other
abbrev pub active_of : {X : Type 0} → Which → X → X → X
active_of First first second = first
active_of Second first second = second

abbrev pub other_of : {X : Type 0} → Which → X → X → X
other_of First first second = second
other_of Second first second = first

-- the journal behind one frame more
abbrev pub journal_behind : Journal → List ℕ → Journal
journal_behind journal body = record { end = journal.end + 9 + length body; length = journal.end + 9 + length body + 1 }

-- the warehouse and the place are those of what the two files hold
pub record Matches (active : Active) (first second : List ℕ) (w : Warehouse) (p : Place) : Type 0 where
  pub holds : holding first second ≡ Ok (Some active)
  pub warehouse : IsWarehouseOf active.image w
  pub place : IsPlaceOf active first second p

-- deltas that a frame can tell, and that obey the rules behind an image
pub record MayFollow (i : Image) (deltas : List Delta) : Type 0 where
  pub spelled : AllByRecursion IsSpelledDelta deltas
  pub count : length deltas < 2 ^ 32
  pub allowed : are_stored_deltas i.spec i.tables deltas ≡ true

-- where the files held what a warehouse and a place match, they now hold it with the deltas, and are matched again
abbrev pub Advances : List Delta → List ℕ → List ℕ → Warehouse → Place → List ℕ → List ℕ → Warehouse → Place → Type 0
Advances deltas first second w p first_new second_new w_new p_new =
    (active : Active) → Matches active first second w p → MayFollow active.image deltas → Matches (active_with active deltas) first_new second_new w_new p_new

-- what is held where some bytes stand in place of the active file
abbrev pub held_with : Which → List ℕ → List ℕ → List ℕ → Holding
held_with First image first second = holding image second
held_with Second image first second = holding first image

-- the state from before or the one with the deltas, as the whole of what is held
abbrev pub IsHeldBeforeOrAfter : Active → List Delta → List ℕ → List ℕ → List ℕ → Type 0
IsHeldBeforeOrAfter active deltas first second image =
    (held_with active.which image first second ≡ Ok (Some active)) ⊎ (held_with active.which image first second ≡ Ok (Some (active_with active deltas)))
