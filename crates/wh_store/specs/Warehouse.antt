-- A warehouse in memory, and the place in the files that it stands at.
use Rattle.std.specs.Prelude.{◌≡◌, ℕ, ◌<◌, ◌≤◌, true, List, [], length, get_or, Some, Ok}
use Rattle.std.specs.List.{AllByRecursion}
use Rattle.wh_base.specs.RowSet.{SameRows}
use Rattle.wh_codec.specs.Body.{IsSpelledValue}
use Rattle.wh_laws.specs.Laws.{LegalState}
use Rattle.wh_plan.specs.Plan.{IsPlan}
use Rattle.wh_schema.specs.declared.spec.Spec.{Spec}
use Rattle.wh_schema.specs.Warehouse.{Row, State, stored}
use Rattle.wh_spec_text.specs.Textual.{IsTextualSpec}
use Rattle.wh_store.specs.declared.warehouse.Place.{Place}
use Rattle.wh_store.specs.declared.warehouse.Warehouse.{Warehouse}
use Rattle.wh_store.specs.declared.warehouse.Which.{Which}
use Rattle.wh_store.specs.declared.warehouse.Which.TheVariants.{First, Second}
use Rattle.wh_store.specs.Image.{Image, Active, holding, stored_count, stored_attrs, fits_stored, row_limit}
use Rattle.wh_table.specs.Table.{IndexedRows}

abbrev pub no_table : IndexedRows
no_table = record { rows = []; width = 0; indexes = []; spare = 0 }

abbrev pub table_at : List IndexedRows → ℕ → IndexedRows
table_at tables k = get_or tables k no_table

-- The plan is that of an accepted specification, and there is one table for each that is stored, with its width and its indexed sets.
pub record IsInForm (w : Warehouse) : Type 0 where
  pub textual : IsTextualSpec w.plan.spec
  pub plan : IsPlan w.plan
  pub count : length w.tables ≡ stored_count w.plan.spec
  pub widths : (k : ℕ) → k < stored_count w.plan.spec → (table_at w.tables k).width ≡ length (stored_attrs w.plan.spec k)
  pub indexes : (k : ℕ) → k < stored_count w.plan.spec → (table_at w.tables k).indexes ≡ get_or w.plan.indexes k []

-- Each row of a table has the kinds of the table's attributes, each value has a spelling, and no table has more than 4,000,000 rows.
pub record HoldsValues (w : Warehouse) : Type 0 where
  pub fits : (k : ℕ) → k < stored_count w.plan.spec → fits_stored w.plan.spec k (table_at w.tables k).rows ≡ true
  pub spelled : (k : ℕ) → k < stored_count w.plan.spec → AllByRecursion (AllByRecursion IsSpelledValue) (table_at w.tables k).rows
  pub under : (k : ℕ) → k < stored_count w.plan.spec → length (table_at w.tables k).rows ≤ row_limit

-- the tables have these rows
abbrev pub HasRows : Spec → List (List Row) → Warehouse → Type 0
HasRows spec tables w = (k : ℕ) → k < stored_count spec → SameRows (table_at w.tables k).rows (get_or tables k [])

-- The warehouse has the specification, the rows of the tables and the number of changes of an image.
pub record IsWarehouseOf (i : Image) (w : Warehouse) : Type 0 where
  pub form : IsInForm w
  pub spec : w.plan.spec ≡ i.spec
  pub rows : HasRows i.spec i.tables w
  pub seq : w.seq ≡ i.seq

abbrev pub file_in : Which → List ℕ → List ℕ → List ℕ
file_in First first second = first
file_in Second first second = second

-- The place is that of the active file's image, and may be written at.
pub record IsPlaceOf (active : Active) (first second : List ℕ) (p : Place) : Type 0 where
  pub which : p.which ≡ active.which
  pub generation : p.generation ≡ active.image.generation
  pub end : p.journal.end ≡ active.image.end
  pub length : p.journal.length ≡ length (file_in active.which first second)
  pub live : p.live ≡ true

-- the files hold the stored tables of a legal state of a specification after n changes
pub record Stands (first second : List ℕ) (spec : Spec) (s : State) (n : ℕ) : Type 0 where
  pub legal : LegalState spec s
  pub active : Active
  pub holds : holding first second ≡ Ok (Some active)
  pub spec_is : active.image.spec ≡ spec
  pub tables : active.image.tables ≡ stored spec s
  pub seq : active.image.seq ≡ n
