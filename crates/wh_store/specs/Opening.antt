-- What is known of a file while a store is opened.
use Rattle.std.specs.Prelude.{◌≡◌, ℕ, ◌<◌, Bool, true, ◌&&◌, ◌==◌, if◌then◌else◌, List, [], ◌++◌, length, map, get_or, Option, None, Some, Result, Ok, Err}
use Rattle.std.specs.List.{list_all, AllByRecursion}
use Rattle.std.specs.Str.{bytes_eq}
use Rattle.wh_base.specs.declared.value.Attr.{Attr}
use Rattle.wh_base.specs.declared.value.Delta.{Delta}
use Rattle.wh_base.specs.declared.head.Head.{Head}
use Rattle.wh_base.specs.Heads.{attrs_at}
use Rattle.wh_base.specs.RowSet.{AreDistinct, SameRows, in_order}
use Rattle.wh_codec.specs.Body.{IsSpelledValue}
use Rattle.wh_plan.specs.declared.plan.Plan.{Plan}
use Rattle.wh_plan.specs.Plan.{IsPlan}
use Rattle.wh_schema.specs.declared.spec.Spec.{Spec}
use Rattle.wh_schema.specs.Heads.{view_head, complement_head}
use Rattle.wh_schema.specs.Warehouse.{Row, numbers}
use Rattle.wh_spec_text.specs.declared.fault.SpecTextFault.{SpecTextFault}
use Rattle.wh_spec_text.specs.Printed.{spec_text}
use Rattle.wh_spec_text.specs.Textual.{IsTextualSpec}
use Rattle.wh_store.specs.declared.fault.StoreFault.{StoreFault}
use Rattle.wh_store.specs.declared.fault.StoreFault.TheVariants as fault
use Rattle.wh_store.specs.declared.replay.Replay.{Replay}
use Rattle.wh_store.specs.declared.replay.FileState.{FileState}
use Rattle.wh_store.specs.declared.replay.FileState.TheVariants as state
use Rattle.wh_store.specs.declared.warehouse.Which.{Which}
use Rattle.wh_store.specs.declared.warehouse.Which.TheVariants.{First, Second}
use Rattle.wh_store.specs.Image.{Image, Holding, file_image, fit_stored, fit_attrs, first_over, applies, no_delta}
use Rattle.wh_store.specs.Warehouse.{table_at}
use Rattle.wh_table.specs.Table.{IndexedRows}

-- ---- a snapshot's specification

-- the specification that a text says
abbrev pub said_by : Result Spec SpecTextFault → Option Spec
said_by (Ok spec) = Some spec
said_by (Err fault) = None

-- where its printed form is this text
abbrev pub if_printed : List ℕ → Option Spec → Option Spec
if_printed text None = None
if_printed text (Some spec) = if bytes_eq (spec_text spec) text then Some spec else None

-- ---- stored tables by their heads

-- the heads of the stored tables: those of the views, then those of the complements
abbrev pub stored_heads : Spec → List Head
stored_heads spec = map (view_head spec) spec.views ++ map complement_head spec.relations

-- one table for each head, of its kinds
abbrev pub fit_heads : List Head → List (List Row) → Bool
fit_heads stored tables = (length tables == length stored) && list_all (λ k. fit_attrs (attrs_at stored k) (get_or tables k [])) (numbers (length stored))

-- each value of each row has a spelling
abbrev pub AreSpelledTables : List (List Row) → Type 0
AreSpelledTables = AllByRecursion (AllByRecursion (AllByRecursion IsSpelledValue))

-- a table with these rows, each once, of a width and with indexed sets
pub record IsTableOf (width : ℕ) (sets : List (List ℕ)) (rows : List Row) (t : IndexedRows) : Type 0 where
  pub rows_same : SameRows t.rows rows
  pub distinct : AreDistinct t.rows
  pub width_is : t.width ≡ width
  pub indexes_are : t.indexes ≡ sets

-- one table for each list of rows, with the head's width and the plan's indexed sets
pub record AreTablesOf (plan : Plan) (stored : List Head) (rows : List (List Row)) (tables : List IndexedRows) : Type 0 where
  pub count : length tables ≡ length rows
  pub each : (k : ℕ) → k < length rows → IsTableOf (length (attrs_at stored k)) (get_or plan.indexes k []) (get_or rows k []) (table_at tables k)

-- each table has each of its rows once
abbrev pub AreDistinctTables : List IndexedRows → Type 0
AreDistinctTables tables = (k : ℕ) → k < length tables → AreDistinct (table_at tables k).rows

-- the rows of each table, in row order
abbrev pub ordered_rows : List IndexedRows → List (List Row)
ordered_rows tables = map (λ t. in_order t.rows) tables

-- ---- one file

-- the image that the frames so far come to
abbrev pub image_of : Replay → Image
image_of r = record { generation = r.generation; seq = r.seq; spec = r.plan.spec; tables = ordered_rows r.tables; end = r.journal.end }

-- Tables with the width and the indexed sets of a plan's stored ones, whose rows have their kinds and values that have a
-- spelling, and are few enough.
pub record AreSoundTables (plan : Plan) (stored : List Head) (tables : List IndexedRows) : Type 0 where
  pub form : AreTablesOf plan stored (ordered_rows tables) tables
  pub fits : fit_stored plan.spec (ordered_rows tables) ≡ true
  pub spelled : AreSpelledTables (ordered_rows tables)
  pub few : first_over (ordered_rows tables) ≡ None

-- The plan is that of a textual specification, and the tables are its stored ones.
pub record IsSound (r : Replay) : Type 0 where
  pub plan : IsPlan r.plan
  pub textual : IsTextualSpec r.plan.spec
  pub stored : r.stored ≡ stored_heads r.plan.spec
  pub tables : AreSoundTables r.plan r.stored r.tables

-- what was read of a file, as what it holds
abbrev pub found_of : FileState → Result (Option Image) ℕ
found_of state.Empty = Ok None
found_of (state.Held r) = Ok (Some (image_of r))
found_of (state.Damaged at) = Err at

abbrev pub IsSoundState : FileState → Type 0
IsSoundState state.Empty = Unit {0}
IsSoundState (state.Held r) = IsSound r
IsSoundState (state.Damaged at) = Unit {0}

-- the journal of a held state has this length
abbrev pub HasLength : ℕ → FileState → Type 0
HasLength n state.Empty = Unit {0}
HasLength n (state.Held r) = r.journal.length ≡ n
HasLength n (state.Damaged at) = Unit {0}

-- what was read is what the file holds
pub record IsStateOf (file : List ℕ) (read : FileState) : Type 0 where
  pub image : file_image file ≡ found_of read
  pub length : HasLength (length file) read

-- ---- changes

-- the delta applies to the rows, and the rows that it inserts have the kinds of the attributes
abbrev pub takes : List Attr → List Row → Delta → Bool
takes attrs rows d = applies rows d && fit_attrs attrs d.inserted

-- one delta for each table, which the table takes
abbrev pub all_take : List Head → List (List Row) → List Delta → Bool
all_take stored tables deltas =
    (length deltas == length tables) && list_all (λ k. takes (attrs_at stored k) (get_or tables k []) (get_or deltas k no_delta)) (numbers (length tables))

-- ---- both files

abbrev pub file_state : Which → FileState → FileState → FileState
file_state First first second = first
file_state Second first second = second

-- the state that counts is that of one of the files
abbrev pub IsChosen : FileState → FileState → Holding → Result (Which × Replay) StoreFault → Type 0
IsChosen first second holds (Ok chosen) = (holds ≡ Ok (Some (record { which = chosen.0; image = image_of chosen.1 }))) × (file_state chosen.0 first second ≡ state.Held chosen.1)
IsChosen first second holds (Err fault.NotLoaded) = holds ≡ Ok None
IsChosen first second holds (Err (fault.Damaged which at)) = holds ≡ Err (record { which = which; at = at })
IsChosen first second holds (Err other) = ⊥

-- a fault of the disk or of memory, which refuses nothing
abbrev pub IsNoRefusal : StoreFault → Type 0
IsNoRefusal fault.DiskFault = Unit {0}
IsNoRefusal fault.NoMemory = Unit {0}
IsNoRefusal other = ⊥
