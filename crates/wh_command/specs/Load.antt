-- What the command `load SPEC DIR` comes to: the stored tables of the dumps are written to an empty store, and counted in a line.
use Rattle.std.specs.Prelude.{◌≡◌, ◌⊎◌, ℕ, ◌+◌, true, false, if◌then◌else◌, List, [], ◌∷◌, ◌++◌, length, Option, None, Some, Result, Ok, Err, OnOk, codes, decimal}
use Rattle.std.specs.List.{AllByRecursion}
use Rattle.wh_base.specs.Lines.{line}
use Rattle.wh_base.specs.RowSet.{IsAscending}
use Rattle.wh_codec.specs.Body.{IsSpelledRow}
use Rattle.wh_io.specs.Crash.{LeavesOnly}
use Rattle.wh_io.specs.Files.{Held}
use Rattle.wh_io.specs.Sink.{gained, GainsPrefix}
use Rattle.wh_plan.specs.Plan.{IsPlan, too_many}
use Rattle.wh_schema.specs.declared.spec.Spec.{Spec}
use Rattle.wh_schema.specs.Warehouse.{Row}
use Rattle.wh_spec_text.specs.Textual.{IsTextualSpec}
use Rattle.wh_store.specs.Image.{Holding, holding, first_over, fit_stored}
use Rattle.wh_store.specs.Store.{loaded, loaded_file, is_too_large}
use Rattle.wh_store.specs.declared.fault.StoreFault.{StoreFault}
use Rattle.wh_store.specs.declared.fault.StoreFault.TheVariants as fault
use Rattle.wh_store.specs.declared.warehouse.Which.TheVariants.{First}
use Rattle.wh_command.specs.declared.load.Stock.{Stock}
use Rattle.wh_command.specs.declared.show.Shown.{Shown}
use Rattle.wh_command.specs.declared.status.Status.{Status}
use Rattle.wh_command.specs.declared.status.Status.TheVariants as status
use Rattle.wh_command.specs.declared.stop.Stop.{Stop}
use Rattle.wh_command.specs.declared.stop.Stop.TheVariants.{WriteFault, DiskFault, AlreadyLoaded, Limit, NoMemory}
use Rattle.wh_command.specs.Disks.{BothRest, BothLeave, CrashReaches, WritesOnly}
use Rattle.wh_command.specs.Ends.{Ends}
use Rattle.wh_command.specs.Inputs.{and_then, spec_file, dump_files, IsNextDump}
use Rattle.wh_command.specs.Outcome.{Outcome, refused, IsReached}
use Rattle.wh_command.specs.Show.{shown, tables_of}
use Rattle.wh_command.specs.Steps.{NamesRead}
use Rattle.wh_command.specs.Words.{warehouse_file_words}

-- only an empty store is loaded
abbrev pub if_unloaded : {T : Type 0} → Holding → Result T Stop → Result T Stop
if_unloaded (Ok None) next = next
if_unloaded other next = Err AlreadyLoaded

-- the file fits
abbrev pub within_file : Shown → Result Shown Stop
within_file s = if is_too_large s.spec s.tables then Err (Limit warehouse_file_words) else Ok s

-- the dumps in relation order, then the constraints, then the numbers of rows
abbrev pub gathered_by : Held → List ℕ → Spec → Result Shown Stop
gathered_by held dir spec = and_then (dump_files held dir [] spec.relations) (tables_of spec)

-- the specification first, then the store is looked at, and then the dumps are read
abbrev pub gathered : Held → List ℕ → List ℕ → Holding → Result Shown Stop
gathered held spec_name dir start = and_then (spec_file held spec_name) (λ spec. if_unloaded start (gathered_by held dir spec))

-- and the limit of the file last
abbrev pub loading : Held → List ℕ → List ℕ → Holding → Result Shown Stop
loading held spec_name dir start = and_then (gathered held spec_name dir start) within_file

-- ---- the line, and the state

-- the rows of all tables
abbrev pub row_count : List (List Row) → ℕ
row_count [] = 0
row_count (rows ∷ tables) = length rows + row_count tables

-- the line that counts them
abbrev pub loaded_text : List (List Row) → List ℕ
loaded_text tables = line (codes "loaded: tables " ++ decimal (length tables) ++ codes ", rows " ++ decimal (row_count tables))

-- the store, once it is loaded
abbrev pub loaded_state : Shown → Holding
loaded_state s = Ok (Some (loaded s.spec s.tables))

-- one piece: the store is loaded, and the line is printed
abbrev pub loads : Holding → Result Shown Stop → Outcome
loads start (Ok s) = record { start = start; pieces = record { text = loaded_text s.tables; state = loaded_state s } ∷ []; finish = Ok status.Ok }
loads start (Err stop) = refused start stop

-- what `load` comes to over the held files and what the store holds
abbrev pub load_outcome : Held → List ℕ → List ℕ → Holding → Outcome
load_outcome held spec_name dir start = loads start (loading held spec_name dir start)

-- the file is the specification, or, where that was read and taken and the store is empty, a dump
abbrev pub IsReadByLoad : Held → List ℕ → List ℕ → Holding → List ℕ → Type 0
IsReadByLoad held spec_name dir start file = (file ≡ spec_name) ⊎ ((start ≡ Ok None) × ((spec : Spec) × (spec_file held spec_name ≡ Ok spec) × IsNextDump held dir spec.relations file))

-- ---- the bytes

-- the first file holds one snapshot of what was loaded
abbrev pub HoldsSnapshot : Result Shown Stop → Option (List ℕ) → Type 0
HoldsSnapshot (Ok s) content = content ≡ Some (loaded_file s.spec s.tables)
HoldsSnapshot (Err stop) content = ⊥

-- ---- the steps

-- what was made ready, as what it shows
abbrev pub stock_shown : Result Stock Stop → Result Shown Stop
stock_shown (Ok stock) = Ok (shown stock.plan.spec stock.tables)
stock_shown (Err stop) = Err stop

abbrev pub tables_shown : Spec → Result (List (List Row)) Stop → Result Shown Stop
tables_shown spec (Ok tables) = Ok (shown spec tables)
tables_shown spec (Err stop) = Err stop

-- the stop that a fault of making a store is told as
abbrev pub IsMakingStop : StoreFault → Stop → Type 0
IsMakingStop fault.DiskFault stop = stop ≡ DiskFault
IsMakingStop fault.FileLimit stop = (stop ≡ Limit warehouse_file_words) ⊎ (stop ≡ NoMemory)
IsMakingStop other stop = stop ≡ NoMemory

-- what making a store of tables answers
abbrev pub IsMade : Spec → List (List Row) → Result (Unit {0}) Stop → Type 0
IsMade spec tables (Ok done) = is_too_large spec tables ≡ false
IsMade spec tables (Err (Limit words)) = (words ≡ warehouse_file_words) × (is_too_large spec tables ≡ true)
IsMade spec tables (Err DiskFault) = Unit {0}
IsMade spec tables (Err NoMemory) = Unit {0}
IsMade spec tables (Err other) = ⊥

-- What was made ready may be stored, and its line counts it.
pub record IsStock (stock : Stock) : Type 0 where
  pub textual : IsTextualSpec stock.plan.spec
  pub plan : IsPlan stock.plan
  pub few : too_many stock.plan.spec ≡ None
  pub tables : fit_stored stock.plan.spec stock.tables ≡ true
  pub ascending : AllByRecursion IsAscending stock.tables
  pub spelled : AllByRecursion (AllByRecursion IsSpelledRow) stock.tables
  pub within : first_over stock.tables ≡ None
  pub line : stock.line.bytes ≡ loaded_text stock.tables

-- the line is written, or a first part of it where the sink failed
abbrev pub TellsLine : List ℕ → Option (List ℕ) → Option (List ℕ) → Result Status Stop → Type 0
TellsLine text before after (Ok answer) = (answer ≡ status.Ok) × (after ≡ gained before text)
TellsLine text before after (Err WriteFault) = GainsPrefix before after text
TellsLine text before after (Err other) = ⊥

-- The tables of an empty store are written and told of: how that ends, what a crash leaves of each disk, and the bytes of the first file.
pub record EndsKeep {D : Type 0} (content : D → Option (List ℕ)) (images : D → List ℕ → Type 0) (moment : D → ℕ) (images_since : D → ℕ → List ℕ → Type 0)
    (s : Shown) (start : Holding) (first_old first_new second_old second_new : D) (before after : Option (List ℕ)) (finish : Result Status Stop) : Type 0 where
  pub ends : Ends (loads start (within_file s)) (BothRest content images first_new second_new) (BothLeave images first_new second_new) before after finish
  pub first : (b : List ℕ) → content second_old ≡ Some b → LeavesOnly moment images_since first_old first_new (λ c. IsReached (loads start (within_file s)) (holding c b))
  pub second : LeavesOnly moment images_since second_old second_new (images second_old)
  pub file : OnOk finish (HoldsSnapshot (within_file s) (content first_new))

-- A run of `load`: how it ends, what a crash leaves of both disks together and of each, the file whose reading failed, and the bytes of
-- the first file. It writes that one alone.
pub record EndsLoad {D : Type 0} (content : D → Option (List ℕ)) (images : D → List ℕ → Type 0) (moment : D → ℕ) (images_since : D → ℕ → List ℕ → Type 0)
    (held : Held) (spec_name dir : List ℕ) (start : Holding) (first_old first_new second_old second_new : D) (before after : Option (List ℕ)) (finish : Result Status Stop) : Type 0 where
  pub ends : Ends (load_outcome held spec_name dir start) (BothRest content images first_new second_new) (BothLeave images first_new second_new) before after finish
  pub crash : CrashReaches moment images_since (load_outcome held spec_name dir start) first_old first_new second_old second_new
  pub disks : WritesOnly content images moment images_since First (IsReached (load_outcome held spec_name dir start)) first_old first_new second_old second_new
  pub names : NamesRead (IsReadByLoad held spec_name dir start) finish
  pub file : OnOk finish (HoldsSnapshot (loading held spec_name dir start) (content first_new))
