-- What is read before a command does its work: files, a specification, dumps.
use Rattle.std.specs.Prelude.{◌≡◌, ◌⊎◌, ℕ, nat_lt, if◌then◌else◌, List, [], ◌∷◌, ◌++◌, length, Option, None, Some, Result, Ok, Err, codes}
use Rattle.std.specs.Str.Lossy.{utf8_lossy}
use Rattle.wh_base.specs.declared.value.Attr.{Attr}
use Rattle.wh_csv.specs.declared.fault.CsvFault.{CsvFault}
use Rattle.wh_csv.specs.declared.fault.CsvFault.TheVariants as csv
use Rattle.wh_csv.specs.Dump.{dump_of}
use Rattle.wh_io.specs.Files.{Held}
use Rattle.wh_plan.specs.declared.plan.PlanFault.{PlanFault}
use Rattle.wh_plan.specs.declared.plan.PlanFault.TheVariants as plan
use Rattle.wh_plan.specs.Plan.{too_many}
use Rattle.wh_schema.specs.declared.spec.Relation.{Relation}
use Rattle.wh_schema.specs.declared.spec.Spec.{Spec}
use Rattle.wh_schema.specs.Warehouse.{Row, State, relation_at}
use Rattle.wh_spec_text.specs.declared.fault.SpecTextFault.{SpecTextFault}
use Rattle.wh_spec_text.specs.SpecTexts.{spec_of_text, fault_words}
use Rattle.wh_command.specs.declared.stop.Stop.{Stop}
use Rattle.wh_command.specs.declared.stop.Stop.TheVariants.{BadSpec, BadInput, Limit, NoMemory, NoFile}
use Rattle.wh_command.specs.Words.{dump_words, pieces_words}

-- the next step's answer, where the first one was not refused
abbrev pub and_then : {T U : Type 0} → Result T Stop → (T → Result U Stop) → Result U Stop
and_then (Ok value) next = next value
and_then (Err stop) next = Err stop

-- the bytes of a file, of at most 268,435,456 bytes
abbrev pub file_of : Option (List ℕ) → List ℕ → Result (List ℕ) Stop
file_of None name = Err (NoFile name)
file_of (Some bytes) name = if nat_lt 268435456 (length bytes) then Err (Limit (codes "file " ++ name)) else Ok bytes

-- ---- the specification

abbrev pub parsed : List ℕ → Result Spec SpecTextFault → Result Spec Stop
parsed text (Ok spec) = Ok spec
parsed text (Err fault) = Err (BadSpec (fault_words text fault))

-- a relation may have 12 pieces at most
abbrev pub planned : Spec → Option PlanFault → Result Spec Stop
planned spec None = Ok spec
planned spec (Some (plan.TooManyPieces r count)) = Err (BadSpec (pieces_words (relation_at spec r).name count))
planned spec (Some plan.NoMemory) = Err NoMemory

abbrev pub spec_in : List ℕ → Result Spec Stop
spec_in text = and_then (parsed text (spec_of_text text)) (λ spec. planned spec (too_many spec))

abbrev pub spec_file : Held → List ℕ → Result Spec Stop
spec_file held name = and_then (file_of (held name) name) spec_in

-- ---- dumps

-- the dump of a relation stands in the folder under its name (a name is letters, digits and `_`; what is no UTF-8 would be replaced)
abbrev pub dump_name : List ℕ → List ℕ → List ℕ
dump_name dir name = dir ++ (codes "/" ++ (utf8_lossy name ++ codes ".csv"))

abbrev pub dumped : List ℕ → Result (List Row) CsvFault → Result (List Row) Stop
dumped file (Ok rows) = Ok rows
dumped file (Err (csv.At at cause)) = Err (BadInput (dump_words file at cause))
dumped file (Err csv.NoMemory) = Err NoMemory

abbrev pub dump_in : List ℕ → List Attr → List ℕ → Result (List Row) Stop
dump_in file attrs text = dumped file (dump_of text attrs)

abbrev pub dump_file : Held → List ℕ → Relation → Result (List Row) Stop
dump_file held dir r = let file = dump_name dir r.name in and_then (file_of (held file) file) (dump_in file r.attrs)

-- the dumps of relations, behind those before them
abbrev pub dump_files : Held → List ℕ → State → List Relation → Result State Stop
dump_files held dir found [] = Ok found
dump_files held dir found (r ∷ rs) = and_then (dump_file held dir r) (λ rows. dump_files held dir (found ++ rows ∷ []) rs)

-- ---- where they come from

-- some text gives the specification
abbrev pub IsFromText : Spec → Type 0
IsFromText spec = (text : List ℕ) × (spec_of_text text ≡ Ok spec)

-- some text gives the rows as a dump of the relation
abbrev pub IsDumpOf : Relation → List Row → Type 0
IsDumpOf r rows = (text : List ℕ) × (dump_of text r.attrs ≡ Ok rows)

-- each relation has such rows
abbrev pub AreDumpsOf : List Relation → State → Type 0
AreDumpsOf [] [] = Unit {0}
AreDumpsOf (r ∷ rs) (rows ∷ s) = IsDumpOf r rows × AreDumpsOf rs s
AreDumpsOf relations s = ⊥

-- the file is the dump of a relation, and those before it were read and taken
abbrev pub IsNextDump : Held → List ℕ → List Relation → List ℕ → Type 0
IsNextDump held dir [] file = ⊥
IsNextDump held dir (r ∷ rs) file = (file ≡ dump_name dir r.name) ⊎ ((rows : List Row) × (dump_file held dir r ≡ Ok rows) × IsNextDump held dir rs file)

-- the file is the specification, or, where that was read and taken, such a dump
abbrev pub IsNextFile : Held → List ℕ → List ℕ → List ℕ → Type 0
IsNextFile held spec_name dir file = (file ≡ spec_name) ⊎ ((spec : Spec) × (spec_file held spec_name ≡ Ok spec) × IsNextDump held dir spec.relations file)
