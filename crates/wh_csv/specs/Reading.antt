-- The records of a text.
use Rattle.std.specs.Prelude.{◌≡◌, ◌+◌, ℕ, true, List, [], length, Option, Some, None}
use Rattle.std.specs.Borrow.{Bor}
use Rattle.csv.specs.Reading.{Ready, default_config, is_flexible, reader_config, reader_state, reader_trim, records, records_from, source_of, strip_bom}
use Rattle.csv.specs.declared.parser.State.{State}
use Rattle.csv.specs.declared.reader.Reader.{Reader}
use Rattle.csv.specs.declared.reader.Trim.TheVariants as trim

-- a record is the list of its fields
abbrev pub Record : Type 0
Record = List (List ℕ)

-- the records of a text, with commas, quotes and no header row, behind one byte order mark
abbrev pub records_of : List ℕ → List Record
records_of text = records default_config (strip_bom text)

-- ---- a reader on its way through a text

-- the records of bytes, from a state of the reader's machine
abbrev pub records_from_state : State → List ℕ → List Record
records_from_state state bytes = records_from default_config (length bytes + 1) state bytes

-- the same, and none where the bytes are not known
abbrev pub records_in : State → Option (List ℕ) → List Record
records_in state None = []
records_in state (Some bytes) = records_from_state state bytes

-- the records that a reader of a text has yet to give
abbrev pub records_left : Reader (Bor (List ℕ)) → List Record
records_left reader = records_in (reader_state reader) (source_of (λ s. Some s.now) reader)

-- the reader takes records as `records_of` says, of any width
abbrev pub IsReading : Reader (Bor (List ℕ)) → Type 0
IsReading reader = (reader_trim reader ≡ trim.None) × (reader_config reader ≡ default_config) × Ready reader × (is_flexible reader ≡ true)
