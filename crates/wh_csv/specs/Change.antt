-- The lines of a change file.
use Rattle.std.specs.Prelude.{◌≡◌, ◌<◌, ℕ, Bool, not, ◌||◌, nat_lt, drop, if◌then◌else◌, List, [], ◌∷◌, length, map, Option, Some, Result}
use Rattle.wh_base.specs.Columns.{name_eq, place_of}
use Rattle.wh_base.specs.declared.value.Kind.{Kind}
use Rattle.wh_base.specs.Value.{kinds, row_kinds}
use Rattle.wh_schema.specs.declared.spec.Spec.{Spec}
use Rattle.wh_schema.specs.Warehouse.{relation_at}
use Rattle.wh_csv.specs.declared.change.Line.{Line}
use Rattle.wh_csv.specs.declared.fault.CsvCause.{CsvCause}
use Rattle.wh_csv.specs.declared.fault.CsvCause.TheVariants.{Width, UnknownRelation, BadSign, TooManyRecords}
use Rattle.wh_csv.specs.declared.fault.CsvFault.{CsvFault}
use Rattle.wh_csv.specs.Fields.{field_at, record_fault, values, first_fault, unless}
use Rattle.wh_csv.specs.Reading.{Record, records_of}

-- the first field of a line: `+` where its row comes, `-` where it goes
abbrev pub is_plus : List ℕ → Bool
is_plus field = name_eq field (43 ∷ [])

-- `+` or `-`
abbrev pub is_sign : List ℕ → Bool
is_sign field = is_plus field || name_eq field (45 ∷ [])

-- the number of the relation with the name, or the number of relations where none has it
abbrev pub number_of : Spec → List ℕ → ℕ
number_of spec name = place_of (map (λ r. r.name) spec.relations) name

-- the kinds of the relation with a number
abbrev pub kinds_of : Spec → ℕ → List Kind
kinds_of spec number = kinds (relation_at spec number).attrs

-- the rule that the values of a row of the relation with this number break
abbrev pub row_fault : Spec → ℕ → Record → Option CsvCause
row_fault spec number fields =
    if nat_lt number (length spec.relations) then record_fault (kinds_of spec number) fields else Some UnknownRelation

-- the first rule that a record of a change breaks
abbrev pub line_fault : Spec → Record → Option CsvCause
line_fault spec fields =
    if not (is_sign (field_at fields 0)) then Some BadSign
    else if nat_lt (length fields) 2 then Some Width
    else row_fault spec (number_of spec (field_at fields 1)) (drop 2 fields)

-- the same of the record with this number: at most 1,000,000 are read
abbrev pub numbered_fault : Spec → ℕ → Record → Option CsvCause
numbered_fault spec at fields = if nat_lt 1000000 at then Some TooManyRecords else line_fault spec fields

-- the line of a record that speaks of the relation with a number and these kinds
abbrev pub line_at : ℕ → List Kind → Record → Line
line_at number kinds fields = record { insert = is_plus (field_at fields 0); relation = number; row = values kinds (drop 2 fields) }

-- the line that a record spells which breaks no rule
abbrev pub line_of : Spec → Record → Line
line_of spec fields = let number = number_of spec (field_at fields 1) in line_at number (kinds_of spec number) fields

-- a line speaks of a relation of the specification, and its row has the relation's kinds
abbrev pub IsLineOf : Spec → Line → Type 0
IsLineOf spec line = (line.relation < length spec.relations) × (row_kinds line.row ≡ kinds_of spec line.relation)

-- the lines of a change by its records, or its first fault
abbrev pub lines_of : Spec → List Record → Result (List Line) CsvFault
lines_of spec rs = unless (first_fault (numbered_fault spec) 1 rs) (map (line_of spec) rs)

-- the lines that a text spells as a change of the sources, or its first fault
abbrev pub change_of : List ℕ → Spec → Result (List Line) CsvFault
change_of text spec = lines_of spec (records_of text)
