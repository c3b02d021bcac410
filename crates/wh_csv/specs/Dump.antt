-- The rows of a dump.
use Rattle.std.specs.Prelude.{ℕ, Bool, ◌&&◌, ◌==◌, if◌then◌else◌, List, [], ◌∷◌, map, count_by, unwrap_or, Result, Ok, Err}
use Rattle.std.specs.List.{list_all}
use Rattle.wh_base.specs.declared.value.Attr.{Attr}
use Rattle.wh_base.specs.declared.value.Kind.{Kind}
use Rattle.wh_base.specs.declared.value.Kind.TheVariants as kind
use Rattle.wh_base.specs.declared.value.Value.{Value}
use Rattle.wh_base.specs.Columns.{name_eq, names_of, place_of}
use Rattle.wh_base.specs.Cond.{kind_of}
use Rattle.wh_base.specs.RowSet.{first_seen}
use Rattle.wh_csv.specs.declared.fault.CsvCause.TheVariants.{Header}
use Rattle.wh_csv.specs.declared.fault.CsvFault.{CsvFault}
use Rattle.wh_csv.specs.declared.fault.CsvFault.TheVariants.{At}
use Rattle.wh_csv.specs.Fields.{field_at, field_value, record_fault, first_fault, unless}
use Rattle.wh_csv.specs.Reading.{Record, records_of}

-- whether each of some names stands among others once
abbrev pub stand_once : List (List ℕ) → List (List ℕ) → Bool
stand_once others names = list_all (λ name. count_by (name_eq name) others == 1) names

-- whether a record holds the names of attributes, each once, in any order
abbrev pub is_header : List Attr → Record → Bool
is_header attrs header = stand_once header (names_of attrs) && stand_once (names_of attrs) header

-- the kind of the attribute with the name, or `Int` where none has it
abbrev pub column_kind : List Attr → List ℕ → Kind
column_kind attrs name = unwrap_or (kind_of name attrs) kind.Int

-- the kinds of the columns with these names
abbrev pub column_kinds : List Attr → Record → List Kind
column_kinds attrs header = map (column_kind attrs) header

-- the field in the column with the name
abbrev pub field_in : Record → List ℕ → Record → List ℕ
field_in header name fields = field_at fields (place_of header name)

-- the row that a record of a dump spells, in the order of the attributes
abbrev pub row_of : List Attr → Record → Record → List Value
row_of attrs header fields = map (λ a. field_value a.kind (field_in header a.name fields)) attrs

-- the rows that the records behind a header spell, or their first fault
abbrev pub rows_behind : List Attr → Record → List Record → Result (List (List Value)) CsvFault
rows_behind attrs header rs = unless (first_fault (λ at r. record_fault (column_kinds attrs header) r) 2 rs) (map (row_of attrs header) rs)

-- the rows that are read, each once, where it stands first
abbrev pub each_once : Result (List (List Value)) CsvFault → Result (List (List Value)) CsvFault
each_once (Ok rows) = Ok (first_seen rows)
each_once (Err fault) = Err fault

-- the rows of a dump by its records: a header, and a record for each row, which may come again
abbrev pub rows_of : List Attr → List Record → Result (List (List Value)) CsvFault
rows_of attrs [] = Err (At 1 Header)
rows_of attrs (header ∷ rs) = if is_header attrs header then each_once (rows_behind attrs header rs) else Err (At 1 Header)

-- the rows that a text spells as the dump of a relation with these attributes, each once, or its first fault
abbrev pub dump_of : List ℕ → List Attr → Result (List (List Value)) CsvFault
dump_of text attrs = rows_of attrs (records_of text)
