-- Fields of records as values, and the first bad record.
use Rattle.std.specs.Prelude.{◌≡◌, ◌+◌, ◌^◌, ℕ, ℤ, pos, negsuc, Bool, ◌&&◌, ◌==◌, nat_lt, if◌then◌else◌, List, [], ◌∷◌, length, Option, Some, None, unwrap_or, Result, Ok, Err}
use Rattle.std.specs.Str.{all_ascii_digits, is_utf8}
use Rattle.std.specs.Str.Parse.{without_leading_sign}
use Rattle.csv.specs.Records as Csv
use Rattle.wh_base.specs.declared.value.Kind.{Kind}
use Rattle.wh_base.specs.declared.value.Kind.TheVariants as kind
use Rattle.wh_base.specs.declared.value.Value.{Value}
use Rattle.wh_base.specs.declared.value.Value.TheVariants.{Int, Text}
use Rattle.wh_base.specs.Integer.{integer_value}
use Rattle.wh_csv.specs.declared.fault.CsvCause.{CsvCause}
use Rattle.wh_csv.specs.declared.fault.CsvCause.TheVariants.{Width, BadInt, TextTooLong, NotUtf8}
use Rattle.wh_csv.specs.declared.fault.CsvFault.{CsvFault}
use Rattle.wh_csv.specs.declared.fault.CsvFault.TheVariants.{At, NoMemory}
use Rattle.wh_csv.specs.Reading.{Record}

-- ---- fields

-- whether a number is in the range of i64
abbrev pub is_in_range : ℤ → Bool
is_in_range (pos n) = nat_lt n (2 ^ 63)
is_in_range (negsuc n) = nat_lt n (2 ^ 63)

-- whether a text is an integer's: the test of wh_base's `IsIntegerText` (the law `integers_are_tested` says so)
abbrev pub is_integer : List ℕ → Bool
is_integer text = (nat_lt 0 (length (without_leading_sign text)) && all_ascii_digits (without_leading_sign text)) && is_in_range (integer_value text)

-- the integer that a text spells, which `read_int` gives
unfoldable pub integer : List ℕ → Option ℤ
integer text = if is_integer text then Some (integer_value text) else None

-- the rule that a field breaks which spells no integer
abbrev pub int_fault : Option ℤ → Option CsvCause
int_fault None = Some BadInt
int_fault (Some number) = None

-- the rule that a field of a kind breaks, the length before the bytes
abbrev pub field_fault : Kind → List ℕ → Option CsvCause
field_fault kind.Int text = int_fault (integer text)
field_fault kind.Text text = if nat_lt 65535 (length text) then Some TextTooLong else if is_utf8 text then None else Some NotUtf8

-- the value of a field of a kind that breaks no rule
abbrev pub field_value : Kind → List ℕ → Value
field_value kind.Int text = Int (unwrap_or (integer text) (pos 0))
field_value kind.Text text = Text text

-- ---- records

-- the field at a place, or an empty one where there is none
abbrev pub field_at : Record → ℕ → List ℕ
field_at fields place = unwrap_or (Csv.field_at fields place) []

-- the first of two causes, where there is one
abbrev pub cause_or : Option CsvCause → Option CsvCause → Option CsvCause
cause_or None later = later
cause_or (Some cause) later = Some cause

-- the first rule that fields of some kinds break, from the left
abbrev pub fields_fault : List Kind → Record → Option CsvCause
fields_fault [] fields = None
fields_fault (k ∷ ks) [] = None
fields_fault (k ∷ ks) (f ∷ fs) = cause_or (field_fault k f) (fields_fault ks fs)

-- the first rule that a record breaks whose fields are to have these kinds
abbrev pub record_fault : List Kind → Record → Option CsvCause
record_fault kinds fields = if length fields == length kinds then fields_fault kinds fields else Some Width

-- the values of fields of some kinds
abbrev pub values : List Kind → Record → List Value
values [] fields = []
values (k ∷ ks) [] = []
values (k ∷ ks) (f ∷ fs) = field_value k f ∷ values ks fs

-- ---- lists of records

-- the fault of the record with a number, or the one found later
abbrev pub fault_or : ℕ → Option CsvCause → Option CsvFault → Option CsvFault
fault_or at None later = later
fault_or at (Some cause) later = Some (At at cause)

-- the first bad one of records, numbered from `at`, where a test says which rule the record of a number breaks
abbrev pub first_fault : (ℕ → Record → Option CsvCause) → ℕ → List Record → Option CsvFault
first_fault broken at [] = None
first_fault broken at (r ∷ rs) = fault_or at (broken at r) (first_fault broken (at + 1) rs)

-- what is read, or the first fault where there is one
abbrev pub unless : {A : Type 0} → Option CsvFault → A → Result A CsvFault
unless None read = Ok read
unless (Some fault) read = Err fault

-- A reader's result is what the definition gives. Want of memory alone may come in its place.
abbrev pub Gives : {A : Type 0} → Result A CsvFault → Result A CsvFault → Type 0
Gives (Ok read) defined = defined ≡ Ok read
Gives (Err (At at cause)) defined = defined ≡ Err (At at cause)
Gives (Err NoMemory) defined = Unit {0}
