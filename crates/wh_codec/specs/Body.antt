-- The body of a frame: the one spelling of each frame that has one. All numbers stand with their highest byte first.
use Rattle.std.specs.Prelude.{◌≡◌, ℕ, ◌<◌, ◌^◌, FitsSigned, List, [], ◌∷◌, ◌++◌, length, Result, Ok, Err}
use Rattle.std.specs.Int.{w16, w32, w64, cast_unsigned, to_be_bytes}
use Rattle.std.specs.List.{flat_map, AllByRecursion}
use Rattle.std.specs.Str.{IsUtf8}
use Rattle.wh_base.specs.declared.value.Delta.{Delta}
use Rattle.wh_base.specs.declared.value.Value.{Value}
use Rattle.wh_base.specs.declared.value.Value.TheVariants.{Int, Text}
use Rattle.wh_base.specs.RowSet.{IsAscending}
use Rattle.wh_base.specs.Value.{row_kinds}
use Rattle.wh_codec.specs.declared.fault.FrameFault.{FrameFault}
use Rattle.wh_codec.specs.declared.fault.FrameFault.TheVariants as fault
use Rattle.wh_codec.specs.declared.frame.Frame.{Frame}
use Rattle.wh_codec.specs.declared.frame.Frame.TheVariants.{Snapshot, Change}

-- an integer is the byte 1 and its two's complement, a text the byte 2, its length and its bytes
abbrev pub value_bytes : Value → List ℕ
value_bytes (Int number) = 1 ∷ to_be_bytes w64 (cast_unsigned w64 number)
value_bytes (Text bytes) = 2 ∷ to_be_bytes w16 (length bytes) ++ bytes

-- a row is its width in one byte, and its values
abbrev pub row_bytes : List Value → List ℕ
row_bytes row = length row ∷ flat_map value_bytes row

-- how many items there are, in four bytes, and the items
abbrev pub counted : {X : Type 0} → (X → List ℕ) → List X → List ℕ
counted spelling items = to_be_bytes w32 (length items) ++ flat_map spelling items

abbrev pub table_bytes : List (List Value) → List ℕ
table_bytes = counted row_bytes

-- the deleted rows as a table, and the inserted rows as a table
abbrev pub delta_bytes : Delta → List ℕ
delta_bytes delta = table_bytes delta.deleted ++ table_bytes delta.inserted

-- a text of any bytes: its length in four bytes, and the bytes
abbrev pub text_bytes : List ℕ → List ℕ
text_bytes text = to_be_bytes w32 (length text) ++ text

-- a snapshot begins with the byte 1, a change with the byte 2
abbrev pub frame_bytes : Frame → List ℕ
frame_bytes (Snapshot generation seq spec tables) = 1 ∷ to_be_bytes w64 generation ++ to_be_bytes w64 seq ++ text_bytes spec ++ counted table_bytes tables
frame_bytes (Change seq deltas) = 2 ∷ to_be_bytes w64 seq ++ counted delta_bytes deltas

-- ---- what has a spelling

-- an integer of 64 bits, or at most 65,535 bytes of UTF-8
abbrev pub IsSpelledValue : Value → Type 0
IsSpelledValue (Int number) = FitsSigned w64 number
IsSpelledValue (Text bytes) = (length bytes < 2 ^ 16) × IsUtf8 bytes

-- at most 255 values
pub record IsSpelledRow (row : List Value) : Type 0 where
  pub width : length row < 2 ^ 8
  pub values : AllByRecursion IsSpelledValue row

-- all rows have one width, and the same kinds place by place
abbrev pub AreAlike : List (List Value) → Type 0
AreAlike [] = Unit {0}
AreAlike (row ∷ rows) = AllByRecursion (λ other. row_kinds other ≡ row_kinds row) rows

-- rows of one width and of the same kinds, each below those after it
pub record IsSpelledTable (table : List (List Value)) : Type 0 where
  pub count : length table < 2 ^ 32
  pub rows : AllByRecursion IsSpelledRow table
  pub alike : AreAlike table
  pub ascending : IsAscending table

pub record IsSpelledDelta (delta : Delta) : Type 0 where
  pub deleted : IsSpelledTable delta.deleted
  pub inserted : IsSpelledTable delta.inserted

-- the numbers of a snapshot, its specification and its tables
pub record IsSpelledSnapshot (g n : ℕ) (text : List ℕ) (stored : List (List (List Value))) : Type 0 where
  pub generation : g < 2 ^ 64
  pub seq : n < 2 ^ 64
  pub spec : length text < 2 ^ 32
  pub count : length stored < 2 ^ 32
  pub tables : AllByRecursion IsSpelledTable stored

-- the number of a change and its deltas
pub record IsSpelledChange (n : ℕ) (net : List Delta) : Type 0 where
  pub seq : n < 2 ^ 64
  pub count : length net < 2 ^ 32
  pub deltas : AllByRecursion IsSpelledDelta net

-- numbers, counts and lengths fit their fields, and each table is in order and of one kind
abbrev pub IsSpelled : Frame → Type 0
IsSpelled (Snapshot generation seq spec tables) = IsSpelledSnapshot generation seq spec tables
IsSpelled (Change seq deltas) = IsSpelledChange seq deltas

-- the body is the spelling of the frame
pub record IsBodyOf (body : List ℕ) (frame : Frame) : Type 0 where
  pub spelled : IsSpelled frame
  pub bytes : body ≡ frame_bytes frame

-- What reading a body answers: the frame whose body it is, or that there is none.
abbrev pub IsRead : List ℕ → Result Frame FrameFault → Type 0
IsRead body (Ok frame) = IsBodyOf body frame
IsRead body (Err fault.Bad) = (frame : Frame) → IsBodyOf body frame → ⊥
IsRead body (Err fault.NoMemory) = Unit {0}
