-- Reading the front of some bytes: what is there, and the bytes after it.
use Rattle.std.specs.Prelude.{◌≡◌, ℕ, zero, suc, List, [], ◌∷◌, length, take, drop, Bool, ◌&&◌, true, false, Option, Some, None, Result, Ok, Err, nat_lt, ◌==◌, if◌then◌else◌}
use Rattle.std.specs.Int.{Width, w16, w32, w64, byte_len, cast_signed, from_be_bytes}
use Rattle.std.specs.List.{list_all}
use Rattle.std.specs.Cmp.Lexicographic.{pointwise}
use Rattle.std.specs.Str.{is_utf8}
use Rattle.std.specs.Ordering.{is_lt}
use Rattle.wh_base.specs.declared.value.Delta.{Delta}
use Rattle.wh_base.specs.declared.value.Value.{Value}
use Rattle.wh_base.specs.declared.value.Value.TheVariants.{Int, Text}
use Rattle.wh_base.specs.Value.{row_cmp}
use Rattle.wh_codec.specs.declared.fault.FrameFault.{FrameFault}
use Rattle.wh_codec.specs.declared.fault.FrameFault.TheVariants as fault
use Rattle.wh_codec.specs.declared.frame.Frame.{Frame}
use Rattle.wh_codec.specs.declared.frame.Frame.TheVariants.{Snapshot, Change}

infixl 10 ◌>>=◌
abbrev pub ◌>>=◌ : {A B : Type 0} → Option A → (A → Option B) → Option B
(Some x) >>= f = f x
None >>= f = None

-- What a function returned, seen by `view`, is what reading gives, unless memory ran out.
abbrev pub Fails : {Y : Type 0} → FrameFault → Option Y → Type 0
Fails fault.Bad read = read ≡ None
Fails fault.NoMemory read = Unit {0}

abbrev pub Gives : {X Y : Type 0} → (X → Y) → Result X FrameFault → Option Y → Type 0
Gives view (Ok x) read = read ≡ Some (view x)
Gives view (Err e) read = Fails e read

-- a number of the width
abbrev pub number_at : Width → List ℕ → Option (ℕ × List ℕ)
number_at w bytes = if nat_lt (length bytes) (byte_len w) then None else Some (from_be_bytes w (take (byte_len w) bytes), drop (byte_len w) bytes)

-- so many bytes
abbrev pub front_at : ℕ → List ℕ → Option (List ℕ × List ℕ)
front_at n bytes = if nat_lt (length bytes) n then None else Some (take n bytes, drop n bytes)

-- so many items, each as `at` reads it
unfoldable pub many_at : {X : Type 0} → (List ℕ → Option (X × List ℕ)) → ℕ → List ℕ → Option (List X × List ℕ)
many_at at zero bytes = Some ([], bytes)
many_at at (suc n) bytes = do
  first ← at bytes
  others ← many_at at n first.1
  Some (first.0 ∷ others.0, others.1)

-- their number, and the items
unfoldable pub counted_at : {X : Type 0} → (List ℕ → Option (X × List ℕ)) → List ℕ → Option (List X × List ℕ)
counted_at at bytes = do
  n ← number_at w32 bytes
  many_at at n.0 n.1

unfoldable pub int_at : List ℕ → Option (Value × List ℕ)
int_at bytes = do
  n ← number_at w64 bytes
  Some (Int (cast_signed w64 n.0), n.1)

unfoldable pub text_at : List ℕ → Option (Value × List ℕ)
text_at bytes = do
  n ← number_at w16 bytes
  text ← front_at n.0 n.1
  if is_utf8 text.0 then Some (Text text.0, text.1) else None

unfoldable pub value_at : List ℕ → Option (Value × List ℕ)
value_at [] = None
value_at (zero ∷ rest) = None
value_at (suc zero ∷ rest) = int_at rest
value_at (suc (suc zero) ∷ rest) = text_at rest
value_at (suc (suc (suc mark)) ∷ rest) = None

unfoldable pub row_at : List ℕ → Option (List Value × List ℕ)
row_at [] = None
row_at (width ∷ rest) = many_at value_at width rest

-- whether two values are of one kind
abbrev pub same_kind : Value → Value → Bool
same_kind (Int x) (Int y) = true
same_kind (Int x) (Text y) = false
same_kind (Text x) (Int y) = false
same_kind (Text x) (Text y) = true

abbrev pub same_kinds : List Value → List Value → Bool
same_kinds = pointwise same_kind

-- whether all rows have the kinds of the first
abbrev pub alike : List (List Value) → Bool
alike [] = true
alike (row ∷ rows) = list_all (same_kinds row) rows

abbrev pub is_below : List Value → List Value → Bool
is_below x y = is_lt (row_cmp x y)

-- whether each row stands below the next
abbrev pub ascends : List (List Value) → Bool
ascends [] = true
ascends (row ∷ []) = true
ascends (row ∷ next ∷ rows) = is_below row next && ascends (next ∷ rows)

abbrev pub is_in_form : List (List Value) → Bool
is_in_form rows = alike rows && ascends rows

unfoldable pub table_at : List ℕ → Option (List (List Value) × List ℕ)
table_at bytes = do
  rows ← counted_at row_at bytes
  if is_in_form rows.0 then Some rows else None

unfoldable pub delta_at : List ℕ → Option (Delta × List ℕ)
delta_at bytes = do
  deleted ← table_at bytes
  inserted ← table_at deleted.1
  Some (record { deleted = deleted.0; inserted = inserted.0 }, inserted.1)

unfoldable pub spec_at : List ℕ → Option (List ℕ × List ℕ)
spec_at bytes = do
  n ← number_at w32 bytes
  front_at n.0 n.1

unfoldable pub snapshot_at : List ℕ → Option (Frame × List ℕ)
snapshot_at bytes = do
  generation ← number_at w64 bytes
  seq ← number_at w64 generation.1
  spec ← spec_at seq.1
  tables ← counted_at table_at spec.1
  Some (Snapshot generation.0 seq.0 spec.0 tables.0, tables.1)

unfoldable pub change_at : List ℕ → Option (Frame × List ℕ)
change_at bytes = do
  seq ← number_at w64 bytes
  deltas ← counted_at delta_at seq.1
  Some (Change seq.0 deltas.0, deltas.1)

unfoldable pub frame_at : List ℕ → Option (Frame × List ℕ)
frame_at [] = None
frame_at (zero ∷ rest) = None
frame_at (suc zero ∷ rest) = snapshot_at rest
frame_at (suc (suc zero) ∷ rest) = change_at rest
frame_at (suc (suc (suc mark)) ∷ rest) = None

-- a frame, and no byte after it
unfoldable pub frame_of : List ℕ → Option Frame
frame_of bytes = do
  frame ← frame_at bytes
  if length frame.1 == 0 then Some frame.0 else None
