-- What stands at the front of a text.
use Rattle.std.specs.Prelude.{◌≡◌, ◌≤◌, ◌^◌, ℕ, ◌+◌, ◌-◌, ℤ, pos, negsuc, Bool, not, ◌||◌, if◌then◌else◌, ◌==◌, nat_lt, List, [], ◌∷◌, length, take, drop, slice_index, Option, Some, None, Result, Ok, Err}
use Rattle.std.specs.Char.{is_ascii_digit, is_ascii_alphanumeric, is_ascii_alphabetic}
use Rattle.std.specs.List.{prefix_len}
use Rattle.std.specs.Str.{is_utf8}
use Rattle.std.specs.Str.Lossy.{utf8_valid_len}
use Rattle.std.specs.Str.Parse.{signed_digits_value, without_leading_sign, IsNumeral}
use Rattle.wh_lex.specs.declared.token.TokenKind.{TokenKind}
use Rattle.wh_lex.specs.declared.token.TokenKind.TheVariants.{Word, Int, Text, Mark}
use Rattle.wh_lex.specs.declared.front.Class.{Class}
use Rattle.wh_lex.specs.declared.front.Class.TheVariants as class
use Rattle.wh_lex.specs.declared.fault.LexFault.{LexFault}
use Rattle.wh_lex.specs.declared.fault.LexFault.TheVariants as fault

-- What a function returned, seen by view, is what reading gives, unless memory ran out.
abbrev pub Fails : {Y : Type 0} → LexFault → Result Y LexFault → Type 0
Fails fault.NoMemory read = Unit {0}
Fails (fault.BadByte at) read = read ≡ Err (fault.BadByte at)
Fails (fault.OpenQuote at) read = read ≡ Err (fault.OpenQuote at)
Fails (fault.NumberRange at) read = read ≡ Err (fault.NumberRange at)
Fails (fault.TextTooLong at) read = read ≡ Err (fault.TextTooLong at)

-- a result is the reading, unless memory ran out
abbrev pub Gives : {X Y : Type 0} → (X → Y) → Result X LexFault → Result Y LexFault → Type 0
Gives view (Ok x) read = read ≡ Ok (view x)
Gives view (Err e) read = Fails e read

-- whether a byte goes on with a word, a number or a comment
abbrev pub is_in : Class → ℕ → Bool
is_in class.Word b = is_ascii_alphanumeric b || b == 95
is_in class.Digit b = is_ascii_digit b
is_in class.Line b = not (b == 10)

-- the first place from `at` on whose byte is not of the class
abbrev pub past : Class → List ℕ → ℕ → ℕ
past c z at = at + prefix_len (is_in c) (drop at z)

-- a token of this kind, or a blank, and how many bytes it takes
abbrev pub Piece : Type 0
Piece = Option TokenKind × ℕ

-- the number is in an i64
abbrev pub fits : ℤ → Bool
fits (pos n) = nat_lt n (2 ^ 63)
fits (negsuc n) = nat_lt n (2 ^ 63)

-- so many bytes are digits, or a minus and digits
abbrev pub IsInteger : ℕ → List ℕ → Type 0
IsInteger len z = (len ≤ length z) × IsNumeral 10 (without_leading_sign (take len z))

-- the value of digits, where it fits in an i64
abbrev pub integer_value : List ℕ → Option ℤ
integer_value digits = if fits (signed_digits_value 10 digits) then Some (signed_digits_value 10 digits) else None

-- an integer of a number of bytes, or its fault
abbrev pub in_range : ℕ → ℕ → Option ℤ → Result Piece LexFault
in_range at len None = Err (fault.NumberRange at)
in_range at len (Some value) = Ok (Some (Int value), len)

-- an integer of so many bytes
unfoldable pub integer : ℕ → List ℕ → ℕ → Result Piece LexFault
integer at z len = in_range at len (integer_value (take len z))

-- bytes that are to be UTF-8, where they make this piece
abbrev pub if_utf8 : ℕ → List ℕ → Piece → Result Piece LexFault
if_utf8 at bytes piece = if is_utf8 bytes then Ok piece else Err (fault.BadByte (at + utf8_valid_len bytes))

-- a comment goes to the end of its line
unfoldable pub comment : ℕ → List ℕ → Result Piece LexFault
comment at z = let len = past class.Line z 2 in if_utf8 at (take len z) (None, len)

-- what a `-` begins: a comment or an integer
unfoldable pub minus : ℕ → List ℕ → Result Piece LexFault
minus at z =
    if slice_index z 1 == 45 then comment at z
    else if is_ascii_digit (slice_index z 1) then integer at z (past class.Digit z 1)
    else Err (fault.BadByte at)

-- a byte more in front of the text
abbrev pub with_byte : ℕ → Option (List ℕ × List ℕ) → Option (List ℕ × List ℕ)
with_byte b None = None
with_byte b (Some p) = Some (b ∷ p.0, p.1)

-- the text behind an opening quote, and what stands after the quote that closes it: a quote that no other follows
abbrev pub text_at : List ℕ → Option (List ℕ × List ℕ)
text_at [] = None
text_at (b ∷ []) = if b == 39 then Some ([], []) else None
text_at (b ∷ c ∷ z) = if b == 39 then (if c == 39 then with_byte 39 (text_at z) else Some ([], c ∷ z)) else with_byte b (text_at (c ∷ z))

-- a text that ends, or its fault
abbrev pub quoted : ℕ → List ℕ → Option (List ℕ × List ℕ) → Result Piece LexFault
quoted at z None = Err (fault.OpenQuote at)
quoted at z (Some p) =
    let len = length z - length p.1 in
    if nat_lt 65535 (length p.0) then Err (fault.TextTooLong at) else if_utf8 at (take len z) (Some (Text p.0), len)

-- what a quote begins
unfoldable pub text : ℕ → List ℕ → Result Piece LexFault
text at z = quoted at z (text_at (drop 1 z))

-- one byte long, or two where there is a second
abbrev pub IsShort : ℕ → ℕ → Type 0
IsShort next len = (1 ≤ len) × (len ≤ 2) × (next ≡ 0 → len ≡ 1)

-- a mark that no other begins with
abbrev pub is_single : ℕ → Bool
is_single b = b == 40 || b == 41 || b == 44 || b == 59 || b == 61

-- a mark, by its byte and the next
unfoldable pub mark : ℕ → ℕ → ℕ → Result Piece LexFault
mark at b next =
    if b == 60 then Ok (Some Mark, if next == 61 || next == 62 then 2 else 1)
    else if b == 62 then Ok (Some Mark, if next == 61 then 2 else 1)
    else if is_single b then Ok (Some Mark, 1)
    else Err (fault.BadByte at)

-- space, tab, CR or LF
abbrev pub is_blank : ℕ → Bool
is_blank b = b == 32 || b == 9 || b == 13 || b == 10

-- a letter or `_`
abbrev pub begins_word : ℕ → Bool
begins_word b = is_ascii_alphabetic b || b == 95

-- what stands at the front of a text that is not empty, at this place of the whole
unfoldable pub front : ℕ → List ℕ → Result Piece LexFault
front at z =
    let b = slice_index z 0 in
    if is_blank b then Ok (None, 1)
    else if begins_word b then Ok (Some Word, past class.Word z 0)
    else if is_ascii_digit b then integer at z (past class.Digit z 0)
    else if b == 45 then minus at z
    else if b == 39 then text at z
    else mark at b (slice_index z 1)
