-- The function of the tokens of a text is the reading of the text.
use Rattle.std.proofs.Common.{◌≡◌, ◌≢◌, ◌<◌, ◌≤◌, ℕ, zero, suc, ◌+◌, ◌-◌, Bool, true, false, cond, List, [], ◌∷◌, ◌++◌, length, take, drop, Option, Some, None, Result, Ok, Err, refl, ap, add_assoc, add-zero, zero-add, arith, length-drop}
use Rattle.std.specs.Prelude.{ℤ, slice_index, ◌==◌, nat_lt, ◌||◌}
use Rattle.std.specs.Char.{is_ascii_digit}
use Rattle.std.specs.Str.{is_utf8}
use Rattle.std.proofs.lemmas.Bool.Decides.{nat_tests}
use Rattle.wh_lex.specs.declared.token.Token.{Token}
use Rattle.wh_lex.specs.declared.front.Class.{Class}
use Rattle.wh_lex.specs.declared.front.Class.TheVariants as class
use Rattle.wh_lex.specs.declared.token.TokenKind.TheVariants.{Text}
use Rattle.wh_lex.specs.declared.fault.LexFault.{LexFault}
use Rattle.wh_lex.specs.declared.fault.LexFault.TheVariants.{BadByte, OpenQuote, NumberRange, TextTooLong, NoMemory}
use Rattle.wh_lex.specs.Front.{Piece, Fails, front, is_in, past, in_range, integer, integer_value, if_utf8, comment, minus, with_byte, text_at, quoted, text, mark, is_blank, begins_word, is_single}
use Rattle.wh_lex.specs.Lexes.{Stand, token_of, tokens_of, len_of, Lexes}
use Rattle.wh_lex.specs.Lexed.{behind, before, lexed_from, lexed, LexesEveryText}
use Rattle.wh_lex.proofs.LexLemmas.{Reached, Lexes-fault, one_reading}

-- ---- a piece takes a byte at least

abbrev Moves : Result Piece LexFault → Type 0
Moves (Ok p) = 0 < p.1
Moves (Err fault) = Unit {0}

moves_if : (b : Bool) (x y : Result Piece LexFault) → (b ≡ true → Moves x) → (b ≡ false → Moves y) → Moves (cond b x y)
moves_if true x y h k = h refl
moves_if false x y h k = k refl

in_range_moves : (at len : ℕ) (value : Option ℤ) → 0 < len → Moves (in_range at len value)
in_range_moves at len None some = tt
in_range_moves at len (Some v) some = some

integer_moves : (at len : ℕ) (z : List ℕ) → 0 < len → Moves (integer at z len)
unfolding integer
integer_moves at len z some = in_range_moves at len (integer_value (take len z)) some

utf8_moves : (at : ℕ) (bytes : List ℕ) (p : Piece) → 0 < p.1 → Moves (if_utf8 at bytes p)
utf8_moves at bytes p some = moves_if (is_utf8 bytes) (Ok p) _ (λ _. some) (λ _. tt)

past_moves : (c : Class) (z : List ℕ) → is_in c (slice_index z 0) ≡ true → 0 < length z → 0 < past c z 0
past_moves c [] is some = absurd (omega arith)
past_moves c (b ∷ z) is some = rw is (omega arith)

past_later : (c : Class) (z : List ℕ) (at : ℕ) → 0 < at → 0 < past c z at
past_later c z at some = omega arith

word_in : (b : ℕ) → begins_word b ≡ true → is_in class.Word b ≡ true
word_in b h = grind (arith, nat_tests)

-- what stands behind a text's last quote is shorter than what stands behind its first
abbrev Shorter : ℕ → Option (List ℕ × List ℕ) → Type 0
Shorter n None = Unit {0}
Shorter n (Some p) = length p.1 < n

with_byte_shorter : (b n : ℕ) (o : Option (List ℕ × List ℕ)) → Shorter n o → Shorter (suc n) (with_byte b o)
with_byte_shorter b n None h = tt
with_byte_shorter b n (Some p) h = omega arith

shorter_more : (n : ℕ) (o : Option (List ℕ × List ℕ)) → Shorter n o → Shorter (suc n) o
shorter_more n None h = tt
shorter_more n (Some p) h = omega arith

shorter_if : (n : ℕ) (b : Bool) (x y : Option (List ℕ × List ℕ)) → Shorter n x → Shorter n y → Shorter n (cond b x y)
shorter_if n true x y h k = h
shorter_if n false x y h k = k

text_at_shorter : (z : List ℕ) → Shorter (length z) (text_at z)
text_at_shorter [] = tt
text_at_shorter (b ∷ []) = shorter_if 1 (b == 39) (Some ([], [])) None (omega arith) tt
text_at_shorter (b ∷ c ∷ z) =
    shorter_if (suc (suc (length z))) (b == 39) (cond (c == 39) (with_byte 39 (text_at z)) (Some ([], c ∷ z))) (with_byte b (text_at (c ∷ z)))
    (shorter_if (suc (suc (length z))) (c == 39) (with_byte 39 (text_at z)) (Some ([], c ∷ z)) (shorter_more (suc (length z)) (with_byte 39 (text_at z)) (with_byte_shorter 39 (length z) (text_at z) (text_at_shorter z))) (omega arith))
    (with_byte_shorter b (suc (length z)) (text_at (c ∷ z)) (text_at_shorter (c ∷ z)))

quoted_moves : (at : ℕ) (z : List ℕ) (o : Option (List ℕ × List ℕ)) → Shorter (length z) o → Moves (quoted at z o)
quoted_moves at z None h = tt
quoted_moves at z (Some p) h =
    let len = length z - length p.1 in
    moves_if (nat_lt 65535 (length p.0)) _ _ (λ _. tt) (λ _. utf8_moves at (take len z) (Some (Text p.0), len) (omega arith))

text_shorter : (z : List ℕ) → 0 < length z → Shorter (length z) (text_at (drop 1 z))
text_shorter [] some = absurd (omega arith)
text_shorter (b ∷ z) some = shorter_more (length z) (text_at z) (text_at_shorter z)

text_moves : (at : ℕ) (z : List ℕ) → 0 < length z → Moves (text at z)
unfolding text
text_moves at z some = quoted_moves at z (text_at (drop 1 z)) (text_shorter z some)

comment_moves : (at : ℕ) (z : List ℕ) → Moves (comment at z)
unfolding comment
comment_moves at z = let len = past class.Line z 2 in utf8_moves at (take len z) (None, len) (past_later class.Line z 2 (omega arith))

minus_moves : (at : ℕ) (z : List ℕ) → Moves (minus at z)
unfolding minus
minus_moves at z =
    moves_if (slice_index z 1 == 45) (comment at z) _ (λ _. comment_moves at z)
    (λ _. moves_if (is_ascii_digit (slice_index z 1)) (integer at z (past class.Digit z 1)) _ (λ _. integer_moves at (past class.Digit z 1) z (past_later class.Digit z 1 (omega arith))) (λ _. tt))

one_or_two : (b : Bool) → 0 < cond b 2 1
one_or_two true = omega arith
one_or_two false = omega arith

mark_moves : (at b c : ℕ) → Moves (mark at b c)
unfolding mark
mark_moves at b c =
    moves_if (b == 60) _ _ (λ _. one_or_two (c == 61 || c == 62))
    (λ _. moves_if (b == 62) _ _ (λ _. one_or_two (c == 61)) (λ _. moves_if (is_single b) _ _ (λ _. omega arith) (λ _. tt)))

front_moves : (at : ℕ) (z : List ℕ) → 0 < length z → Moves (front at z)
unfolding front
front_moves at z some =
    let b = slice_index z 0 in
    moves_if (is_blank b) _ _ (λ _. omega arith)
    (λ _. moves_if (begins_word b) _ _ (λ word. past_moves class.Word z (word_in b word) some)
    (λ _. moves_if (is_ascii_digit b) _ _ (λ digit. integer_moves at (past class.Digit z 0) z (past_moves class.Digit z digit some))
    (λ _. moves_if (b == 45) _ _ (λ _. minus_moves at z)
    (λ _. moves_if (b == 39) _ _ (λ _. text_moves at z some) (λ _. mark_moves at b (slice_index z 1))))))

-- ---- the reading of a rest of the text

abbrev LexesFrom : ℕ → List ℕ → Result (List Token) LexFault → Type 0
LexesFrom at text (Ok tokens) = (ps : List Piece) × Stand at text ps [] × (tokens ≡ tokens_of at ps)
LexesFrom at text (Err fault) = (ps : List Piece) × (rest : List ℕ) × Stand at text ps rest × (0 < length rest) × (front (at + len_of ps) rest ≡ Err fault)

with_piece : (at : ℕ) (text : List ℕ) (p : Piece) (r : Result (List Token) LexFault) → 0 < length text → front at text ≡ Ok p → LexesFrom (at + p.1) (drop p.1 text) r → LexesFrom at text (before (token_of at p) r)
with_piece at text p (Ok tokens) some is h = (p ∷ h.0, (some, is, h.1), ap (λ ts. token_of at p ++ ts) h.2)
with_piece at text p (Err fault) some is h = (p ∷ h.0, h.1, (some, is, h.2), h.3, rw (← add_assoc at p.1 (len_of h.0)) h.4)

lexes_behind : (n at : ℕ) (z : List ℕ) (r : Result Piece LexFault) → 0 < length z → front at z ≡ r → Moves r → ((p : Piece) → 0 < p.1 → LexesFrom (at + p.1) (drop p.1 z) (lexed_from n (at + p.1) (drop p.1 z)))
    → LexesFrom at z (behind r (λ p. before (token_of at p) (lexed_from n (at + p.1) (drop p.1 z))))
lexes_behind n at z (Ok p) some is moves more = with_piece at z p (lexed_from n (at + p.1) (drop p.1 z)) some is (more p moves)
lexes_behind n at z (Err fault) some is moves more = ([], z, refl, some, rw add-zero is)

lexes_from : (n at : ℕ) (z : List ℕ) → length z ≤ n → LexesFrom at z (lexed_from n at z)
lexes_from n at [] le = ([], refl, refl)
lexes_from zero at (b ∷ z) le = absurd (omega arith)
lexes_from (suc n) at (b ∷ z) le =
    lexes_behind n at (b ∷ z) (front at (b ∷ z)) (omega arith) refl (front_moves at (b ∷ z) (omega arith))
    (λ p moves. lexes_from n (at + p.1) (drop p.1 (b ∷ z)) (omega (arith, length-drop p.1 (b ∷ z))))

from_start : (text : List ℕ) (r : Result (List Token) LexFault) → LexesFrom 0 text r → Lexes text r
from_start text (Ok tokens) h = h
from_start text (Err fault) h = (h.0, h.1, h.2, h.3, rw zero-add at h.4)

pub lexes_every_text : LexesEveryText
unfolding lexed
lexes_every_text text = from_start text (lexed_from (length text) 0 text) (lexes_from (length text) 0 text (omega arith))

-- what is read is what the function says
pub lexed_is : (text : List ℕ) (r : Result (List Token) LexFault) → Lexes text r → lexed text ≡ r
lexed_is text r h = one_reading text (lexed text) r (lexes_every_text text) h

-- the fault at the place that was reached is that of the text
pub lexed_fault : (text rest : List ℕ) (found : List Token) (fault : LexFault) (at : ℕ) → Reached text rest found → 0 < length rest → at ≡ length text - length rest → Fails fault (front at rest) → fault ≢ NoMemory → lexed text ≡ Err fault
lexed_fault text rest found NoMemory at so_far some at-is fails known = absurd (known refl)
lexed_fault text rest found (BadByte place) at so_far some at-is fails known = lexed_is text (Err (BadByte place)) (Lexes-fault text rest found (BadByte place) at so_far some at-is fails)
lexed_fault text rest found (OpenQuote place) at so_far some at-is fails known = lexed_is text (Err (OpenQuote place)) (Lexes-fault text rest found (OpenQuote place) at so_far some at-is fails)
lexed_fault text rest found (NumberRange place) at so_far some at-is fails known = lexed_is text (Err (NumberRange place)) (Lexes-fault text rest found (NumberRange place) at so_far some at-is fails)
lexed_fault text rest found (TextTooLong place) at so_far some at-is fails known = lexed_is text (Err (TextTooLong place)) (Lexes-fault text rest found (TextTooLong place) at so_far some at-is fails)
