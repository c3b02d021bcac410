-- What stands at the front of a text has the spelling of a token.
use Rattle.std.proofs.Common.{◌≡◌, ◌<◌, ◌≤◌, ℕ, zero, suc, ◌+◌, ◌-◌, Bool, true, false, cond, List, [], ◌∷◌, ◌++◌, length, take, drop, get_or, Option, Some, None, Result, Ok, Err, refl, sym, ap, subst, ◌∙◌, append_assoc, inl, inr, arith, add-one}
use Rattle.std.specs.Prelude.{ℤ, slice_index, FitsSigned, IsUtf8, ◌==◌, nat_lt}
use Rattle.std.specs.Int.{w64}
use Rattle.std.specs.Char.{is_ascii_digit}
use Rattle.std.specs.List.{list_all, prefix_len}
use Rattle.std.specs.Str.{is_utf8}
use Rattle.std.specs.Str.Parse.{signed_digits_value}
use Rattle.std.proofs.lemmas.Bool.{cases_Bool, eqb-true, ltb-false}
use Rattle.std.proofs.lemmas.Bool.Decides.{nat_tests}
use Rattle.std.proofs.lemmas.List.{take_at, drop_at, drop_more, length-append, length-drop, take-append-drop}
use Rattle.std.proofs.lemmas.Str.{IsUtf8-append, IsUtf8-take, IsUtf8-drop, IsUtf8-from_is_utf8, IsCharBoundary-before_ascii, IsCharBoundary-after_ascii}
use Rattle.wh_lex.specs.declared.token.TokenKind.{TokenKind}
use Rattle.wh_lex.specs.declared.token.TokenKind.TheVariants.{Word, Int, Text, Mark}
use Rattle.wh_lex.specs.declared.fault.LexFault.{LexFault}
use Rattle.wh_lex.specs.declared.front.Class.TheVariants as class
use Rattle.wh_lex.specs.Front.{Piece, front, fits, is_in, past, in_range, integer, if_utf8, comment, minus, with_byte, text_at, quoted as quoted_piece, text, mark, is_blank, begins_word, is_single}
use Rattle.wh_lex.specs.Spelling.{doubled, quoted, IsWordText}
use Rattle.wh_lex.proofs.FrontLemmas.{from_fits}
use Rattle.wh_lex.proofs.SpellingLemmas.{split, one_quote}

-- the kind of a token and its bytes, as they stand in a text that has tokens
abbrev pub IsSpelled : TokenKind → List ℕ → Type 0
IsSpelled Word w = IsWordText w
IsSpelled (Int v) w = FitsSigned w64 v
IsSpelled (Text v) w = (length v ≤ 65535) × IsUtf8 v
IsSpelled Mark w = Unit {0}

abbrev pub Sound : List ℕ → Result Piece LexFault → Type 0
Sound z (Ok (Some kind, len)) = IsSpelled kind (take len z)
Sound z (Ok (None, len)) = Unit {0}
Sound z (Err fault) = Unit {0}

sound_if : (z : List ℕ) (b : Bool) (x y : Result Piece LexFault) → (b ≡ true → Sound z x) → (b ≡ false → Sound z y) → Sound z (cond b x y)
sound_if z true x y h k = h refl
sound_if z false x y h k = k refl

-- ---- words

one_more : (n : ℕ) → 1 + n ≡ suc n
one_more n = omega arith

all_in_front : (p : ℕ → Bool) (z : List ℕ) → list_all p (take (prefix_len p z) z) ≡ true
all_in_front p [] = refl
all_in_front p (b ∷ z) =
    elim (cases_Bool (p b)) [
      | inl y ↦ rw y (subst (λ n. list_all p (take n (b ∷ z)) ≡ true) (sym (one_more (prefix_len p z))) (rw y (all_in_front p z)))
      | inr n ↦ rw n refl
    ]

word_in : (b : ℕ) → begins_word b ≡ true → is_in class.Word b ≡ true
word_in b h = grind (arith, nat_tests)

word_sound : (z : List ℕ) → begins_word (slice_index z 0) ≡ true → IsWordText (take (past class.Word z 0) z)
word_sound [] h = absurd cc
word_sound (b ∷ z) h =
    let n = prefix_len (is_in class.Word) z in
    let e : past class.Word (b ∷ z) 0 ≡ suc n = rw (word_in b h) (omega arith) in
    rw e (h, all_in_front (is_in class.Word) z)

-- ---- integers

fits_sound : (b : Bool) (v : ℤ) (at len : ℕ) (z : List ℕ) → fits v ≡ b → Sound z (in_range at len (cond b (Some v) None))
fits_sound true v at len z e = from_fits v e
fits_sound false v at len z e = tt

integer_sound : (at len : ℕ) (z : List ℕ) → Sound z (integer at z len)
unfolding integer
integer_sound at len z = let v = signed_digits_value 10 (take len z) in fits_sound (fits v) v at len z refl

-- ---- texts

-- what was read behind the first quote, and what follows the last one
abbrev Undoes : List ℕ → Option (List ℕ × List ℕ) → Type 0
Undoes z None = Unit {0}
Undoes z (Some p) = z ≡ doubled p.0 ++ 39 ∷ p.1

undoes_if : (z : List ℕ) (b : Bool) (x y : Option (List ℕ × List ℕ)) → (b ≡ true → Undoes z x) → (b ≡ false → Undoes z y) → Undoes z (cond b x y)
undoes_if z true x y h k = h refl
undoes_if z false x y h k = k refl

undoes_byte : (b : ℕ) (z : List ℕ) (o : Option (List ℕ × List ℕ)) → (b == 39) ≡ false → Undoes z o → Undoes (b ∷ z) (with_byte b o)
undoes_byte b z None ne h = tt
undoes_byte b z (Some p) ne h = rw (ne, h) refl

undoes_quote : (b c : ℕ) (z : List ℕ) (o : Option (List ℕ × List ℕ)) → b ≡ 39 → c ≡ 39 → Undoes z o → Undoes (b ∷ c ∷ z) (with_byte 39 o)
undoes_quote b c z None e f h = tt
undoes_quote b c z (Some p) e f h = rw (e, f, h) refl

undoes : (z : List ℕ) → Undoes z (text_at z)
undoes [] = tt
undoes (b ∷ []) = undoes_if (b ∷ []) (b == 39) (Some ([], [])) None (λ h. let e = eqb-true b 39 h in rw e refl) (λ h. tt)
undoes (b ∷ c ∷ z) =
    undoes_if (b ∷ c ∷ z) (b == 39) (cond (c == 39) (with_byte 39 (text_at z)) (Some ([], c ∷ z))) (with_byte b (text_at (c ∷ z)))
    (λ h. undoes_if (b ∷ c ∷ z) (c == 39) (with_byte 39 (text_at z)) (Some ([], c ∷ z)) (λ k. undoes_quote b c z (text_at z) (eqb-true b 39 h) (eqb-true c 39 k) (undoes z)) (λ k. let e = eqb-true b 39 h in rw e refl))
    (λ h. undoes_byte b (c ∷ z) (text_at (c ∷ z)) h (undoes (c ∷ z)))

-- the byte behind some bytes
byte_behind : (xs ys : List ℕ) (b : ℕ) → get_or (xs ++ b ∷ ys) (length xs) 0 ≡ b
byte_behind [] ys b = refl
byte_behind (x ∷ xs) ys b = byte_behind xs ys b

-- what stands before and behind two quotes
front_utf8 : (xs ys : List ℕ) → IsUtf8 (xs ++ 39 ∷ ys) → IsUtf8 xs
front_utf8 xs ys u =
    let w = xs ++ 39 ∷ ys in
    let long : length xs < length w = omega (arith, length-append xs (39 ∷ ys)) in
    let ascii : get_or w (length xs) 0 < 128 = omega (arith, byte_behind xs ys 39) in
    rw (take_at xs (39 ∷ ys) (length xs) refl) at (IsUtf8-take w (length xs) u (IsCharBoundary-before_ascii w (length xs) long ascii))

back_utf8 : (xs ys : List ℕ) → IsUtf8 (xs ++ 39 ∷ ys) → IsUtf8 ys
back_utf8 xs ys u =
    let w = xs ++ 39 ∷ ys in
    let long : length xs < length w = omega (arith, length-append xs (39 ∷ ys)) in
    let ascii : get_or w (length xs) 0 < 128 = omega (arith, byte_behind xs ys 39) in
    let behind = IsUtf8-drop w (length xs + 1) u (IsCharBoundary-after_ascii w (length xs) u long ascii) in
    let split : w ≡ (xs ++ 39 ∷ []) ++ ys = sym (append_assoc xs (39 ∷ []) ys) in
    let size : length (xs ++ 39 ∷ []) ≡ length xs + 1 = omega (arith, length-append xs (39 ∷ [])) in
    rw (ap (drop (length xs + 1)) split ∙ drop_at (xs ++ 39 ∷ []) ys (length xs + 1) size) at behind

undoubled_utf8 : (n : ℕ) (v : List ℕ) → length v ≤ n → IsUtf8 (doubled v) → IsUtf8 v
undoubled_utf8 zero [] le u = u
undoubled_utf8 zero (b ∷ v) le u = absurd (omega arith)
undoubled_utf8 (suc n) v le u =
    elim (split v) [
      | inl e ↦ rw e at u
      | inr s ↦
          let i = s.0 in
          let rest = drop (suc i) v in
          let w : IsUtf8 (take i v ++ 39 ∷ 39 ∷ doubled rest) = rw s.3 at u in
          let before : IsUtf8 (take i v) = front_utf8 (take i v) (39 ∷ doubled rest) w in
          let after : IsUtf8 (doubled rest) = back_utf8 [] (doubled rest) (back_utf8 (take i v) (39 ∷ doubled rest) w) in
          let more : IsUtf8 rest = undoubled_utf8 n rest (omega (arith, length-drop (suc i) v)) after in
          let whole : v ≡ take i v ++ 39 ∷ rest = sym (take-append-drop i v) ∙ ap (λ t. take i v ++ t) (drop_more v i 0 s.1 ∙ rw (s.2, add-one i) refl) in
          rw whole (IsUtf8-append (take i v) (39 ∷ rest) before (IsUtf8-append (39 ∷ []) rest one_quote more))
    ]

quoted_utf8 : (v : List ℕ) → IsUtf8 (quoted v) → IsUtf8 v
quoted_utf8 v u = undoubled_utf8 (length v) v (omega arith) (front_utf8 (doubled v) [] (back_utf8 [] (doubled v ++ 39 ∷ []) u))

text_sound_at : (at : ℕ) (y : List ℕ) (o : Option (List ℕ × List ℕ)) → Undoes y o → Sound (39 ∷ y) (quoted_piece at (39 ∷ y) o)
text_sound_at at y None h = tt
text_sound_at at y (Some p) h =
    let z = 39 ∷ y in
    let len = length z - length p.1 in
    let whole : z ≡ quoted p.0 ++ p.1 = ap (λ t. 39 ∷ t) (h ∙ sym (append_assoc (doubled p.0) (39 ∷ []) p.1)) in
    let size : len ≡ length (quoted p.0) = omega (arith, ap length whole, length-append (quoted p.0) p.1) in
    let cut : take len z ≡ quoted p.0 = ap (take len) whole ∙ take_at (quoted p.0) p.1 len (sym size) in
    sound_if z (nat_lt 65535 (length p.0)) _ _ (λ long. tt)
    (λ short. sound_if z (is_utf8 (take len z)) _ _ (λ u. (ltb-false 65535 (length p.0) short, quoted_utf8 p.0 (rw cut at (IsUtf8-from_is_utf8 (take len z) u)))) (λ un. tt))

text_sound : (at b : ℕ) (y : List ℕ) → b ≡ 39 → Sound (b ∷ y) (text at (b ∷ y))
unfolding text
text_sound at b y e = rw e (text_sound_at at y (text_at y) (undoes y))

-- ---- the others

utf8_sound : (at len : ℕ) (z bytes : List ℕ) → Sound z (if_utf8 at bytes (None, len))
utf8_sound at len z bytes = sound_if z (is_utf8 bytes) _ _ (λ _. tt) (λ _. tt)

minus_sound : (at : ℕ) (z : List ℕ) → Sound z (minus at z)
unfolding minus comment
minus_sound at z =
    sound_if z (slice_index z 1 == 45) _ _ (λ _. utf8_sound at (past class.Line z 2) z (take (past class.Line z 2) z))
    (λ _. sound_if z (is_ascii_digit (slice_index z 1)) _ _ (λ _. integer_sound at (past class.Digit z 1) z) (λ _. tt))

mark_sound : (at b c : ℕ) (z : List ℕ) → Sound z (mark at b c)
unfolding mark
mark_sound at b c z = sound_if z (b == 60) _ _ (λ _. tt) (λ _. sound_if z (b == 62) _ _ (λ _. tt) (λ _. sound_if z (is_single b) _ _ (λ _. tt) (λ _. tt)))

pub front_sound : (at : ℕ) (z : List ℕ) → 0 < length z → Sound z (front at z)
unfolding front
front_sound at [] some = absurd (omega arith)
front_sound at (b ∷ z) some =
    sound_if (b ∷ z) (is_blank b) _ _ (λ _. tt)
    (λ _. sound_if (b ∷ z) (begins_word b) _ _ (λ word. word_sound (b ∷ z) word)
    (λ _. sound_if (b ∷ z) (is_ascii_digit b) _ _ (λ digit. integer_sound at (past class.Digit (b ∷ z) 0) (b ∷ z))
    (λ _. sound_if (b ∷ z) (b == 45) _ _ (λ _. minus_sound at (b ∷ z))
    (λ _. sound_if (b ∷ z) (b == 39) _ _ (λ quote. text_sound at b z (eqb-true b 39 quote)) (λ _. mark_sound at b (slice_index (b ∷ z) 1) (b ∷ z))))))
