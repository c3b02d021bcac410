-- Numerals at the front of a text.
use Rattle.std.proofs.Common.{◌≡◌, ◌<◌, ◌≤◌, ◌^◌, ℕ, ◌+◌, true, false, List, [], ◌∷◌, ◌++◌, length, take, Option, Some, None, Result, Ok, Err, zero, suc, subst, eqb, refl, sym, ap, arith, inl, inr}
use Rattle.std.specs.Prelude.{ℤ, pos, negsuc, slice_index}
use Rattle.std.specs.Int.{w64}
use Rattle.std.specs.Prelude.{FitsSigned}
use Rattle.std.specs.Char.{is_ascii_digit, digit_value}
use Rattle.std.specs.List.{prefix_len}
use Rattle.std.specs.Result.{result_ok}
use Rattle.std.specs.Str.{IsUtf8, is_utf8, IsAscii}
use Rattle.std.specs.Str.Parse.{ParsesSigned, IsNumeral, AllDigits, signed_digits_value, without_leading_sign}
use Rattle.std.proofs.lemmas.Bool.{lt-ltb, ltb-true, cases_Bool, cases_eq, ne_eqb}
use Rattle.std.proofs.lemmas.Bool.Decides.{nat_tests}
use Rattle.std.proofs.lemmas.Fmt.{IsAscii-from_digits}
use Rattle.std.proofs.lemmas.Str.{IsUtf8-from_ascii, IsUtf8-from_is_utf8, is_utf8-from_IsUtf8}
use Rattle.std.proofs.lemmas.Str.Ascii.{IsAscii-nil}
use Rattle.std.proofs.lemmas.List.Sums.{prefix_len-le-length}
use Rattle.wh_lex.specs.Front.{fits, integer_value, IsInteger, past}
use Rattle.wh_lex.specs.declared.front.Class.TheVariants as class

fits_from : (z : ℤ) → FitsSigned w64 z → fits z ≡ true
fits_from (pos n) h = lt-ltb n (2 ^ 63) h.sfits
fits_from (negsuc n) h = lt-ltb n (2 ^ 63) h.sfits

pub from_fits : (z : ℤ) → fits z ≡ true → FitsSigned w64 z
from_fits (pos n) h = record { sfits = ltb-true n (2 ^ 63) h }
from_fits (negsuc n) h = record { sfits = ltb-true n (2 ^ 63) h }

pub parsed : {E : Type 0} (bs : List ℕ) (r : Result ℤ E) → ParsesSigned w64 10 bs r → IsNumeral 10 (without_leading_sign bs) → result_ok r ≡ integer_value bs
parsed bs (Ok x) h digits = rw (fits_from (signed_digits_value 10 bs) h.0.1) (ap Some h.1)
parsed bs (Err e) h digits =
    elim (cases_Bool (fits (signed_digits_value 10 bs))) [
      | inl y ↦ absurd (h (digits, from_fits (signed_digits_value 10 bs) y))
      | inr n ↦ rw n refl
    ]

digit_below : (b : ℕ) → is_ascii_digit b ≡ true → digit_value b < 10
digit_below b h = grind (arith, nat_tests)

add-one' : (n : ℕ) → 1 + n ≡ suc n
add-one' n = omega arith

digits_front : (z : List ℕ) → AllDigits 10 (take (prefix_len is_ascii_digit z) z)
digits_front [] = tt
digits_front (b ∷ z) =
    elim (cases_Bool (is_ascii_digit b)) [
      | inl y ↦ rw y (subst (λ n. AllDigits 10 (take n (b ∷ z))) (sym (add-one' (prefix_len is_ascii_digit z))) (digit_below b y, digits_front z))
      | inr n ↦ rw n tt
    ]

-- bytes in front of a text
abbrev pub with_front : List ℕ → Option (List ℕ × List ℕ) → Option (List ℕ × List ℕ)
with_front front None = None
with_front front (Some p) = Some (front ++ p.0, p.1)

pub not_utf8 : (bs : List ℕ) → ¬ (IsUtf8 bs) → is_utf8 bs ≡ false
not_utf8 bs un = elim (cases_Bool (is_utf8 bs)) [ inl y ↦ absurd (un (IsUtf8-from_is_utf8 bs y)) | inr it ↦ it ]

pub utf8_is : (bs : List ℕ) → IsUtf8 bs → is_utf8 bs ≡ true
utf8_is bs u = is_utf8-from_IsUtf8 bs u

cons_ascii : (b : ℕ) (bs : List ℕ) → b < 128 → IsAscii bs → (i : ℕ) → slice_index (b ∷ bs) i < 128
cons_ascii b bs lt h zero = lt
cons_ascii b bs lt h (suc i) = h i

-- a sign or nothing, and then digits
signed_ascii : (bs : List ℕ) → AllDigits 10 (without_leading_sign bs) → IsAscii bs
signed_ascii [] digits = IsAscii-nil
signed_ascii (b ∷ bs) digits =
    elim (cases_eq b 45) [
      | inl e ↦ cons_ascii b bs (omega arith) (IsAscii-from_digits bs (let d = rw e at digits in d))
      | inr e ↦ elim (cases_eq b 43) [
        | inl f ↦ cons_ascii b bs (omega arith) (IsAscii-from_digits bs (let d = rw f at digits in d))
        | inr f ↦ IsAscii-from_digits (b ∷ bs) (let d = rw (ne_eqb b 45 e, ne_eqb b 43 f) at digits in d)
      ]
    ]

pub signed_utf8 : (bs : List ℕ) → IsNumeral 10 (without_leading_sign bs) → IsUtf8 bs
signed_utf8 bs digits = IsUtf8-from_ascii bs (signed_ascii bs digits.1)

not_sign : (b : ℕ) → is_ascii_digit b ≡ true → (eqb b 45 ≡ false) × (eqb b 43 ≡ false)
not_sign b h = (grind (arith, nat_tests), grind (arith, nat_tests))

no_sign : (b : ℕ) (bs : List ℕ) → is_ascii_digit b ≡ true → without_leading_sign (b ∷ bs) ≡ b ∷ bs
no_sign b bs h = rw ((not_sign b h).0, (not_sign b h).1) refl

pub digits_whole : (z : List ℕ) → is_ascii_digit (slice_index z 0) ≡ true → IsInteger (past class.Digit z 0) z
digits_whole [] digit = absurd (cc)
digits_whole (b ∷ z) digit =
    let m = prefix_len is_ascii_digit z in
    let e : past class.Digit (b ∷ z) 0 ≡ suc m = rw digit (omega arith) in
    let le : m ≤ length z = prefix_len-le-length is_ascii_digit z in
    rw (e, no_sign b (take m z) digit) (omega arith, (omega arith, (digit_below b digit, digits_front z)))

pub minus_whole : (z : List ℕ) → slice_index z 0 ≡ 45 → is_ascii_digit (slice_index z 1) ≡ true → IsInteger (past class.Digit z 1) z
minus_whole [] minus digit = absurd (cc)
minus_whole (b ∷ []) minus digit = absurd (cc)
minus_whole (b ∷ c ∷ z) minus digit =
    let m = prefix_len is_ascii_digit z in
    let e : past class.Digit (b ∷ c ∷ z) 1 ≡ suc (suc m) = rw digit (omega arith) in
    let le : m ≤ length z = prefix_len-le-length is_ascii_digit z in
    rw (e, minus) (omega arith, (omega arith, (digit_below c digit, digits_front z)))
