-- Fields as values.
use Rattle.std.proofs.Common.{◌≡◌, ◌<◌, ◌+◌, ◌^◌, ℕ, suc, zero, true, false, List, [], ◌∷◌, length, drop, get_or, Option, Some, None, inl, inr, refl, sym, ap, add-one, drop-cons}
use Rattle.std.specs.Prelude.{ℤ, pos, negsuc, FitsSigned, Decides}
use Rattle.std.specs.Int.{w64}
use Rattle.std.specs.Option.{SomeIff}
use Rattle.std.specs.Str.{IsUtf8, is_utf8, all_ascii_digits}
use Rattle.std.specs.Str.Parse.{AllDigits}
use Rattle.std.proofs.lemmas.Bool.{lt-ltb, ltb-true, cases_Bool, and_parts, and_from}
use Rattle.std.proofs.lemmas.Str.{IsUtf8-from_is_utf8, is_utf8-from_IsUtf8}
use Rattle.std.proofs.lemmas.Str.Parse.{tells_all_ascii_digits, tells_digits}
use Rattle.csv.specs.Records as Csv
use Rattle.wh_base.specs.Integer.{IsIntegerText, integer_value}
use Rattle.wh_base.specs.declared.value.Kind.{Kind}
use Rattle.wh_base.specs.declared.value.Kind.TheVariants as kind
use Rattle.wh_csv.specs.declared.fault.CsvCause.{CsvCause}
use Rattle.wh_csv.specs.Fields.{is_integer, is_in_range, integer, field_fault, field_value, fields_fault, values, cause_or}
use Rattle.wh_csv.specs.Reading.{Record}

pub utf8_is : (bs : List ℕ) → IsUtf8 bs → is_utf8 bs ≡ true
utf8_is bs u = is_utf8-from_IsUtf8 bs u

pub not_utf8 : (bs : List ℕ) → ¬ (IsUtf8 bs) → is_utf8 bs ≡ false
not_utf8 bs un = elim (cases_Bool (is_utf8 bs)) [ inl y ↦ absurd (un (IsUtf8-from_is_utf8 bs y)) | inr it ↦ it ]

in_range : (z : ℤ) → FitsSigned w64 z → is_in_range z ≡ true
in_range (pos n) h = lt-ltb n (2 ^ 63) h.sfits
in_range (negsuc n) h = lt-ltb n (2 ^ 63) h.sfits

from_range : (z : ℤ) → is_in_range z ≡ true → FitsSigned w64 z
from_range (pos n) h = record { sfits = ltb-true n (2 ^ 63) h }
from_range (negsuc n) h = record { sfits = ltb-true n (2 ^ 63) h }

to_test : (ds : List ℕ) → AllDigits 10 ds → all_ascii_digits ds ≡ true
to_test [] h = tells_all_ascii_digits.empty
to_test (c ∷ cs) h = let p = tells_digits.parts c cs h in tells_all_ascii_digits.more c cs p.0 (to_test cs p.1)

from_test : (ds : List ℕ) → all_ascii_digits ds ≡ true → AllDigits 10 ds
from_test [] h = tells_digits.empty
from_test (c ∷ cs) h = let p = tells_all_ascii_digits.parts c cs h in tells_digits.more c cs p.0 (from_test cs p.1)

tested : (b : List ℕ) → IsIntegerText b → is_integer b ≡ true
tested b h = and_from _ _ (and_from _ _ (lt-ltb _ _ h.0.0) (to_test _ h.0.1)) (in_range (integer_value b) h.1)

from_tested : (b : List ℕ) → is_integer b ≡ true → IsIntegerText b
from_tested b h =
    let p = and_parts _ _ h in
    let q = and_parts _ _ p.0 in
    ((ltb-true _ _ q.0, from_test _ q.1), from_range (integer_value b) p.1)

-- the test says what wh_base's word says
pub is_integer-Decides : (b : List ℕ) → Decides (is_integer b) (IsIntegerText b)
is_integer-Decides b = (from_tested b, tested b)

-- so `read_int` gives the integer of the text
pub integer_is : (b : List ℕ) (r : Option ℤ) → SomeIff r (IsIntegerText b) (integer_value b) → r ≡ integer b
unfolding integer
integer_is b None h =
    elim (cases_Bool (is_integer b)) [
      | inl y ↦ absurd (h (from_tested b y))
      | inr n ↦ rw n refl
    ]
integer_is b (Some x) h = rw (tested b h.0) (ap Some h.1)

-- the fields from a place on
from : (fs : Record) (n : ℕ) (f : List ℕ) → Csv.field_at fs n ≡ Some f → drop n fs ≡ f ∷ drop (suc n) fs
unfolding Csv.field_at
from [] n f e = absurd cc
from (x ∷ xs) zero f e = let same : x ≡ f = cc in rw same refl
from (x ∷ xs) (suc n) f e = from xs n f e

none_from : (fs : Record) (n : ℕ) → Csv.field_at fs n ≡ None → drop n fs ≡ []
unfolding Csv.field_at
none_from [] zero e = refl
none_from [] (suc n) e = refl
none_from (x ∷ xs) zero e = absurd cc
none_from (x ∷ xs) (suc n) e = none_from xs n e

no_fields : (ks : List Kind) → fields_fault ks [] ≡ None
no_fields [] = refl
no_fields (k ∷ ks) = refl

fault_at : (ks : List Kind) (i : ℕ) (fs : Record) (n : ℕ) (f : List ℕ) → i < length ks → Some f ≡ Csv.field_at fs n →
    fields_fault (drop i ks) (drop n fs) ≡ cause_or (field_fault (get_or ks i kind.Int) f) (fields_fault (drop (i + 1) ks) (drop (n + 1) fs))
fault_at ks i fs n f h e = rw (drop-cons ks i kind.Int h, from fs n f (sym e), add-one i, add-one n) refl

-- a field that breaks a rule is the first to do so, where those before it break none
pub bad_field : (ks : List Kind) (i : ℕ) (fs : List (List ℕ)) (n : ℕ) (f : List ℕ) (cause : CsvCause) → i < length ks → Some f ≡ Csv.field_at fs n →
    field_fault (get_or ks i kind.Int) f ≡ Some cause → fields_fault (drop i ks) (drop n fs) ≡ Some cause
bad_field ks i fs n f cause h e bad = rw (fault_at ks i fs n f h e, bad) refl

pub good_field : (ks : List Kind) (i : ℕ) (fs : List (List ℕ)) (n : ℕ) (f : List ℕ) → i < length ks → Some f ≡ Csv.field_at fs n →
    field_fault (get_or ks i kind.Int) f ≡ None → fields_fault (drop i ks) (drop n fs) ≡ fields_fault (drop (i + 1) ks) (drop (n + 1) fs)
good_field ks i fs n f h e good = rw (fault_at ks i fs n f h e, good) refl

pub no_field : (ks : List Kind) (fs : List (List ℕ)) (n : ℕ) → None ≡ Csv.field_at fs n → fields_fault ks (drop n fs) ≡ None
no_field ks fs n e = rw (none_from fs n (sym e)) (no_fields ks)

-- the values of the fields from a place on
pub next_value : (ks : List Kind) (i : ℕ) (fs : List (List ℕ)) (n : ℕ) (f : List ℕ) → i < length ks → Some f ≡ Csv.field_at fs n →
    values (drop i ks) (drop n fs) ≡ field_value (get_or ks i kind.Int) f ∷ values (drop (i + 1) ks) (drop (n + 1) fs)
next_value ks i fs n f h e = rw (drop-cons ks i kind.Int h, from fs n f (sym e), add-one i, add-one n) refl

no_values : (ks : List Kind) → values ks [] ≡ []
no_values [] = refl
no_values (k ∷ ks) = refl

pub no_value : (ks : List Kind) (fs : List (List ℕ)) (n : ℕ) → None ≡ Csv.field_at fs n → values ks (drop n fs) ≡ []
no_value ks fs n e = rw (none_from fs n (sym e)) (no_values ks)
