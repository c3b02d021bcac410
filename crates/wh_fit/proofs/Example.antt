-- The shop's state fits.
use Rattle.std.proofs.Common.{◌≡◌, ℕ, zero, suc, ◌<◌, true, [], ◌∷◌, get_or, None, refl, sym, subst, arith, pos}
use Rattle.std.specs.List.{AllByRecursion}
use Rattle.std.specs.Str.{IsAscii}
use Rattle.std.proofs.lemmas.Str.{IsUtf8-from_ascii}
use Rattle.wh_base.specs.declared.cond.Cond.TheVariants.{Always}
use Rattle.wh_base.specs.declared.value.Value.TheVariants.{Int, Text}
use Rattle.wh_codec.specs.Body.{IsSpelledValue}
use Rattle.wh_schema.specs.Warehouse.{relation_at}
use Rattle.wh_store.specs.Image.{first_over, fit_attrs}
use Rattle.wh_laws.specs.Example.{shop, state}
use Rattle.wh_laws.proofs.Example.{its_tables}
use Rattle.wh_fit.specs.Differences.{IsStorable}
use Rattle.wh_fit.specs.Fit.{AreSpelledRows}

its_rows_fit : (i : ℕ) → i < 2 → fit_attrs (relation_at (shop Always) i).attrs (get_or state i []) ≡ true
its_rows_fit zero l = refl
its_rows_fit (suc zero) l = refl
its_rows_fit (suc (suc i)) l = absurd (omega (arith, l))

number : (n : ℕ) → n < 100 → IsSpelledValue (Int (pos n))
number n l = record { sfits = omega (arith, l) }

one_ascii : (b : ℕ) → b < 128 → IsAscii (b ∷ [])
one_ascii b l zero = l
one_ascii b l (suc i) = omega arith

letter : (b : ℕ) → b < 128 → IsSpelledValue (Text (b ∷ []))
letter b l = (omega arith, IsUtf8-from_ascii (b ∷ []) (one_ascii b l))

-- a row of a name and an age, and one of two names
aged : (b n : ℕ) → b < 128 → n < 100 → AllByRecursion IsSpelledValue (Text (b ∷ []) ∷ Int (pos n) ∷ [])
aged b n l m = (letter b l, (number n m, tt))

named : (b c : ℕ) → b < 128 → c < 128 → AllByRecursion IsSpelledValue (Text (b ∷ []) ∷ Text (c ∷ []) ∷ [])
named b c l m = (letter b l, (letter c m, tt))

its_values : (i : ℕ) → i < 2 → AreSpelledRows (get_or state i [])
its_values zero l = (aged 10 23 (omega arith) (omega arith), (aged 11 25 (omega arith) (omega arith), (aged 12 32 (omega arith) (omega arith), tt)))
its_values (suc zero) l = (named 20 10 (omega arith) (omega arith), (named 21 11 (omega arith) (omega arith), (named 20 11 (omega arith) (omega arith), tt)))
its_values (suc (suc i)) l = absurd (omega (arith, l))

pub storable : IsStorable (shop Always) state
storable = record {
  fits = record { relations = refl; rows = its_rows_fit };
  spelled = its_values;
  under = subst (λ tables. first_over tables ≡ None) (sym its_tables) refl;
}
