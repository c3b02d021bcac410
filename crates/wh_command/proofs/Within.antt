-- A case that words name has its numbers within their bounds.
use Rattle.std.proofs.Common.{◌≡◌, ◌≤◌, ℕ, Bool, true, false, ◌&&◌, if◌then◌else◌, List, [], ◌∷◌, Option, None, Some, IfSome, refl, sym, subst}
use Rattle.std.specs.Prelude.{ℤ, pos, negsuc, codes, nat_le, option_and_then}
use Rattle.std.specs.Str.{bytes_eq}
use Rattle.std.proofs.lemmas.Bool.{and_parts, leb-true}
use Rattle.wh_csv.specs.Fields.{integer}
use Rattle.wh_command.specs.Commands.{Command, IsWithin, alone, bounded, command_of, command_with, made, number_in, other_command, with_one, with_two}

abbrev IsBetween : ℕ → ℕ → Option ℕ → Type 0
IsBetween least most number = IfSome number (λ (n : ℕ). (least ≤ n) × (n ≤ most))

bounded_between : (least most : ℕ) (z : ℤ) → IsBetween least most (bounded least most z)
bounded_between least most (negsuc n) = tt
bounded_between least most (pos n) = by (nat_le least n && nat_le n most) refl
  where
    by : (b : Bool) → (nat_le least n && nat_le n most) ≡ b → IsBetween least most (if b then Some n else None)
    by true is = let both = and_parts (nat_le least n) (nat_le n most) is in (leb-true _ _ both.0, leb-true _ _ both.1)
    by false is = tt

read_between : (least most : ℕ) (read : Option ℤ) → IsBetween least most (option_and_then (bounded least most) read)
read_between least most None = tt
read_between least most (Some z) = bounded_between least most z

made_within : (number size : Option ℕ) → IsBetween 0 999999 number → IsBetween 1 100000 size → IfSome (made number size) IsWithin
made_within None size number_is size_is = tt
made_within (Some number) None number_is size_is = tt
made_within (Some number) (Some size) number_is size_is = (number_is.1, size_is.0, size_is.1)

if_within : (b : Bool) (x y : Option Command) → IfSome x IsWithin → IfSome y IsWithin → IfSome (if b then x else y) IsWithin
if_within true x y x_is y_is = x_is
if_within false x y x_is y_is = y_is

two_within : (verb first second : List ℕ) → IfSome (with_two verb first second) IsWithin
two_within verb first second =
    if_within (bytes_eq verb (codes "show")) _ _ tt
    (if_within (bytes_eq verb (codes "load")) _ _ tt
    (if_within (bytes_eq verb (codes "audit")) _ _ tt
    (if_within (bytes_eq verb (codes "make")) _ _ (made_within (number_in 0 999999 first) (number_in 1 100000 second) (read_between 0 999999 (integer first)) (read_between 1 100000 (integer second))) tt)))

one_within : (verb word : List ℕ) → IfSome (with_one verb word) IsWithin
one_within verb word = if_within (bytes_eq verb (codes "plan")) _ _ tt (if_within (bytes_eq verb (codes "query")) _ _ tt (if_within (bytes_eq verb (codes "dump")) _ _ tt tt))

other_within : (verb first : List ℕ) (more : List (List ℕ)) → IfSome (other_command verb first more) IsWithin
other_within verb first [] = one_within verb first
other_within verb first (second ∷ []) = two_within verb first second
other_within verb first (second ∷ third ∷ more) = tt

with_within : (verb : List ℕ) (words : List (List ℕ)) → IfSome (command_with verb words) IsWithin
with_within verb [] = if_within (bytes_eq verb (codes "report")) _ _ tt tt
with_within verb (first ∷ more) = if_within (bytes_eq verb (codes "refresh")) _ _ tt (other_within verb first more)

all_within : (words : List (List ℕ)) → IfSome (command_of words) IsWithin
all_within [] = tt
all_within (verb ∷ words) = with_within verb words

pub within_by : (words : List (List ℕ)) (command : Command) → Some command ≡ command_of words → IsWithin command
within_by words command is = subst (λ (o : Option Command). IfSome o IsWithin) (sym is) (all_within words)
