-- What loading answers.
use Rattle.std.specs.Prelude.{◌≡◌, ℕ, nat_lt, List, [], length, get_or, Option, None, Some}
use Rattle.std.specs.List.{position}
use Rattle.wh_base.specs.declared.value.Value.{Value}
use Rattle.wh_base.specs.RowSet.{AreDistinct}
use Rattle.wh_load.specs.declared.fault.LoadFault.{LoadFault}
use Rattle.wh_load.specs.declared.fault.LoadFault.TheVariants as fault
use Rattle.wh_schema.specs.declared.spec.Spec.{Spec}
use Rattle.wh_schema.specs.Constraints.{broken}
use Rattle.wh_schema.specs.Warehouse.{stored}

-- each relation has each of its rows once
abbrev pub HasDistinctRows : List (List (List Value)) → Type 0
HasDistinctRows s = (i : ℕ) → AreDistinct (get_or s i [])

-- the number of the first table, from 0, with more rows than are stored
abbrev pub first_over : List (List (List Value)) → Option ℕ
first_over tables = position (λ rows. nat_lt 4000000 (length rows)) tables

-- what a fault says of tables that are to be stored
abbrev pub IsOver : List (List (List Value)) → LoadFault → Type 0
IsOver tables (fault.Broken b) = ⊥
IsOver tables (fault.RowLimit k) = first_over tables ≡ Some k
IsOver tables fault.NoMemory = Unit {0}

-- what a fault says of a state
abbrev pub IsLoadFault : Spec → List (List (List Value)) → LoadFault → Type 0
IsLoadFault spec s (fault.Broken b) = broken spec s ≡ Some b
IsLoadFault spec s (fault.RowLimit k) = (broken spec s ≡ None) × (first_over (stored spec s) ≡ Some k)
IsLoadFault spec s fault.NoMemory = Unit {0}
