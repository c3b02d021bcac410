-- What an inverse gives over the stored tables of a legal state. The laws are clauses of public functions.
use Rattle.std.specs.Prelude.{◌≡◌, ℕ, ◌+◌, ◌<◌, List, [], length, get_or, true, false, Option, Some, None}
use Rattle.wh_base.specs.RowSet.{has, SameRows}
use Rattle.wh_laws.specs.Laws.{LegalState}
use Rattle.wh_schema.specs.declared.spec.Spec.{Spec}
use Rattle.wh_schema.specs.Reconstruction.{SameTables}
use Rattle.wh_schema.specs.Warehouse.{Row, State, key_value, view_table, stored}
use Rattle.wh_inverse.specs.Inverse.{stored_below, inverse_rows}

-- the row is one of the rows, or there is none
abbrev pub IsOneOf : Option Row → List Row → Type 0
IsOneOf None rows = (r : Row) → has rows r ≡ false
IsOneOf (Some r) rows = has rows r ≡ true

-- the row is the relation's row with the key, or the relation has no such row
abbrev pub IsRowWithKey : Spec → State → ℕ → Row → Option Row → Type 0
IsRowWithKey spec s r key None = (x : Row) → has (get_or s r []) x ≡ true → key_value spec r x ≡ key → ⊥
IsRowWithKey spec s r key (Some x) = (has (get_or s r []) x ≡ true) × (key_value spec r x ≡ key)

-- where the base below has the stored tables of a legal state, each relation has the rows of the state, and each view its own
abbrev pub InverseGivesState : Type 0
InverseGivesState =
    (spec : Spec) (s : State) (rows : ℕ → List Row) → LegalState spec s → SameTables (stored_below spec rows) (stored spec s)
    → ((i : ℕ) → i < length spec.relations → SameRows (inverse_rows spec rows i) (get_or s i []))
    × ((j : ℕ) → j < length spec.views → SameRows (inverse_rows spec rows (length spec.relations + j)) (view_table spec s j).rows)
