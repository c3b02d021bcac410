-- Constraints of a specification on a state, numbered from 1: keys in relation order, then inclusions in declared order.
use Rattle.std.specs.Prelude.{◌≡◌, ℕ, ◌+◌, ◌<◌, List, [], ◌∷◌, ◌++◌, Bool, true, ◌&&◌, not, map, filter, length, get_or, Option, Some, None, Contains}
use Rattle.std.specs.List.{list_any}
use Rattle.wh_base.specs.RowSet.{has, in_order}
use Rattle.wh_base.specs.Tables.{without}
use Rattle.wh_base.specs.Value.{row_eq}
use Rattle.wh_schema.specs.declared.broken.Broken.{Broken}
use Rattle.wh_schema.specs.declared.spec.Inclusion.{Inclusion}
use Rattle.wh_schema.specs.declared.spec.Spec.{Spec}
use Rattle.wh_schema.specs.Warehouse.{Row, State, numbers, key_value, left_value, right_value}

-- Two rows of a relation with the same key are one row, and each left row of an inclusion has a right row that agrees at the columns.
pub record Legal (spec : Spec) (s : State) : Type 0 where
  pub keys : (i : ℕ) → i < length spec.relations → (x y : Row) → has (get_or s i []) x ≡ true → has (get_or s i []) y ≡ true
      → key_value spec i x ≡ key_value spec i y → x ≡ y
  pub inclusions : (c : Inclusion) → Contains spec.inclusions c → (x : Row) → has (get_or s c.from []) x ≡ true
      → (y : Row) × (has (get_or s c.to []) y ≡ true) × (left_value spec c x ≡ right_value spec c y)

-- another row has the same key
abbrev pub shares_key : Spec → ℕ → List Row → Row → Bool
shares_key spec i rows x = list_any (λ y. not (row_eq x y) && row_eq (key_value spec i x) (key_value spec i y)) rows

-- the key values that different rows of a relation carry
abbrev pub repeated_keys : Spec → State → ℕ → List Row
repeated_keys spec s i = let rows = get_or s i [] in map (key_value spec i) (filter (shares_key spec i rows) rows)

-- the left values of an inclusion that no right row has
abbrev pub missing_values : Spec → State → Inclusion → List Row
missing_values spec s c = without (map (left_value spec c) (get_or s c.from [])) (map (right_value spec c) (get_or s c.to []))

-- what breaks each constraint
abbrev pub breaks : Spec → State → List (List Row)
breaks spec s = map (repeated_keys spec s) (numbers (length spec.relations)) ++ map (missing_values spec s) spec.inclusions

-- the least of the rows with the number, where there is one
abbrev pub least_or : ℕ → List Row → Option Broken → Option Broken
least_or n [] later = later
least_or n (v ∷ vs) later = Some (record { constraint = n; value = v })

-- the first list with a row, counted from n, with its least row
abbrev pub first_break : ℕ → List (List Row) → Option Broken
first_break n [] = None
first_break n (rows ∷ more) = least_or n (in_order rows) (first_break (n + 1) more)

-- the first broken constraint, with its least value; none where the state is legal
abbrev pub broken : Spec → State → Option Broken
broken spec s = first_break 1 (breaks spec s)
