-- The rows that a query over relations and views asks.
use Rattle.std.specs.Prelude.{ℕ, ◌+◌, ◌-◌, nat_lt, Bool, List, [], length, get_or, if◌then◌else◌}
use Rattle.wh_schema.specs.declared.spec.Spec.{Spec}
use Rattle.wh_schema.specs.Heads.{heads_of}
use Rattle.wh_schema.specs.Legality.{IsState}
use Rattle.wh_schema.specs.Warehouse.{Row, State, view_table}
use Rattle.wh_rewrite.specs.Rewritten.{AreWide}

-- whether a number is that of a relation or a view
abbrev pub is_source : Spec → ℕ → Bool
is_source spec n = nat_lt n (length spec.relations + length spec.views)

-- the relations and the views of a state
abbrev pub state_rows : Spec → State → ℕ → List Row
state_rows spec s n = if nat_lt n (length spec.relations) then get_or s n [] else (view_table spec s (n - length spec.relations)).rows

-- In every state each row of a relation or a view has a value for each column.
abbrev pub StatesAreWide : Type 0
StatesAreWide = (spec : Spec) (s : State) → IsState spec s → AreWide (heads_of spec) (is_source spec) (state_rows spec s)
