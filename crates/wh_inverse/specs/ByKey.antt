-- What a look-up of a row by its key costs.
use Rattle.std.specs.Prelude.{◌≡◌, ℕ, nat_eq, ◌&&◌, Bool, List, length}
use Rattle.wh_base.specs.declared.value.Value.{Value}
use Rattle.wh_base.specs.Tables.{matching}
use Rattle.wh_expr.specs.Typing.{are_distinct}
use Rattle.wh_plan.specs.Expressions.{complement_number}
use Rattle.wh_schema.specs.declared.spec.Spec.{Spec}
use Rattle.wh_schema.specs.Warehouse.{Row, columns_of, key_of}

-- a value for each column of the relation's key, which names no column twice: then the key is an indexed set of its complement
abbrev pub is_plain_key : Spec → ℕ → List Value → Bool
is_plain_key spec r key = nat_eq (length key) (length (key_of spec r)) && are_distinct (key_of spec r)

-- the rows with the key that are stored in the complement of the relation
abbrev pub complement_with_key : Spec → (ℕ → List Row) → ℕ → List Value → List Row
complement_with_key spec rows r key = matching (columns_of spec r) (key_of spec r) key (rows (complement_number spec r))
