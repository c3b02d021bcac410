-- The part of a table that a look-up finds.
use Rattle.std.specs.Prelude.{ℕ, List}
use Rattle.wh_base.specs.declared.value.Value.{Value}
use Rattle.wh_base.specs.Tables.{Table, matching}

-- the rows of a table whose values at the names are these
abbrev pub rows_with : List (List ℕ) → List Value → Table → List (List Value)
rows_with names values t = matching t.columns names values t.rows

-- a table with these rows alone
abbrev pub narrowed : List (List ℕ) → List Value → Table → Table
narrowed names values t = record { columns = t.columns; rows = rows_with names values t }
