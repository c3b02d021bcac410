-- Tables and the operations of the algebra on them. A row is the list of its values in the order of the columns.
use Rattle.std.specs.Prelude.{ℕ, Bool, not, List, [], ◌∷◌, ◌++◌, map, filter, fold}
use Rattle.std.specs.List.{flat_map}
use Rattle.wh_base.specs.declared.value.Value.{Value}
use Rattle.wh_base.specs.declared.cond.Cond.{Cond}
use Rattle.wh_base.specs.Columns.{shared, others, cut}
use Rattle.wh_base.specs.Cond.{holds}
use Rattle.wh_base.specs.RowSet.{has}
use Rattle.wh_base.specs.Value.{row_eq}

pub record Table : Type 0 where
  pub columns : List (List ℕ)
  pub rows : List (List Value)

-- the rows on which the condition is true
abbrev pub select : Cond → Table → Table
select c t = record { columns = t.columns; rows = filter (holds c t.columns) t.rows }

-- the rows cut to names
abbrev pub project : List (List ℕ) → Table → Table
project names t = record { columns = names; rows = map (cut t.columns names) t.rows }

-- two rows agree on all shared columns
abbrev pub agree : List (List ℕ) → List (List ℕ) → List Value → List Value → Bool
agree left right x y = row_eq (cut left (shared left right) x) (cut right (shared left right) y)

-- the rows that a left row gives with its partners
abbrev pub joined : List (List ℕ) → List (List ℕ) → List (List Value) → List Value → List (List Value)
joined left right ys x = map (λ y. x ++ cut right (others left right) y) (filter (agree left right x) ys)

-- the combined row of each pair that agrees on all shared columns
abbrev pub join : Table → Table → Table
join t u = record { columns = t.columns ++ others t.columns u.columns; rows = flat_map (joined t.columns u.columns u.rows) t.rows }

-- the table with no column and one row, which is what no table joins to
abbrev pub unit : Table
unit = record { columns = []; rows = [] ∷ [] }

-- the join of tables, grouped to the left
abbrev pub join_all : List Table → Table
join_all [] = unit
join_all (t ∷ ts) = fold join t ts

-- the right rows in the left order of columns
abbrev pub arranged : Table → Table → List (List Value)
arranged t u = map (cut u.columns t.columns) u.rows

-- the rows of both
abbrev pub union : Table → Table → Table
union t u = record { columns = t.columns; rows = t.rows ++ arranged t u }

-- the rows of the first list that the second lacks
abbrev pub without : List (List Value) → List (List Value) → List (List Value)
without rows gone = filter (λ r. not (has gone r)) rows

-- the left rows that are no right rows
abbrev pub minus : Table → Table → Table
minus t u = record { columns = t.columns; rows = without t.rows (arranged t u) }

-- other names for the columns, place by place
abbrev pub with_columns : List (List ℕ) → Table → Table
with_columns names t = record { columns = names; rows = t.rows }

-- the rows whose values at the names are these
abbrev pub matching : List (List ℕ) → List (List ℕ) → List Value → List (List Value) → List (List Value)
matching columns names values rows = filter (λ r. row_eq (cut columns names r) values) rows
