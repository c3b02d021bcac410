-- The meaning of an expression over tables under numbers.
use Rattle.std.specs.Prelude.{ℕ, Bool, true, false, ◌&&◌, List}
use Rattle.wh_base.specs.declared.head.Head.{Head}
use Rattle.wh_base.specs.declared.value.Value.{Value}
use Rattle.wh_base.specs.Columns.{all_in}
use Rattle.wh_base.specs.Heads.{columns_at}
use Rattle.wh_base.specs.Tables.{Table, select, project, join, union, minus}
use Rattle.wh_expr.specs.declared.expr.Expr.{Expr, fold-Expr}
use Rattle.wh_expr.specs.declared.expr.Expr.TheOpen.{Expr-F}
use Rattle.wh_expr.specs.Rename.{rename}

-- the table of an expression, from those of its parts
abbrev pub meaning_at : (ℕ → Table) → Expr-F Table → Table
meaning_at g (Expr-F.Base n) = g n
meaning_at g (Expr-F.Select c t) = select c t
meaning_at g (Expr-F.Project names t) = project names t
meaning_at g (Expr-F.Join t u) = join t u
meaning_at g (Expr-F.Union t u) = union t u
meaning_at g (Expr-F.Minus t u) = minus t u
meaning_at g (Expr-F.Rename pairs t) = rename pairs t

-- the table that an expression stands for, where g gives a table to each number
abbrev pub meaning : (ℕ → Table) → Expr → Table
meaning g = fold-Expr Table (meaning_at g)

-- the tables with these heads and rows
abbrev pub tables : List Head → (ℕ → List (List Value)) → ℕ → Table
tables heads rows n = record { columns = columns_at heads n; rows = rows n }

-- whether each number that an expression names passes the test
abbrev pub uses_only_at : (ℕ → Bool) → Expr-F Bool → Bool
uses_only_at held (Expr-F.Base n) = held n
uses_only_at held (Expr-F.Select c t) = t
uses_only_at held (Expr-F.Project names t) = t
uses_only_at held (Expr-F.Join t u) = t && u
uses_only_at held (Expr-F.Union t u) = t && u
uses_only_at held (Expr-F.Minus t u) = t && u
uses_only_at held (Expr-F.Rename pairs t) = t

abbrev pub uses_only : (ℕ → Bool) → Expr → Bool
uses_only held = fold-Expr Bool (uses_only_at held)

-- whether an expression is a name, or a selection or projection of such a one
abbrev pub is_bound_at : Expr-F Bool → Bool
is_bound_at (Expr-F.Base n) = true
is_bound_at (Expr-F.Select c t) = t
is_bound_at (Expr-F.Project names t) = t
is_bound_at (Expr-F.Join t u) = false
is_bound_at (Expr-F.Union t u) = false
is_bound_at (Expr-F.Minus t u) = false
is_bound_at (Expr-F.Rename pairs t) = false

abbrev pub is_bound : Expr → Bool
is_bound = fold-Expr Bool is_bound_at

-- whether some names are columns of each table that a look-up at them goes through
abbrev pub reaches_at : List Head → List (List ℕ) → Expr-F Bool → Bool
reaches_at heads columns (Expr-F.Base n) = all_in (columns_at heads n) columns
reaches_at heads columns (Expr-F.Select c t) = t
reaches_at heads columns (Expr-F.Project names t) = all_in names columns && t
reaches_at heads columns (Expr-F.Join t u) = true
reaches_at heads columns (Expr-F.Union t u) = true
reaches_at heads columns (Expr-F.Minus t u) = true
reaches_at heads columns (Expr-F.Rename pairs t) = true

abbrev pub reaches : List Head → List (List ℕ) → Expr → Bool
reaches heads columns = fold-Expr Bool (reaches_at heads columns)
