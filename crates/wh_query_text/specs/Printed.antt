-- How expressions are printed.
use Rattle.std.specs.Prelude.{ℕ, ◌+◌, nat_lt, List, [], ◌++◌, Option, None, Some, slice_get, codes, if◌then◌else◌}
use Rattle.wh_base.specs.declared.head.Head.{Head}
use Rattle.wh_base.specs.Lines.{separated, separated_by}
use Rattle.wh_expr.specs.declared.expr.Expr.{Expr, fold-Expr}
use Rattle.wh_expr.specs.declared.expr.Expr.TheOpen.{Expr-F}
use Rattle.wh_expr.specs.declared.expr.Renaming.{Renaming}
use Rattle.wh_grammar.specs.Printed.{printed}

-- A printed expression, and how tightly it binds: `union` and `minus` at level 1, `join` at level 2, prefixes and names at level 3.
pub record Shown : Type 0 where
  pub level : ℕ
  pub text : List ℕ

-- in parentheses where it binds less tightly than its place needs
abbrev pub placed : ℕ → Shown → List ℕ
placed least s = if nat_lt s.level least then codes "(" ++ s.text ++ codes ")" else s.text

-- two parts with a word between them, which group to the left: a right part of the same level needs parentheses
abbrev pub beside : ℕ → Shown → List ℕ → Shown → Shown
beside level left word right = record { level = level; text = placed level left ++ word ++ placed (level + 1) right }

-- a part behind a prefix
abbrev pub behind : List ℕ → Shown → Shown
behind prefix part = record { level = 3; text = prefix ++ placed 3 part }

-- ---- expressions

abbrev name_in : Option Head → List ℕ
name_in None = []
name_in (Some h) = h.name

-- the name of a number, or nothing past the last one
abbrev pub name_at : List Head → ℕ → List ℕ
name_at heads n = name_in (slice_get heads n)

-- what stands between the items of a list
abbrev pub list_mark : List ℕ
list_mark = codes ", "

abbrev pub names_text : List (List ℕ) → List ℕ
names_text = separated list_mark

abbrev pub renaming_text : Renaming → List ℕ
renaming_text p = p.from ++ codes " to " ++ p.to

abbrev pub renamings_text : List Renaming → List ℕ
renamings_text = separated_by renaming_text list_mark

-- from the parts of an expression
abbrev pub expr_shown_at : List Head → Expr-F Shown → Shown
expr_shown_at heads (Expr-F.Base n) = record { level = 3; text = name_at heads n }
expr_shown_at heads (Expr-F.Select c part) = behind (codes "select (" ++ printed c ++ codes ") ") part
expr_shown_at heads (Expr-F.Project names part) = behind (codes "project (" ++ names_text names ++ codes ") ") part
expr_shown_at heads (Expr-F.Join left right) = beside 2 left (codes " join ") right
expr_shown_at heads (Expr-F.Union left right) = beside 1 left (codes " union ") right
expr_shown_at heads (Expr-F.Minus left right) = beside 1 left (codes " minus ") right
expr_shown_at heads (Expr-F.Rename pairs part) = behind (codes "rename (" ++ renamings_text pairs ++ codes ") ") part

abbrev pub expr_shown : List Head → Expr → Shown
expr_shown heads = fold-Expr Shown (expr_shown_at heads)

-- an expression with the fewest parentheses
abbrev pub expr_text : List Head → Expr → List ℕ
expr_text heads e = (expr_shown heads e).text
