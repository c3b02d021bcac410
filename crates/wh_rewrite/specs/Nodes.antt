-- Nodes that are left out where they change nothing.
use Rattle.std.specs.Prelude.{◌≡◌, Ok, Result}
use Rattle.wh_base.specs.declared.cond.Cond.{Cond, out-Cond}
use Rattle.wh_base.specs.declared.cond.Cond.TheOpen.{Cond-F}
use Rattle.wh_expr.specs.declared.expr.Expr.{Expr}
use Rattle.wh_expr.specs.declared.expr.Expr.TheVariants.{Select, Project}
use Rattle.wh_rewrite.specs.declared.wanted.Wanted.{Wanted}
use Rattle.wh_rewrite.specs.declared.wanted.Wanted.TheVariants.{All, Only}

abbrev pub selection_at : Cond → Expr → Cond-F Cond → Expr
selection_at c e Cond-F.Always = e
selection_at c e (Cond-F.Cmp a op b) = Select c e
selection_at c e (Cond-F.And a b) = Select c e
selection_at c e (Cond-F.Or a b) = Select c e
selection_at c e (Cond-F.Not a) = Select c e

-- a selection, or the expression itself where the condition is always true
abbrev pub selection : Cond → Expr → Expr
selection c e = selection_at c e (out-Cond c)

-- a projection, or the expression itself where all its columns are wanted
abbrev pub projection : Wanted → Expr → Expr
projection All e = e
projection (Only names) e = Project names e

-- a fact of the expressions that were made, where they were
abbrev pub OfOne : {E : Type 0} → Result Expr E → (Expr → Type 0) → Type 0
OfOne made Q = (x : Expr) × (made ≡ Ok x) × Q x

abbrev pub OfBoth : {E : Type 0} → Result Expr E → Result Expr E → (Expr → Expr → Type 0) → Type 0
OfBoth left right Q = (x : Expr) × (y : Expr) × (left ≡ Ok x) × (right ≡ Ok y) × Q x y
