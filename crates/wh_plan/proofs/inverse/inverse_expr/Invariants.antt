use Rattle.std.proofs.Common.{◌≡◌, fold, take}
use Rattle.wh_expr.specs.declared.expr.Expr.TheVariants.{Base, Union}
use Rattle.wh_plan.specs.Expressions.{cover_expr, complement_number}
use Rattle.wh_schema.specs.Warehouse.{columns_of, pieces, pieces_at}
use Rattle.wh_plan.proofs.inverse.inverse_expr.Given as goal

abbrev pub invariant-loop-cover : goal.invariant-loop-cover
invariant-loop-cover l =
    l.inverse ≡ fold (λ e c. Union e (cover_expr l.spec (columns_of l.spec l.relation) (pieces_at (pieces l.spec l.relation) c))) (Base (complement_number l.spec l.relation)) (take l.cover-index l.cover-items)
