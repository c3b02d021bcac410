use Rattle.std.proofs.Common.{◌≡◌, map, take}
use Rattle.wh_expr.specs.declared.expr.Expr.TheVariants.{Base}
use Rattle.wh_plan.proofs.inverse.bases.Given as goal

abbrev pub invariant-loop-relation : goal.invariant-loop-relation
invariant-loop-relation l = l.exprs.items ≡ map (λ i. Base i) (take l.relation-index l.relations)
