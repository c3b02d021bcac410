use Rattle.std.proofs.Common.{◌≡◌, fold}
use Rattle.wh_expr.specs.declared.expr.Expr.TheVariants.{Join}
use Rattle.wh_plan.proofs.trees.joined_with.Given as goal

abbrev pub invariant-loop-other : goal.invariant-loop-other
invariant-loop-other l = l.all ≡ fold (λ a b. Join a b) l.fn.first l.yielded
