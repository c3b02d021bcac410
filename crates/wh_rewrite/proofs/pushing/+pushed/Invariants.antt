use Rattle.wh_expr.specs.Typing.{depth}
use Rattle.wh_rewrite.proofs.pushing.+pushed.Given as goal

abbrev pub decreases-pushed : goal.decreases-pushed
decreases-pushed l = depth l.e.now
