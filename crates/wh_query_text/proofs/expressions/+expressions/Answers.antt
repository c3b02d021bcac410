use Rattle.std.proofs.Common.{arith, ◌≡◌, ◌++◌, codes}
use Rattle.std.proofs.lemmas.Grind.{common_steps}
use Rattle.wh_query_text.specs.Printed.{expr_shown, placed}
use Rattle.wh_query_text.proofs.PlacedLemmas.{placed_loose, placed_tight}
use Rattle.wh_query_text.proofs.expressions.+expressions.Goals as goal

pub put_placed-returns-in_ok-put_expr : goal.put_placed-returns-in_ok-put_expr
put_placed-returns-in_ok-put_expr t c =
    let s = expr_shown c.args.heads.now c.args.e.now in
    let is : placed c.args.least s ≡ codes "(" ++ s.text ++ codes ")" = placed_loose c.args.least c.level.result s (c.level.ensures c.args.heads.now) c.if-level-least.true in
    grind (arith, common_steps)

pub put_placed-returns-else-level-least : goal.put_placed-returns-else-level-least
put_placed-returns-else-level-least t c =
    let s = expr_shown c.args.heads.now c.args.e.now in
    let is : placed c.args.least s ≡ s.text = placed_tight c.args.least c.level.result s (c.level.ensures c.args.heads.now) c.if-level-least.false in
    grind (arith, common_steps)
