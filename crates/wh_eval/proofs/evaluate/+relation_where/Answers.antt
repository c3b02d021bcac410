use Rattle.std.proofs.Common.{ℕ, ap, sym, ◌∙◌}
use Rattle.std.proofs.lemmas.Result.{IfOk-weaker}
use Rattle.wh_base.specs.Tables.{Table}
use Rattle.wh_expr.specs.declared.expr.Expr.TheVariants.{Select, Project}
use Rattle.wh_expr.specs.Meaning.{tables}
use Rattle.wh_expr.proofs.NarrowedLemmas.{all_in-reaches}
use Rattle.wh_eval.proofs.EvaluateLemmas.{where-Select, where-Project}
use Rattle.wh_eval.proofs.evaluate.+relation_where.Goals as goal

pub returns-in_ok-found-in-Select-clause-rows : goal.returns-in_ok-found-in-Select-clause-rows
returns-in_ok-found-in-Select-clause-rows g t c =
    let base : ℕ → Table = tables (g.B.Base.heads_of c.args.base.now) (g.B.Base.rows_at c.args.base.now) in
    where-Select base c.args.e.now c.select.result c.args.cols.now c.args.vals.now c.in-Select.cond c.get.result.now c.in_ok-found-in-Select.found
    (c.in-Select.is ∙ ap (Select c.in-Select.cond) (sym c.get.ensures)) c.in_ok-found-in-Select.ensures.rows c.select.ensures

pub returns-in_ok-found-in-Project-clause-rows : goal.returns-in_ok-found-in-Project-clause-rows
returns-in_ok-found-in-Project-clause-rows g t c =
    let base : ℕ → Table = tables (g.B.Base.heads_of c.args.base.now) (g.B.Base.rows_at c.args.base.now) in
    IfOk-weaker c.project.result _ _
    (λ r. where-Project base c.args.e.now r c.args.cols.now c.args.vals.now c.in-Project.names c.get-in-Project.result.now c.in_ok-found-in-Project.found
    (c.in-Project.is ∙ ap (Project c.in-Project.names) (sym c.get-in-Project.ensures))
    (all_in-reaches (g.B.Base.heads_of c.args.base.now) c.args.cols.now c.in-Project.names c.in-Project.child c.args.e.now c.in-Project.is c.requires.columns) c.in_ok-found-in-Project.ensures.rows)
    c.project.ensures
