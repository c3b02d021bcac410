use Rattle.std.proofs.Common.{ap, ◌∙◌, arith}
use Rattle.std.proofs.lemmas.Result.{IfOk-weaker}
use Rattle.wh_base.specs.Columns.{all_in}
use Rattle.wh_base.specs.Heads.{columns_at}
use Rattle.wh_inverse.proofs.BelowLemmas.{below-held, complement-at}
use Rattle.wh_inverse.proofs.FoundLemmas.{complement-found}
use Rattle.wh_inverse.proofs.walk.found_in_complement.Goals as goal

pub rows_where-requires-clause-held : goal.rows_where-requires-clause-held
rows_where-requires-clause-held g c =
    let s = c.args.inverse.now in
    below-held s.plan.now.spec (g.B.Base.heads_of s.below.now) (g.B.Base.has_number s.below.now) s.over c.complement_number-number.result (omega (arith, c.complement_number-number.ensures)) (omega (arith, c.complement_number-number.ensures, c.requires.relation))

pub rows_where-requires-clause-columns : goal.rows_where-requires-clause-columns
rows_where-requires-clause-columns g c =
    let s = c.args.inverse.now in
    let heads = g.B.Base.heads_of s.below.now in
    ap (λ names. all_in names c.args.cols.now) (ap (columns_at heads) c.complement_number-number.ensures ∙ complement-at s.plan.now.spec heads (g.B.Base.has_number s.below.now) s.over c.args.rel c.requires.relation) ∙ c.requires.asked.within

pub returns-clause-rows : goal.returns-clause-rows
returns-clause-rows g c =
    let s = c.args.inverse.now in
    IfOk-weaker c.rows_where.result _ _
    (λ rows h. complement-found s.plan.now.spec (g.B.Base.heads_of s.below.now) (g.B.Base.has_number s.below.now) s.over (g.B.Base.rows_at s.below.now) c.args.rel c.requires.relation
    c.complement_number-number.result c.complement_number-number.ensures c.args.cols.now c.args.vals.now rows h)
    c.rows_where.ensures.rows
