use Rattle.std.proofs.Common.{ap, ◌∙◌, arith}
use Rattle.wh_base.specs.Columns.{all_in}
use Rattle.wh_base.specs.Heads.{columns_at}
use Rattle.wh_schema.specs.declared.spec.View.{View}
use Rattle.wh_inverse.proofs.BelowLemmas.{below-held, view-at}
use Rattle.wh_inverse.proofs.FoundLemmas.{view-found}
use Rattle.wh_inverse.proofs.walk.found_in_view.Goals as goal

pub rows_where-requires-clause-held : goal.rows_where-requires-clause-held
rows_where-requires-clause-held g c =
    let s = c.args.inverse.now in
    below-held s.plan.now.spec (g.B.Base.heads_of s.below.now) (g.B.Base.has_number s.below.now) s.over c.view_number-number.result (omega (arith, c.view_number-number.ensures)) (omega (arith, c.view_number-number.ensures, c.requires.view))

pub rows_where-requires-clause-columns : goal.rows_where-requires-clause-columns
rows_where-requires-clause-columns g c =
    let s = c.args.inverse.now in
    let heads = g.B.Base.heads_of s.below.now in
    ap (λ names. all_in names c.args.cols.now) (ap (columns_at heads) c.view_number-number.ensures ∙ view-at s.plan.now.spec heads (g.B.Base.has_number s.below.now) s.over c.args.view c.requires.view) ∙ c.requires.asked.within

pub returns-clause-rows : goal.returns-clause-rows
returns-clause-rows g c =
    let s = c.args.inverse.now in
    view-found s.plan.now.spec (g.B.Base.heads_of s.below.now) (g.B.Base.has_number s.below.now) s.over (g.B.Base.rows_at s.below.now) c.args.view c.requires.view c.view_number-number.result c.view_number-number.ensures
    c.in_ok-copy.field-0 c.args.cols.now c.args.vals.now (c.in_ok-copy.ensures ∙ ap (λ (v : View). v.head) c.view_at.ensures) c.in_ok-rows.rows c.in_ok-rows.ensures.rows.same
