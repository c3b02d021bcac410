use Rattle.std.proofs.Common.{◌+◌, length, sym, ap, ◌∙◌, arith}
use Rattle.std.proofs.lemmas.Result.{IfOk-weaker}
use Rattle.wh_base.specs.Columns.{all_in}
use Rattle.wh_base.specs.Heads.{columns_at}
use Rattle.wh_base.specs.Tables.{matching}
use Rattle.wh_inverse.proofs.BelowLemmas.{below-held, relation-at}
use Rattle.wh_inverse.proofs.GivenLemmas.{set-is, given-view, given-relation}
use Rattle.wh_inverse.proofs.Tests.{lt-from, ge-from}
use Rattle.wh_inverse.proofs.inverse.InverseBase.rows_where.Goals as goal

pub relation_where-requires-clause-asked : goal.relation_where-requires-clause-asked
relation_where-requires-clause-asked g c =
    let s = c.args.self.now in
    let spec = s.plan.now.spec in
    let within = lt-from c.args.n (length spec.relations) (sym c.is_relation.ensures ∙ c.if-is_relation.true) in
    record {
      within = ap (λ names. all_in names c.args.cols.now) (sym (relation-at spec (g.B.Base.heads_of s.below.now) (g.B.Base.has_number s.below.now) s.over c.args.n within)) ∙ c.requires.columns;
      some = c.requires.some;
      distinct = c.requires.distinct;
      one_each = c.requires.one_each;
    }

pub rows_where-requires-clause-held : goal.rows_where-requires-clause-held
rows_where-requires-clause-held g c =
    let s = c.args.self.now in
    let spec = s.plan.now.spec in
    let high = ge-from c.args.n (length spec.relations) (sym c.is_relation.ensures ∙ c.if-is_relation.false) in
    let low = lt-from c.args.n (length spec.relations + length spec.views) c.requires.held in
    below-held spec (g.B.Base.heads_of s.below.now) (g.B.Base.has_number s.below.now) s.over c.args.n high (omega (arith, low))

pub returns-then-is_relation-clause-rows : goal.returns-then-is_relation-clause-rows
returns-then-is_relation-clause-rows g c =
    let s = c.args.self.now in
    let spec = s.plan.now.spec in
    let heads = g.B.Base.heads_of s.below.now in
    let within = lt-from c.args.n (length spec.relations) (sym c.is_relation.ensures ∙ c.if-is_relation.true) in
    let columns = sym (relation-at spec heads (g.B.Base.has_number s.below.now) s.over c.args.n within) in
    let given = given-relation spec (g.B.Base.rows_at s.below.now) c.args.n within in
    IfOk-weaker c.relation_where.result _ _ (λ rows h. set-is rows _ _ h (λ i. matching (columns i) c.args.cols.now c.args.vals.now (given i))) c.relation_where.ensures.rows

pub returns-else-is_relation-clause-rows : goal.returns-else-is_relation-clause-rows
returns-else-is_relation-clause-rows g c =
    let s = c.args.self.now in
    let spec = s.plan.now.spec in
    let high = ge-from c.args.n (length spec.relations) (sym c.is_relation.ensures ∙ c.if-is_relation.false) in
    let low = lt-from c.args.n (length spec.relations + length spec.views) c.requires.held in
    let given = given-view spec (g.B.Base.rows_at s.below.now) c.args.n high low in
    IfOk-weaker c.rows_where.result _ _ (λ rows h. set-is rows _ _ h (λ i. matching (columns_at (g.B.Base.heads_of s.below.now) c.args.n) c.args.cols.now c.args.vals.now (given i))) c.rows_where.ensures.rows
