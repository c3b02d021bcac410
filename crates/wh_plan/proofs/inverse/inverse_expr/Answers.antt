use Rattle.std.proofs.Common.{◌∙◌, sym, ap, subst, length, fold, All, List}
use Rattle.std.proofs.lemmas.List.{take_all}
use Rattle.wh_expr.specs.declared.expr.Expr.{Expr}
use Rattle.wh_expr.specs.declared.expr.Expr.TheVariants.{Base, Union}
use Rattle.wh_schema.specs.declared.piece.Piece.{Piece}
use Rattle.wh_schema.proofs.CoverNumbers.{cover_numbers_are}
use Rattle.wh_schema.specs.Warehouse.{columns_of, pieces, pieces_at, cover_numbers}
use Rattle.wh_plan.specs.Expressions.{cover_expr, complement_number}
use Rattle.wh_plan.specs.Held.{AreHeld, AreNumbers}
use Rattle.wh_plan.proofs.HeldLemmas.{pieces_held, cover_numbers_held}
use Rattle.wh_plan.proofs.OrderLemmas.{fold-map}
use Rattle.wh_plan.proofs.inverse.inverse_expr.Goals as goal

pub cover_expr-requires-clause-held : goal.cover_expr-requires-clause-held
cover_expr-requires-clause-held c =
    let spec = c.args.spec.now in
    subst (AreHeld spec) (sym (c.as_slice.ensures ∙ c.requires.pieces)) (pieces_held spec c.args.relation)

pub cover_expr-requires-clause-numbers : goal.cover_expr-requires-clause-numbers
cover_expr-requires-clause-numbers c =
    let spec = c.args.spec.now in
    let ps = pieces spec c.args.relation in
    let items = c.as_slice-cover-items.ensures ∙ c.requires.covers in
    let all = subst (All (AreNumbers (length ps))) (sym items) (cover_numbers_held (columns_of spec c.args.relation) ps) in
    let one = subst (AreNumbers (length ps)) (sym (c.as_slice-in-loop-cover.ensures ∙ c.cover-item.is)) (all c.loop-cover.cover-index c.cover-item.result c.loop-cover-test.true) in
    subst (λ n. AreNumbers n c.as_slice-in-loop-cover.result.now) (sym (ap length (c.as_slice.ensures ∙ c.requires.pieces))) one

pub returns : goal.returns
returns c =
    let spec = c.args.spec.now in
    let names = columns_of spec c.args.relation in
    let ps = pieces spec c.args.relation in
    let f = λ (e : Expr) (cover : List Piece). Union e (cover_expr spec names cover) in
    let first = Base (complement_number spec c.args.relation) in
    c.loop-cover.invariant
    ∙ ap (fold (λ e numbers. f e (pieces_at ps numbers)) first) (take_all c.loop-cover.cover-index c.as_slice-cover-items.result.now c.loop-cover-test.false ∙ c.as_slice-cover-items.ensures ∙ c.requires.covers)
    ∙ fold-map f (pieces_at ps) first (cover_numbers names ps)
    ∙ ap (fold f first) (cover_numbers_are names ps)
