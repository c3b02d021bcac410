use Rattle.std.proofs.Common.{◌≡◌, Err, rules, sym, subst, ◌∙◌}
use Rattle.wh_expr.specs.declared.expr.Expr.TheOpen.{Expr-F}
use Rattle.wh_expr.specs.declared.expr.Expr.TheVariants.{rolls-Select, rolls-Join}
use Rattle.wh_expr.specs.Typing.{Answers, typing, select_causes}
use Rattle.wh_expr.proofs.TypingLemmas.{Answers-append, Answers-right, Answers-one, typing-rolled}
use Rattle.wh_expr.proofs.typing.+by_rules.Goals as goal

pub returns-in_err-attrs-in-Select : goal.returns-in_err-attrs-in-Select
returns-in_err-attrs-in-Select t c =
    let heads = c.args.heads.now in
    let at = typing-rolled heads c.args.e.now (Expr-F.Select c.in-Select.cond c.in-Select.child) (c.in-Select.is ∙ sym (rolls-Select _ _)) in
    let part : Answers c.by_rules.result (typing heads c.in-Select.child) = search rules in
    let same : c.from_residual.result ≡ Err c.in_err-attrs-in-Select.field-0.0 = search rules in
    subst (λ r. Answers r (typing heads c.args.e.now)) (sym same)
    (subst (Answers (Err c.in_err-attrs-in-Select.field-0.0)) (sym at) (Answers-append c.in_err-attrs-in-Select.field-0.0 _ _ _ _ (c.in_err-attrs-in-Select.ensures (typing heads c.in-Select.child) part)))

pub returns-in_err-right-in-Join : goal.returns-in_err-right-in-Join
returns-in_err-right-in-Join t c =
    let heads = c.args.heads.now in
    let at = typing-rolled heads c.args.e.now (Expr-F.Join c.in-Join.left c.in-Join.right) (c.in-Join.is ∙ sym (rolls-Join _ _)) in
    let left : Answers c.by_rules-in-Join.result (typing heads c.in-Join.left) = search rules in
    let right : Answers c.by_rules-in-Join-2.result (typing heads c.in-Join.right) = search rules in
    let same : c.from_residual-in_err-right-in-Join.result ≡ Err c.in_err-right-in-Join.field-0.0 = search rules in
    subst (λ r. Answers r (typing heads c.args.e.now)) (sym same)
    (subst (Answers (Err c.in_err-right-in-Join.field-0.0)) (sym at)
    (Answers-right c.in_err-right-in-Join.field-0.0 _ _ _ _ _ (c.in_ok-left-in-Join.ensures (typing heads c.in-Join.left) left).0 (c.in_err-right-in-Join.ensures (typing heads c.in-Join.right) right)))

pub returns-in_ok-attrs-in-Select : goal.returns-in_ok-attrs-in-Select
returns-in_ok-attrs-in-Select t c =
    let heads = c.args.heads.now in
    let at = typing-rolled heads c.args.e.now (Expr-F.Select c.in-Select.cond c.in-Select.child) (c.in-Select.is ∙ sym (rolls-Select _ _)) in
    let part : Answers c.by_rules.result (typing heads c.in-Select.child) = search rules in
    subst (Answers c.select.result) (sym at) (Answers-one c.select.result (typing heads c.in-Select.child) _ (λ a. a) (select_causes c.in-Select.cond) (c.in_ok-attrs-in-Select.ensures (typing heads c.in-Select.child) part) c.select.ensures)
