use Rattle.std.proofs.Common.{◌≡◌, ◌++◌, [], codes, refl, ap, ◌∙◌, append_assoc}
use Rattle.std.proofs.lemmas.List.{append-nil}
use Rattle.wh_grammar.specs.Printed.{printed, held, is_or, is_compound, operand_text, op_text}
use Rattle.wh_grammar.proofs.PrintedLemmas.{printed_always, printed_compare, printed_not, printed_and, printed_or}
use Rattle.wh_grammar.proofs.cond_printing.+print.Goals as goal

pub print_cond-returns-in-Always : goal.print_cond-returns-in-Always
print_cond-returns-in-Always t c =
    let text : printed c.args.cond.now ≡ [] = ap printed c.in-Always.is ∙ printed_always in
    rw (text, append-nil c.args.out.now.bytes) refl

pub print_cond-returns-in_ok-print_operand-in-Cmp-2 : goal.print_cond-returns-in_ok-print_operand-in-Cmp-2
print_cond-returns-in_ok-print_operand-in-Cmp-2 t c =
    let a = c.in-Cmp in
    let text : printed c.args.cond.now ≡ operand_text a.left ++ codes " " ++ op_text a.op ++ codes " " ++ operand_text a.right = ap printed a.is ∙ printed_compare a.left a.right a.op in
    rw (text, c.in_ok-print_operand-in-Cmp-2.ensures, c.in_ok-push-in-Cmp-2.ensures.ok, c.in_ok-append-in-Cmp.ensures.ok, c.op_text.ensures, c.in_ok-push-in-Cmp.ensures.ok, c.in_ok-print_operand-in-Cmp.ensures)
    (simp append_assoc)

pub print_cond-returns-in_ok-print_held-in-Not : goal.print_cond-returns-in_ok-print_held-in-Not
print_cond-returns-in_ok-print_held-in-Not t c =
    let inner = c.in-Not.inner in
    let text : printed c.args.cond.now ≡ codes "not " ++ held (is_compound inner) (printed inner) = ap printed c.in-Not.is ∙ printed_not inner in
    rw (text, c.in_ok-print_held-in-Not.ensures, c.in_ok-append-in-Not.ensures.ok, c.is_compound.ensures, c.get.ensures, c.get-in-Not.ensures)
    (append_assoc c.args.out.now.bytes (codes "not ") (held (is_compound inner) (printed inner)))

pub print_cond-returns-in_ok-print_held-in-And-2 : goal.print_cond-returns-in_ok-print_held-in-And-2
print_cond-returns-in_ok-print_held-in-And-2 t c =
    let a = c.in-And in
    let text : printed c.args.cond.now ≡ held (is_or a.left) (printed a.left) ++ codes " and " ++ held (is_compound a.right) (printed a.right) = ap printed a.is ∙ printed_and a.left a.right in
    rw (text, c.in_ok-print_held-in-And-2.ensures, c.in_ok-append-in-And.ensures.ok, c.in_ok-print_held-in-And.ensures, c.is_or.ensures, c.is_compound-in-And.ensures, c.get-in-And.ensures, c.get-in-And-2.ensures, c.get-in-And-3.ensures, c.get-in-And-4.ensures)
    (simp append_assoc)

pub print_cond-returns-in_ok-print_held-in-Or : goal.print_cond-returns-in_ok-print_held-in-Or
print_cond-returns-in_ok-print_held-in-Or t c =
    let a = c.in-Or in
    let text : printed c.args.cond.now ≡ printed a.left ++ codes " or " ++ held (is_or a.right) (printed a.right) = ap printed a.is ∙ printed_or a.left a.right in
    rw (text, c.in_ok-print_held-in-Or.ensures, c.in_ok-append-in-Or.ensures.ok, c.in_ok-print_cond-in-Or.ensures, c.is_or-in-Or.ensures, c.get-in-Or.ensures, c.get-in-Or-2.ensures, c.get-in-Or-3.ensures)
    (simp append_assoc)
