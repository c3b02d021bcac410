use Rattle.std.proofs.Common.{◌≢◌, Some, [], refl, sym, ap, ◌∙◌, arith}
use Rattle.std.proofs.lemmas.Bool.{iff_false}
use Rattle.wh_grammar.proofs.GrammarLemmas.{left, after_is}
use Rattle.wh_grammar.proofs.NestingLemmas.{too_nested_step, some_left, parens_fit, connectives_fit}
use Rattle.wh_grammar.proofs.nesting.too_nested.Goals as goal

pub returns-then-is_too_deep : goal.returns-then-is_too_deep
returns-then-is_too_deep c =
    let some : c.next.cursor.ahead ≢ [] = iff_false c.is_done.ensures c.next-test.true in
    let deep = sym c.is_too_deep.ensures ∙ c.if-is_too_deep.true in
    let e = c.next.invariant.0 ∙ too_nested_step c.next.parens c.next.connectives c.next.cursor some in
    rw (e, ← c.peek-symbol.ensures, deep) (ap Some c.place.ensures)

pub next-smaller : goal.next-smaller
next-smaller c =
    let some : c.next.cursor.ahead ≢ [] = iff_false c.is_done.ensures c.next-test.true in
    omega (arith, some_left c.next.cursor.ahead some, after_is c.next.cursor, ap left c.advance.ensures)

pub next-preserved : goal.next-preserved
next-preserved c =
    let some : c.next.cursor.ahead ≢ [] = iff_false c.is_done.ensures c.next-test.true in
    let flat = sym c.is_too_deep.ensures ∙ c.if-is_too_deep.false in
    let e = c.next.invariant.0 ∙ too_nested_step c.next.parens c.next.connectives c.next.cursor some in
    rw (c.parens_after-parens.ensures, c.connectives_after-connectives.ensures, c.advance.ensures)
    (rw (e, ← c.peek-symbol.ensures, flat) refl, parens_fit c.next.parens c.next.connectives c.peek-symbol.result c.next.invariant.1 flat, connectives_fit c.next.parens c.next.connectives c.peek-symbol.result c.next.invariant.2 flat)
