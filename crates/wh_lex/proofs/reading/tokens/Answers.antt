use Rattle.std.proofs.Common.{◌≡◌, ◌<◌, ◌-◌, Ok, length, refl, arith, rules}
use Rattle.std.proofs.lemmas.List.{take_rest}
use Rattle.wh_lex.proofs.LexLemmas.{Reached-push, Lexes-end}
use Rattle.wh_lex.proofs.LexedLemmas.{lexed_is, lexed_fault}
use Rattle.wh_lex.proofs.reading.tokens.Goals as goal

pub loop-rest-preserved : goal.loop-rest-preserved
loop-rest-preserved c =
    let text = c.args.text.now in
    let rest = c.loop-rest.rest.now in
    let piece = c.in_ok-piece.piece in
    let some : 0 < length rest = grind arith in
    let next = Reached-push text rest c.loop-rest.found piece (length text - length rest) c.loop-rest.invariant some refl c.in_ok-piece.ensures.value c.in_ok-piece.ensures.within.0 c.in_ok-piece.ensures.within.1 in
    rw (take_rest rest piece.1, c.in_ok-push_token.ensures) next

pub returns-in_err-piece-clause-fault : goal.returns-in_err-piece-clause-fault
returns-in_err-piece-clause-fault c =
    let text = c.args.text.now in
    let rest = c.loop-rest.rest.now in
    let fault = c.in_err-piece.field-0.0 in
    let some : 0 < length rest = grind arith in
    let h = lexed_fault text rest c.loop-rest.found fault (length text - length rest) c.loop-rest.invariant some refl c.in_err-piece.ensures.value in
    search rules

pub returns-clause-ok : goal.returns-clause-ok
returns-clause-ok c =
    let text = c.args.text.now in
    let none : length c.loop-rest.rest.now ≡ 0 = grind arith in
    lexed_is text (Ok c.loop-rest.found) (Lexes-end text c.loop-rest.rest.now c.loop-rest.found c.loop-rest.invariant none)
