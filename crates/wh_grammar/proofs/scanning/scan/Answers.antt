use Rattle.std.proofs.Common.{◌≡◌, sym, ap, ◌∙◌, rules}
use Rattle.wh_grammar.specs.Grammar.{Input, start_of}
use Rattle.wh_grammar.specs.Nesting.{too_nested}
use Rattle.wh_grammar.proofs.ScannedLemmas.{scanned_whole, scanned_deep, scanned_fault}
use Rattle.wh_grammar.proofs.scanning.scan.Goals as goal

pub returns-in_err-found-clause-fault : goal.returns-in_err-found-clause-fault
returns-in_err-found-clause-fault c =
    let h = scanned_fault c.args.text.now c.in_err-found.field-0.0 c.in_err-found.ensures.fault in
    search rules

pub returns-in-Some-clause-fault : goal.returns-in-Some-clause-fault
returns-in-Some-clause-fault c = λ _.
    let start : c.new.result ≡ start_of c.args.text.now c.in_ok-found.found = c.new.ensures ∙ ap (start_of c.args.text.now) c.as_slice.ensures in
    scanned_deep c.args.text.now c.in_ok-found.found c.in-Some.at c.in_ok-found.ensures.ok (ap (λ (i : Input). too_nested 0 0 i.ahead) (sym start) ∙ sym c.in-Some.ensures)

pub returns-clause-ok : goal.returns-clause-ok
returns-clause-ok c =
    let start : c.new.result ≡ start_of c.args.text.now c.in_ok-found.found = c.new.ensures ∙ ap (start_of c.args.text.now) c.as_slice.ensures in
    scanned_whole c.args.text.now c.in_ok-found.found c.in_ok-found.ensures.ok (ap (λ (i : Input). too_nested 0 0 i.ahead) (sym start) ∙ sym c.in_default.ensures)
