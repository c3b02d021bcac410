use Rattle.std.proofs.Common.{◌≡◌, ◌≢◌, Ok, Err, rules}
use Rattle.wh_grammar.specs.declared.fault.TextFault.TheVariants.{NoMemory}
use Rattle.wh_query_text.specs.QueryTexts.{raw_of_text}
use Rattle.wh_query_text.proofs.QueryTextLemmas.{raw_is, raw_fault}
use Rattle.wh_query_text.proofs.parsing.parse_raw.Goals as goal

pub returns-in_err-tokens-clause-fault : goal.returns-in_err-tokens-clause-fault
returns-in_err-tokens-clause-fault c =
    let text = c.args.text.now in
    let e = c.in_err-tokens.field-0.0 in
    let h : e ≢ NoMemory → raw_of_text text ≡ Err e = λ known. raw_fault text e (c.in_err-tokens.ensures.fault known) in
    search rules

pub returns-in_err-raw-clause-fault : goal.returns-in_err-raw-clause-fault
returns-in_err-raw-clause-fault c =
    let text = c.args.text.now in
    let e = c.in_err-raw.field-0.0 in
    let h : e ≢ NoMemory → raw_of_text text ≡ Err e = λ known.
    raw_is text c.in_ok-tokens.tokens c.as_slice.result.now c.len.result c.new-cursor.result (Err e) c.in_ok-tokens.ensures.ok c.as_slice.ensures c.new-cursor.ensures c.len.ensures (c.in_err-raw.ensures known) in
    search rules

pub returns-clause-ok : goal.returns-clause-ok
returns-clause-ok c =
    raw_is c.args.text.now c.in_ok-tokens.tokens c.as_slice.result.now c.len.result c.new-cursor.result (Ok (c.in_ok-raw.raw, c.whole_query.new.cursor)) c.in_ok-tokens.ensures.ok c.as_slice.ensures c.new-cursor.ensures c.len.ensures c.in_ok-raw.ensures
