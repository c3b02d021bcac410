-- The cases of the statements of a text.
use Rattle.std.proofs.Common.{◌≡◌, ℕ, List, length, Ok, Err, sym, ap, ◌∙◌}
use Rattle.std.proofs.lemmas.List.{length-map}
use Rattle.wh_lex.specs.declared.token.Token.{Token}
use Rattle.wh_grammar.specs.declared.fault.TextFault.{TextFault}
use Rattle.wh_grammar.specs.Grammar.{Input, Outcome, lexeme, start_of}
use Rattle.wh_grammar.specs.Scanned.{scanned, value_of}
use Rattle.wh_grammar.proofs.ScannedLemmas.{read_text_fault, read_text_read}
use Rattle.wh_schema.specs.declared.raw.RawStatement.{RawStatement}
use Rattle.wh_spec_text.specs.Statements.{statements, specification}
use Rattle.wh_spec_text.specs.Texts.{without_mark, raw_of_text}

-- what was read of a text, by the steps of its reading
pub raw_is : (text rest : List ℕ) (tokens slice : List Token) (depth : ℕ) (i : Input) (o : Outcome (List RawStatement))
    → rest ≡ without_mark text → scanned rest ≡ Ok tokens → slice ≡ tokens → i ≡ start_of rest slice → depth ≡ length tokens → statements depth i ≡ o → raw_of_text text ≡ value_of o
unfolding raw_of_text
raw_is text rest tokens slice depth i o mark read whole start deep e =
    let begun : start_of (without_mark text) tokens ≡ i = ap (start_of (without_mark text)) (sym whole) ∙ (ap (λ t. start_of t slice) (sym mark) ∙ sym start) in
    let enough : length (start_of (without_mark text) tokens).ahead ≡ depth = length-map tokens (lexeme (without_mark text)) ∙ sym deep in
    read_text_read specification (without_mark text) tokens o (ap scanned (sym mark) ∙ read) (ap (λ d. statements d (start_of (without_mark text) tokens)) enough ∙ (ap (statements depth) begun ∙ e))

pub raw_fault : (text : List ℕ) (e : TextFault) → scanned (without_mark text) ≡ Err e → raw_of_text text ≡ Err e
unfolding raw_of_text
raw_fault text e h = read_text_fault specification (without_mark text) e h
