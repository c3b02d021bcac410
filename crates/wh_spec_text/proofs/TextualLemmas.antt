-- What a text gives, its printed form gives again.
use Rattle.std.proofs.Common.{◌≡◌, ℕ, List, Result, Ok, Err, refl}
use Rattle.wh_grammar.specs.declared.fault.TextFault.{TextFault}
use Rattle.wh_schema.specs.declared.fault.SpecFault.{SpecFault}
use Rattle.wh_schema.specs.declared.raw.RawStatement.{RawStatement}
use Rattle.wh_schema.specs.declared.spec.Spec.{Spec}
use Rattle.wh_schema.specs.Rules.{checked, empty_spec}
use Rattle.wh_spec_text.specs.Printed.{raw_of_spec, spec_text}
use Rattle.wh_spec_text.specs.SpecTexts.{ruled, spec_of_raw, spec_of_text}
use Rattle.wh_spec_text.specs.Textual.{AnswersAreTextual}
use Rattle.wh_spec_text.specs.Texts.{raw_of_text}
use Rattle.wh_spec_text.proofs.Reordered.{kept_empty, kept_all, printed_accepted, printed_texts}
use Rattle.wh_spec_text.proofs.SpecTextLemmas.{spec_read}
use Rattle.wh_spec_text.proofs.StatementWords.{raw_has_words}
use Rattle.wh_spec_text.proofs.TextTrip.{read_again}

ruled_ok : (o : Result Spec SpecFault) (spec : Spec) → ruled o ≡ Ok spec → o ≡ Ok spec
ruled_ok (Ok t) spec e = cc
ruled_ok (Err fault) spec e = absurd cc

-- the statements of a text that gives a specification
statements_of : (text : List ℕ) (spec : Spec) (r : Result (List RawStatement) TextFault) → raw_of_text text ≡ r → spec_of_raw r ≡ Ok spec → (raw : List RawStatement) × (raw_of_text text ≡ Ok raw) × (checked raw ≡ Ok spec)
statements_of text spec (Ok raw) is e = (raw, is, ruled_ok (checked raw) spec e)
statements_of text spec (Err fault) is e = absurd cc

pub answers_are_textual : AnswersAreTextual
unfolding spec_of_text spec_text
answers_are_textual text spec e =
    let s = statements_of text spec (raw_of_text text) refl e in
    let kept = kept_all s.0 1 empty_spec spec kept_empty (raw_has_words text s.0 s.1) s.2 in
    spec_read (spec_text spec) (raw_of_spec spec) spec (read_again (raw_of_spec spec) (printed_texts spec kept)) (printed_accepted spec kept)
