-- A specification that a text gives obeys the rules.
use Rattle.std.proofs.Common.{◌≡◌, List, Result, Ok, Err, ℕ, refl}
use Rattle.wh_schema.specs.declared.fault.SpecFault.{SpecFault}
use Rattle.wh_schema.specs.declared.raw.RawStatement.{RawStatement}
use Rattle.wh_schema.specs.declared.spec.Spec.{Spec}
use Rattle.wh_schema.specs.Legality.{WellFormed}
use Rattle.wh_schema.specs.Rules.{checked, empty_spec}
use Rattle.wh_spec_text.specs.SpecTexts.{ruled, spec_of_raw, spec_of_text}
use Rattle.wh_spec_text.specs.Texts.{raw_of_text}
use Rattle.wh_spec_text.proofs.Reordered.{kept_empty, kept_all}
use Rattle.wh_spec_text.proofs.StatementWords.{raw_has_words}

ruled_ok : (o : Result Spec SpecFault) (spec : Spec) → ruled o ≡ Ok spec → o ≡ Ok spec
ruled_ok (Ok t) spec e = cc
ruled_ok (Err fault) spec e = absurd (cc (e))

statements_of : (text : List ℕ) (spec : Spec) (o : _) → raw_of_text text ≡ o → spec_of_raw o ≡ Ok spec
    → (raw : List RawStatement) × (raw_of_text text ≡ Ok raw) × (checked raw ≡ Ok spec)
statements_of text spec (Ok raw) is e = (raw, is, ruled_ok (checked raw) spec e)
statements_of text spec (Err fault) is e = absurd (cc (e))

pub obeys : (text : List ℕ) (spec : Spec) → spec_of_text text ≡ Ok spec → WellFormed spec
unfolding spec_of_text
obeys text spec e =
    let s = statements_of text spec (raw_of_text text) refl e in
    (kept_all s.0 1 empty_spec spec kept_empty (raw_has_words text s.0 s.1) s.2).well
