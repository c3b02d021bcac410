-- The cases of the specification of a text.
use Rattle.std.proofs.Common.{◌≡◌, ◌≢◌, ℕ, List, Ok, Err, refl, ap, ◌∙◌}
use Rattle.wh_grammar.specs.declared.fault.TextFault.{TextFault}
use Rattle.wh_grammar.specs.declared.fault.TextFault.TheVariants as text_fault
use Rattle.wh_schema.specs.declared.fault.SpecFault.{SpecFault}
use Rattle.wh_schema.specs.declared.fault.SpecFault.TheVariants as spec_fault
use Rattle.wh_schema.specs.declared.raw.RawStatement.{RawStatement}
use Rattle.wh_schema.specs.declared.spec.Spec.{Spec}
use Rattle.wh_schema.specs.Rules.{checked, Gives}
use Rattle.wh_spec_text.specs.declared.fault.SpecTextFault.TheVariants.{NoMemory}
use Rattle.wh_spec_text.specs.Texts.{raw_of_text}
use Rattle.wh_spec_text.specs.SpecTexts.{of_text, of_rules, ruled, spec_of_raw, spec_of_text}

pub spec_text_fault : (text : List ℕ) (fault : TextFault) → (fault ≢ text_fault.NoMemory → raw_of_text text ≡ Err fault) → of_text fault ≢ NoMemory → spec_of_text text ≡ Err (of_text fault)
unfolding spec_of_text
spec_text_fault text fault read known = ap spec_of_raw (read (λ none. known (ap of_text none)))

rule_broken : (raw : List RawStatement) (fault : SpecFault) → Gives {T = Spec} (Err fault) (checked raw) → of_rules fault ≢ NoMemory → checked raw ≡ Err fault
rule_broken raw spec_fault.NoMemory gives known = absurd (known refl)
rule_broken raw (spec_fault.At n cause) gives known = gives

pub spec_rule_fault : (text : List ℕ) (raw : List RawStatement) (fault : SpecFault) → raw_of_text text ≡ Ok raw → Gives {T = Spec} (Err fault) (checked raw) → of_rules fault ≢ NoMemory → spec_of_text text ≡ Err (of_rules fault)
unfolding spec_of_text
spec_rule_fault text raw fault read gives known = ap spec_of_raw read ∙ ap ruled (rule_broken raw fault gives known)

pub spec_read : (text : List ℕ) (raw : List RawStatement) (spec : Spec) → raw_of_text text ≡ Ok raw → checked raw ≡ Ok spec → spec_of_text text ≡ Ok spec
unfolding spec_of_text
spec_read text raw spec read gives = ap spec_of_raw read ∙ ap ruled gives
