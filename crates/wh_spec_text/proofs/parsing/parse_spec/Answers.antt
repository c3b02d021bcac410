use Rattle.std.proofs.Common.{rules}
use Rattle.wh_spec_text.proofs.SpecTextLemmas.{spec_text_fault, spec_rule_fault, spec_read}
use Rattle.wh_spec_text.proofs.parsing.parse_spec.Goals as goal

pub returns-in_err-raw-clause-fault : goal.returns-in_err-raw-clause-fault
returns-in_err-raw-clause-fault c =
    let h = spec_text_fault c.args.text.now c.in_err-raw.field-0.0 c.in_err-raw.ensures.fault in
    search rules

pub returns-in_err-spec-clause-fault : goal.returns-in_err-spec-clause-fault
returns-in_err-spec-clause-fault c =
    let h = spec_rule_fault c.args.text.now c.in_ok-raw.raw c.in_err-spec.field-0.0 c.in_ok-raw.ensures.ok c.in_err-spec.ensures.value in
    search rules

pub returns-clause-ok : goal.returns-clause-ok
returns-clause-ok c = spec_read c.args.text.now c.in_ok-raw.raw c.in_ok-spec.spec c.in_ok-raw.ensures.ok c.in_ok-spec.ensures.value
