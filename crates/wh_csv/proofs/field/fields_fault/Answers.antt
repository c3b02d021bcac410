use Rattle.std.proofs.Common.{◌∙◌, sym}
use Rattle.csv.specs.Records.{fields_of}
use Rattle.wh_csv.proofs.FieldLemmas.{bad_field, good_field, no_field}
use Rattle.wh_csv.proofs.field.fields_fault.Goals as goal

pub returns-in_default : goal.returns-in_default
returns-in_default c = sym (c.loop-kind.invariant ∙ no_field _ (fields_of c.args.line.now) c.loop-kind.place c.in_default.ensures.value)

pub returns-in-Some-field_fault : goal.returns-in-Some-field_fault
returns-in-Some-field_fault c =
    sym (c.loop-kind.invariant
    ∙ bad_field c.args.kinds.now c.loop-kind.kind-index (fields_of c.args.line.now) c.loop-kind.place c.in-Some.field.now _ c.loop-kind-test.true c.in-Some.ensures.value (sym c.field_fault.ensures ∙ c.in-Some-field_fault.is))

pub loop-kind-preserved : goal.loop-kind-preserved
loop-kind-preserved c =
    c.loop-kind.invariant
    ∙ good_field c.args.kinds.now c.loop-kind.kind-index (fields_of c.args.line.now) c.loop-kind.place c.in-Some.field.now c.loop-kind-test.true c.in-Some.ensures.value (sym c.field_fault.ensures ∙ c.in_default-field_fault.is)
