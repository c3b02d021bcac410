use Rattle.std.proofs.Common.{◌++◌, ◌∙◌, List, sym, ap, append_assoc}
use Rattle.std.proofs.lemmas.List.{append-nil}
use Rattle.csv.specs.Records.{fields_of}
use Rattle.wh_base.specs.declared.value.Value.{Value}
use Rattle.wh_csv.proofs.FieldLemmas.{next_value, no_value}
use Rattle.wh_csv.proofs.field.values.Goals as goal

pub loop-kind-preserved : goal.loop-kind-preserved
loop-kind-preserved c =
    let fields = fields_of c.args.line.now in
    let next = next_value c.args.kinds.now c.loop-kind.kind-index fields c.loop-kind.place c.in-Some.field.now c.loop-kind-test.true c.in-Some.ensures.value in
    c.loop-kind.invariant ∙ rw (next, c.in_ok-push.ensures.items, append_assoc, c.in_ok-field_value.ensures)

pub returns-in_default : goal.returns-in_default
returns-in_default c =
    let none = no_value _ (fields_of c.args.line.now) c.loop-kind.place c.in_default.ensures.value in
    c.from_vec.ensures ∙ sym (c.loop-kind.invariant ∙ ap (λ (rest : List Value). c.loop-kind.values.items ++ rest) none ∙ append-nil c.loop-kind.values.items)
