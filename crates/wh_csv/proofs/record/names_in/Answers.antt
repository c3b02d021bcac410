use Rattle.std.proofs.Common.{Bor, ◌≡◌, ◌∙◌, Some, None, ap}
use Rattle.csv.specs.declared.record.ByteRecord.{ByteRecord}
use Rattle.csv.specs.Records.{fields_of, field_at}
use Rattle.wh_csv.proofs.RecordFields.{one_more, no_more}
use Rattle.wh_csv.proofs.record.names_in.Goals as goal

pub loop-field-preserved : goal.loop-field-preserved
loop-field-preserved c =
    let step = c.in-Some.ensures.steps in
    let inv = c.loop-field.invariant in
    let fields = fields_of c.args.line.now in
    let here : Some c.in-Some.field.now ≡ field_at fields c.loop-field.field-iterator.at = rw inv.0 at step.1 in
    let more = one_more fields c.loop-field.field-iterator.at c.in-Some.field.now here in
    (ap (λ (row : Bor ByteRecord). row.now) step.0 ∙ inv.0, rw step.2 (cc (more, c.in_ok-push.ensures.ok, c.from_vec.ensures, c.in_ok-from_slice.ensures.items, inv.1)))

pub returns : goal.returns
returns c =
    let step = c.in-None.ensures.steps in
    let inv = c.loop-field.invariant in
    let fields = fields_of c.args.line.now in
    let end : None ≡ field_at fields c.loop-field.field-iterator.at = rw inv.0 at step.1 in
    inv.1 ∙ no_more fields c.loop-field.field-iterator.at end
