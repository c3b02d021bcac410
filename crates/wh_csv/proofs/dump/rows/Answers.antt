use Rattle.std.proofs.Common.{rules, ◌≡◌, ◌++◌, [], ◌∷◌, ◌∙◌, sym, ap, arith, length, List, map, None}
use Rattle.csv.specs.Records.{fields_of}
use Rattle.wh_base.specs.declared.value.Value.{Value}
use Rattle.wh_csv.specs.Dump.{column_kinds, row_of}
use Rattle.wh_csv.specs.Fields.{record_fault}
use Rattle.wh_csv.specs.Reading.{records_left}
use Rattle.wh_csv.proofs.RowLemmas.{good_record, one_more_of, row_of_sources}
use Rattle.wh_csv.proofs.dump.rows.Goals as goal

pub next-preserved : goal.next-preserved
next-preserved c =
    let inv = c.next.invariant in
    let attrs = c.args.attrs.now in
    let header = c.args.header.now in
    let fields = fields_of c.next_record.new.line in
    let rest = records_left c.next_record.new.reader in
    let one : records_left c.next.reader ≡ fields ∷ rest = rw c.if-branch.true at c.in_ok-next_record.ensures.left in
    let fine : record_fault (column_kinds attrs header) fields ≡ None = search rules in
    let row : c.in_ok-row.field-0 ≡ row_of attrs header fields = row_of_sources attrs header fields _ _ c.in_ok-row.ensures (c.deref-in-next.ensures.value ∙ c.in_ok-sources.ensures) in
    let less = ap length one in
    record {
      reading = c.in_ok-next_record.ensures.reading;
      fault = inv.fault ∙ good_record _ c.next.at _ fields rest one fine;
      rows = inv.rows ∙ one_more_of (row_of attrs header) c.next.rows _ fields rest one ∙ ap (λ (rows : List (List Value)). rows ++ map (row_of attrs header) rest) (ap (λ (r : List Value). c.next.rows ++ r ∷ []) (sym row) ∙ sym c.in_ok-push.ensures.ok);
      few = omega (arith, less, inv.few);
    }
