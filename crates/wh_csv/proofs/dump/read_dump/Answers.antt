use Rattle.std.proofs.Common.{arith, ap, length}
use Rattle.wh_csv.specs.Reading.{records_left}
use Rattle.wh_csv.proofs.RowLemmas.{first_seen-distinct, rows_have_kinds}
use Rattle.wh_csv.proofs.dump.read_dump.Goals as goal

pub rows-requires-clause-few : goal.rows-requires-clause-few
rows-requires-clause-few c =
    let one = rw c.if-not-branch.false at c.in_ok-next_record.ensures.left in
    let less = ap length one in
    omega (arith, c.records_reader-reader.ensures.few, less)

pub returns-clause-distinct : goal.returns-clause-distinct
returns-clause-distinct c = rw c.in_ok-distinct_rows.ensures (first_seen-distinct _)

pub returns-clause-kinds : goal.returns-clause-kinds
returns-clause-kinds c =
    let read = rw (c.as_slice-2.ensures, c.as_slice-3.ensures) at c.in_ok-rows.ensures in
    rw c.in_ok-distinct_rows.ensures (rows_have_kinds c.args.rel.now.attrs c.in_ok-header.header (records_left c.next_record.new.reader) _ read)
