use Rattle.std.proofs.Common.{◌≡◌, ◌+◌, ◌<◌, ◌^◌, ◌++◌, map, length}
use Rattle.wh_csv.specs.Dump.{column_kinds, row_of}
use Rattle.wh_csv.specs.Fields.{first_fault, record_fault}
use Rattle.wh_csv.specs.Reading.{IsReading, records_left}
use Rattle.wh_csv.proofs.dump.rows.Given as goal

abbrev pub invariant-next : goal.invariant-next
invariant-next l = record {
  reading : IsReading l.reader;
  fault : first_fault (λ at r. record_fault (column_kinds l.attrs l.header) r) 2 (records_left l.initial.reader) ≡ first_fault (λ at r. record_fault (column_kinds l.attrs l.header) r) l.at (records_left l.reader);
  rows : map (row_of l.attrs l.header) (records_left l.initial.reader) ≡ l.rows ++ map (row_of l.attrs l.header) (records_left l.reader);
  few : l.at + length (records_left l.reader) < 2 ^ 63 + 2;
}

abbrev pub decreases-next : goal.decreases-next
decreases-next l = length (records_left l.reader)
