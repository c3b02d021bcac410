use Rattle.std.proofs.Common.{◌≡◌, ◌≤◌, ◌++◌, map, length}
use Rattle.wh_csv.specs.Change.{line_of, numbered_fault}
use Rattle.wh_csv.specs.Fields.{first_fault}
use Rattle.wh_csv.specs.Reading.{IsReading, records_left}
use Rattle.wh_csv.proofs.change.lines.Given as goal

abbrev pub invariant-next : goal.invariant-next
invariant-next l = record {
  reading : IsReading l.reader;
  fault : first_fault (numbered_fault l.spec) 1 (records_left l.initial.reader) ≡ first_fault (numbered_fault l.spec) l.at (records_left l.reader);
  lines : map (line_of l.spec) (records_left l.initial.reader) ≡ l.lines ++ map (line_of l.spec) (records_left l.reader);
  few : l.at ≤ 1000001;
}

abbrev pub decreases-next : goal.decreases-next
decreases-next l = length (records_left l.reader)
