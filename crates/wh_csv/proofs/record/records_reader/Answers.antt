use Rattle.std.proofs.Common.{rules, ◌≡◌}
use Rattle.wh_csv.specs.Reading.{records_left, records_of}
use Rattle.wh_csv.proofs.RecordsLeft.{few_records}
use Rattle.wh_csv.proofs.record.records_reader.Goals as goal

pub returns-clause-few : goal.returns-clause-few
returns-clause-few c =
    let left : records_left c.from_reader.result ≡ records_of c.args.text.now = search rules in
    rw left (few_records c.args.text.now)
