use Rattle.csv.specs.Records.{fields_of}
use Rattle.wh_csv.proofs.RecordsLeft.{record_taken}
use Rattle.wh_csv.proofs.record.next_record.Goals as goal

pub returns-clause-left : goal.returns-clause-left
returns-clause-left c =
    let read = c.in-Ok.ensures.reads c.requires.0 c.requires.2 in
    record_taken c.args.reader.now c.read_byte_record.new.self c.in-Ok.found (fields_of c.read_byte_record.new.row) c.requires
    (λ failed. let none = c.in-Ok.ensures.failed failed in cc) read
