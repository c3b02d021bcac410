use Rattle.wh_command.proofs.RefreshReads.{text_reads, unread_reads, unread_sound, unread_stops, unread_cause}
use Rattle.wh_command.proofs.refresh_file.read_lines.Goals as goal

pub returns-in_ok-parse_change-in-Ok-clause-reading : goal.returns-in_ok-parse_change-in-Ok-clause-reading
returns-in_ok-parse_change-in-Ok-clause-reading g c = λ held files. text_reads c.args.spec.now c.args.name.now _ held c.in-Ok.text _ files c.in-Ok.ensures.answer c.in_ok-parse_change-in-Ok.ensures.reading

pub returns-in-Err-clause-reading : goal.returns-in-Err-clause-reading
returns-in-Err-clause-reading g c = λ held files. unread_reads c.args.spec.now c.args.name.now _ held c.in-Err.stop c.unread.result files c.in-Err.ensures.answer c.unread.ensures

pub returns-in-Err-clause-sound : goal.returns-in-Err-clause-sound
returns-in-Err-clause-sound g c = unread_sound c.args.spec.now c.args.name.now c.in-Err.stop c.unread.result c.unread.ensures

pub returns-in-Err-clause-stops : goal.returns-in-Err-clause-stops
returns-in-Err-clause-stops g c = unread_stops c.args.name.now c.in-Err.stop c.unread.result c.in-Err.ensures.stops c.unread.ensures

pub returns-in-Err-clause-cause : goal.returns-in-Err-clause-cause
returns-in-Err-clause-cause g c = unread_cause c.args.name.now c.in-Err.stop c.unread.result _ _ c.unread.ensures c.in-Err.ensures.cause
