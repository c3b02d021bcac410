use Rattle.std.proofs.Common.{arith}
use Rattle.wh_journal.proofs.Looks.{on_ok_map, told_behind}
use Rattle.wh_journal.proofs.recovery.read_behind.Goals as goal

pub returns-in-len1-up-clause-bytes : goal.returns-in-len1-up-clause-bytes
returns-in-len1-up-clause-bytes g c = on_ok_map c.read_at.result _ _ (told_behind _ c.args.into.now c.read_at.new.into _ (omega (arith, c.in-len1-up.len_at_least)) c.requires.size c.requires.first) c.read_at.ensures.bytes
