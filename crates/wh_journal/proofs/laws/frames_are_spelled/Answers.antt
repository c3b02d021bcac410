use Rattle.wh_journal.proofs.Grammar.{spelled}
use Rattle.wh_journal.proofs.laws.frames_are_spelled.Goals as goal

pub returns : goal.returns
returns c = spelled
