use Rattle.wh_journal.proofs.Grammar.{damaged}
use Rattle.wh_journal.proofs.laws.damage_is_the_first_wrong_mark.Goals as goal

pub returns : goal.returns
returns c = damaged
