use Rattle.wh_rewrite.proofs.Wide as lemma
use Rattle.wh_rewrite.proofs.laws.states_are_wide.Goals as goal

pub returns : goal.returns
returns c = lemma.states_are_wide
