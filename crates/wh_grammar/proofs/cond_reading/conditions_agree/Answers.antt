use Rattle.wh_grammar.proofs.CondDataLemmas as lemmas
use Rattle.wh_grammar.proofs.cond_reading.conditions_agree.Goals as goal

pub returns : goal.returns
returns c = lemmas.conditions_agree
