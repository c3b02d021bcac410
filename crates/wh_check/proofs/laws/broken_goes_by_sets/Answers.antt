use Rattle.wh_check.proofs.BrokenLemmas as lemmas
use Rattle.wh_check.proofs.laws.broken_goes_by_sets.Goals as goal

pub returns : goal.returns
returns c = lemmas.broken_goes_by_sets
