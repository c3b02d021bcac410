use Rattle.wh_check.proofs.NetLemmas as lemmas
use Rattle.wh_check.proofs.laws.net_effect_leads_there.Goals as goal

pub returns : goal.returns
returns c = λ i lines. (lemmas.net_applies i lines, lemmas.net_leads i lines)
