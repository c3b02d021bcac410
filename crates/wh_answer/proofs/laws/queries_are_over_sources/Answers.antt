use Rattle.wh_answer.proofs.QuerySources as lemmas
use Rattle.wh_answer.proofs.laws.queries_are_over_sources.Goals as goal

pub returns : goal.returns
returns c = lemmas.queries_are_over_sources
