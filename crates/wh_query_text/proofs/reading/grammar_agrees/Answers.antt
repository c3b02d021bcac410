use Rattle.wh_query_text.proofs.QueryDataLemmas as lemmas
use Rattle.wh_query_text.proofs.reading.grammar_agrees.Goals as goal

pub returns : goal.returns
returns c = lemmas.queries_agree
