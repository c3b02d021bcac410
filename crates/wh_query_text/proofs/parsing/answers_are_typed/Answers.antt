use Rattle.wh_query_text.proofs.TextualQueries as lemmas
use Rattle.wh_query_text.proofs.parsing.answers_are_typed.Goals as goal

pub returns : goal.returns
returns c = lemmas.answers_are_typed
