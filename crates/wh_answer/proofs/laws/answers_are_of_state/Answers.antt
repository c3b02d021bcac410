use Rattle.wh_answer.proofs.AnswerLemmas as lemmas
use Rattle.wh_answer.proofs.laws.answers_are_of_state.Goals as goal

pub returns : goal.returns
returns c = lemmas.answers_are_of_state
