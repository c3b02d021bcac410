use Rattle.wh_spec_text.proofs.TextualLemmas as lemmas
use Rattle.wh_spec_text.proofs.printing.answers_are_textual.Goals as goal

pub returns : goal.returns
returns c = lemmas.answers_are_textual
