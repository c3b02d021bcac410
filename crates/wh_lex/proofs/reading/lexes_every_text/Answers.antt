use Rattle.wh_lex.proofs.LexedLemmas as lemmas
use Rattle.wh_lex.proofs.reading.lexes_every_text.Goals as goal

pub returns : goal.returns
returns c = lemmas.lexes_every_text
