use Rattle.wh_spec_text.proofs.SpecificationLemmas as lemmas
use Rattle.wh_spec_text.proofs.reading.grammar_agrees.Goals as goal

pub returns : goal.returns
returns c = lemmas.specifications_agree
