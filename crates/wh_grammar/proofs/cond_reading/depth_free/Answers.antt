use Rattle.wh_grammar.proofs.DepthLemmas as lemmas
use Rattle.wh_grammar.proofs.cond_reading.depth_free.Goals as goal

pub returns : goal.returns
returns c = lemmas.depth_free
