use Rattle.wh_spec_text.proofs.TextTrip as lemmas
use Rattle.wh_spec_text.proofs.printing.reads_printed.Goals as goal

pub returns : goal.returns
returns c = lemmas.read_again
