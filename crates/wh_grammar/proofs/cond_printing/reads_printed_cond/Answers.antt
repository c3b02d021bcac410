use Rattle.wh_grammar.proofs.PrintTrip.{shown_by_text, read_from_text}
use Rattle.wh_grammar.proofs.cond_printing.reads_printed_cond.Goals as goal

pub returns-clause-shown : goal.returns-clause-shown
returns-clause-shown c = shown_by_text

pub returns-clause-read : goal.returns-clause-read
returns-clause-read c = read_from_text
