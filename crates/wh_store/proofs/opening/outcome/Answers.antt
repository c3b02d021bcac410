use Rattle.wh_store.proofs.OpenLemmas.{journal_of, opened_is, refused}
use Rattle.wh_store.proofs.opening.outcome.Goals as goal

pub returns-in-Ok-clause-answer : goal.returns-in-Ok-clause-answer
returns-in-Ok-clause-answer c = λ a b in_a in_b.
    opened_is a b c.args.first c.args.second c.in-Ok.which c.in-Ok.state c.opened.result.0 c.opened.result.1 in_a in_b c.in-Ok.ensures.chosen c.opened.ensures.warehouse c.opened.ensures.place

pub returns-in-Err-clause-answer : goal.returns-in-Err-clause-answer
returns-in-Err-clause-answer c = λ a b in_a in_b. refused a b c.args.first c.args.second c.in-Err.fault in_a in_b c.in-Err.ensures.chosen

pub returns-in-Ok-clause-journal : goal.returns-in-Ok-clause-journal
returns-in-Ok-clause-journal c = journal_of c.args.first c.args.second _ c.in-Ok.which c.in-Ok.state c.opened.result.1 c.in-Ok.ensures.chosen c.opened.ensures.place
