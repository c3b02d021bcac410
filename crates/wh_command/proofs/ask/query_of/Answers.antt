use Rattle.wh_command.specs.Ask.{query_in}
use Rattle.wh_command.proofs.Asks.{answer_is}
use Rattle.wh_command.proofs.ask.query_of.Goals as goal

pub returns-clause-answer : goal.returns-clause-answer
returns-clause-answer g c = λ image of. answer_is (query_in c.args.text.now) image c.args.warehouse.now c.in_ok-q.q _ of c.in_ok-q.ensures.answer (c.in_ok-rows_text.ensures.text image of)
