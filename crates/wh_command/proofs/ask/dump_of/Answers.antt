use Rattle.wh_command.specs.Ask.{relation_in}
use Rattle.wh_command.proofs.Asks.{answer_is}
use Rattle.wh_command.proofs.ask.dump_of.Goals as goal

pub returns-clause-answer : goal.returns-clause-answer
returns-clause-answer g c = λ image of. answer_is (relation_in c.args.word.now) image c.args.warehouse.now c.in_ok-q.q _ of c.in_ok-q.ensures.answer (c.in_ok-rows_text.ensures.text image of)
