use Rattle.wh_command.proofs.Asks.{text_is}
use Rattle.wh_command.proofs.ask.rows_text.Goals as goal

pub returns-clause-text : goal.returns-clause-text
returns-clause-text g c = λ image of. text_is image c.args.warehouse.now c.args.q.now _ _ c.into_bytes.result of c.new-text.ensures c.into_bytes.ensures c.in_ok-answer.ensures.ok
