use Rattle.wh_command.specs.Ask.{answer_in, relation_in}
use Rattle.wh_command.proofs.Asks.{opened_asks}
use Rattle.wh_command.proofs.ask.answer_dump.Goals as goal

pub returns-in-Ok-clause-answer : goal.returns-in-Ok-clause-answer
returns-in-Ok-clause-answer g c =
    opened_asks (g.D.Disk.content c.args.first.now) (g.D.Disk.content c.args.second.now) (λ image. answer_in image (relation_in c.args.word.now image.spec)) c.in-Ok.warehouse _ c.in-Ok.ensures.answer c.dump_of.ensures.answer
