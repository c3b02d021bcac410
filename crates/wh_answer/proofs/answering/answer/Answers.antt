use Rattle.wh_answer.specs.Answer.{rows_of}
use Rattle.wh_answer.proofs.AnswerLemmas.{appended}
use Rattle.wh_answer.proofs.answering.answer.Goals as goal

pub returns-clause-ok : goal.returns-clause-ok
returns-clause-ok g c =
    appended c.args.w.now.plan.spec (rows_of c.args.w.now.tables) c.args.q.now c.args.out.now.bytes c.as_bytes.result.now c.in_ok-text.text.bytes c.append.new.self.bytes c.append.result
    c.requires.sources c.in_ok-text.ensures.text c.as_bytes.ensures c.append.ensures.ok
