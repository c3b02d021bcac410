use Rattle.std.proofs.Common.{arith}
use Rattle.wh_store.proofs.TextualLemmas.{textual_is_numbered}
use Rattle.wh_command.proofs.ask.relation_query.Goals as goal

pub overflow_cast-place : goal.overflow_cast-place
overflow_cast-place c =
    let numbered = textual_is_numbered c.args.spec.now c.requires.textual in
    let place = c.requires.place in
    omega (arith, numbered, place)
