use Rattle.std.proofs.Common.{◌≡◌, ◌≤◌, length}
use Rattle.wh_lex.specs.Front.{text_at}
use Rattle.wh_lex.proofs.FrontLemmas.{with_front}
use Rattle.wh_lex.proofs.front.text_at.Given as goal

abbrev pub invariant-loop-rest : goal.invariant-loop-rest
invariant-loop-rest l = (with_front l.value (text_at l.rest) ≡ text_at l.z) × (length l.rest ≤ length l.z)

abbrev pub decreases-loop-rest : goal.decreases-loop-rest
decreases-loop-rest l = length l.rest
