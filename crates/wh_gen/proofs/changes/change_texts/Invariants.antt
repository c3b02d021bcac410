use Rattle.std.proofs.Common.{◌≡◌, map}
use Rattle.std.specs.List.{range_with_len}
use Rattle.wh_gen.specs.Case.{change_text}
use Rattle.wh_gen.proofs.changes.change_texts.Given as goal

abbrev pub invariant-loop-done : goal.invariant-loop-done
invariant-loop-done l = map (λ text. text.bytes) l.texts ≡ map (change_text l.number l.size) (range_with_len 1 l.done)
