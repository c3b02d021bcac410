use Rattle.std.proofs.Common.{◌≡◌, ◌++◌}
use Rattle.std.specs.List.{flat_map}
use Rattle.wh_gen.specs.Case.{moved_lines, numbers, opening}
use Rattle.wh_gen.proofs.changes.change_text.Given as goal

abbrev pub invariant-loop-j : goal.invariant-loop-j
invariant-loop-j l = l.text.bytes ≡ opening l.number l.c ++ flat_map (moved_lines l.number l.size l.c) (numbers l.j)
