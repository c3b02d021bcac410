use Rattle.std.proofs.Common.{◌≡◌, [], replicate}
use Rattle.wh_load.proofs.complements.empty_lists.Given as goal

abbrev pub invariant-loop-turn : goal.invariant-loop-turn
invariant-loop-turn l = l.lists ≡ replicate l._turn []
