use Rattle.std.proofs.Common.{◌≡◌, ◌∷◌, take}
use Rattle.wh_covers.proofs.subset.with_first.Given as goal

abbrev pub invariant-loop-number : goal.invariant-loop-number
invariant-loop-number l = l.set ≡ l.first ∷ take l.number-index l.number-items
