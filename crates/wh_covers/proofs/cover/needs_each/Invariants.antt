use Rattle.std.proofs.Common.{◌≡◌, ◌++◌, take, drop}
use Rattle.wh_covers.specs.Covers.{has_all, needs_each}
use Rattle.wh_covers.proofs.cover.needs_each.Given as goal

abbrev pub invariant-loop-i : goal.invariant-loop-i
invariant-loop-i l = needs_each (has_all l.lists) l.cover ≡ needs_each (λ s. has_all l.lists (take l.i l.cover ++ s)) (drop l.i l.cover)
