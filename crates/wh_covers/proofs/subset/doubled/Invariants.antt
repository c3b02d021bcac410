use Rattle.std.proofs.Common.{◌≡◌, ◌∷◌, []}
use Rattle.std.specs.List.{flat_map}
use Rattle.wh_covers.proofs.subset.doubled.Given as goal

abbrev pub invariant-loop-set : goal.invariant-loop-set
invariant-loop-set l = l.twice.items ≡ flat_map (λ s. s ∷ (l.first ∷ s) ∷ []) l.yielded
