use Rattle.std.proofs.Common.{◌≡◌, ℕ, ◌∷◌, [], map}
use Rattle.std.specs.List.{range_with_len}
use Rattle.wh_overlay.proofs.tables.single_sets.Given as goal

abbrev pub invariant-loop-place : goal.invariant-loop-place
invariant-loop-place l = l.sets ≡ map (λ (i : ℕ). i ∷ []) (range_with_len 0 l.place)
