use Rattle.std.proofs.Common.{◌≡◌, ◌∷◌, []}
use Rattle.wh_schema.specs.EmptyMark.{is_joined_on}
use Rattle.wh_schema.specs.Reconstruction.{iterate, take_next}
use Rattle.wh_lossless.proofs.joining.joined_on.Given as goal

abbrev pub invariant-loop-turn : goal.invariant-loop-turn
invariant-loop-turn l = l.taken ≡ iterate l._turn (take_next (is_joined_on l.spec) l.members) (l.relation ∷ [])
