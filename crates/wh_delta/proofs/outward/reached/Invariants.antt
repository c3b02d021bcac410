use Rattle.std.proofs.Common.{◌≡◌, ◌∷◌, []}
use Rattle.wh_schema.specs.Reconstruction.{iterate, take_next}
use Rattle.wh_delta_laws.specs.Connected.{is_next}
use Rattle.wh_delta.proofs.outward.reached.Given as goal

abbrev pub invariant-loop-turn : goal.invariant-loop-turn
invariant-loop-turn l = l.taken ≡ iterate l._turn (take_next (is_next l.spec) l.relations) (l.first ∷ [])
