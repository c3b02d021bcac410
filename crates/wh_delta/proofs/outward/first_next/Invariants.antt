use Rattle.std.proofs.Common.{◌≡◌, drop}
use Rattle.std.specs.List.{find}
use Rattle.wh_delta_laws.specs.Connected.{is_next}
use Rattle.wh_delta.proofs.outward.first_next.Given as goal

abbrev pub invariant-loop-relation : goal.invariant-loop-relation
invariant-loop-relation l = find (is_next l.spec l.taken) l.relations ≡ find (is_next l.spec l.taken) (drop l.relation-index l.relations)
