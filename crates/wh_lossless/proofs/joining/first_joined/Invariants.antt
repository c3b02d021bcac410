use Rattle.std.proofs.Common.{◌≡◌, drop}
use Rattle.std.specs.List.{find}
use Rattle.wh_schema.specs.EmptyMark.{is_joined_on}
use Rattle.wh_lossless.proofs.joining.first_joined.Given as goal

abbrev pub invariant-loop-member : goal.invariant-loop-member
invariant-loop-member l = find (is_joined_on l.spec l.taken) l.members ≡ find (is_joined_on l.spec l.taken) (drop l.member-index l.members)
