use Rattle.std.proofs.Common.{◌≡◌, ◌+◌, drop}
use Rattle.wh_schema.specs.Rules.{checked, checked_from, IsWithinLimits, size}
use Rattle.wh_schema.proofs.check.check_spec.Given as goal

abbrev pub invariant-loop-index : goal.invariant-loop-index
invariant-loop-index l = record {
  so_far : checked l.raw ≡ checked_from (l.index + 1) l.spec (drop l.index l.raw);
  within : IsWithinLimits l.spec;
  counted : size l.spec ≡ l.index;
}
