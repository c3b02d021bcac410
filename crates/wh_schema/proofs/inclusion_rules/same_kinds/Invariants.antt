use Rattle.std.proofs.Common.{◌≡◌, drop}
use Rattle.wh_schema.specs.Rules.{same_kinds}
use Rattle.wh_schema.proofs.inclusion_rules.same_kinds.Given as goal

abbrev pub invariant-loop-place : goal.invariant-loop-place
invariant-loop-place l = same_kinds l.left l.from_cols l.right l.to_cols ≡ same_kinds l.left (drop l.place l.from_cols) l.right (drop l.place l.to_cols)
