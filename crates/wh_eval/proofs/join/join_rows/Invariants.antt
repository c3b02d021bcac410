use Rattle.std.proofs.Common.{◌≡◌}
use Rattle.std.specs.List.{flat_map}
use Rattle.wh_eval.specs.Partners.{joined_by}
use Rattle.wh_eval.proofs.join.join_rows.Given as goal

abbrev pub invariant-loop-row : goal.invariant-loop-row
invariant-loop-row l = l.rows ≡ flat_map (joined_by l.left_key l.right_key l.rest l.right) l.yielded
