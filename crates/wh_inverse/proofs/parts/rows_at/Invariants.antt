use Rattle.std.proofs.Common.{◌≡◌, filter}
use Rattle.wh_base.specs.Columns.{picked}
use Rattle.wh_base.specs.Value.{row_eq}
use Rattle.wh_inverse.proofs.parts.rows_at.Given as goal

abbrev pub invariant-loop-row : goal.invariant-loop-row
invariant-loop-row l = l.kept ≡ filter (λ r. row_eq (picked l.places r) l.vals) l.yielded
