use Rattle.std.proofs.Common.{◌<◌, ℕ, Contains, get_or}
use Rattle.wh_table.proofs.index.are_among.Given as goal

abbrev pub invariant-loop-place : goal.invariant-loop-place
invariant-loop-place l = (k : ℕ) → k < l.place-index → Contains l.columns (get_or l.places k 0)
