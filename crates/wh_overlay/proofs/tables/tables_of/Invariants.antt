use Rattle.std.proofs.Common.{◌≡◌, ℕ, [], get_or, length}
use Rattle.wh_overlay.specs.Overlay.{FitNumbers, HaveRows}
use Rattle.wh_overlay.proofs.tables.tables_of.Given as goal

abbrev pub invariant-loop-own : goal.invariant-loop-own
invariant-loop-own l = record {
  count : length l.tables ≡ length l.yielded;
  fit : FitNumbers l.heads l.tables;
  rows : HaveRows (λ (n : ℕ). get_or l.yielded n []) l.tables;
}
