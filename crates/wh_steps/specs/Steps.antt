-- What contracts see of the counters.
use Rattle.std.specs.Prelude.{ℕ}

-- the steps that were taken, and the ledger that was told of them
pub record Taken (L : Type 0) : Type 0 where
  pub probes : ℕ
  pub scans : ℕ
  pub ledger : L
