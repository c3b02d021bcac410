use Rattle.std.proofs.Common.{◌≡◌, ℕ, ◌<◌, [], get_or, true}
use Rattle.wh_base.specs.Heads.{attrs_at}
use Rattle.wh_store.specs.Image.{fit_attrs}
use Rattle.wh_store.proofs.tables.fit_heads.Given as goal

abbrev pub invariant-loop-k : goal.invariant-loop-k
invariant-loop-k l = (j : ℕ) → j < l.k → fit_attrs (attrs_at l.stored j) (get_or l.tables j []) ≡ true
