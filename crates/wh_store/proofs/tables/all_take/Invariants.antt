use Rattle.std.proofs.Common.{◌≡◌, ℕ, ◌<◌, get_or, true}
use Rattle.wh_base.specs.Heads.{attrs_at}
use Rattle.wh_store.specs.Image.{no_delta}
use Rattle.wh_store.specs.Opening.{takes}
use Rattle.wh_store.specs.Warehouse.{table_at}
use Rattle.wh_store.proofs.tables.all_take.Given as goal

abbrev pub invariant-loop-k : goal.invariant-loop-k
invariant-loop-k l = (j : ℕ) → j < l.k → takes (attrs_at l.stored j) (table_at l.tables j).rows (get_or l.deltas j no_delta) ≡ true
