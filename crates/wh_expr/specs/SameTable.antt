-- Tables that are equal where their rows are taken as sets.
use Rattle.std.specs.Prelude.{◌≡◌}
use Rattle.wh_base.specs.RowSet.{SameRows}
use Rattle.wh_base.specs.Tables.{Table}

-- the same columns in one order, and the same rows as a set
pub record SameTable (t u : Table) : Type 0 where
  pub columns : t.columns ≡ u.columns
  pub rows : SameRows t.rows u.rows
