-- A relation in memory that stands for a table as a set.
use Rattle.wh_base.specs.RowSet.{AreDistinct}
use Rattle.wh_base.specs.Tables.{Table}
use Rattle.wh_expr.specs.SameTable.{SameTable}
use Rattle.wh_eval.specs.declared.relation.Relation.{Relation}
use Rattle.wh_eval.specs.Relation.{table_of}

-- the columns of the table in their order, and each of its rows once
pub record Evaluates (relation : Relation) (table : Table) : Type 0 where
  pub distinct : AreDistinct relation.rows
  pub same : SameTable (table_of relation) table
