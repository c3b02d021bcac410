-- A relation in memory as a table.
use Rattle.wh_base.specs.Tables.{Table}
use Rattle.wh_eval.specs.declared.relation.Relation.{Relation}

abbrev pub table_of : Relation → Table
table_of r = record { columns = r.columns; rows = r.rows }
