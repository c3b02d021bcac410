-- The rows that the expressions of a plan are evaluated over, under the numbers of relations, views and complements.
use Rattle.std.specs.Prelude.{List, [], ◌++◌, map, length, get_or, replicate}
use Rattle.wh_base.specs.RowSet.{in_order}
use Rattle.wh_schema.specs.declared.spec.Spec.{Spec}
use Rattle.wh_schema.specs.Warehouse.{Row, State, numbers, view_table, sources_of, complement}

-- the rows of each relation
abbrev pub relation_lists : Spec → State → List (List Row)
relation_lists spec s = map (λ i. get_or s i []) (numbers (length spec.relations))

-- each view in row order, which is the first part of what is stored
abbrev pub view_lists : Spec → State → List (List Row)
view_lists spec s = map (λ j. in_order (view_table spec s j).rows) (numbers (length spec.views))

-- each complement in row order, which is the other part
abbrev pub complement_lists : Spec → State → List (List Row)
complement_lists spec s = map (λ r. in_order (complement spec (sources_of spec s) r)) (numbers (length spec.relations))

-- the relations and the views, with nothing for the complements
abbrev pub source_lists : Spec → State → List (List Row)
source_lists spec s = (relation_lists spec s ++ view_lists spec s) ++ replicate (length spec.relations) []
