-- The join of the relations of a state, grouped and ordered in any way.
use Rattle.std.specs.Prelude.{ℕ, List, [], ◌∷◌, ◌++◌, map}
use Rattle.wh_base.specs.Tables.{Table, select, project, join, join_all}
use Rattle.wh_schema.specs.declared.spec.Spec.{Spec}
use Rattle.wh_schema.specs.Warehouse.{State, view_at, table_of}

-- a relation by its number, or the join of two groups
pub data Grouping : Type 0 where
  one : ℕ → Grouping
  both : Grouping → Grouping → Grouping

-- the relations of a grouping, from the left
abbrev pub members : Grouping → List ℕ
members (one i) = i ∷ []
members (both g h) = members g ++ members h

-- the join of a grouping
abbrev pub grouped : Spec → State → Grouping → Table
grouped spec s (one i) = table_of spec s i
grouped spec s (both g h) = join (grouped spec s g) (grouped spec s h)

-- what a view makes of a join of its members: selected by its condition, projected to its head
abbrev pub view_over : Spec → ℕ → Table → Table
view_over spec j t = let v = view_at spec j in project v.head (select v.cond t)

-- the view over a grouping of its members
abbrev pub grouped_view : Spec → State → ℕ → Grouping → Table
grouped_view spec s j g = view_over spec j (grouped spec s g)

-- the view over its members in another order, grouped to the left
abbrev pub ordered_view : Spec → State → ℕ → List ℕ → Table
ordered_view spec s j order = view_over spec j (join_all (map (table_of spec s) order))
