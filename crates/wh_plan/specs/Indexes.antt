-- The sets of columns that the stored tables are looked up by.
use Rattle.std.specs.Prelude.{ℕ, ◌<◌, Bool, ◌&&◌, List, [], ◌∷◌, ◌++◌, map, filter, length, nat_lt, All, Contains, IsTrue}
use Rattle.wh_base.specs.Columns.{all_in, names_of, place_of}
use Rattle.wh_expr.specs.Typing.{are_distinct}
use Rattle.wh_schema.specs.declared.spec.Relation.{Relation}
use Rattle.wh_schema.specs.declared.spec.Spec.{Spec}
use Rattle.wh_schema.specs.Warehouse.{numbers}
use Rattle.wh_table.specs.Table.{IsColumnSet, IsIndexed}

-- each column alone
abbrev pub single_sets : ℕ → List (List ℕ)
single_sets width = map (λ i. i ∷ []) (numbers width)

-- a key of several names, no name twice, that are all columns of a table
abbrev pub is_wide_key : List (List ℕ) → List (List ℕ) → Bool
is_wide_key columns key = nat_lt 1 (length key) && (are_distinct key && all_in columns key)

-- the places of such a key of each relation that has one, in relation order
abbrev pub key_sets : List (List ℕ) → List Relation → List (List ℕ)
key_sets columns relations = map (λ r. map (place_of columns) r.key) (filter (λ r. is_wide_key columns r.key) relations)

-- the indexed sets of a stored table with some columns: each column alone, and then the keys
abbrev pub index_sets : Spec → List (List ℕ) → List (List ℕ)
index_sets spec columns = single_sets (length columns) ++ key_sets columns spec.relations

-- those of each stored table: the views, then the complements
abbrev pub indexes : Spec → List (List (List ℕ))
indexes spec = map (λ v. index_sets spec v.head) spec.views ++ map (λ r. index_sets spec (names_of r.attrs)) spec.relations

-- ---- laws, the clauses of public functions with an empty body

-- a table as wide as there are columns can be made with these sets
abbrev pub IndexesAreColumnSets : Type 0
IndexesAreColumnSets = (spec : Spec) (columns : List (List ℕ)) → All (IsColumnSet (length columns)) (index_sets spec columns)

-- a key of a relation, no name twice, that lies in the columns can be looked up
abbrev pub KeysAreIndexed : Type 0
KeysAreIndexed =
    (spec : Spec) (columns : List (List ℕ)) (r : Relation) → Contains spec.relations r → 0 < length r.key → IsTrue (are_distinct r.key) → IsTrue (all_in columns r.key)
    → IsIndexed (index_sets spec columns) (map (place_of columns) r.key)
