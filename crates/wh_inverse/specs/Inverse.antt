-- The relations and the views, computed back from the stored tables of a base below.
use Rattle.std.specs.Prelude.{◌≡◌, ℕ, ◌+◌, ◌-◌, ◌<◌, ◌≤◌, nat_lt, Bool, List, [], map, length, get_or, IsTrue, if◌then◌else◌}
use Rattle.std.specs.List.{list_all}
use Rattle.wh_base.specs.declared.head.Head.{Head}
use Rattle.wh_covers.specs.Covers.{IsNumbered}
use Rattle.wh_eval.specs.Stored.{stored_indexes}
use Rattle.wh_plan.specs.Indexes.{indexes}
use Rattle.wh_schema.specs.declared.spec.Spec.{Spec}
use Rattle.wh_schema.specs.Heads.{heads_of}
use Rattle.wh_schema.specs.Legality.{WellFormed}
use Rattle.wh_schema.specs.Reconstruction.{given, reconstructed}
use Rattle.wh_schema.specs.Warehouse.{Row, Sources, numbers}
use Rattle.wh_table.specs.Table.{IndexedRows}

-- each relation has a column in its key
abbrev pub have_keys : Spec → Bool
have_keys spec = list_all (λ r. nat_lt 0 (length r.key)) spec.relations

-- what the base below has: the heads of the specification, and the rows of each view and each complement
pub record IsBelow (spec : Spec) (heads : List Head) (held : ℕ → Bool) : Type 0 where
  pub rules : WellFormed spec
  pub keys : IsTrue (have_keys spec)
  pub numbered : IsNumbered spec
  pub same_heads : heads ≡ heads_of spec
  pub holds : (n : ℕ) → length spec.relations ≤ n → n < length spec.relations + length spec.views + length spec.relations → IsTrue (held n)

-- the rows of the views and then of the complements, as they are below
abbrev pub stored_below : Spec → (ℕ → List Row) → List (List Row)
stored_below spec rows = map (λ k. rows (length spec.relations + k)) (numbers (length spec.views + length spec.relations))

-- the relations that these give back, and the views
unfoldable pub back : Spec → (ℕ → List Row) → Sources
back spec rows = given spec (stored_below spec rows) (reconstructed spec (stored_below spec rows))

-- the rows of each number: a relation's as they are given back, and a view's as they are stored
abbrev pub inverse_rows : Spec → (ℕ → List Row) → ℕ → List Row
inverse_rows spec rows n =
    let below = stored_below spec rows in
    if nat_lt n (length spec.relations) then get_or (reconstructed spec below) n [] else get_or below (n - length spec.relations) []

-- relations and views have numbers
abbrev pub is_source : Spec → ℕ → Bool
is_source spec n = nat_lt n (length spec.relations + length spec.views)

-- each table that is stored has the indexed sets that the plan has for it
abbrev pub HaveIndexes : Spec → List Head → List IndexedRows → Type 0
HaveIndexes spec heads tables = (k : ℕ) → k < length spec.views + length spec.relations → stored_indexes heads tables (length spec.relations + k) ≡ get_or (indexes spec) k []
