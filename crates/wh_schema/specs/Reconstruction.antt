-- The states of the relations, given back from the stored tables.
use Rattle.std.specs.Prelude.{ℕ, zero, suc, ◌+◌, nat_eq, List, [], ◌∷◌, ◌++◌, Bool, not, ◌&&◌, ◌||◌, length, get_or, set, replicate, fold, Some, None}
use Rattle.std.specs.List.{find, list_any, list_all}
use Rattle.wh_base.specs.RowSet.{SameRows}
use Rattle.wh_schema.specs.declared.spec.Spec.{Spec}
use Rattle.wh_schema.specs.Warehouse.{Row, State, Sources, numbers, table_of, view_at, covered}

-- ---- numbers taken one after another

-- n times
abbrev pub iterate : {X : Type 0} → ℕ → (X → X) → X → X
iterate zero f x = x
iterate (suc n) f x = iterate n f (f x)

abbrev pub is_taken : List ℕ → ℕ → Bool
is_taken taken r = list_any (nat_eq r) taken

-- adds the first of the candidates that passes the test
abbrev pub take_next : (List ℕ → ℕ → Bool) → List ℕ → List ℕ → List ℕ
take_next test candidates taken = elim (find (test taken) candidates) [ None ↦ taken | Some r ↦ taken ++ r ∷ [] ]

-- ---- the order of the relations

-- the relation is not taken, and all left relations of the inclusions into it are
abbrev pub is_ready : Spec → List ℕ → ℕ → Bool
is_ready spec taken r = not (is_taken taken r) && list_all (λ c. not (nat_eq c.to r) || is_taken taken c.from) spec.inclusions

-- again and again the lowest relation that is ready
abbrev pub order : Spec → List ℕ
order spec = iterate (length spec.relations) (take_next (is_ready spec) (numbers (length spec.relations))) []

-- ---- reconstruction

-- the relations given back so far, and the views as stored
abbrev pub given : Spec → List (List Row) → State → Sources
given spec tables s = record { relation = table_of spec s; view = λ j. record { columns = (view_at spec j).head; rows = get_or tables j [] } }

-- the stored complement of a relation, with the rows that its covers give
abbrev pub reconstructed_rows : Spec → List (List Row) → State → ℕ → List Row
reconstructed_rows spec tables s r = get_or tables (length spec.views + r) [] ++ covered spec (given spec tables s) r

abbrev pub reconstruct_next : Spec → List (List Row) → State → ℕ → State
reconstruct_next spec tables s r = set s r (reconstructed_rows spec tables s r)

-- the state that the stored tables give back, relation by relation in the order
abbrev pub reconstructed : Spec → List (List Row) → State
reconstructed spec tables = fold (reconstruct_next spec tables) (replicate (length spec.relations) []) (order spec)

-- the same rows in each stored table
abbrev pub SameTables : List (List Row) → List (List Row) → Type 0
SameTables ts us = (k : ℕ) → SameRows (get_or ts k []) (get_or us k [])
