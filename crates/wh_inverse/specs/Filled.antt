-- Tables for all numbers, while the relations are computed one after another.
use Rattle.std.specs.Prelude.{◌≡◌, ℕ, ◌+◌, ◌<◌, ◌≤◌, nat_lt, List, [], length, get_or, drop, if◌then◌else◌}
use Rattle.wh_base.specs.RowSet.{SameRows}
use Rattle.wh_eval.specs.Lists.{HasDistinctRows}
use Rattle.wh_schema.specs.declared.spec.Spec.{Spec}
use Rattle.wh_schema.specs.Reconstruction.{reconstructed_rows}
use Rattle.wh_schema.specs.Warehouse.{Row, State}

-- how many numbers there are: of relations, of views and of complements
abbrev pub table_count : Spec → ℕ
table_count spec = length spec.relations + length spec.views + length spec.relations

-- no rows for a relation, and the rows of the base below for each other number
abbrev pub first_rows : Spec → (ℕ → List Row) → ℕ → List Row
first_rows spec rows n = if nat_lt n (length spec.relations) then [] else rows n

-- Each row of a table stands there once. The relations are those of the state, and the other numbers have the rows of the base below.
pub record AreFilled (spec : Spec) (rows : ℕ → List Row) (s : State) (tables : List (List Row)) : Type 0 where
  pub count : length tables ≡ table_count spec
  pub distinct : HasDistinctRows tables
  pub width : length s ≡ length spec.relations
  pub relation : (i : ℕ) → i < length spec.relations → SameRows (get_or tables i []) (get_or s i [])
  pub other : (i : ℕ) → length spec.relations ≤ i → i < table_count spec → SameRows (get_or tables i []) (rows i)

-- the rows that one step of the reconstruction gives for a relation, over tables for all numbers
abbrev pub step_rows : Spec → List (List Row) → ℕ → List Row
step_rows spec tables r = reconstructed_rows spec (drop (length spec.relations) tables) tables r
