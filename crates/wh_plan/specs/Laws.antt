-- What the expressions of a plan mean. Each law is the clause of a public function with an empty body.
use Rattle.std.specs.Prelude.{◌≡◌, ℕ, ◌+◌, ◌<◌, List, [], length, get_or}
use Rattle.wh_base.specs.Tables.{Table}
use Rattle.wh_expr.specs.Meaning.{meaning}
use Rattle.wh_plan.specs.Expressions.{view_expr, complement_number, inverse_expr}
use Rattle.wh_schema.specs.declared.spec.Spec.{Spec}
use Rattle.wh_schema.specs.Legality.{WellFormed}
use Rattle.wh_schema.specs.Reconstruction.{given, reconstructed_rows}
use Rattle.wh_schema.specs.Warehouse.{Row, State, Sources, columns_of, table_of, view_table}

-- over tables that have the relations of a state under their numbers, the expression of a view gives the view's table
abbrev pub ViewExprsMeanViews : Type 0
ViewExprsMeanViews =
    (spec : Spec) (s : State) → WellFormed spec → (g : ℕ → Table) → ((i : ℕ) → i < length spec.relations → g i ≡ table_of spec s i)
    → (j : ℕ) → j < length spec.views → meaning g (view_expr spec j) ≡ view_table spec s j

-- the tables under the numbers are the relations, the views, and the complement of the relation r with some rows
pub record AreUnder (spec : Spec) (src : Sources) (r : ℕ) (rest : List Row) (g : ℕ → Table) : Type 0 where
  pub relation : (i : ℕ) → i < length spec.relations → g i ≡ src.relation i
  pub view : (j : ℕ) → j < length spec.views → g (length spec.relations + j) ≡ src.view j
  pub complement : g (complement_number spec r) ≡ record { columns = columns_of spec r; rows = rest }

-- Over the views and complements as stored and the relations given back so far, the inverse expression of a relation gives its table
-- as one step of the reconstruction does: the rows of its complement and those that its covers give back.
abbrev pub InverseExprsMeanSteps : Type 0
InverseExprsMeanSteps =
    (spec : Spec) → WellFormed spec → (tables : List (List Row)) (s : State) (r : ℕ) → r < length spec.relations → (g : ℕ → Table)
    → AreUnder spec (given spec tables s) r (get_or tables (length spec.views + r) []) g
    → meaning g (inverse_expr spec r) ≡ record { columns = columns_of spec r; rows = reconstructed_rows spec tables s r }
