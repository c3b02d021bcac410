-- The laws of a view under a change of the state. Each is the clause of a public function with an empty body.
use Rattle.std.specs.Prelude.{◌≡◌, ◌↔◌, ℕ, ◌<◌, List, [], ◌∷◌, ◌++◌, length, get_or, set, true, false, Contains}
use Rattle.std.specs.List.{flat_map}
use Rattle.wh_base.specs.RowSet.{has, SameRows}
use Rattle.wh_base.specs.Tables.{without}
use Rattle.wh_schema.specs.declared.spec.Spec.{Spec}
use Rattle.wh_schema.specs.Legality.{WellFormed, IsState}
use Rattle.wh_schema.specs.Warehouse.{Row, State, view_at, view_table}
use Rattle.wh_delta_laws.specs.Deltas.{new_rows, candidates_from, candidates, entering, leaving, NewRow, matching_rows}
use Rattle.wh_delta_laws.specs.Grouping.{Grouping, members, grouped_view, ordered_view}

-- each row of the first list is one of the second
abbrev pub AreAmong : List Row → List Row → Type 0
AreAmong rows all = (x : Row) → has rows x ≡ true → has all x ≡ true

-- the lists have, for each member of the view, its new rows, and rows in t alone
pub record HaveNewRows (spec : Spec) (s t : State) (j : ℕ) (rows : ℕ → List Row) : Type 0 where
  pub new : (i : ℕ) → Contains (view_at spec j).relations i → AreAmong (new_rows s t i) (rows i)
  pub present : (i : ℕ) → Contains (view_at spec j).relations i → AreAmong (rows i) (get_or t i [])

-- ---- rows that enter and leave

-- a row that entered a view is given by a row that entered a member
abbrev pub EnteredHasNewRow : Type 0
EnteredHasNewRow =
    (spec : Spec) → WellFormed spec → (s t : State) → IsState spec t → (j : ℕ) → j < length spec.views → (w : Row)
    → has (view_table spec t j).rows w ≡ true → has (view_table spec s j).rows w ≡ false → NewRow spec s t j w

-- each candidate is a row of the view in t
abbrev pub CandidatesAreRows : Type 0
CandidatesAreRows =
    (spec : Spec) → WellFormed spec → (s t : State) → IsState spec t → (j : ℕ) → j < length spec.views
    → AreAmong (candidates spec s t j) (view_table spec t j).rows

-- the rows that entered a view are the candidates that it had not
abbrev pub EnteredAreCandidates : Type 0
EnteredAreCandidates =
    (spec : Spec) → WellFormed spec → (s t : State) → IsState spec t → (j : ℕ) → j < length spec.views
    → SameRows (without (view_table spec t j).rows (view_table spec s j).rows) (entering spec s t j)

-- the rows that left a view are the candidates of the change back that it has no longer
abbrev pub LeftAreCandidates : Type 0
LeftAreCandidates =
    (spec : Spec) → WellFormed spec → (s t : State) → IsState spec s → (j : ℕ) → j < length spec.views
    → SameRows (without (view_table spec s j).rows (view_table spec t j).rows) (leaving spec s t j)

-- the changed view is the old one without the rows that leave, and with those that enter
abbrev pub ViewIsChanged : Type 0
ViewIsChanged =
    (spec : Spec) → WellFormed spec → (s t : State) → IsState spec s → IsState spec t → (j : ℕ) → j < length spec.views
    → SameRows (view_table spec t j).rows (without (view_table spec s j).rows (leaving spec s t j) ++ entering spec s t j)

-- the rows that entered a view are those that it had not, of any lists that have the new rows of its members
abbrev pub EnteredAreGiven : Type 0
EnteredAreGiven =
    (spec : Spec) → WellFormed spec → (s t : State) → IsState spec t → (j : ℕ) → j < length spec.views
    → (inserted : ℕ → List Row) → HaveNewRows spec s t j inserted
    → let old = (view_table spec s j).rows in
    SameRows (without (view_table spec t j).rows old) (without (candidates_from spec t j inserted) old)

-- the rows that left a view are those that it has no longer, of any lists that have the rows that left its members
abbrev pub LeftAreGiven : Type 0
LeftAreGiven =
    (spec : Spec) → WellFormed spec → (s t : State) → IsState spec s → (j : ℕ) → j < length spec.views
    → (deleted : ℕ → List Row) → HaveNewRows spec t s j deleted
    → let new = (view_table spec t j).rows in
    SameRows (without (view_table spec s j).rows new) (without (candidates_from spec s j deleted) new)

-- ---- rows that stay derived

-- A row is in a view exactly where the view gives it from the rows of one member that agree with it, whichever member that is.
abbrev pub DerivationsAgree : Type 0
DerivationsAgree =
    (spec : Spec) → WellFormed spec → (t : State) → IsState spec t → (j : ℕ) → j < length spec.views
    → (i : ℕ) → Contains (view_at spec j).relations i → (w : Row)
    → has (view_table spec t j).rows w ≡ has (view_table spec (set t i (matching_rows spec t j i w)) j).rows w

-- ---- a view over some rows of a member

-- it has rows of the view alone
abbrev pub FewerRowsGiveFewer : Type 0
FewerRowsGiveFewer =
    (spec : Spec) → WellFormed spec → (t : State) → IsState spec t → (j : ℕ) → j < length spec.views
    → (i : ℕ) → Contains (view_at spec j).relations i → (rows : List Row) → AreAmong rows (get_or t i [])
    → AreAmong (view_table spec (set t i rows) j).rows (view_table spec t j).rows

-- it is what each of them gives alone
abbrev pub ViewGoesRowByRow : Type 0
ViewGoesRowByRow =
    (spec : Spec) → WellFormed spec → (t : State) → IsState spec t → (j : ℕ) → j < length spec.views
    → (i : ℕ) → Contains (view_at spec j).relations i → (rows : List Row) → AreAmong rows (get_or t i [])
    → SameRows (view_table spec (set t i rows) j).rows (flat_map (λ x. (view_table spec (set t i (x ∷ [])) j).rows) rows)

-- the state with some rows of a relation is a state
abbrev pub FewerRowsAreState : Type 0
FewerRowsAreState =
    (spec : Spec) (t : State) → IsState spec t → (i : ℕ) → i < length spec.relations
    → (rows : List Row) → AreAmong rows (get_or t i []) → IsState spec (set t i rows)

-- ---- a view over another join of its members

-- the members of a view, grouped in any way and in any order, give the rows of the view
abbrev pub ViewInAnyGrouping : Type 0
ViewInAnyGrouping =
    (spec : Spec) → WellFormed spec → (s : State) → IsState spec s → (j : ℕ) → j < length spec.views
    → (g : Grouping) → ((i : ℕ) → Contains (members g) i ↔ Contains (view_at spec j).relations i)
    → SameRows (grouped_view spec s j g).rows (view_table spec s j).rows

-- the same of a list of the members, from the first on
abbrev pub ViewInAnyOrder : Type 0
ViewInAnyOrder =
    (spec : Spec) → WellFormed spec → (s : State) → IsState spec s → (j : ℕ) → j < length spec.views
    → (order : List ℕ) → ((i : ℕ) → Contains order i ↔ Contains (view_at spec j).relations i)
    → SameRows (ordered_view spec s j order).rows (view_table spec s j).rows

-- So the candidates come from the join of each member's rows with the other members, one after another in an order of its own.
abbrev pub CandidatesInOrders : Type 0
CandidatesInOrders =
    (spec : Spec) → WellFormed spec → (t : State) → IsState spec t → (j : ℕ) → j < length spec.views
    → (rows : ℕ → List Row) → ((i : ℕ) → Contains (view_at spec j).relations i → AreAmong (rows i) (get_or t i []))
    → (orders : ℕ → List ℕ)
    → ((i : ℕ) → Contains (view_at spec j).relations i → (k : ℕ) → Contains (orders i) k ↔ Contains (view_at spec j).relations k)
    → SameRows
    (candidates_from spec t j rows)
    (flat_map (λ i. (ordered_view spec (set t i (rows i)) j (orders i)).rows) (view_at spec j).relations)
