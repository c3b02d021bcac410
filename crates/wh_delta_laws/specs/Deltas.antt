-- What a change of the state does to a view, member by member.
use Rattle.std.specs.Prelude.{◌≡◌, ℕ, List, [], ◌∷◌, get_or, set, true, false, Contains}
use Rattle.std.specs.List.{flat_map}
use Rattle.wh_base.specs.Columns.{shared, cut}
use Rattle.wh_base.specs.RowSet.{has}
use Rattle.wh_base.specs.Tables.{without, matching}
use Rattle.wh_schema.specs.declared.spec.Spec.{Spec}
use Rattle.wh_schema.specs.Warehouse.{Row, State, columns_of, view_at, view_table}

-- the rows of a relation in the state t that it has not in s
abbrev pub new_rows : State → State → ℕ → List Row
new_rows s t i = without (get_or t i []) (get_or s i [])

-- the state t with the rows of one relation replaced by its new ones
abbrev pub only_new : State → State → ℕ → State
only_new s t i = set t i (new_rows s t i)

-- the rows of a view that some rows of each member give: its members in turn by these, the others as they are in t
abbrev pub candidates_from : Spec → State → ℕ → (ℕ → List Row) → List Row
candidates_from spec t j rows = flat_map (λ i. (view_table spec (set t i (rows i)) j).rows) (view_at spec j).relations

-- the rows of a view that the new rows of its members give
abbrev pub candidates : Spec → State → State → ℕ → List Row
candidates spec s t j = candidates_from spec t j (new_rows s t)

-- the candidates that the view had not before the change from s to t
abbrev pub entering : Spec → State → State → ℕ → List Row
entering spec s t j = without (candidates spec s t j) (view_table spec s j).rows

-- the candidates of the change back that the view has no longer after the change from s to t
abbrev pub leaving : Spec → State → State → ℕ → List Row
leaving spec s t j = without (candidates spec t s j) (view_table spec t j).rows

-- A row of a member that is in t and not in s, and that gives the row w of the view: alone, and among the new ones.
pub record NewRow (spec : Spec) (s t : State) (j : ℕ) (w : Row) : Type 0 where
  pub member : ℕ
  pub is_member : Contains (view_at spec j).relations member
  pub row : Row
  pub present : has (get_or t member []) row ≡ true
  pub absent : has (get_or s member []) row ≡ false
  pub alone : has (view_table spec (set t member (row ∷ [])) j).rows w ≡ true
  pub among : has (view_table spec (only_new s t member) j).rows w ≡ true

-- the rows of a member that agree with a row of the view at the attributes of the head that the member has
abbrev pub matching_rows : Spec → State → ℕ → ℕ → Row → List Row
matching_rows spec t j i w =
    let head = (view_at spec j).head in
    let names = shared head (columns_of spec i) in
    matching (columns_of spec i) names (cut head names w) (get_or t i [])
