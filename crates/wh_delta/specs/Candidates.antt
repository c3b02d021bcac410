-- The rows that a view has where one of its members has other rows, by look-ups in a base for the others.
use Rattle.std.specs.Prelude.{◌≡◌, ◌↔◌, ℕ, ◌<◌, Bool, List, [], ◌∷◌, get_or, length, Contains, IsTrue}
use Rattle.wh_base.specs.declared.head.Head.{Head}
use Rattle.wh_base.specs.Heads.{columns_at}
use Rattle.wh_base.specs.RowSet.{SameRows}
use Rattle.wh_delta_laws.specs.Connected.{GoesOutward, IsConnected}
use Rattle.wh_schema.specs.declared.spec.Spec.{Spec}
use Rattle.wh_schema.specs.declared.spec.View.{View}
use Rattle.wh_schema.specs.Legality.{IsState}
use Rattle.wh_schema.specs.Warehouse.{Row, State, columns_of, view_at}

-- the members of a view other than this one, in an order that goes outward from it where there is one
pub record AreLater (spec : Spec) (v : View) (member : ℕ) (later : List ℕ) : Type 0 where
  pub members : (i : ℕ) → Contains (member ∷ later) i ↔ Contains v.relations i
  pub absent : Contains later member → ⊥
  pub outward : IsConnected spec v → GoesOutward spec (member ∷ []) later

-- the members of the view are relations, under whose numbers the base has rows with their attributes
pub record HasMembers (spec : Spec) (v : View) (heads : List Head) (held : ℕ → Bool) : Type 0 where
  pub relations : (i : ℕ) → Contains v.relations i → i < length spec.relations
  pub numbers : (i : ℕ) → Contains v.relations i → IsTrue (held i)
  pub columns : (i : ℕ) → Contains v.relations i → columns_at heads i ≡ columns_of spec i

-- the view has the number j, and the rows of its members are those of the state t
pub record MembersStand (spec : Spec) (v : View) (rows : ℕ → List Row) (t : State) (j : ℕ) : Type 0 where
  pub within : j < length spec.views
  pub is : view_at spec j ≡ v
  pub state : IsState spec t
  pub same : (i : ℕ) → Contains v.relations i → SameRows (rows i) (get_or t i [])
