-- The laws of connected views. Each is the clause of a public function with an empty body.
use Rattle.std.specs.Prelude.{◌≡◌, ◌≢◌, ◌↔◌, ℕ, List, [], ◌∷◌, ◌++◌, map, Some, None, Contains}
use Rattle.wh_base.specs.Columns.{shared}
use Rattle.wh_base.specs.Tables.{join_all}
use Rattle.wh_schema.specs.declared.spec.Spec.{Spec}
use Rattle.wh_schema.specs.declared.spec.View.{View}
use Rattle.wh_schema.specs.Warehouse.{State, columns_of, table_of}
use Rattle.wh_delta_laws.specs.Connected.{IsOrderFrom, IsConnected, outward_order}

-- what is found from a relation of the view is an order that begins with it
abbrev pub OutwardOrderIsOrder : Type 0
OutwardOrderIsOrder =
    (spec : Spec) (v : View) (first : ℕ) → Contains v.relations first
    → (order : List ℕ) → outward_order spec v first ≡ Some order → IsOrderFrom spec v first order

-- an order is found from a relation of the view exactly where the view is connected
abbrev pub OutwardOrderIsExact : Type 0
OutwardOrderIsExact =
    (spec : Spec) (v : View) (first : ℕ) → Contains v.relations first → (outward_order spec v first ≢ None) ↔ IsConnected spec v

-- in a connected view there is, for each of its relations, an order that begins with it
abbrev pub ConnectedHasOrders : Type 0
ConnectedHasOrders =
    (spec : Spec) (v : View) → IsConnected spec v → (first : ℕ) → Contains v.relations first
    → (order : List ℕ) × IsOrderFrom spec v first order

-- in such an order each relation after the first has an attribute that the join of those before it has
abbrev pub OrderSharesColumns : Type 0
OrderSharesColumns =
    (spec : Spec) (v : View) (first : ℕ) (order : List ℕ) → IsOrderFrom spec v first order
    → (s : State) (before : List ℕ) (k : ℕ) (after : List ℕ) → order ≡ before ++ k ∷ after → before ≢ []
    → shared (join_all (map (table_of spec s) before)).columns (columns_of spec k) ≢ []
