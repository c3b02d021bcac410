-- Views whose relations hang together by attributes, and orders of their relations that go outward from one of them.
use Rattle.std.specs.Prelude.{◌≡◌, ◌↔◌, ℕ, nat_eq, List, [], ◌∷◌, ◌++◌, Bool, true, not, ◌&&◌, length, Option, Some, None, Contains, if◌then◌else◌}
use Rattle.std.specs.List.{list_any, list_all, IsDistinct}
use Rattle.wh_base.specs.Columns.{is_in}
use Rattle.wh_schema.specs.declared.spec.Spec.{Spec}
use Rattle.wh_schema.specs.declared.spec.View.{View}
use Rattle.wh_schema.specs.Reconstruction.{iterate, is_taken, take_next}
use Rattle.wh_schema.specs.Warehouse.{columns_of}

-- an attribute of the one relation is one of the other
abbrev pub shares_attribute : Spec → ℕ → ℕ → Bool
shares_attribute spec i k = list_any (is_in (columns_of spec i)) (columns_of spec k)

-- the relation shares an attribute with one of some relations
abbrev pub touches : Spec → List ℕ → ℕ → Bool
touches spec taken k = list_any (λ i. shares_attribute spec i k) taken

-- each relation of a list shares an attribute with one that stands before it, where some stand before all of them
abbrev pub GoesOutward : Spec → List ℕ → List ℕ → Type 0
GoesOutward spec taken [] = Unit {0}
GoesOutward spec taken (k ∷ ks) = (touches spec taken k ≡ true) × GoesOutward spec (taken ++ k ∷ []) ks

-- The order has the relations of the view, none twice. It begins with this one, and each later one shares an attribute with an earlier one.
pub record IsOrderFrom (spec : Spec) (v : View) (first : ℕ) (order : List ℕ) : Type 0 where
  pub rest : List ℕ
  pub begins : order ≡ first ∷ rest
  pub outward : GoesOutward spec (first ∷ []) rest
  pub distinct : IsDistinct nat_eq order
  pub members : (i : ℕ) → Contains order i ↔ Contains v.relations i

-- the relations of the view can be listed so that each after the first shares an attribute with an earlier one
abbrev pub IsConnected : Spec → View → Type 0
IsConnected spec v = (first : ℕ) × (order : List ℕ) × IsOrderFrom spec v first order

-- ---- the order that takes the first it can

-- the relation is not taken, and shares an attribute with a taken one
abbrev pub is_next : Spec → List ℕ → ℕ → Bool
is_next spec taken k = not (is_taken taken k) && touches spec taken k

-- the relations that are taken from one of them on, again and again the first in declared order that is next
abbrev pub reached : Spec → List ℕ → ℕ → List ℕ
reached spec relations first = iterate (length relations) (take_next (is_next spec) relations) (first ∷ [])

-- these in the order in which they are taken, where they are all relations of the view
abbrev pub outward_order : Spec → View → ℕ → Option (List ℕ)
outward_order spec v first =
    let order = reached spec v.relations first in
    if list_all (is_taken order) v.relations then Some order else None
