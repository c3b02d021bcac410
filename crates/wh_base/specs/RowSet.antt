-- Lists of rows as sets.
use Rattle.std.specs.Prelude.{◌≡◌, Bool, not, List, [], ◌∷◌, filter}
use Rattle.std.specs.BTreeSet.{insert_key}
use Rattle.std.specs.List.{list_any, IsDistinct}
use Rattle.std.specs.List.Sorted.{IsStrictlySortedBy}
use Rattle.wh_base.specs.declared.value.Value.{Value}
use Rattle.wh_base.specs.Value.{row_cmp, row_eq}

-- whether a row is among rows
abbrev pub has : List (List Value) → List Value → Bool
has rows row = list_any (row_eq row) rows

-- the same rows, as sets
abbrev pub SameRows : List (List Value) → List (List Value) → Type 0
SameRows xs ys = (row : List Value) → has xs row ≡ has ys row

abbrev pub AreDistinct : List (List Value) → Type 0
AreDistinct = IsDistinct row_eq

-- each row of a list of rows once, in any order
pub record IsSetOf (rows meant : List (List Value)) : Type 0 where
  pub distinct : AreDistinct rows
  pub same : SameRows rows meant

-- each row stands below those after it
abbrev pub IsAscending : List (List Value) → Type 0
IsAscending = IsStrictlySortedBy row_cmp

-- the distinct rows in row order, which is one list for all lists with the same rows
abbrev pub in_order : List (List Value) → List (List Value)
in_order [] = []
in_order (row ∷ rows) = insert_key row_cmp (in_order rows) row

-- each item that E finds equal to no earlier one
abbrev pub first_seen_by : {K : Type 0} → (K → K → Bool) → List K → List K
first_seen_by E [] = []
first_seen_by E (x ∷ xs) = x ∷ filter (λ y. not (E x y)) (first_seen_by E xs)

-- the distinct rows, each where it stands first
abbrev pub first_seen : List (List Value) → List (List Value)
first_seen = first_seen_by row_eq
