-- Rows whose columns have names. A name that is no column, or a value that a short row lacks, reads as 0.
use Rattle.std.specs.Prelude.{ℕ, suc, Bool, not, List, [], ◌∷◌, map, filter, slice_get, unwrap_or, if◌then◌else◌, nat_eq, pos}
use Rattle.std.specs.List.{list_any, list_all}
use Rattle.std.specs.Cmp.Lexicographic.{pointwise}
use Rattle.wh_base.specs.declared.value.Attr.{Attr}
use Rattle.wh_base.specs.declared.value.Value.{Value}
use Rattle.wh_base.specs.declared.value.Value.TheVariants.{Int}

-- whether two names are one
abbrev pub name_eq : List ℕ → List ℕ → Bool
name_eq = pointwise nat_eq

-- whether a name is among names
abbrev pub is_in : List (List ℕ) → List ℕ → Bool
is_in names name = list_any (name_eq name) names

-- whether each of some names is among the columns
abbrev pub all_in : List (List ℕ) → List (List ℕ) → Bool
all_in columns names = list_all (is_in columns) names

-- the names that both lists have, in the right one's order, and those that only the right one has
abbrev pub shared : List (List ℕ) → List (List ℕ) → List (List ℕ)
shared left right = filter (is_in left) right

abbrev pub others : List (List ℕ) → List (List ℕ) → List (List ℕ)
others left right = filter (λ n. not (is_in left n)) right

-- the names of attributes
abbrev pub names_of : List Attr → List (List ℕ)
names_of attrs = map (λ a. a.name) attrs

-- the place of the column with the name, or the number of columns
abbrev pub place_of : List (List ℕ) → List ℕ → ℕ
place_of [] name = 0
place_of (column ∷ columns) name = if name_eq name column then 0 else suc (place_of columns name)

-- the value at a place
abbrev pub value_at : List Value → ℕ → Value
value_at row place = unwrap_or (slice_get row place) (Int (pos 0))

-- the values at places
abbrev pub picked : List ℕ → List Value → List Value
picked places row = map (value_at row) places

-- the value of the column with the name
abbrev pub value_of : List (List ℕ) → List Value → List ℕ → Value
value_of columns row name = value_at row (place_of columns name)

-- the row cut to names, where its columns are these
abbrev pub cut : List (List ℕ) → List (List ℕ) → List Value → List Value
cut columns names row = picked (map (place_of columns) names) row
