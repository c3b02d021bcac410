-- Rows in tables under numbers: the last numbers of the heads, in the order of the tables.
use Rattle.std.specs.Prelude.{ℕ, ◌+◌, ◌-◌, ◌≡◌, ◌<◌, ◌&&◌, Bool, true, List, [], ◌∷◌, ◌++◌, map, Option, None, Some, length, slice_get, nat_eq, nat_le, nat_lt, IsTrue}
use Rattle.std.specs.Cmp.Lexicographic.{pointwise}
use Rattle.std.specs.Coded.{Π_prop}
use Rattle.std.specs.List.{list_all, list_any, range_with_len}
use Rattle.wh_base.specs.declared.head.Head.{Head}
use Rattle.wh_base.specs.declared.value.Attr.{Attr}
use Rattle.wh_base.specs.declared.value.Value.{Value}
use Rattle.wh_base.specs.Heads.{attrs_at}
use Rattle.wh_table.specs.Table.{IndexedRows, IsIndexed}
use mathlib.Core.Bool.{Bool-set}

-- ---- the numbers

-- the number of the first table
abbrev pub first_stored : List Head → List IndexedRows → ℕ
first_stored heads tables = length heads - length tables

-- whether a number has a table
abbrev pub is_stored : List Head → List IndexedRows → ℕ → Bool
is_stored heads tables n = nat_le (first_stored heads tables) n && nat_lt n (length heads)

-- the table of a number, if it has one
abbrev pub stored_table : List Head → List IndexedRows → ℕ → Option IndexedRows
stored_table heads tables n = slice_get tables (n - first_stored heads tables)

-- the rows of a table, if there is one
abbrev pub rows_in : Option IndexedRows → List (List Value)
rows_in None = []
rows_in (Some t) = t.rows

-- its sets of columns
abbrev pub indexes_in : Option IndexedRows → List (List ℕ)
indexes_in None = []
indexes_in (Some t) = t.indexes

-- the rows of the table of a number
abbrev pub stored_rows : List Head → List IndexedRows → ℕ → List (List Value)
stored_rows heads tables n = rows_in (stored_table heads tables n)

-- the sets of columns that the table of a number is looked up by
abbrev pub stored_indexes : List Head → List IndexedRows → ℕ → List (List ℕ)
stored_indexes heads tables n = indexes_in (stored_table heads tables n)

-- ---- tables that fit

-- whether a column alone is one of the sets
abbrev pub has_single : List (List ℕ) → ℕ → Bool
has_single indexes place = list_any (λ set. pointwise nat_eq set (place ∷ [])) indexes

-- whether each column below a width alone is one of the sets
abbrev pub has_singles : List (List ℕ) → ℕ → Bool
has_singles indexes width = list_all (has_single indexes) (range_with_len 0 width)

-- whether a table, if there is one, is as wide as there are attributes, and each of its columns can be looked up alone
abbrev pub fits : List Attr → Option IndexedRows → Bool
fits attrs None = true
fits attrs (Some t) = nat_eq t.width (length attrs) && has_singles t.indexes (length attrs)

-- each table fits the attributes of its number
abbrev pub FitHeads : List Head → List IndexedRows → Type 0
FitHeads heads tables = (k : ℕ) → IsTrue (fits (attrs_at heads (first_stored heads tables + k)) (slice_get tables k))

pub FitHeads-prop : (heads : List Head) (tables : List IndexedRows) → IsProp (FitHeads heads tables)
FitHeads-prop heads tables = Π_prop (λ k. Bool-set _ true)

-- ---- laws, the clauses of public functions with an empty body

-- a table fits attributes exactly where it is as wide as they are many, and each of its columns alone is an indexed set
pub record IsFit (attrs : List Attr) (t : IndexedRows) : Type 0 where
  pub width : t.width ≡ length attrs
  pub singles : (i : ℕ) → i < t.width → IsIndexed t.indexes (i ∷ [])

abbrev pub FitsByIndexes : Type 0
FitsByIndexes = (attrs : List Attr) (t : IndexedRows) → (IsFit attrs t → IsTrue (fits attrs (Some t))) × (IsTrue (fits attrs (Some t)) → IsFit attrs t)

-- a table whose sets begin with each of its columns alone, in order, fits attributes that are as many
abbrev pub SinglesFit : Type 0
SinglesFit =
    (attrs : List Attr) (t : IndexedRows) (more : List (List ℕ)) → t.width ≡ length attrs
    → t.indexes ≡ map (λ i. i ∷ []) (range_with_len 0 t.width) ++ more → IsTrue (fits attrs (Some t))
