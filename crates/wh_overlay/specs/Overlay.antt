-- Rows under numbers with some deleted and others inserted.
use Rattle.std.specs.Prelude.{ℕ, ◌<◌, ◌++◌, Bool, true, List, [], IsTrue, get_or, slice_get}
use Rattle.std.specs.Coded.{Π_prop}
use Rattle.wh_base.specs.declared.head.Head.{Head}
use Rattle.wh_base.specs.declared.value.Delta.{Delta}
use Rattle.wh_base.specs.declared.value.Value.{Value}
use Rattle.wh_base.specs.Heads.{attrs_at}
use Rattle.wh_base.specs.RowSet.{SameRows}
use Rattle.wh_base.specs.Tables.{without}
use Rattle.wh_eval.specs.Stored.{fits, rows_in}
use Rattle.wh_table.specs.Table.{IndexedRows}
use mathlib.Core.Bool.{Bool-set}

abbrev pub no_delta : Delta
no_delta = record { deleted = []; inserted = [] }

-- what is deleted from a number, and what is inserted into it: nothing past the last delta
abbrev pub deleted_at : List Delta → ℕ → List (List Value)
deleted_at deltas n = (get_or deltas n no_delta).deleted

abbrev pub inserted_at : List Delta → ℕ → List (List Value)
inserted_at deltas n = (get_or deltas n no_delta).inserted

-- the rows of a number without the deleted and with the inserted ones
abbrev pub overlay_rows : (ℕ → List (List Value)) → List Delta → ℕ → List (List Value)
overlay_rows lower deltas n = without (lower n) (deleted_at deltas n) ++ inserted_at deltas n

-- ---- what an overlay keeps

-- each number below a count is there
abbrev pub HasBelow : (ℕ → Bool) → ℕ → Type 0
HasBelow has_number count = (n : ℕ) → n < count → IsTrue (has_number n)

pub HasBelow-prop : (has_number : ℕ → Bool) (count : ℕ) → IsProp (HasBelow has_number count)
HasBelow-prop has_number count = Π_prop (λ n. Π_prop (λ below. Bool-set _ true))

-- each table is as wide as its number, and each of its columns can be looked up alone
abbrev pub FitNumbers : List Head → List IndexedRows → Type 0
FitNumbers heads tables = (n : ℕ) → IsTrue (fits (attrs_at heads n) (slice_get tables n))

pub FitNumbers-prop : (heads : List Head) (tables : List IndexedRows) → IsProp (FitNumbers heads tables)
FitNumbers-prop heads tables = Π_prop (λ n. Bool-set _ true)

-- the tables have the rows of these numbers
abbrev pub HaveRows : (ℕ → List (List Value)) → List IndexedRows → Type 0
HaveRows rows tables = (n : ℕ) → SameRows (rows_in (slice_get tables n)) (rows n)

pub HaveRows-prop : (rows : ℕ → List (List Value)) (tables : List IndexedRows) → IsProp (HaveRows rows tables)
HaveRows-prop rows tables = Π_prop (λ n. Π_prop (λ row. Bool-set _ _))
