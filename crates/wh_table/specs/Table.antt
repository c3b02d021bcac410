-- What contracts see of a table with indexes.
use Rattle.std.specs.Prelude.{◌≡◌, ◌<◌, ℕ, true, false, List, filter, length, All, Any, Contains, IsPermutation, nat_eq}
use Rattle.std.specs.List.{IsDistinct, list_all, list_any}
use Rattle.wh_base.specs.declared.value.Delta.{Delta}
use Rattle.wh_base.specs.declared.value.Value.{Value}
use Rattle.wh_base.specs.Columns.{picked}
use Rattle.wh_base.specs.RowSet.{has, AreDistinct}
use Rattle.wh_base.specs.Value.{row_eq}

-- the rows, whose order means nothing, how wide they are, the sets of columns to look them up by, and for how many more there is room
pub record IndexedRows : Type 0 where
  pub rows : List (List Value)
  pub width : ℕ
  pub indexes : List (List ℕ)
  pub spare : ℕ

-- a set of columns is a nonempty list of distinct places below the width
pub record IsColumnSet (width : ℕ) (places : List ℕ) : Type 0 where
  pub nonempty : 0 < length places
  pub distinct : IsDistinct nat_eq places
  pub below : All (λ place. place < width) places

-- places are those of an indexed set, each once, in any order
abbrev pub IsIndexed : List (List ℕ) → List ℕ → Type 0
IsIndexed indexes places = Any (λ set. IsPermutation set places) indexes

-- each of some places is among columns
abbrev pub AreAmong : List ℕ → List ℕ → Type 0
AreAmong places columns = All (Contains columns) places

-- the places of some indexed set are among columns
abbrev pub HasSetWithin : List (List ℕ) → List ℕ → Type 0
HasSetWithin indexes columns = Any (λ set. AreAmong set columns) indexes

-- the rows whose values at the places are these
abbrev pub matching : List ℕ → List Value → List (List Value) → List (List Value)
matching places values rows = filter (λ row. row_eq (picked places row) values) rows

-- a change takes rows that are there, each once, and adds rows that are not, each once
pub record CanApply (rows : List (List Value)) (delta : Delta) : Type 0 where
  pub present : list_all (has rows) delta.deleted ≡ true
  pub absent : list_any (has rows) delta.inserted ≡ false
  pub deleted_once : AreDistinct delta.deleted
  pub inserted_once : AreDistinct delta.inserted
