-- The join of a first table with numbered ones, one after another.
use Rattle.std.specs.Prelude.{◌≢◌, ℕ, ◌<◌, List, [], fold, get_or, length, map, take}
use Rattle.wh_base.specs.Columns.{shared}
use Rattle.wh_base.specs.Tables.{Table, join}

-- the join of a first table with the tables of some numbers, from the left
abbrev pub joined_with : Table → (ℕ → Table) → List ℕ → Table
joined_with first table numbers = fold join first (map table numbers)

-- each of the numbered tables shares a column with the join of those before it
abbrev pub SharesColumns : Table → (ℕ → Table) → List ℕ → Type 0
SharesColumns first table numbers =
    (i : ℕ) → i < length numbers → shared (joined_with first table (take i numbers)).columns (table (get_or numbers i 0)).columns ≢ []
