-- Rows in memory under numbers.
use Rattle.std.specs.Prelude.{ℕ, List, [], get_or}
use Rattle.std.specs.Coded.{Π_prop}
use Rattle.std.proofs.lemmas.Map.Keys.{IsDistinct-prop}
use Rattle.wh_base.specs.declared.value.Value.{Value}
use Rattle.wh_base.specs.RowSet.{AreDistinct}
use Rattle.wh_base.specs.Value.{row_eq}

-- no list has a row twice
abbrev pub HasDistinctRows : List (List (List Value)) → Type 0
HasDistinctRows state = (n : ℕ) → AreDistinct (get_or state n [])

pub HasDistinctRows-prop : (state : List (List (List Value))) → IsProp (HasDistinctRows state)
HasDistinctRows-prop state = Π_prop (λ n. IsDistinct-prop row_eq (get_or state n []))
