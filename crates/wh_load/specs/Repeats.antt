-- Values that come twice in a list.
use Rattle.std.specs.Prelude.{Bool, false, ◌&&◌, ◌||◌, List, [], ◌∷◌}
use Rattle.wh_base.specs.declared.value.Value.{Value}
use Rattle.wh_base.specs.RowSet.{has}
use Rattle.wh_base.specs.Value.{row_eq}

-- whether a row stands at two places
abbrev pub comes_twice : List (List Value) → List Value → Bool
comes_twice [] q = false
comes_twice (row ∷ rows) q = row_eq q row && has rows q || comes_twice rows q
