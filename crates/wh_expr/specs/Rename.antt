-- New names for columns.
use Rattle.std.specs.Prelude.{ℕ, List, [], ◌∷◌, map, if◌then◌else◌}
use Rattle.wh_base.specs.Columns.{name_eq}
use Rattle.wh_base.specs.Tables.{Table, with_columns}
use Rattle.wh_expr.specs.declared.expr.Renaming.{Renaming}

-- what a name becomes; all names change at once
abbrev pub new_name : List Renaming → List ℕ → List ℕ
new_name [] name = name
new_name (p ∷ ps) name = if name_eq name p.from then p.to else new_name ps name

-- the same rows under new names
abbrev pub rename : List Renaming → Table → Table
rename pairs t = with_columns (map (new_name pairs) t.columns) t
