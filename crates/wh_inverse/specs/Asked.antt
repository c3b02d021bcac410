-- What is asked of a relation: columns, and a value for each.
use Rattle.std.specs.Prelude.{◌≡◌, ℕ, ◌<◌, ◌-◌, Bool, List, map, get_or, length, IsTrue}
use Rattle.std.specs.List.{list_any}
use Rattle.wh_base.specs.declared.value.Value.{Value}
use Rattle.wh_base.specs.Columns.{is_in, all_in, shared}
use Rattle.wh_base.specs.Tables.{Table, project, join_all}
use Rattle.wh_expr.specs.Typing.{are_distinct}
use Rattle.wh_schema.specs.declared.piece.Piece.{Piece}
use Rattle.wh_schema.specs.declared.spec.Spec.{Spec}
use Rattle.wh_schema.specs.Warehouse.{Sources, columns_of, key_of, no_piece, piece_table}

-- one column or more, none twice, each of them among those of the table, and as many values
pub record AreAsked (columns cols : List (List ℕ)) (vals : List Value) : Type 0 where
  pub within : IsTrue (all_in columns cols)
  pub some : 0 < length cols
  pub distinct : IsTrue (are_distinct cols)
  pub one_each : length vals ≡ length cols

-- the columns of a relation that its key has, in the relation's order
abbrev pub key_columns : Spec → ℕ → List (List ℕ)
key_columns spec r = shared (key_of spec r) (columns_of spec r)

-- the piece with a number, from 1
abbrev pub piece_numbered : List Piece → ℕ → Piece
piece_numbered ps i = get_or ps (i - 1) no_piece

-- whether one of the columns is among the names
abbrev pub has_one : List (List ℕ) → List (List ℕ) → Bool
has_one cols names = list_any (is_in names) cols

-- the join of some pieces of a relation, cut to its columns
abbrev pub cover_table : Spec → Sources → ℕ → List Piece → Table
cover_table spec src r c = project (columns_of spec r) (join_all (map (piece_table spec src) c))
