-- The expressions of a plan. Relation i has the number i, view j the number n + j, and the complement of relation r the number n + m + r,
-- where there are n relations and m views.
use Rattle.std.specs.Prelude.{ℕ, ◌+◌, Bool, true, false, not, List, [], ◌∷◌, ◌++◌, map, filter, fold, length, Option, Some, None, slice_get, unwrap_or, if◌then◌else◌}
use Rattle.std.specs.Cmp.Lexicographic.{pointwise}
use Rattle.std.specs.List.{list_all}
use Rattle.wh_base.specs.Columns.{name_eq, place_of, others}
use Rattle.wh_expr.specs.declared.expr.Expr.{Expr}
use Rattle.wh_expr.specs.declared.expr.Expr.TheVariants.{Base, Select, Project, Join, Union, Rename}
use Rattle.wh_expr.specs.declared.expr.Renaming.{Renaming}
use Rattle.wh_schema.specs.declared.piece.Piece.{Piece}
use Rattle.wh_schema.specs.declared.piece.PieceSource.{PieceSource}
use Rattle.wh_schema.specs.declared.piece.PieceSource.TheVariants as source
use Rattle.wh_schema.specs.declared.spec.Inclusion.{Inclusion}
use Rattle.wh_schema.specs.declared.spec.Spec.{Spec}
use Rattle.wh_schema.specs.Warehouse.{columns_of, view_at, inclusion_at, pieces, covers}

-- the join of expressions, grouped to the left; there is always one at least
abbrev pub join_exprs : List Expr → Expr
join_exprs [] = Base 0
join_exprs (e ∷ es) = fold (λ a b. Join a b) e es

-- ---- views

-- the relations of a view, joined, selected by its condition, projected to its head
abbrev pub view_expr : Spec → ℕ → Expr
view_expr spec j = let v = view_at spec j in Project v.head (Select v.cond (join_exprs (map (λ i. Base i) v.relations)))

-- ---- pieces

-- the left column that an inclusion has for a right one
abbrev pub left_column : Inclusion → List ℕ → List ℕ
left_column c target = unwrap_or (slice_get c.from_cols (place_of c.to_cols target)) []

-- a renaming that changes something
abbrev pub is_change : Renaming → Bool
is_change p = not (name_eq p.from p.to)

-- the left columns for the attributes of a piece, to be renamed to these
abbrev pub renamings : Inclusion → List (List ℕ) → List Renaming
renamings c attrs = map (λ n. record { from = left_column c n; to = n }) attrs

-- renamed where there is something to rename
abbrev pub renamed_expr : List Renaming → Expr → Expr
renamed_expr [] e = e
renamed_expr (p ∷ ps) e = Rename (p ∷ ps) e

-- the left relation, projected to the left columns for the attributes of a piece, in the order of these; only the names that differ are changed
abbrev pub inclusion_expr : Inclusion → List (List ℕ) → Expr
inclusion_expr c attrs = renamed_expr (filter is_change (renamings c attrs)) (Project (map (left_column c) attrs) (Base c.from))

abbrev pub source_expr : Spec → List (List ℕ) → PieceSource → Expr
source_expr spec attrs (source.View j) = Project attrs (Base (length spec.relations + j))
source_expr spec attrs (source.Inclusion i) = inclusion_expr (inclusion_at spec i) attrs

abbrev pub piece_expr : Spec → Piece → Expr
piece_expr spec p = source_expr spec p.attrs p.source

-- ---- covers and inverses

-- the attributes of the natural join of pieces, in its order
abbrev pub joined_names : List Piece → List (List ℕ)
joined_names ps = fold (λ names p. names ++ others names p.attrs) [] ps

-- an expression whose attributes are some names, projected to the columns where these are another list
abbrev pub arranged_expr : List (List ℕ) → List (List ℕ) → Expr → Expr
arranged_expr columns names e = if pointwise name_eq names columns then e else Project columns e

-- the join of the pieces of a cover, in the order of the relation's columns
abbrev pub cover_expr : Spec → List (List ℕ) → List Piece → Expr
cover_expr spec columns c = arranged_expr columns (joined_names c) (join_exprs (map (piece_expr spec) c))

abbrev pub complement_number : Spec → ℕ → ℕ
complement_number spec r = length spec.relations + length spec.views + r

-- the complement of a relation, and the covers
abbrev pub inverse_expr : Spec → ℕ → Expr
inverse_expr spec r = fold (λ e c. Union e (cover_expr spec (columns_of spec r) c)) (Base (complement_number spec r)) (covers (columns_of spec r) (pieces spec r))

-- ---- look-ups by key

abbrev comes_from_view_at : PieceSource → Bool
comes_from_view_at (source.View j) = true
comes_from_view_at (source.Inclusion i) = false

abbrev pub comes_from_view : Piece → Bool
comes_from_view p = comes_from_view_at p.source

-- how many look-ups find a row by its key: one in the complement and one in each piece, where all pieces come from views
abbrev pub key_probes : List Piece → Option ℕ
key_probes ps = if list_all comes_from_view ps then Some (length ps + 1) else None
