-- The printed text of a plan.
use Rattle.std.specs.Prelude.{ℕ, ◌+◌, List, ◌++◌, length, get_or, Bool, true, false, Option, Some, None, codes, decimal}
use Rattle.std.specs.List.{flat_map}
use Rattle.wh_base.specs.declared.head.Head.{Head}
use Rattle.wh_base.specs.Lines.{line, separated_by}
use Rattle.wh_expr.specs.declared.expr.Expr.{Expr}
use Rattle.wh_plan.specs.Expressions.{piece_expr, inverse_expr, key_probes}
use Rattle.wh_plan.specs.Plan.{relation_covers}
use Rattle.wh_query_text.specs.Printed.{name_at, list_mark, expr_text}
use Rattle.wh_schema.specs.declared.piece.Piece.{Piece}
use Rattle.wh_schema.specs.declared.spec.Spec.{Spec}
use Rattle.wh_schema.specs.EmptyMark.{always_empty}
use Rattle.wh_schema.specs.Heads.{heads_of}
use Rattle.wh_schema.specs.Reconstruction.{order}
use Rattle.wh_schema.specs.Warehouse.{numbers, pieces, no_piece}

-- the names of the relations in the order of reconstruction
abbrev pub order_line : List Head → List ℕ → List ℕ
order_line heads relations = line (codes "order: " ++ separated_by (name_at heads) list_mark relations)

-- the piece at a place, numbered from 1
abbrev pub piece_line : Spec → List Head → List Piece → ℕ → List ℕ
piece_line spec heads ps i = line (codes "piece " ++ decimal (i + 1) ++ codes ": " ++ expr_text heads (piece_expr spec (get_or ps i no_piece)))

abbrev pub piece_lines : Spec → List Head → List Piece → List ℕ
piece_lines spec heads ps = flat_map (piece_line spec heads ps) (numbers (length ps))

-- the numbers of the pieces of a cover
abbrev pub cover_line : List ℕ → List ℕ
cover_line cover = line (codes "cover: " ++ separated_by decimal list_mark cover)

abbrev pub inverse_line : List Head → Expr → List ℕ
inverse_line heads e = line (codes "inverse: " ++ expr_text heads e)

-- whether the complement is empty in every legal state
abbrev pub empty_line : Bool → List ℕ
empty_line true = line (codes "always empty: " ++ codes "yes")
empty_line false = line (codes "always empty: " ++ codes "no")

abbrev pub probes_line : Option ℕ → List ℕ
probes_line None = line (codes "key probes: " ++ codes "not stated")
probes_line (Some n) = line (codes "key probes: " ++ decimal n)

-- a relation with its pieces, its covers, its inverse, the mark of its complement and its number of look-ups
abbrev pub relation_lines : Spec → List Head → ℕ → List ℕ
relation_lines spec heads r =
    line (codes "relation " ++ name_at heads r)
    ++ piece_lines spec heads (pieces spec r)
    ++ flat_map cover_line (relation_covers spec r)
    ++ inverse_line heads (inverse_expr spec r)
    ++ empty_line (always_empty spec r)
    ++ probes_line (key_probes (pieces spec r))

-- the order, and then each relation
abbrev pub plan_text : Spec → List ℕ
plan_text spec = order_line (heads_of spec) (order spec) ++ flat_map (relation_lines spec (heads_of spec)) (numbers (length spec.relations))
