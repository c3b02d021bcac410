-- The plan of a specification.
use Rattle.std.specs.Prelude.{◌≡◌, ℕ, ◌+◌, ◌<◌, nat_lt, List, [], ◌∷◌, map, length, Option, Some, None, if◌then◌else◌}
use Rattle.wh_plan.specs.declared.plan.Plan.{Plan}
use Rattle.wh_plan.specs.declared.plan.PlanFault.{PlanFault}
use Rattle.wh_plan.specs.declared.plan.PlanFault.TheVariants.{TooManyPieces, NoMemory}
use Rattle.wh_plan.specs.Expressions.{view_expr, inverse_expr, key_probes}
use Rattle.wh_plan.specs.Indexes.{indexes}
use Rattle.wh_schema.specs.declared.piece.Piece.{Piece}
use Rattle.wh_schema.specs.declared.spec.Spec.{Spec}
use Rattle.wh_schema.specs.EmptyMark.{always_empty}
use Rattle.wh_schema.specs.Reconstruction.{order}
use Rattle.wh_schema.specs.Warehouse.{numbers, columns_of, pieces, cover_numbers}

-- the pieces of each relation, and its covers as numbers of pieces
abbrev pub all_pieces : Spec → List (List Piece)
all_pieces spec = map (pieces spec) (numbers (length spec.relations))

abbrev pub relation_covers : Spec → ℕ → List (List ℕ)
relation_covers spec i = cover_numbers (columns_of spec i) (pieces spec i)

abbrev pub plan_of : Spec → Plan
plan_of spec = record {
  spec = spec;
  order = order spec;
  pieces = all_pieces spec;
  covers = map (relation_covers spec) (numbers (length spec.relations));
  empties = map (always_empty spec) (numbers (length spec.relations));
  view_exprs = map (view_expr spec) (numbers (length spec.views));
  inverse_exprs = map (inverse_expr spec) (numbers (length spec.relations));
  indexes = indexes spec;
  key_probes = map (λ i. key_probes (pieces spec i)) (numbers (length spec.relations));
}

-- the plan is that of its specification
abbrev pub IsPlan : Plan → Type 0
IsPlan plan = plan ≡ plan_of plan.spec

-- the first relation, counted from n, with more than 12 pieces, and how many it has
abbrev pub first_too_many : ℕ → List (List Piece) → Option PlanFault
first_too_many n [] = None
first_too_many n (ps ∷ more) = if nat_lt 12 (length ps) then Some (TooManyPieces n (length ps)) else first_too_many (n + 1) more

abbrev pub too_many : Spec → Option PlanFault
too_many spec = first_too_many 0 (all_pieces spec)

-- what a fault says of a specification
abbrev pub IsPlanFault : Spec → PlanFault → Type 0
IsPlanFault spec (TooManyPieces n count) = too_many spec ≡ Some (TooManyPieces n count)
IsPlanFault spec NoMemory = Unit {0}

-- what a fault says of one relation and its number of pieces
abbrev pub IsFaultAt : ℕ → ℕ → PlanFault → Type 0
IsFaultAt relation n (TooManyPieces at count) = (at ≡ relation) × (12 < n) × (count ≡ n)
IsFaultAt relation n NoMemory = Unit {0}
