-- Pieces of a specification, and numbers of pieces.
use Rattle.std.specs.Prelude.{ℕ, ◌<◌, ◌≤◌, List, length, All}
use Rattle.wh_schema.specs.declared.piece.Piece.{Piece}
use Rattle.wh_schema.specs.declared.piece.PieceSource.{PieceSource}
use Rattle.wh_schema.specs.declared.piece.PieceSource.TheVariants as source
use Rattle.wh_schema.specs.declared.spec.Spec.{Spec}

-- the view or the inclusion is one of the specification
abbrev pub IsHeld : Spec → PieceSource → Type 0
IsHeld spec (source.View j) = j < length spec.views
IsHeld spec (source.Inclusion i) = i < length spec.inclusions

abbrev pub AreHeld : Spec → List Piece → Type 0
AreHeld spec ps = All (λ p. IsHeld spec p.source) ps

-- the numbers are those of n pieces, from 1
abbrev pub AreNumbers : ℕ → List ℕ → Type 0
AreNumbers n c = All (λ i. (0 < i) × (i ≤ n)) c
