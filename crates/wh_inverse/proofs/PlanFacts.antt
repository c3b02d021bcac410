-- What a plan that is that of its specification has, where this is only known to hold.
use Rattle.std.proofs.Common.{◌≡◌, ℕ, ◌<◌, List, map, length, get_or, refl, ap, ◌∙◌, arith, zero-add, ◌⊎◌, inl, inr}
use Rattle.std.proofs.Math.Logic.{∥∥₁_elim, ∥∥₁_map}
use Rattle.std.specs.Coded.{Coded, Coded-set, code_by, coded×, coded⊎, coded_list, coded_ℕ, le_prop}
use Rattle.std.proofs.lemmas.List.FromFn.{get_or-map-range_with_len, length-map-range_with_len}
use Rattle.wh_plan.specs.declared.plan.Plan.{Plan}
use Rattle.wh_expr.specs.declared.expr.Expr.{Expr}
use Rattle.wh_plan.specs.Expressions.{inverse_expr}
use Rattle.wh_plan.specs.Plan.{IsPlan, relation_covers}
use Rattle.wh_schema.specs.declared.piece.Piece.{Piece}
use Rattle.wh_schema.specs.declared.piece.PieceSource.{PieceSource}
use Rattle.wh_schema.specs.declared.piece.PieceSource.TheVariants as source
use Rattle.wh_schema.specs.Reconstruction.{order}
use Rattle.wh_schema.specs.Warehouse.{numbers, pieces}

-- ---- a code of pieces, by which two of them are one in one way alone

abbrev apart : PieceSource → ℕ ⊎ ℕ
apart (source.View j) = inl j
apart (source.Inclusion i) = inr i

abbrev whole : ℕ ⊎ ℕ → PieceSource
whole (inl j) = source.View j
whole (inr i) = source.Inclusion i

whole_again : (s : PieceSource) → whole (apart s) ≡ s
whole_again (source.View j) = refl
whole_again (source.Inclusion i) = refl

source_code : Coded PieceSource
source_code = code_by (ℕ ⊎ ℕ) (coded⊎ coded_ℕ coded_ℕ) apart whole whole_again

piece_code : Coded Piece
piece_code = code_by (PieceSource × List (List ℕ)) (coded× source_code (coded_list (coded_list coded_ℕ))) (λ p. (p.source, p.attrs)) (λ q. record { source = q.0; attrs = q.1 }) (λ p. refl)

-- ---- the pieces, the covers and the order

module _ (plan : Plan) (planned : ∥ IsPlan plan ∥₁) where
  pub pieces-within : (r : ℕ) → r < length plan.spec.relations → (list : List (List Piece)) → list ≡ plan.pieces → r < length list
  pieces-within r l list e = ∥∥₁_elim planned le_prop (λ p.
      let same : length plan.pieces ≡ length (map (pieces plan.spec) (numbers (length plan.spec.relations))) = ap (λ (q : Plan). length q.pieces) p in
      omega (arith, l, ap length e, same, length-map-range_with_len (pieces plan.spec) 0 (length plan.spec.relations)))

  pub pieces-are : (r : ℕ) → r < length plan.spec.relations → (list : List (List Piece)) → list ≡ plan.pieces → (item : List Piece) → item ≡ get_or list r item → item ≡ pieces plan.spec r
  pieces-are r l list e item is = ∥∥₁_elim planned (Coded-set (coded_list piece_code) _ _) (λ p.
      is ∙ ap (λ all. get_or all r item) (e ∙ ap (λ (q : Plan). q.pieces) p) ∙ get_or-map-range_with_len (pieces plan.spec) 0 (length plan.spec.relations) r r item l (zero-add r))

  pub covers-within : (r : ℕ) → r < length plan.spec.relations → (list : List (List (List ℕ))) → list ≡ plan.covers → r < length list
  covers-within r l list e = ∥∥₁_elim planned le_prop (λ p.
      let same : length plan.covers ≡ length (map (relation_covers plan.spec) (numbers (length plan.spec.relations))) = ap (λ (q : Plan). length q.covers) p in
      omega (arith, l, ap length e, same, length-map-range_with_len (relation_covers plan.spec) 0 (length plan.spec.relations)))

  pub covers-are : (r : ℕ) → r < length plan.spec.relations → (list : List (List (List ℕ))) → list ≡ plan.covers → (item : List (List ℕ)) → item ≡ get_or list r item → item ≡ relation_covers plan.spec r
  covers-are r l list e item is = ∥∥₁_elim planned (Coded-set (coded_list (coded_list coded_ℕ)) _ _) (λ p.
      is ∙ ap (λ all. get_or all r item) (e ∙ ap (λ (q : Plan). q.covers) p) ∙ get_or-map-range_with_len (relation_covers plan.spec) 0 (length plan.spec.relations) r r item l (zero-add r))

  pub order-is : plan.order ≡ order plan.spec
  order-is = ∥∥₁_elim planned (Coded-set (coded_list coded_ℕ) _ _) (λ p. ap (λ (q : Plan). q.order) p)

  pub exprs-within : (r : ℕ) → r < length plan.spec.relations → (list : List Expr) → list ≡ plan.inverse_exprs → r < length list
  exprs-within r l list e = ∥∥₁_elim planned le_prop (λ p.
      let same : length plan.inverse_exprs ≡ length (map (inverse_expr plan.spec) (numbers (length plan.spec.relations))) = ap (λ (q : Plan). length q.inverse_exprs) p in
      omega (arith, l, ap length e, same, length-map-range_with_len (inverse_expr plan.spec) 0 (length plan.spec.relations)))

  pub exprs-are : (r : ℕ) → r < length plan.spec.relations → (list : List Expr) → list ≡ plan.inverse_exprs → (item : Expr) → item ≡ get_or list r item → ∥ item ≡ inverse_expr plan.spec r ∥₁
  exprs-are r l list e item is = ∥∥₁_map planned (λ p.
      is ∙ ap (λ all. get_or all r item) (e ∙ ap (λ (q : Plan). q.inverse_exprs) p) ∙ get_or-map-range_with_len (inverse_expr plan.spec) 0 (length plan.spec.relations) r r item l (zero-add r))
