-- A part of an expression is less deep than the whole.
use Rattle.std.proofs.Common.{◌≡◌, ◌<◌, ◌+◌, ℕ, List, max, sym, ap, ◌∙◌, arith}
use Rattle.wh_base.specs.declared.cond.Cond.{Cond}
use Rattle.wh_expr.specs.declared.expr.Expr.{Expr}
use Rattle.wh_expr.specs.declared.expr.Expr.TheOpen.{Expr-F}
use Rattle.wh_expr.specs.declared.expr.Expr.TheFolds.{fold-roll-Expr}
use Rattle.wh_expr.specs.declared.expr.Expr.TheVariants.{Select, Project, Join, Union, Minus, Rename, rolls-Select, rolls-Project, rolls-Join, rolls-Union, rolls-Minus, rolls-Rename}
use Rattle.wh_expr.specs.declared.expr.Renaming.{Renaming}
use Rattle.wh_expr.specs.Typing.{depth, depth_at}

-- the only part of a node, and each of two parts
one_below : (e x part : Expr) (t : ℕ) → depth e ≡ depth part + 1 → x ≡ part → depth e ≡ t → depth x < t
one_below e x part t whole got is = let same : depth x ≡ depth part = ap depth got in omega (arith, whole, same, is)

two_below : (e x part : Expr) (other t : ℕ) → depth e ≡ max (depth part) other + 1 → x ≡ part → depth e ≡ t → depth x < t
two_below e x part other t whole got is = let same : depth x ≡ depth part = ap depth got in omega (arith, whole, same, is)

second_below : (e x part : Expr) (other t : ℕ) → depth e ≡ max other (depth part) + 1 → x ≡ part → depth e ≡ t → depth x < t
second_below e x part other t whole got is = let same : depth x ≡ depth part = ap depth got in omega (arith, whole, same, is)

module _ (e : Expr) (t : ℕ) (is : depth e ≡ t) where
  pub below_Select : (c : Cond) (part x : Expr) → e ≡ Select c part → x ≡ part → depth x < t
  below_Select c part x at got = one_below e x part t (ap depth (at ∙ sym (rolls-Select c part)) ∙ fold-roll-Expr ℕ depth_at (Expr-F.Select c part)) got is

  pub below_Project : (names : List (List ℕ)) (part x : Expr) → e ≡ Project names part → x ≡ part → depth x < t
  below_Project names part x at got = one_below e x part t (ap depth (at ∙ sym (rolls-Project names part)) ∙ fold-roll-Expr ℕ depth_at (Expr-F.Project names part)) got is

  pub below_Rename : (pairs : List Renaming) (part x : Expr) → e ≡ Rename pairs part → x ≡ part → depth x < t
  below_Rename pairs part x at got = one_below e x part t (ap depth (at ∙ sym (rolls-Rename pairs part)) ∙ fold-roll-Expr ℕ depth_at (Expr-F.Rename pairs part)) got is

  module _ (left right x : Expr) where
    join_depth : e ≡ Join left right → depth e ≡ max (depth left) (depth right) + 1
    join_depth at = ap depth (at ∙ sym (rolls-Join left right)) ∙ fold-roll-Expr ℕ depth_at (Expr-F.Join left right)

    union_depth : e ≡ Union left right → depth e ≡ max (depth left) (depth right) + 1
    union_depth at = ap depth (at ∙ sym (rolls-Union left right)) ∙ fold-roll-Expr ℕ depth_at (Expr-F.Union left right)

    minus_depth : e ≡ Minus left right → depth e ≡ max (depth left) (depth right) + 1
    minus_depth at = ap depth (at ∙ sym (rolls-Minus left right)) ∙ fold-roll-Expr ℕ depth_at (Expr-F.Minus left right)

    pub below_Join_left : e ≡ Join left right → x ≡ left → depth x < t
    below_Join_left at got = two_below e x left (depth right) t (join_depth at) got is

    pub below_Join_right : e ≡ Join left right → x ≡ right → depth x < t
    below_Join_right at got = second_below e x right (depth left) t (join_depth at) got is

    pub below_Union_left : e ≡ Union left right → x ≡ left → depth x < t
    below_Union_left at got = two_below e x left (depth right) t (union_depth at) got is

    pub below_Union_right : e ≡ Union left right → x ≡ right → depth x < t
    below_Union_right at got = second_below e x right (depth left) t (union_depth at) got is

    pub below_Minus_left : e ≡ Minus left right → x ≡ left → depth x < t
    below_Minus_left at got = two_below e x left (depth right) t (minus_depth at) got is

    pub below_Minus_right : e ≡ Minus left right → x ≡ right → depth x < t
    below_Minus_right at got = second_below e x right (depth left) t (minus_depth at) got is
