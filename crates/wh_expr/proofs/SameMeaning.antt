-- The meaning is the same over tables that are the same.
use Rattle.std.proofs.Common.{◌≡◌, ℕ, sym, subst}
use Rattle.wh_expr.specs.declared.expr.Expr.{Expr}
use Rattle.wh_expr.specs.declared.expr.Expr.TheOpen.{Expr-F}
use Rattle.wh_expr.specs.declared.expr.Expr.TheViews.{roll-Expr}
use Rattle.wh_expr.specs.declared.expr.Expr.TheFolds.{fold-roll-Expr, ind-Expr, map-Expr, claims}
use Rattle.wh_expr.specs.declared.expr.Expr.TheBlock.{the_family, member-Expr}
use denote.Hole.Holds.{Such}
use Rattle.wh_base.specs.Tables.{Table}
use Rattle.wh_expr.specs.SameTable.{SameTable}
use Rattle.wh_expr.specs.Meaning.{meaning, meaning_at}
use Rattle.wh_expr.proofs.Congruence.{SameTable-select, SameTable-project, SameTable-join, SameTable-union, SameTable-minus, SameTable-rename}

between : (t t' u u' : Table) → t ≡ t' → u ≡ u' → SameTable t' u' → SameTable t u
between t t' u u' a b h = subst (λ x. SameTable x u) (sym a) (subst (SameTable t') (sym b) h)

module _ (g h : ℕ → Table) (same : (n : ℕ) → SameTable (g n) (h n)) where
  abbrev Is : Expr → Type 0
  Is e = SameTable (meaning g e) (meaning h e)

  abbrev Part : Type 0
  Part = Such the_family (claims Is) member-Expr

  rolled : (x : Expr-F Expr) (t u : Table) → meaning g (roll-Expr x) ≡ t → meaning h (roll-Expr x) ≡ u → SameTable t u → Is (roll-Expr x)
  rolled x t u a b k = between (meaning g (roll-Expr x)) t (meaning h (roll-Expr x)) u a b k

  at : (y : Expr-F Part) → Is (roll-Expr (map-Expr Part Expr (λ e. e.0) y))
  at (Expr-F.Base n) = rolled (Expr-F.Base n) (g n) (h n) (fold-roll-Expr Table (meaning_at g) (Expr-F.Base n)) (fold-roll-Expr Table (meaning_at h) (Expr-F.Base n)) (same n)
  at (Expr-F.Select c p) = rolled (Expr-F.Select c p.0) _ _ (fold-roll-Expr Table (meaning_at g) (Expr-F.Select c p.0)) (fold-roll-Expr Table (meaning_at h) (Expr-F.Select c p.0)) (SameTable-select c (meaning g p.0) (meaning h p.0) p.1)
  at (Expr-F.Project names p) = rolled (Expr-F.Project names p.0) _ _ (fold-roll-Expr Table (meaning_at g) (Expr-F.Project names p.0)) (fold-roll-Expr Table (meaning_at h) (Expr-F.Project names p.0)) (SameTable-project names (meaning g p.0) (meaning h p.0) p.1)
  at (Expr-F.Join p q) = rolled (Expr-F.Join p.0 q.0) _ _ (fold-roll-Expr Table (meaning_at g) (Expr-F.Join p.0 q.0)) (fold-roll-Expr Table (meaning_at h) (Expr-F.Join p.0 q.0)) (SameTable-join (meaning g p.0) (meaning g q.0) (meaning h p.0) (meaning h q.0) p.1 q.1)
  at (Expr-F.Union p q) = rolled (Expr-F.Union p.0 q.0) _ _ (fold-roll-Expr Table (meaning_at g) (Expr-F.Union p.0 q.0)) (fold-roll-Expr Table (meaning_at h) (Expr-F.Union p.0 q.0)) (SameTable-union (meaning g p.0) (meaning g q.0) (meaning h p.0) (meaning h q.0) p.1 q.1)
  at (Expr-F.Minus p q) = rolled (Expr-F.Minus p.0 q.0) _ _ (fold-roll-Expr Table (meaning_at g) (Expr-F.Minus p.0 q.0)) (fold-roll-Expr Table (meaning_at h) (Expr-F.Minus p.0 q.0)) (SameTable-minus (meaning g p.0) (meaning g q.0) (meaning h p.0) (meaning h q.0) p.1 q.1)
  at (Expr-F.Rename pairs p) = rolled (Expr-F.Rename pairs p.0) _ _ (fold-roll-Expr Table (meaning_at g) (Expr-F.Rename pairs p.0)) (fold-roll-Expr Table (meaning_at h) (Expr-F.Rename pairs p.0)) (SameTable-rename pairs (meaning g p.0) (meaning h p.0) p.1)

  pub SameTable-meaning : (e : Expr) → SameTable (meaning g e) (meaning h e)
  SameTable-meaning = ind-Expr Is (λ x y is. subst (λ z. Is (roll-Expr z)) is (at y))
