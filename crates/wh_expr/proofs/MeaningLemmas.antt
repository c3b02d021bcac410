-- The meaning of an expression from tables that are the same as those of its parts.
use Rattle.std.proofs.Common.{◌≡◌, ℕ, List, sym, ap, subst, ◌∙◌}
use Rattle.wh_base.specs.declared.cond.Cond.{Cond}
use Rattle.wh_expr.specs.declared.expr.Renaming.{Renaming}
use Rattle.wh_expr.specs.declared.expr.Expr.{Expr}
use Rattle.wh_expr.specs.declared.expr.Expr.TheOpen.{Expr-F}
use Rattle.wh_expr.specs.declared.expr.Expr.TheFolds.{fold-roll-Expr}
use Rattle.wh_expr.specs.declared.expr.Expr.TheVariants.{Select, Project, Join, Union, Minus, Rename, rolls-Select, rolls-Project, rolls-Join, rolls-Union, rolls-Minus, rolls-Rename}
use Rattle.wh_base.specs.Tables.{Table, select, project, join, union, minus}
use Rattle.wh_expr.specs.Rename.{rename}
use Rattle.wh_expr.specs.SameTable.{SameTable}
use Rattle.wh_expr.specs.Meaning.{meaning, meaning_at}
use Rattle.wh_expr.proofs.Congruence.{same_trans, SameTable-select, SameTable-project, SameTable-join, SameTable-union, SameTable-minus, SameTable-rename}

module _ (g : ℕ → Table) where
  pub meaning-Select : (c : Cond) (x : Expr) → meaning g (Select c x) ≡ select c (meaning g x)
  meaning-Select c x = ap (meaning g) (sym (rolls-Select c x)) ∙ fold-roll-Expr Table (meaning_at g) (Expr-F.Select c x)

  pub meaning-Project : (names : List (List ℕ)) (x : Expr) → meaning g (Project names x) ≡ project names (meaning g x)
  meaning-Project names x = ap (meaning g) (sym (rolls-Project names x)) ∙ fold-roll-Expr Table (meaning_at g) (Expr-F.Project names x)

  pub meaning-Join : (x y : Expr) → meaning g (Join x y) ≡ join (meaning g x) (meaning g y)
  meaning-Join x y = ap (meaning g) (sym (rolls-Join x y)) ∙ fold-roll-Expr Table (meaning_at g) (Expr-F.Join x y)

  pub meaning-Union : (x y : Expr) → meaning g (Union x y) ≡ union (meaning g x) (meaning g y)
  meaning-Union x y = ap (meaning g) (sym (rolls-Union x y)) ∙ fold-roll-Expr Table (meaning_at g) (Expr-F.Union x y)

  pub meaning-Minus : (x y : Expr) → meaning g (Minus x y) ≡ minus (meaning g x) (meaning g y)
  meaning-Minus x y = ap (meaning g) (sym (rolls-Minus x y)) ∙ fold-roll-Expr Table (meaning_at g) (Expr-F.Minus x y)

  pub meaning-Rename : (pairs : List Renaming) (x : Expr) → meaning g (Rename pairs x) ≡ rename pairs (meaning g x)
  meaning-Rename pairs x = ap (meaning g) (sym (rolls-Rename pairs x)) ∙ fold-roll-Expr Table (meaning_at g) (Expr-F.Rename pairs x)

  module _ (e : Expr) (r : Table) where
    ends : (made meant : Table) → SameTable made meant → meaning g e ≡ meant → SameTable r made → SameTable r (meaning g e)
    ends made meant same is h = subst (SameTable r) (sym is) (same_trans r made meant h same)

    pub same-Select : (c : Cond) (x : Expr) (t : Table) → e ≡ Select c x → SameTable t (meaning g x) → SameTable r (select c t) → SameTable r (meaning g e)
    same-Select c x t is h = ends (select c t) (select c (meaning g x)) (SameTable-select c t (meaning g x) h) (ap (meaning g) is ∙ meaning-Select c x)

    pub same-Project : (names : List (List ℕ)) (x : Expr) (t : Table) → e ≡ Project names x → SameTable t (meaning g x) → SameTable r (project names t) → SameTable r (meaning g e)
    same-Project names x t is h = ends (project names t) (project names (meaning g x)) (SameTable-project names t (meaning g x) h) (ap (meaning g) is ∙ meaning-Project names x)

    pub same-Join : (x y : Expr) (t u : Table) → e ≡ Join x y → SameTable t (meaning g x) → SameTable u (meaning g y) → SameTable r (join t u) → SameTable r (meaning g e)
    same-Join x y t u is h k = ends (join t u) (join (meaning g x) (meaning g y)) (SameTable-join t u (meaning g x) (meaning g y) h k) (ap (meaning g) is ∙ meaning-Join x y)

    pub same-Union : (x y : Expr) (t u : Table) → e ≡ Union x y → SameTable t (meaning g x) → SameTable u (meaning g y) → SameTable r (union t u) → SameTable r (meaning g e)
    same-Union x y t u is h k = ends (union t u) (union (meaning g x) (meaning g y)) (SameTable-union t u (meaning g x) (meaning g y) h k) (ap (meaning g) is ∙ meaning-Union x y)

    pub same-Minus : (x y : Expr) (t u : Table) → e ≡ Minus x y → SameTable t (meaning g x) → SameTable u (meaning g y) → SameTable r (minus t u) → SameTable r (meaning g e)
    same-Minus x y t u is h k = ends (minus t u) (minus (meaning g x) (meaning g y)) (SameTable-minus t u (meaning g x) (meaning g y) h k) (ap (meaning g) is ∙ meaning-Minus x y)

    pub same-Rename : (pairs : List Renaming) (x : Expr) (t : Table) → e ≡ Rename pairs x → SameTable t (meaning g x) → SameTable r (rename pairs t) → SameTable r (meaning g e)
    same-Rename pairs x t is h = ends (rename pairs t) (rename pairs (meaning g x)) (SameTable-rename pairs t (meaning g x) h) (ap (meaning g) is ∙ meaning-Rename pairs x)
