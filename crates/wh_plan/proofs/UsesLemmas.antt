-- The expressions of a plan name relations, views and complements of their specification alone.
use Rattle.std.proofs.Common.{◌≡◌, ℕ, ◌+◌, ◌<◌, Bool, true, false, cond, ◌&&◌, List, [], ◌∷◌, map, fold, length, Contains, sym, ap, subst, ◌∙◌, inl, inr}
use Rattle.std.specs.Cmp.Lexicographic.{pointwise}
use Rattle.std.proofs.lemmas.Bool.{and_parts}
use Rattle.std.proofs.lemmas.List.Elements.{Contains-get_or}
use Rattle.wh_base.specs.declared.cond.Cond.{Cond}
use Rattle.wh_base.specs.Columns.{name_eq, shared}
use Rattle.wh_expr.specs.declared.expr.Expr.{Expr}
use Rattle.wh_expr.specs.declared.expr.Expr.TheOpen.{Expr-F}
use Rattle.wh_expr.specs.declared.expr.Expr.TheFolds.{fold-roll-Expr}
use Rattle.wh_expr.specs.declared.expr.Expr.TheVariants as expr
use Rattle.wh_expr.specs.declared.expr.Renaming.{Renaming}
use Rattle.wh_expr.specs.Meaning.{uses_only, uses_only_at}
use Rattle.wh_laws.proofs.Covered.{holds_from}
use Rattle.wh_laws.proofs.Equality.{Name}
use Rattle.wh_laws.proofs.Lists.{Contains-nil, Contains-here, Contains-there, filter_from, map_in, map_from}
use Rattle.wh_laws.proofs.Pieces.{piece_from}
use Rattle.wh_laws.proofs.Subsets.{subsets_members}
use Rattle.wh_plan.specs.Expressions.{join_exprs, view_expr, left_column, renamed_expr, piece_expr, joined_names, cover_expr, complement_number, inverse_expr}
use Rattle.wh_schema.specs.declared.piece.Piece.{Piece}
use Rattle.wh_schema.specs.declared.spec.Spec.{Spec}
use Rattle.wh_schema.specs.Legality.{WellFormed}
use Rattle.wh_schema.specs.Warehouse.{columns_of, view_at, inclusion_at, pieces, subsets, holds_all, is_cover, covers}

both : (a b : Bool) → a ≡ true → b ≡ true → (a && b) ≡ true
both true b h k = k
both false b h k = h

module _ (held : ℕ → Bool) where
  uses : Expr → Bool
  uses e = uses_only held e

  uses-Base : (n : ℕ) → held n ≡ true → uses (expr.Base n) ≡ true
  unfolding uses
  uses-Base n h = ap uses (sym (expr.rolls-Base n)) ∙ fold-roll-Expr Bool (uses_only_at held) (Expr-F.Base n) ∙ h

  uses-Select : (c : Cond) (e : Expr) → uses e ≡ true → uses (expr.Select c e) ≡ true
  unfolding uses
  uses-Select c e h = ap uses (sym (expr.rolls-Select c e)) ∙ fold-roll-Expr Bool (uses_only_at held) (Expr-F.Select c e) ∙ h

  uses-Project : (names : List Name) (e : Expr) → uses e ≡ true → uses (expr.Project names e) ≡ true
  unfolding uses
  uses-Project names e h = ap uses (sym (expr.rolls-Project names e)) ∙ fold-roll-Expr Bool (uses_only_at held) (Expr-F.Project names e) ∙ h

  uses-Join : (x y : Expr) → uses x ≡ true → uses y ≡ true → uses (expr.Join x y) ≡ true
  unfolding uses
  uses-Join x y h k = ap uses (sym (expr.rolls-Join x y)) ∙ fold-roll-Expr Bool (uses_only_at held) (Expr-F.Join x y) ∙ both (uses x) (uses y) h k

  uses-Union : (x y : Expr) → uses x ≡ true → uses y ≡ true → uses (expr.Union x y) ≡ true
  unfolding uses
  uses-Union x y h k = ap uses (sym (expr.rolls-Union x y)) ∙ fold-roll-Expr Bool (uses_only_at held) (Expr-F.Union x y) ∙ both (uses x) (uses y) h k

  uses-Rename : (pairs : List Renaming) (e : Expr) → uses e ≡ true → uses (expr.Rename pairs e) ≡ true
  unfolding uses
  uses-Rename pairs e h = ap uses (sym (expr.rolls-Rename pairs e)) ∙ fold-roll-Expr Bool (uses_only_at held) (Expr-F.Rename pairs e) ∙ h

  -- ---- joins

  join_folds : (e : Expr) (es : List Expr) → uses e ≡ true → ((x : Expr) → Contains es x → uses x ≡ true) → uses (fold (λ a b. expr.Join a b) e es) ≡ true
  join_folds e [] h all = h
  join_folds e (x ∷ xs) h all = join_folds (expr.Join e x) xs (uses-Join e x h (all x (Contains-here x xs))) (λ y k. all y (Contains-there x y xs k))

  joins_use : (es : List Expr) (some : Expr) → Contains es some → ((x : Expr) → Contains es x → uses x ≡ true) → uses (join_exprs es) ≡ true
  joins_use [] some h all = absurd (Contains-nil some h)
  joins_use (e ∷ es) some h all = join_folds e es (all e (Contains-here e es)) (λ y k. all y (Contains-there e y es k))

  items_use : {X : Type 0} (made : X → Expr) (xs : List X) (some : X) → Contains xs some → ((x : X) → Contains xs x → uses (made x) ≡ true) → uses (join_exprs (map made xs)) ≡ true
  items_use made xs some h all =
      joins_use (map made xs) (made some) (map_in made xs some h)
      (λ e k. let from = map_from made xs e k in ap uses (sym from.2) ∙ all from.0 from.1)

  -- ---- views

  pub view_uses : (spec : Spec) → WellFormed spec → ((i : ℕ) → i < length spec.relations → held i ≡ true) → (j : ℕ) → j < length spec.views → uses_only held (view_expr spec j) ≡ true
  unfolding uses
  view_uses spec wf at j l =
      let v = view_at spec j in
      let fits = wf.views v (Contains-get_or spec.views j _ l) in
      let e = join_exprs (map (λ i. expr.Base i) v.relations) in
      uses-Project v.head (expr.Select v.cond e)
      (uses-Select v.cond e (items_use (λ i. expr.Base i) v.relations fits.member.0 fits.member.1 (λ i k. uses-Base i (at i (fits.members i k)))))

  -- ---- inverses

  renamed_uses : (pairs : List Renaming) (e : Expr) → uses e ≡ true → uses (renamed_expr pairs e) ≡ true
  renamed_uses [] e h = h
  renamed_uses (p ∷ ps) e h = uses-Rename (p ∷ ps) e h

  module _ (spec : Spec) (wf : WellFormed spec) (r : ℕ) (within : r < length spec.relations)
      (relation : (i : ℕ) → i < length spec.relations → held i ≡ true) (view : (j : ℕ) → j < length spec.views → held (length spec.relations + j) ≡ true) where
    piece_uses : (p : Piece) → Contains (pieces spec r) p → uses (piece_expr spec p) ≡ true
    piece_uses p h =
        let P : Piece → Type 0 = λ q. uses (piece_expr spec q) ≡ true in
        elim (piece_from spec r p h) [
          | inl a ↦
              let attrs = shared (view_at spec a.number).head (columns_of spec r) in
              subst P a.is (uses-Project attrs (expr.Base (length spec.relations + a.number)) (uses-Base (length spec.relations + a.number) (view a.number a.within)))
          | inr a ↦
              let c = inclusion_at spec a.number in
              let fits = wf.inclusions c (Contains-get_or spec.inclusions a.number _ a.within) in
              let attrs = shared c.to_cols (columns_of spec r) in
              subst P a.is
              (renamed_uses _ (expr.Project (map (left_column c) attrs) (expr.Base c.from))
              (uses-Project (map (left_column c) attrs) (expr.Base c.from) (uses-Base c.from (relation c.from fits.left))))
        ]

    arranged_uses : (e : Expr) → uses e ≡ true → (b : Bool) → uses (cond b e (expr.Project (columns_of spec r) e)) ≡ true
    arranged_uses e h true = h
    arranged_uses e h false = uses-Project (columns_of spec r) e h

    cover_uses : (c : List Piece) → Contains (covers (columns_of spec r) (pieces spec r)) c → uses (cover_expr spec (columns_of spec r) c) ≡ true
    cover_uses c h =
        let a = filter_from (is_cover (columns_of spec r)) (subsets (pieces spec r)) c h in
        let n = wf.some_attribute r within in
        let some = holds_from (columns_of spec r) c (and_parts (holds_all (columns_of spec r) c) _ a.1).0 n.0 n.1 in
        arranged_uses (join_exprs (map (piece_expr spec) c))
        (items_use (piece_expr spec) c some.0 some.1 (λ p k. piece_uses p (subsets_members (pieces spec r) c a.0 p k)))
        (pointwise name_eq (joined_names c) (columns_of spec r))

    unions_use : (cs : List (List Piece)) (e : Expr) → ((c : List Piece) → Contains cs c → uses (cover_expr spec (columns_of spec r) c) ≡ true) → uses e ≡ true
        → uses (fold (λ a c. expr.Union a (cover_expr spec (columns_of spec r) c)) e cs) ≡ true
    unions_use [] e all h = h
    unions_use (c ∷ cs) e all h =
        unions_use cs (expr.Union e (cover_expr spec (columns_of spec r) c)) (λ d k. all d (Contains-there c d cs k))
        (uses-Union e (cover_expr spec (columns_of spec r) c) h (all c (Contains-here c cs)))

    pub inverse_uses : held (complement_number spec r) ≡ true → uses_only held (inverse_expr spec r) ≡ true
    unfolding uses
    inverse_uses h = unions_use (covers (columns_of spec r) (pieces spec r)) (expr.Base (complement_number spec r)) cover_uses (uses-Base (complement_number spec r) h)
