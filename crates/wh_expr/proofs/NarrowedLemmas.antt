-- A look-up goes through selections and projections.
use Rattle.std.proofs.Common.{◌≡◌, ℕ, suc, Bool, true, false, cond, ◌&&◌, ◌||◌, List, [], ◌∷◌, map, filter, refl, sym, ap, subst, ◌∙◌, true≢false}
use Rattle.std.specs.Cmp.{first_so, second_so}
use Rattle.std.specs.Cmp.Lexicographic.{bytes_decides}
use Rattle.wh_base.specs.declared.value.Value.{Value}
use Rattle.wh_base.specs.declared.cond.Cond.{Cond}
use Rattle.wh_base.specs.Columns.{name_eq, place_of, value_at, cut}
use Rattle.wh_base.specs.Cond.{holds}
use Rattle.wh_base.specs.RowSet.{has}
use Rattle.wh_base.specs.Value.{row_eq}
use Rattle.wh_base.proofs.RowSets.{has-filter, SameRows-filter}
use Rattle.wh_expr.specs.declared.expr.Expr.{Expr}
use Rattle.wh_base.specs.declared.head.Head.{Head}
use Rattle.wh_expr.specs.declared.expr.Expr.TheOpen.{Expr-F}
use Rattle.wh_expr.specs.declared.expr.Expr.TheFolds.{fold-roll-Expr}
use Rattle.wh_expr.specs.declared.expr.Expr.TheVariants.{Select, Project, rolls-Project}
use Rattle.wh_base.specs.Tables.{Table, select, project}
use Rattle.wh_base.specs.Columns.{is_in, all_in}
use Rattle.wh_expr.specs.Narrowed.{narrowed}
use Rattle.wh_expr.specs.SameTable.{SameTable}
use Rattle.wh_expr.specs.Meaning.{meaning, reaches, reaches_at}
use Rattle.wh_expr.proofs.Congruence.{same_trans, SameTable-select, SameTable-project}
use Rattle.wh_expr.proofs.MeaningLemmas.{meaning-Select, meaning-Project}

-- the value at a name's place, where the values are made from the names
value_at-made : (h : List ℕ → Value) (names : List (List ℕ)) (n : List ℕ) → is_in names n ≡ true → value_at (map h names) (place_of names n) ≡ h n
value_at-made h [] n k = absurd (true≢false (sym k))
value_at-made h (m ∷ names) n k = by (name_eq n m) refl (value_at-made h names n)
  where
    by : (b : Bool) → name_eq n m ≡ b → (is_in names n ≡ true → value_at (map h names) (place_of names n) ≡ h n) → value_at (h m ∷ map h names) (place_of (m ∷ names) n) ≡ h n
    by true e rest = ap (λ b. value_at (h m ∷ map h names) (cond b 0 (suc (place_of names n)))) e ∙ ap h (sym ((bytes_decides n m).0 e))
    by false e rest = ap (λ b. value_at (h m ∷ map h names) (cond b 0 (suc (place_of names n)))) e ∙ rest (sym (ap (λ b. b || is_in names n) e) ∙ k)

map_of_map : {A B C : Type 0} (f : B → C) (g : A → B) (xs : List A) → map f (map g xs) ≡ map (λ x. f (g x)) xs
map_of_map f g [] = refl
map_of_map f g (x ∷ xs) = ap (λ r. f (g x) ∷ r) (map_of_map f g xs)

cut_each : (columns names ns : List (List ℕ)) (r : List Value) → all_in names ns ≡ true → map (λ n. value_at (map (λ m. value_at r (place_of columns m)) names) (place_of names n)) ns ≡ map (λ n. value_at r (place_of columns n)) ns
cut_each columns names [] r h = refl
cut_each columns names (n ∷ ns) r h = λ i. value_at-made (λ m. value_at r (place_of columns m)) names n (first_so (is_in names n) (all_in names ns) h) i ∷ cut_each columns names ns r (second_so (is_in names n) (all_in names ns) h) i

-- a cut of a cut
pub cut-cut : (columns names ns : List (List ℕ)) (r : List Value) → all_in names ns ≡ true → cut names ns (cut columns names r) ≡ cut columns ns r
cut-cut columns names ns r h =
    map_of_map (value_at (cut columns names r)) (place_of names) ns
    ∙ ap (λ row. map (λ n. value_at row (place_of names n)) ns) (map_of_map (value_at r) (place_of columns) names)
    ∙ cut_each columns names ns r h
    ∙ sym (map_of_map (value_at r) (place_of columns) ns)

and_swap : (a b c : Bool) → ((a && b) && c) ≡ ((a && c) && b)
and_swap true true c = by c
  where
    by : (c : Bool) → c ≡ (c && true)
    by true = refl
    by false = refl
and_swap true false true = refl
and_swap true false false = refl
and_swap false b c = refl

filter-map : (f : List Value → List Value) (p q : List Value → Bool) → ((x : List Value) → q (f x) ≡ p x) → (xs : List (List Value)) → filter q (map f xs) ≡ map f (filter p xs)
filter-map f p q e [] = refl
filter-map f p q e (x ∷ xs) = ap (λ b. cond b (f x ∷ filter q (map f xs)) (filter q (map f xs))) (e x) ∙ by (p x) (filter-map f p q e xs)
  where
    by : (b : Bool) → filter q (map f xs) ≡ map f (filter p xs) → cond b (f x ∷ filter q (map f xs)) (filter q (map f xs)) ≡ map f (cond b (x ∷ filter p xs) (filter p xs))
    by true h = ap (λ r. f x ∷ r) h
    by false h = h

module _ (names : List (List ℕ)) (values : List Value) where
  pub narrowed-select : (c : Cond) (t : Table) → SameTable (select c (narrowed names values t)) (narrowed names values (select c t))
  narrowed-select c t = record {
    columns = refl;
    rows = λ r.
        let p = holds c t.columns in
        let q = λ (x : List Value). row_eq (cut t.columns names x) values in
        has-filter p (filter q t.rows) r ∙ ap (λ b. b && p r) (has-filter q t.rows r) ∙ and_swap (has t.rows r) (q r) (p r)
        ∙ sym (has-filter q (filter p t.rows) r ∙ ap (λ b. b && q r) (has-filter p t.rows r));
  }

  pub narrowed-project : (cols : List (List ℕ)) (t : Table) → all_in cols names ≡ true → SameTable (project cols (narrowed names values t)) (narrowed names values (project cols t))
  narrowed-project cols t h = record {
    columns = refl;
    rows = λ r. ap (λ k. has k r) (sym (filter-map (cut t.columns cols) (λ x. row_eq (cut t.columns names x) values) (λ x. row_eq (cut cols names x) values) (λ x. ap (λ k. row_eq k values) (cut-cut t.columns cols names x h)) t.rows));
  }

  pub SameTable-narrowed : (t u : Table) → SameTable t u → SameTable (narrowed names values t) (narrowed names values u)
  SameTable-narrowed t u h = record {
    columns = h.columns;
    rows = SameRows-filter (λ x. row_eq (cut t.columns names x) values) (λ x. row_eq (cut u.columns names x) values) (λ x. ap (λ columns. row_eq (cut columns names x) values) h.columns) t.rows u.rows h.rows;
  }

  -- a look-up in a selection or projection, from a table that is the same as the look-up in its part
  module _ (g : ℕ → Table) (e : Expr) (r : Table) where
    pub found-Select : (c : Cond) (x : Expr) (t : Table) → e ≡ Select c x → SameTable t (narrowed names values (meaning g x)) → SameTable r (select c t) → SameTable r (narrowed names values (meaning g e))
    found-Select c x t is h k =
        subst (λ m. SameTable r (narrowed names values m)) (sym (ap (meaning g) is ∙ meaning-Select g c x))
        (same_trans r (select c t) _ k (same_trans (select c t) (select c (narrowed names values (meaning g x))) _ (SameTable-select c t (narrowed names values (meaning g x)) h) (narrowed-select c (meaning g x))))

    pub found-Project : (cols : List (List ℕ)) (x : Expr) (t : Table) → e ≡ Project cols x → all_in cols names ≡ true → SameTable t (narrowed names values (meaning g x)) → SameTable r (project cols t) → SameTable r (narrowed names values (meaning g e))
    found-Project cols x t is all h k =
        subst (λ m. SameTable r (narrowed names values m)) (sym (ap (meaning g) is ∙ meaning-Project g cols x))
        (same_trans r (project cols t) _ k (same_trans (project cols t) (project cols (narrowed names values (meaning g x))) _ (SameTable-project cols t (narrowed names values (meaning g x)) h) (narrowed-project cols (meaning g x) all)))

    pub found-other : (t : Table) → SameTable t (meaning g e) → SameTable r (narrowed names values t) → SameTable r (narrowed names values (meaning g e))
    found-other t h k = same_trans r (narrowed names values t) (narrowed names values (meaning g e)) k (SameTable-narrowed t (meaning g e) h)

-- a look-up that reaches its tables through a projection is at names of it
pub all_in-reaches : (heads : List Head) (columns cols : List (List ℕ)) (x e : Expr) → e ≡ Project cols x → reaches heads columns e ≡ true → all_in cols columns ≡ true
all_in-reaches heads columns cols x e is h =
    first_so (all_in cols columns) (reaches heads columns x)
    (sym (ap (reaches heads columns) (is ∙ sym (rolls-Project cols x)) ∙ fold-roll-Expr Bool (reaches_at heads columns) (Expr-F.Project cols x)) ∙ h)
