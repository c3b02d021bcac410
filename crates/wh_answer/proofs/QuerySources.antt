-- The query of a text names relations and views alone, and so does the query of a relation's name.
use Rattle.std.proofs.Common.{◌≡◌, ℕ, ◌+◌, ◌<◌, Bool, true, false, cond, ◌&&◌, if◌then◌else◌, List, [], ◌∷◌, ◌++◌, map, length, length-append, nat_lt, Ok, Err, refl, sym, ap, subst, ◌∙◌, true≢false, inl, inr, arith}
use Rattle.std.proofs.lemmas.Bool.{cases_Bool}
use Rattle.std.proofs.lemmas.Bool.Decides.{nat_tests}
use Rattle.std.proofs.lemmas.List.{length-map}
use Rattle.wh_base.specs.declared.value.Attr.{Attr}
use Rattle.wh_base.specs.Columns.{place_of}
use Rattle.wh_expr.specs.declared.expr.Expr.{Expr}
use Rattle.wh_expr.specs.declared.expr.Expr.TheOpen.{Expr-F}
use Rattle.wh_expr.specs.declared.expr.Expr.TheFolds.{fold-roll-Expr}
use Rattle.wh_expr.specs.declared.expr.Expr.TheVariants as expr
use Rattle.wh_expr.specs.Meaning.{uses_only, uses_only_at}
use Rattle.wh_expr.specs.Typing.{Fault, limited_typing, typing}
use Rattle.wh_expr.proofs.TypedLemmas.{uses_only-typed}
use Rattle.wh_query_text.specs.declared.parsing.Query.{Query}
use Rattle.wh_query_text.specs.declared.raw.Infix.{Infix}
use Rattle.wh_query_text.specs.declared.raw.Infix.TheVariants as infixes
use Rattle.wh_query_text.specs.declared.raw.Prefix.{Prefix}
use Rattle.wh_query_text.specs.declared.raw.Prefix.TheVariants as prefixes
use Rattle.wh_query_text.specs.declared.raw.RawQuery.{RawQuery}
use Rattle.wh_query_text.specs.declared.raw.RawQuery.TheOpen.{RawQuery-F}
use Rattle.wh_query_text.specs.declared.raw.RawQuery.TheViews.{roll-RawQuery}
use Rattle.wh_query_text.specs.declared.raw.RawQuery.TheFolds.{fold-roll-RawQuery, ind-RawQuery, map-RawQuery, claims}
use Rattle.wh_query_text.specs.declared.raw.RawQuery.TheBlock.{the_family, member-RawQuery}
use Rattle.wh_query_text.specs.QueryTexts.{applied, combined, expr_at, expr_of, known_names, number_of, query_of_raw, query_of_text, raw_of_text, ruled}
use Rattle.wh_schema.specs.declared.spec.Relation.{Relation}
use Rattle.wh_schema.specs.declared.spec.Spec.{Spec}
use Rattle.wh_schema.specs.declared.spec.View.{View}
use Rattle.wh_schema.specs.Heads.{heads_of}
use Rattle.wh_answer.specs.Answer.{IsOverSources, is_source, QueriesAreOverSources}
use denote.Hole.Holds.{Such}

left_so : (a b : Bool) → (a && b) ≡ true → a ≡ true
left_so true b h = refl
left_so false b h = h

right_so : (a b : Bool) → (a && b) ≡ true → b ≡ true
right_so true b h = h
right_so false b h = absurd (true≢false (sym h))

both_so : (a b : Bool) → a ≡ true → b ≡ true → (a && b) ≡ true
both_so a b h k = ap (λ c. c && b) h ∙ k

-- ---- the numbers that an expression names

module _ (p : ℕ → Bool) where
  uses_base : (n : ℕ) → uses_only p (expr.Base n) ≡ p n
  uses_base n = ap (uses_only p) (sym (expr.rolls-Base n)) ∙ fold-roll-Expr Bool (uses_only_at p) (Expr-F.Base n)

  uses_applied : (prefix : Prefix) (x : Expr) → uses_only p (applied prefix x) ≡ uses_only p x
  uses_applied (prefixes.Project names) x = ap (uses_only p) (sym (expr.rolls-Project names x)) ∙ fold-roll-Expr Bool (uses_only_at p) (Expr-F.Project names x)
  uses_applied (prefixes.Select c) x = ap (uses_only p) (sym (expr.rolls-Select c x)) ∙ fold-roll-Expr Bool (uses_only_at p) (Expr-F.Select c x)
  uses_applied (prefixes.Rename pairs) x = ap (uses_only p) (sym (expr.rolls-Rename pairs x)) ∙ fold-roll-Expr Bool (uses_only_at p) (Expr-F.Rename pairs x)

  uses_combined : (o : Infix) (x y : Expr) → uses_only p (combined o x y) ≡ (uses_only p x && uses_only p y)
  uses_combined infixes.Union x y = ap (uses_only p) (sym (expr.rolls-Union x y)) ∙ fold-roll-Expr Bool (uses_only_at p) (Expr-F.Union x y)
  uses_combined infixes.Minus x y = ap (uses_only p) (sym (expr.rolls-Minus x y)) ∙ fold-roll-Expr Bool (uses_only_at p) (Expr-F.Minus x y)
  uses_combined infixes.Join x y = ap (uses_only p) (sym (expr.rolls-Join x y)) ∙ fold-roll-Expr Bool (uses_only_at p) (Expr-F.Join x y)

-- a test that holds of each named number where another does
module _ (wide narrow : ℕ → Bool) (number : List ℕ → ℕ) (so : (name : List ℕ) → wide (number name) ≡ true → narrow (number name) ≡ true) where
  abbrev Is : RawQuery → Type 0
  Is raw = uses_only wide (expr_of number raw) ≡ true → uses_only narrow (expr_of number raw) ≡ true

  abbrev Part : Type 0
  Part = Such the_family (claims Is) member-RawQuery

  spelt : (y : RawQuery-F RawQuery) → expr_of number (roll-RawQuery y) ≡ expr_at number (map-RawQuery RawQuery Expr (expr_of number) y)
  spelt y = fold-roll-RawQuery Expr (expr_at number) y

  at : (y : RawQuery-F Part) → Is (roll-RawQuery (map-RawQuery Part RawQuery (λ e. e.0) y))
  at (RawQuery-F.Named place name) h =
      let e = spelt (RawQuery-F.Named place name) in
      ap (uses_only narrow) e ∙ uses_base narrow (number name) ∙ so name (sym (ap (uses_only wide) e ∙ uses_base wide (number name)) ∙ h)
  at (RawQuery-F.Behind place prefix part) h =
      let e = spelt (RawQuery-F.Behind place prefix part.0) in
      let x = expr_of number part.0 in
      ap (uses_only narrow) e ∙ uses_applied narrow prefix x ∙ part.1 (sym (ap (uses_only wide) e ∙ uses_applied wide prefix x) ∙ h)
  at (RawQuery-F.Between place o left right) h =
      let e = spelt (RawQuery-F.Between place o left.0 right.0) in
      let x = expr_of number left.0 in
      let y = expr_of number right.0 in
      let both = sym (ap (uses_only wide) e ∙ uses_combined wide o x y) ∙ h in
      ap (uses_only narrow) e ∙ uses_combined narrow o x y
      ∙ both_so (uses_only narrow x) (uses_only narrow y) (left.1 (left_so (uses_only wide x) (uses_only wide y) both)) (right.1 (right_so (uses_only wide x) (uses_only wide y) both))

  uses_narrow : (raw : RawQuery) → Is raw
  uses_narrow = ind-RawQuery Is (λ x y is. subst (λ z. Is (roll-RawQuery z)) is (at y))

-- ---- queries of texts

known_long : (spec : Spec) → length (known_names spec) ≡ length spec.relations + length spec.views
known_long spec =
    let a = length-append (map (λ (r : Relation). r.name) spec.relations) (map (λ (v : View). v.name) spec.views) in
    let b = length-map spec.relations (λ (r : Relation). r.name) in
    let c = length-map spec.views (λ (v : View). v.name) in
    omega (arith, a, b, c)

number_held : (place known total sources : ℕ) → known ≡ sources → nat_lt (if nat_lt place known then place else total) total ≡ true → nat_lt (if nat_lt place known then place else total) sources ≡ true
number_held place known total sources is h =
    elim (cases_Bool (nat_lt place known)) [
      | inl t ↦ rw t (ap (nat_lt place) (sym is) ∙ t)
      | inr f ↦ let none : nat_lt total total ≡ true = sym (ap (λ b. nat_lt (cond b place total) total) f) ∙ h in absurd (grind (arith, nat_tests))
    ]

no_faults : (raw : RawQuery) (e : Expr) (attrs : List Attr) (faults : List Fault) (q : Query) → ruled raw e attrs faults ≡ Ok q → (faults ≡ []) × (q.expr ≡ e)
no_faults raw e attrs [] q is = let same : record { expr = e; attrs = attrs } ≡ q = cc in (refl, sym (ap (λ (x : Query). x.expr) same))
no_faults raw e attrs (f ∷ faults) q is = absurd cc

behind_empty : (xs ys : List Fault) → xs ++ ys ≡ [] → ys ≡ []
behind_empty [] ys e = e
behind_empty (x ∷ xs) ys e = absurd cc

raw_over : (spec : Spec) (q : Query) (r : _) → query_of_raw spec r ≡ Ok q → IsOverSources spec q
raw_over spec q (Ok raw) is =
    let e = expr_of (number_of spec) raw in
    let t = limited_typing (heads_of spec) e in
    let none = no_faults raw e t.attrs t.faults q is in
    let used = uses_only-typed (heads_of spec) e (behind_empty _ (typing (heads_of spec) e).faults none.0) in
    let total = length (heads_of spec) in
    ap (uses_only (is_source spec)) none.1
    ∙ uses_narrow (λ n. nat_lt n total) (is_source spec) (number_of spec)
    (λ name h. number_held (place_of (known_names spec) name) (length (known_names spec)) total (length spec.relations + length spec.views) (known_long spec) h) raw used
raw_over spec q (Err fault) is = absurd cc

pub queries_are_over_sources : QueriesAreOverSources
unfolding query_of_text
queries_are_over_sources spec text q is = raw_over spec q (raw_of_text text) is

pub relation_is_over_sources : (spec : Spec) (r : ℕ) (attrs : List Attr) → r < length spec.relations → IsOverSources spec (record { expr = expr.Base r; attrs = attrs })
relation_is_over_sources spec r attrs l = let below : nat_lt r (length spec.relations + length spec.views) ≡ true = grind (arith, nat_tests) in uses_base (is_source spec) r ∙ below
