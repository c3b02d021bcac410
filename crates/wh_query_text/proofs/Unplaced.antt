-- The readers of a query without places: they give the expressions of what the readers with places give.
use Rattle.std.proofs.Common.{◌≡◌, ◌<◌, ◌-◌, ℕ, zero, suc, Bool, true, false, cond, List, length, Option, Ok, Err, refl, sym, ap, ◌∙◌, arith}
use Rattle.wh_expr.specs.declared.expr.Expr.{Expr}
use Rattle.wh_expr.specs.declared.expr.Expr.TheVariants.{Base}
use Rattle.wh_grammar.specs.declared.symbol.Symbol.{Symbol}
use Rattle.wh_grammar.specs.declared.symbol.Symbol.TheVariants as s
use Rattle.wh_grammar.specs.Grammar.{Input, Outcome, Parser, Part, ◌>>=◌, and_then, pure, fail, same, next, place, token, valued, name, starts, enclosed, ◌or◌, each_from, each, whole}
use Rattle.wh_grammar.proofs.GrammarLemmas.{Keeps, Takes, left, ok_input}
use Rattle.wh_query_text.specs.declared.raw.Infix.{Infix}
use Rattle.wh_query_text.specs.declared.raw.Prefix.{Prefix}
use Rattle.wh_query_text.specs.declared.raw.Prefix.TheVariants as prefixes
use Rattle.wh_query_text.specs.declared.raw.RawQuery.{RawQuery, fold-roll-RawQuery}
use Rattle.wh_query_text.specs.declared.raw.RawQuery.TheOpen.{RawQuery-F}
use Rattle.wh_query_text.specs.declared.raw.RawQuery.TheVariants.{Named, Behind, Between, rolls-Named, rolls-Behind, rolls-Between}
use Rattle.wh_query_text.specs.Queries as g
use Rattle.wh_query_text.specs.Queries.{noted, columns, selection, renaming_columns, project, select, rename, before, Further, attach, product_of, sum_of}
use Rattle.wh_query_text.specs.QueryTexts.{applied, combined, expr_at, expr_of}
use Rattle.wh_query_text.proofs.QueryLemmas.{factor_takes, term_takes, query_takes, inner_keeps}

-- ---- the expression of each kind of node

pub expr_named : (number : List ℕ → ℕ) (at : ℕ) (n : List ℕ) → expr_of number (Named at n) ≡ Base (number n)
expr_named number at n = ap (expr_of number) (sym (rolls-Named at n)) ∙ fold-roll-RawQuery Expr (expr_at number) (RawQuery-F.Named at n)

pub expr_behind : (number : List ℕ → ℕ) (at : ℕ) (p : Prefix) (q : RawQuery) → expr_of number (Behind at p q) ≡ applied p (expr_of number q)
expr_behind number at p q = ap (expr_of number) (sym (rolls-Behind at p q)) ∙ fold-roll-RawQuery Expr (expr_at number) (RawQuery-F.Behind at p q)

pub expr_between : (number : List ℕ → ℕ) (at : ℕ) (o : Infix) (a b : RawQuery) → expr_of number (Between at o a b) ≡ combined o (expr_of number a) (expr_of number b)
expr_between number at o a b = ap (expr_of number) (sym (rolls-Between at o a b)) ∙ fold-roll-RawQuery Expr (expr_at number) (RawQuery-F.Between at o a b)

-- ---- readers that give what others give, made into something else

abbrev pub Made : {A B : Type 0} → (A → B) → Parser A → Parser B → Type 0
Made h p q = (i : Input) → q i ≡ and_then (p i) (λ x. pure (h x))

pub record PartMade {A B : Type 0} (h : A → B) (p : Part A) (q : Part B) : Type 0 where
  pub begins : (t : Symbol) → q.begins t ≡ p.begins t
  pub reads : Made h p.read q.read

bind_outcome : {A B C D : Type 0} (h : A → B) (k : C → D) (r : Outcome A) (f : A → Parser C) (g : B → Parser D) → ((x : A) → Made k (f x) (g (h x))) → and_then (and_then r (λ x. pure (h x))) g ≡ and_then (and_then r f) (λ x. pure (k x))
bind_outcome h k (Ok p) f g more = more p.0 p.1
bind_outcome h k (Err e) f g more = refl

pub bind_made : {A B C D : Type 0} (h : A → B) (k : C → D) (p : Parser A) (q : Parser B) (f : A → Parser C) (g : B → Parser D) → Made h p q → ((x : A) → Made k (f x) (g (h x))) → Made k (p >>= f) (q >>= g)
bind_made h k p q f g one more i = ap (λ r. and_then r g) (one i) ∙ bind_outcome h k (p i) f g more

-- behind the same reader
behind_outcome : {A C D : Type 0} (k : C → D) (r : Outcome A) (f : A → Parser C) (g : A → Parser D) → ((x : A) → Made k (f x) (g x)) → and_then r g ≡ and_then (and_then r f) (λ x. pure (k x))
behind_outcome k (Ok p) f g more = more p.0 p.1
behind_outcome k (Err e) f g more = refl

pub behind_made : {A C D : Type 0} (k : C → D) (p : Parser A) (f : A → Parser C) (g : A → Parser D) → ((x : A) → Made k (f x) (g x)) → Made k (p >>= f) (p >>= g)
behind_made k p f g more i = behind_outcome k (p i) f g more

pure_made : {A B : Type 0} (h : A → B) (x : A) (y : B) → h x ≡ y → Made h (pure x) (pure y)
pure_made {A} {B} h x y e i = ap (λ (z : B). Ok (z, i)) (sym e)

cond_made : {A B : Type 0} (h : A → B) (b : Bool) (r l : Outcome A) (u v : Outcome B) → u ≡ and_then r (λ x. pure (h x)) → v ≡ and_then l (λ x. pure (h x)) → cond b u v ≡ and_then (cond b r l) (λ x. pure (h x))
cond_made h true r l u v e d = e
cond_made h false r l u v e d = d

pub or_made : {A B : Type 0} (h : A → B) (p k : Part A) (q l : Part B) → PartMade h p q → PartMade h k l → PartMade h (p or k) (q or l)
or_made h p k q l one two = record {
  begins = λ t. rw (one.begins t, two.begins t) refl;
  reads = λ i. rw (one.begins (next i), two.begins (next i)) (cond_made h (p.begins (next i)) (p.read i) (cond (k.begins (next i)) (k.read i) (fail i)) (q.read i) (cond (k.begins (next i)) (l.read i) (fail i)) (one.reads i)
      (cond_made h (k.begins (next i)) (k.read i) (fail i) (l.read i) (fail i) (two.reads i) refl));
}

pub enclosed_made : {A B : Type 0} (h : A → B) (p : Parser A) (q : Parser B) → Made h p q → PartMade h (enclosed p) (enclosed q)
enclosed_made h p q one = record {
  begins = λ t. refl;
  reads = behind_made h (token s.LeftParen).read (λ _. p >>= (λ x. (token s.RightParen).read >>= (λ _. pure x))) (λ _. q >>= (λ x. (token s.RightParen).read >>= (λ _. pure x)))
      (λ _. bind_made h h p q (λ x. (token s.RightParen).read >>= (λ _. pure x)) (λ x. (token s.RightParen).read >>= (λ _. pure x)) one
      (λ x. behind_made h (token s.RightParen).read (λ _. pure x) (λ _. pure (h x)) (λ _. pure_made h x (h x) refl)));
}

each_from_made : {A B C D : Type 0} (h : A → B) (k : C → D) (f : A → C → A) (g : B → D → B) (p : Part C) (q : Part D) → ((a : A) (c : C) → h (f a c) ≡ g (h a) (k c)) → PartMade k p q → (n : ℕ) (a : A) → Made h (each_from f p n a) (each_from g q n (h a))
unfolding each_from
each_from_made h k f g p q step one zero a i = refl
each_from_made {A} {B} h k f g p q step one (suc n) a i =
    rw (one.begins (next i))
    (cond_made h (p.begins (next i)) ((p.read >>= (λ c. each_from f p n (f a c))) i) (Ok (a, i)) ((q.read >>= (λ d. each_from g q n (g (h a) d))) i) (Ok (h a, i))
    (bind_made k h p.read q.read (λ c. each_from f p n (f a c)) (λ d. each_from g q n (g (h a) d)) one.reads
    (λ c j. ap (λ (b : B). each_from g q n b j) (sym (step a c)) ∙ each_from_made h k f g p q step one n (f a c) j) i) refl)

pub each_made : {A B C D : Type 0} (h : A → B) (k : C → D) (f : A → C → A) (g : B → D → B) (p : Part C) (q : Part D) → ((a : A) (c : C) → h (f a c) ≡ g (h a) (k c)) → PartMade k p q → (a : A) → Made h (each f p a) (each g q (h a))
unfolding each
each_made h k f g p q step one a i = each_from_made h k f g p q step one (suc (length i.ahead)) a i

pub whole_made : {A B : Type 0} (h : A → B) (p : Parser A) (q : Parser B) → Made h p q → Made h (whole p) (whole q)
whole_made h p q one =
    bind_made h h p q (λ a j. cond (same (next j) s.End) (Ok (a, j)) (fail j)) (λ b j. cond (same (next j) s.End) (Ok (b, j)) (fail j)) one
    (λ x j. cond_made h (same (next j) s.End) (Ok (x, j)) (fail j) (Ok (h x, j)) (fail j) refl refl)

made_ok : {A B : Type 0} (h : A → B) (r : Outcome A) (y : B) (j : Input) → and_then r (λ x. pure (h x)) ≡ Ok (y, j) → (x : A) × (r ≡ Ok (x, j))
made_ok {A} h (Ok p) y j e = (p.0, ap (λ (k : Input). Ok (p.0, k)) (ok_input (h p.0) y p.1 j e))
made_ok h (Err d) y j e = absurd cc

pub made_takes : {A B : Type 0} (h : A → B) (p : Parser A) (q : Parser B) → Made h p q → Takes p → Takes q
made_takes h p q one takes i y j e = let x = made_ok h (p i) y j (sym (one i) ∙ e) in takes i x.0 j x.1

pub made_keeps : {A B : Type 0} (h : A → B) (p : Parser A) (q : Parser B) → Made h p q → Keeps p → Keeps q
made_keeps h p q one keeps i y j e = let x = made_ok h (p i) y j (sym (one i) ∙ e) in keeps i x.0 j x.1

-- ---- the readers without places

module _ (number : List ℕ → ℕ) where
  abbrev pub named : Part Expr
  named = starts name (λ n. pure (Base (number n)))

  abbrev pub on : Parser Expr → Prefix → Parser Expr
  on inner p = inner >>= (λ e. pure (applied p e))

  -- a factor behind a word and what stands between
  abbrev pub behind_word : {A : Type 0} → Symbol → Parser A → (A → Prefix) → Parser Expr → Part Expr
  behind_word k p f inner = starts (token k) (λ _. p >>= (λ x. inner >>= (λ e. pure (applied (f x) e))))

  abbrev pub prefixed : ℕ → Parser Expr → Part Expr
  prefixed d inner = behind_word s.Project columns.read prefixes.Project inner or behind_word s.Select (selection d).read prefixes.Select inner or behind_word s.Rename renaming_columns.read prefixes.Rename inner

  abbrev pub factor_of : ℕ → Parser Expr → Parser Expr → Part Expr
  factor_of d n c = named or enclosed c or prefixed d n

  abbrev pub attach_expr : Expr → Infix × Expr → Expr
  attach_expr left f = combined f.0 left f.1

  abbrev pub further : (Symbol → Option Infix) → Part Expr → Part (Infix × Expr)
  further words p = starts (valued words) (λ o. p.read >>= (λ e. pure (o, e)))

  abbrev pub chain : (Symbol → Option Infix) → Part Expr → Part Expr
  chain words p = starts p (λ first. each attach_expr (further words p) first)

  unfoldable pub inner : ℕ → Parser Expr × Parser Expr
  inner zero = (fail, fail)
  inner (suc d) = let p = factor_of d (inner d).0 (inner d).1 in (p.read, (chain sum_of (chain product_of p)).read)

  unfoldable pub factor : ℕ → Part Expr
  factor d = factor_of d (inner d).0 (inner d).1

  unfoldable pub term : ℕ → Part Expr
  term d = chain product_of (factor d)

  unfoldable pub query : ℕ → Part Expr
  query d = chain sum_of (term d)

  inner_suc : (d : ℕ) → inner (suc d) ≡ ((factor d).read, (query d).read)
  unfolding inner factor term query
  inner_suc d = refl

  pub inner_some : (d : ℕ) → 0 < d → inner d ≡ ((factor (d - 1)).read, (query (d - 1)).read)
  inner_some d lt = let same-depth : d ≡ suc (d - 1) = omega arith in ap inner same-depth ∙ inner_suc (d - 1)

  -- ---- they give the expressions of what the readers with places give

  abbrev pub h : RawQuery → Expr
  h = expr_of number

  named_made : PartMade h g.named named
  named_made = record { begins = λ t. refl; reads = λ i. behind_outcome h (name.read i) (λ n. pure (Named (place i) n)) (λ n. pure (Base (number n))) (λ n. pure_made h (Named (place i) n) (Base (number n)) (expr_named number (place i) n)) }

  -- a choice, and what stands behind it
  cond_behind : {A B : Type 0} (b : Bool) (r l : Outcome A) (f : A → Parser B) → and_then (cond b r l) f ≡ cond b (and_then r f) (and_then l f)
  cond_behind true r l f = refl
  cond_behind false r l f = refl

  or_behind : {A B : Type 0} (p q : Part A) (f : A → Parser B) (i : Input) (l r : Outcome B) → and_then (p.read i) f ≡ l → and_then (q.read i) f ≡ r → and_then ((p or q).read i) f ≡ cond (p.begins (next i)) l (cond (q.begins (next i)) r (fail i))
  or_behind p q f i l r e d =
      cond_behind (p.begins (next i)) (p.read i) (cond (q.begins (next i)) (q.read i) (fail i)) f
      ∙ ap (λ x. cond (p.begins (next i)) x (and_then (cond (q.begins (next i)) (q.read i) (fail i)) f)) e
      ∙ ap (λ x. cond (p.begins (next i)) l x) (cond_behind (q.begins (next i)) (q.read i) (fail i) f ∙ ap (λ x. cond (q.begins (next i)) x (fail i)) d)

  flat_rest : {A : Type 0} (r : Outcome A) (f : A → Prefix) (inner : Parser Expr) → and_then (and_then r (λ x. pure (f x))) (on inner) ≡ and_then r (λ x. inner >>= (λ e. pure (applied (f x) e)))
  flat_rest (Ok p) f inner = refl
  flat_rest (Err e) f inner = refl

  flat : {A : Type 0} (r : Outcome (Unit {0})) (p : Parser A) (f : A → Prefix) (inner : Parser Expr) → and_then (and_then r (λ _. p >>= (λ x. pure (f x)))) (on inner) ≡ and_then r (λ _. p >>= (λ x. inner >>= (λ e. pure (applied (f x) e))))
  flat (Ok q) p f inner = flat_rest (p q.1) f inner
  flat (Err e) p f inner = refl

  spread : (d : ℕ) (n : Parser Expr) (i : Input) → (prefixed d n).read i ≡ and_then ((before d).read i) (on n)
  spread d n i =
      sym (or_behind project (select d or rename) (on n) i ((behind_word s.Project columns.read prefixes.Project n).read i) ((behind_word s.Select (selection d).read prefixes.Select n or behind_word s.Rename renaming_columns.read prefixes.Rename n).read i)
      (flat ((token s.Project).read i) columns.read prefixes.Project n)
      (or_behind (select d) rename (on n) i ((behind_word s.Select (selection d).read prefixes.Select n).read i) ((behind_word s.Rename renaming_columns.read prefixes.Rename n).read i)
      (flat ((token s.Select).read i) (selection d).read prefixes.Select n) (flat ((token s.Rename).read i) renaming_columns.read prefixes.Rename n)))

  on_made : (at : ℕ) (p : Prefix) (m : Parser RawQuery) (n : Parser Expr) → Made h m n → Made h (m >>= (λ q. pure (Behind at p q))) (on n p)
  on_made at p m n one = bind_made h h m n (λ q. pure (Behind at p q)) (λ e. pure (applied p e)) one (λ q. pure_made h (Behind at p q) (applied p (h q)) (expr_behind number at p q))

  prefixed_made : (d : ℕ) (m : Parser RawQuery) (n : Parser Expr) → Made h m n → PartMade h (g.prefixed d m) (prefixed d n)
  prefixed_made d m n one = record {
    begins = λ t. refl;
    reads = λ i. spread d n i ∙ behind_outcome h ((before d).read i) (λ p. m >>= (λ q. pure (Behind (place i) p q))) (on n) (λ p. on_made (place i) p m n one);
  }

  factor_of_made : (d : ℕ) (m k : Parser RawQuery) (n l : Parser Expr) → Made h m n → Made h k l → PartMade h (g.factor_of d m k) (factor_of d n l)
  factor_of_made d m k n l one two = or_made h g.named (g.group k or g.prefixed d m) named (enclosed l or prefixed d n) named_made (or_made h (g.group k) (g.prefixed d m) (enclosed l) (prefixed d n) (enclosed_made h k l two) (prefixed_made d m n one))

  abbrev unplaced : Further → Infix × Expr
  unplaced f = (f.by, h f.right)

  further_made : (words : Symbol → Option Infix) (p : Part RawQuery) (q : Part Expr) → PartMade h p q → PartMade unplaced (g.further words p) (further words q)
  further_made words p q one = record {
    begins = λ t. refl;
    reads = λ i. behind_outcome unplaced ((valued words).read i) (λ o. p.read >>= (λ x. pure (record { at = place i; by = o; right = x }))) (λ o. q.read >>= (λ e. pure (o, e)))
        (λ o. bind_made h unplaced p.read q.read (λ x. pure (record { at = place i; by = o; right = x })) (λ e. pure (o, e)) one.reads (λ x. pure_made unplaced (record { at = place i; by = o; right = x }) (o, h x) refl));
  }

  chain_made : (words : Symbol → Option Infix) (p : Part RawQuery) (q : Part Expr) → PartMade h p q → PartMade h (g.chain words p) (chain words q)
  chain_made words p q one = record {
    begins = one.begins;
    reads = bind_made h h p.read q.read (λ first. each attach (g.further words p) first) (λ first. each attach_expr (further words q) first) one.reads
        (λ first. each_made h unplaced attach attach_expr (g.further words p) (further words q) (λ a f. expr_between number f.at f.by a f.right) (further_made words p q one) first);
  }

  pub inner_made : (d : ℕ) → Made h (g.inner d).0 (inner d).0 × Made h (g.inner d).1 (inner d).1
  unfolding g.inner inner
  inner_made zero = (λ i. refl, λ i. refl)
  inner_made (suc d) =
      let e = inner_made d in
      let f = factor_of_made d (g.inner d).0 (g.inner d).1 (inner d).0 (inner d).1 e.0 e.1 in (
        f.reads,
        (chain_made sum_of (g.chain product_of (g.factor_of d (g.inner d).0 (g.inner d).1)) (chain product_of (factor_of d (inner d).0 (inner d).1))
            (chain_made product_of (g.factor_of d (g.inner d).0 (g.inner d).1) (factor_of d (inner d).0 (inner d).1) f)).reads,
      )

  pub factor_made : (d : ℕ) → PartMade h (g.factor d) (factor d)
  unfolding g.factor factor
  factor_made d = let e = inner_made d in factor_of_made d (g.inner d).0 (g.inner d).1 (inner d).0 (inner d).1 e.0 e.1

  pub term_made : (d : ℕ) → PartMade h (g.term d) (term d)
  unfolding g.term term
  term_made d = chain_made product_of (g.factor d) (factor d) (factor_made d)

  pub query_made : (d : ℕ) → PartMade h (g.query d) (query d)
  unfolding g.query query
  query_made d = chain_made sum_of (g.term d) (term d) (term_made d)

  pub factor_takes_too : (d : ℕ) → Takes (factor d).read
  factor_takes_too d = made_takes h (g.factor d).read (factor d).read (factor_made d).reads (factor_takes d)

  pub term_takes_too : (d : ℕ) → Takes (term d).read
  term_takes_too d = made_takes h (g.term d).read (term d).read (term_made d).reads (term_takes d)

  pub query_takes_too : (d : ℕ) → Takes (query d).read
  query_takes_too d = made_takes h (g.query d).read (query d).read (query_made d).reads (query_takes d)

  pub inner_keeps_too : (d : ℕ) → Keeps (inner d).0 × Keeps (inner d).1
  inner_keeps_too d = (made_keeps h (g.inner d).0 (inner d).0 (inner_made d).0 (inner_keeps d).0, made_keeps h (g.inner d).1 (inner d).1 (inner_made d).1 (inner_keeps d).1)
