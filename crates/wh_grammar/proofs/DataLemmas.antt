-- Parts of a grammar against the same grammar as data, where at most so many tokens are left.
use Rattle.std.proofs.Common.{◌≡◌, ◌<◌, ◌≤◌, ℕ, zero, suc, Bool, true, false, cond, List, [], ◌∷◌, length, Option, Some, Ok, Err, refl, sym, subst, arith}
use Rattle.wh_grammar.specs.declared.symbol.Symbol.{Symbol}
use Rattle.wh_grammar.specs.declared.symbol.Symbol.TheVariants as s
use Rattle.wh_grammar.specs.Grammar.{Input, Outcome, Part, Parser, ◌>>=◌, pure, fail, and_then, same, next, token, name, starts, enclosed, ◌or◌, maybe, each, each_from, push, more, separated}
use Rattle.wh_grammar.specs.GrammarData.{Tree, pair, left, empty, Agrees, token_tree, mapped, sequence, optional, repeated, name_of, unit_of, separated_of, list_of, maybe_of, enclosed_of, behind}
use Rattle.wh_grammar.proofs.GrammarLemmas.{left as tokens_left, Keeps, Takes, takes_keeps, token_takes, more_takes}

-- two readers agree
abbrev pub AgreeTo : {A : Type 0} → ℕ → (Tree → Option A) → Parser Tree → Parser A → Type 0
AgreeTo m v p q = (i : Input) → tokens_left i ≤ m → Agrees v (p i) (q i)

-- two parts agree: they begin alike, and read alike
pub record SameTo {A : Type 0} (m : ℕ) (v : Tree → Option A) (p : Part Tree) (q : Part A) : Type 0 where
  pub begins : (k : Symbol) → p.begins k ≡ q.begins k
  pub reads : AgreeTo m v p.read q.read

-- ---- sequences

pub seq_agrees : {A B : Type 0} (v : Tree → Option A) (w : Tree → Option B) (r : Outcome Tree) (q : Outcome A) (f : Tree → Parser Tree) (h : A → Parser B)
    → Agrees v r q → ((x : Tree) (a : A) (j : Input) → v x ≡ Some a → q ≡ Ok (a, j) → Agrees w (f x j) (h a j)) → Agrees w (and_then r f) (and_then q h)
seq_agrees v w (Ok p) (Ok q) f h e more = subst (λ i. Agrees w (f p.0 i) (h q.0 q.1)) (sym e.1) (more p.0 q.0 q.1 e.0 refl)
seq_agrees v w (Ok p) (Err d) f h e more = absurd e
seq_agrees v w (Err d) (Ok q) f h e more = absurd e
seq_agrees v w (Err c) (Err d) f h e more = e

pub bind_agrees : {A B : Type 0} (m : ℕ) (v : Tree → Option A) (w : Tree → Option B) (p : Parser Tree) (q : Parser A) (f : Tree → Parser Tree) (h : A → Parser B)
    → Keeps q → AgreeTo m v p q → ((x : Tree) (a : A) → v x ≡ Some a → AgreeTo m w (f x) (h a)) → AgreeTo m w (p >>= f) (q >>= h)
bind_agrees m v w p q f h keeps e more i le = seq_agrees v w (p i) (q i) f h (e i le) (λ x a j d o. more x a d j (omega (arith, keeps i a j o)))

-- behind a token fewer are left
pub behind_agrees : {A B : Type 0} (m : ℕ) (v : Tree → Option A) (w : Tree → Option B) (p : Parser Tree) (q : Parser A) (f : Tree → Parser Tree) (h : A → Parser B)
    → Takes q → AgreeTo m v p q → ((x : Tree) (a : A) (j : Input) → v x ≡ Some a → tokens_left j < m → Agrees w (f x j) (h a j)) → AgreeTo m w (p >>= f) (q >>= h)
behind_agrees m v w p q f h takes e more i le = seq_agrees v w (p i) (q i) f h (e i le) (λ x a j d o. more x a j d (omega (arith, takes i a j o)))

pub starts_same : {A B : Type 0} (m : ℕ) (v : Tree → Option A) (w : Tree → Option B) (p : Part Tree) (q : Part A) (f : Tree → Parser Tree) (h : A → Parser B)
    → Keeps q.read → SameTo m v p q → ((x : Tree) (a : A) → v x ≡ Some a → AgreeTo m w (f x) (h a)) → SameTo m w (starts p f) (starts q h)
starts_same m v w p q f h keeps e more = record { begins = e.begins; reads = bind_agrees m v w p.read q.read f h keeps e.reads more }

-- a tree that is wrapped
pub map_agrees : {A : Type 0} (v w : Tree → Option A) (r : Outcome Tree) (q : Outcome A) (f : Tree → Tree) → Agrees v r q → ((x : Tree) (a : A) → v x ≡ Some a → w (f x) ≡ Some a) → Agrees w (and_then r (λ x. pure (f x))) q
map_agrees v w (Ok p) (Ok q) f h e = (e p.0 q.0 h.0, h.1)
map_agrees v w (Ok p) (Err d) f h e = absurd h
map_agrees v w (Err d) (Ok q) f h e = absurd h
map_agrees v w (Err c) (Err d) f h e = h

pub map_same : {A : Type 0} (m : ℕ) (v w : Tree → Option A) (p : Part Tree) (q : Part A) (f : Tree → Tree) → SameTo m v p q → ((x : Tree) (a : A) → v x ≡ Some a → w (f x) ≡ Some a) → SameTo m w (mapped f p) q
map_same m v w p q f h e = record { begins = h.begins; reads = λ i le. map_agrees v w (p.read i) (q.read i) f (h.reads i le) e }

-- one part of a sequence, and what is behind it
pub step : {A B : Type 0} (m : ℕ) (v : Tree → Option A) (w : Tree → Option B) (p : Parser Tree) (q : Parser A) (r : Parser Tree) (h : A → Parser B)
    → Keeps q → AgreeTo m v p q → ((x : Tree) (a : A) → v x ≡ Some a → AgreeTo m (λ z. w (pair x z)) r (h a)) → AgreeTo m w (p >>= (λ x. r >>= (λ z. pure (pair x z)))) (q >>= h)
step m v w p q r h keeps e more =
    bind_agrees m v w p q (λ x. r >>= (λ z. pure (pair x z))) h keeps e (λ x a d j le. map_agrees (λ z. w (pair x z)) w (r j) (h a j) (λ z. pair x z) (more x a d j le) (λ z b c. c))

last_outcome : {A B : Type 0} (v : Tree → Option A) (w : Tree → Option B) (r : Outcome Tree) (q : Outcome A) (h : A → B) → Agrees v r q → ((x : Tree) (a : A) → v x ≡ Some a → w x ≡ Some (h a)) → Agrees w r (and_then q (λ a. pure (h a)))
last_outcome v w (Ok p) (Ok q) h e d = (d p.0 q.0 e.0, e.1)
last_outcome v w (Ok p) (Err c) h e d = absurd e
last_outcome v w (Err c) (Ok q) h e d = absurd e
last_outcome v w (Err b) (Err c) h e d = e

-- the last part of a sequence
pub last_step : {A B : Type 0} (m : ℕ) (v : Tree → Option A) (w : Tree → Option B) (p : Parser Tree) (q : Parser A) (h : A → B) → AgreeTo m v p q → ((x : Tree) (a : A) → v x ≡ Some a → w x ≡ Some (h a)) → AgreeTo m w p (q >>= (λ a. pure (h a)))
last_step m v w p q h e d i le = last_outcome v w (p i) (q i) h (e i le) d

-- ---- tokens

token_turn : (k : Symbol) (b : Bool) (i : Input) → same (next i) k ≡ b → Agrees unit_of ((token_tree k).read i) ((token k).read i)
token_turn k true i e = rw e (refl, refl)
token_turn k false i e = rw e refl

pub token_same : (m : ℕ) (k : Symbol) → SameTo m unit_of (token_tree k) (token k)
token_same m k = record { begins = λ t. refl; reads = λ i le. token_turn k (same (next i) k) i refl }

name_turn : (b : Bool) (i : Input) → same (next i) s.Name ≡ b → Agrees name_of ((token_tree s.Name).read i) (name.read i)
name_turn true i e = rw e (refl, refl)
name_turn false i e = rw e refl

pub name_same : (m : ℕ) → SameTo m name_of (token_tree s.Name) name
name_same m = record { begins = λ t. refl; reads = λ i le. name_turn (same (next i) s.Name) i refl }

-- ---- choices

pub cond_agrees : {A : Type 0} (v : Tree → Option A) (b c : Bool) (x y : Outcome Tree) (l m : Outcome A) → b ≡ c → Agrees v x l → Agrees v y m → Agrees v (cond b x y) (cond c l m)
cond_agrees v true true x y l m e h k = h
cond_agrees v false false x y l m e h k = k
cond_agrees v true false x y l m e h k = absurd cc
cond_agrees v false true x y l m e h k = absurd cc

pub or_same : {A : Type 0} (m : ℕ) (v : Tree → Option A) (p q : Part Tree) (k l : Part A) → SameTo m v p k → SameTo m v q l → SameTo m v (p or q) (k or l)
or_same m v p q k l h e = record {
  begins = λ t. rw (h.begins t, e.begins t) refl;
  reads = λ i le. cond_agrees v (p.begins (next i)) (k.begins (next i)) (p.read i) (cond (q.begins (next i)) (q.read i) (fail i)) (k.read i) (cond (l.begins (next i)) (l.read i) (fail i)) (h.begins (next i)) (h.reads i le)
      (cond_agrees v (q.begins (next i)) (l.begins (next i)) (q.read i) (fail i) (l.read i) (fail i) (e.begins (next i)) (e.reads i le) refl);
}

some_outcome : {A : Type 0} (v : Tree → Option A) (r : Outcome Tree) (q : Outcome A) → Agrees v r q → Agrees (maybe_of v) (and_then r (λ x. pure (left x))) (and_then q (λ a. pure (Some a)))
some_outcome v (Ok p) (Ok q) e = (rw e.0 refl, e.1)
some_outcome v (Ok p) (Err d) e = absurd e
some_outcome v (Err d) (Ok q) e = absurd e
some_outcome v (Err c) (Err d) e = e

pub maybe_agrees : {A : Type 0} (m : ℕ) (v : Tree → Option A) (p : Part Tree) (q : Part A) → SameTo m v p q → AgreeTo m (maybe_of v) (optional p).read (maybe q)
maybe_agrees m v p q h i le = cond_agrees (maybe_of v) (p.begins (next i)) (q.begins (next i)) _ _ _ _ (h.begins (next i)) (some_outcome v (p.read i) (q.read i) (h.reads i le)) (refl, refl)

-- ---- repeated parts

each_turn : {A B : Type 0} (m : ℕ) (v : Tree → Option B) (w : Tree → Option A) (f : A → B → A) (p : Part Tree) (q : Part B) → Keeps q.read → SameTo m v p q
    → ((t x : Tree) (a : A) (b : B) → w t ≡ Some a → v x ≡ Some b → w (pair t x) ≡ Some (f a b))
    → (n : ℕ) (t : Tree) (a : A) → w t ≡ Some a → AgreeTo m w (each_from pair p n t) (each_from f q n a)
unfolding each_from
each_turn m v w f p q keeps h more zero t a e i le = (e, refl)
each_turn m v w f p q keeps h more (suc n) t a e i le =
    cond_agrees w (p.begins (next i)) (q.begins (next i)) _ _ _ _ (h.begins (next i))
    (bind_agrees m v w p.read q.read (λ x. each_from pair p n (pair t x)) (λ b. each_from f q n (f a b)) keeps h.reads (λ x b d. each_turn m v w f p q keeps h more n (pair t x) (f a b) (more t x a b e d)) i le)
    (e, refl)

pub each_agrees : {A B : Type 0} (m : ℕ) (v : Tree → Option B) (w : Tree → Option A) (f : A → B → A) (p : Part Tree) (q : Part B) → Keeps q.read → SameTo m v p q
    → ((t x : Tree) (a : A) (b : B) → w t ≡ Some a → v x ≡ Some b → w (pair t x) ≡ Some (f a b))
    → (a : A) → w empty ≡ Some a → AgreeTo m w (repeated p).read (each f q a)
unfolding each
each_agrees m v w f p q keeps h more a e i le = each_turn m v w f p q keeps h more (suc (length i.ahead)) empty a e i le

pub list_step : {A : Type 0} (v : Tree → Option A) (before : List A) (t x : Tree) (a : List A) (b : A) → list_of v before t ≡ Some a → v x ≡ Some b → list_of v before (pair t x) ≡ Some (push a b)
list_step v before t x a b h k = rw (h, k) refl

-- a part behind a token
pub more_same : {A : Type 0} (m : ℕ) (v : Tree → Option A) (p : Part Tree) (q : Part A) (k : Symbol) → same s.End k ≡ false → SameTo m v p q → SameTo m (behind v) (sequence (token_tree k) p) (more q k)
more_same m v p q k other h = record {
  begins = λ t. refl;
  reads = bind_agrees m unit_of (behind v) (token_tree k).read (token k).read (λ x. p.read >>= (λ y. pure (pair x y))) (λ _. q.read) (takes_keeps (token k).read (token_takes k other)) (token_same m k).reads
      (λ x a d i le. map_agrees v (behind v) (p.read i) (q.read i) (λ y. pair x y) (h.reads i le) (λ t b c. c));
}

pub separated_same : {A : Type 0} (m : ℕ) (v : Tree → Option A) (p : Part Tree) (q : Part A) (k : Symbol) → same s.End k ≡ false → Takes q.read → SameTo m v p q
    → SameTo m (separated_of v) (sequence p (repeated (sequence (token_tree k) p))) (separated q k)
separated_same m v p q k other takes h =
    let turns = sequence (token_tree k) p in
    starts_same m v (separated_of v) p q (λ x. (repeated turns).read >>= (λ y. pure (pair x y))) (λ first. each push (more q k) (first ∷ [])) (takes_keeps q.read takes) h
    (λ x a e i le. map_agrees (list_of (behind v) (a ∷ [])) (separated_of v) ((repeated turns).read i) (each push (more q k) (a ∷ []) i) (λ y. pair x y)
    (each_agrees m (behind v) (list_of (behind v) (a ∷ [])) push turns (more q k) (takes_keeps (more q k).read (more_takes q k other takes)) (more_same m v p q k other h) (list_step (behind v) (a ∷ [])) (a ∷ []) refl i le)
    (λ t xs d. rw e d))

-- ---- a part in parentheses

pub enclosed_same : {A : Type 0} (m : ℕ) (v : Tree → Option A) (p : Part Tree) (q : Parser A) → Keeps q → AgreeTo m v p.read q → SameTo m (enclosed_of v) (sequence (token_tree s.LeftParen) (sequence p (token_tree s.RightParen))) (enclosed q)
unfolding same
enclosed_same m v p q keeps h = record {
  begins = λ k. refl;
  reads =
      step m unit_of (enclosed_of v) (token_tree s.LeftParen).read (token s.LeftParen).read _ _ (takes_keeps (token s.LeftParen).read (token_takes s.LeftParen refl)) (token_same m s.LeftParen).reads (λ x a e.
      step m v (λ z. enclosed_of v (pair x z)) p.read q _ _ keeps h (λ y b f.
      last_step m unit_of (λ z. enclosed_of v (pair x (pair y z))) (token_tree s.RightParen).read (token s.RightParen).read (λ _. b) (token_same m s.RightParen).reads (λ z c d. f)));
}
