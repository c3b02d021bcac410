-- A depth that is enough is as good as any other.
use Rattle.std.proofs.Common.{◌≡◌, ◌<◌, ◌≤◌, ℕ, zero, suc, false, cond, Ok, refl, ap, ◌∙◌, arith}
use Rattle.wh_grammar.specs.declared.symbol.Symbol.{Symbol}
use Rattle.wh_grammar.specs.declared.symbol.Symbol.TheVariants as s
use Rattle.wh_base.specs.declared.cond.Cond.{Cond}
use Rattle.wh_base.specs.declared.cond.Cond.TheVariants.{Not, And, Or}
use Rattle.wh_grammar.specs.Grammar.{Input, Parser, Part, ◌>>=◌, pure, same, next, token, starts, each, each_from, more, and_then}
use Rattle.wh_grammar.specs.Conditions as g
use Rattle.wh_grammar.specs.Depth.{IsDepthFree}
use Rattle.wh_grammar.proofs.GrammarLemmas.{Keeps, Takes, bind_same, takes_keeps, more_takes, token_takes, left}
use Rattle.wh_grammar.proofs.CondLemmas.{inner_keeps, neg_of_takes, conj_of_takes}

-- two readers agree where at most so many tokens are left
abbrev AgreeTo : {A : Type 0} → ℕ → Parser A → Parser A → Type 0
AgreeTo m p q = (i : Input) → left i ≤ m → p i ≡ q i

bind_agree : {A B : Type 0} (m : ℕ) (p q : Parser A) (f h : A → Parser B) → Keeps p → AgreeTo m p q → ((x : A) → AgreeTo m (f x) (h x)) → AgreeTo m (p >>= f) (q >>= h)
bind_agree m p q f h keeps e k i le =
    bind_same (p i) f h (λ x j d. k x j (omega (arith, keeps i x j d))) ∙ ap (λ r. and_then r h) (e i le)

-- behind a token fewer are left
behind_agree : {A B : Type 0} (m : ℕ) (p : Parser A) (f h : A → Parser B) → Takes p → ((x : A) (i : Input) → left i < m → f x i ≡ h x i) → AgreeTo m (p >>= f) (p >>= h)
behind_agree m p f h takes k i le = bind_same (p i) f h (λ x j d. k x j (omega (arith, takes i x j d)))

each_from_agree : {A : Type 0} (f : A → A → A) (m : ℕ) (p q : Part A) → Keeps p.read → ((t : Symbol) → p.begins t ≡ q.begins t) → AgreeTo m p.read q.read → (n : ℕ) (a : A) → AgreeTo m (each_from f p n a) (each_from f q n a)
unfolding each_from
each_from_agree f m p q keeps begins h zero a i le = refl
each_from_agree f m p q keeps begins h (suc n) a i le =
    rw (begins (next i)) (ap (λ x. cond (q.begins (next i)) x (Ok (a, i))) (bind_agree m p.read q.read (λ b. each_from f p n (f a b)) (λ b. each_from f q n (f a b)) keeps h (λ b. each_from_agree f m p q keeps begins h n (f a b)) i le))

chain_agree : (f : Cond → Cond → Cond) (m : ℕ) (k : Symbol) (p q : Part Cond) → same s.End k ≡ false → Takes p.read → AgreeTo m p.read q.read
    → AgreeTo m (starts p (λ first. each f (more p k) first)).read (starts q (λ first. each f (more q k) first)).read
unfolding each
chain_agree f m k p q other takes h =
    let turn : AgreeTo m (more p k).read (more q k).read = behind_agree m (token k).read (λ _. p.read) (λ _. q.read) (token_takes k other) (λ x i lt. h i (omega arith)) in
    bind_agree m p.read q.read (λ first. each f (more p k) first) (λ first. each f (more q k) first) (takes_keeps p.read takes) h
    (λ first i le. each_from_agree f m (more p k) (more q k) (takes_keeps (more p k).read (more_takes p k other takes)) (λ t. refl) turn (suc (left i)) first i le)

neg_agree : (m : ℕ) (n c n' c' : Parser Cond) → ((i : Input) → left i < m → (n i ≡ n' i) × (c i ≡ c' i)) → Keeps c → AgreeTo m (g.neg_of n c).read (g.neg_of n' c').read
unfolding same
neg_agree m n c n' c' h keeps i le =
    let negs = behind_agree m (token s.Not).read (λ _. n >>= (λ x. pure (Not x))) (λ _. n' >>= (λ x. pure (Not x))) (token_takes s.Not refl) (λ _ j lt. ap (λ r. and_then r (λ x. pure (Not x))) (h j lt).0) i le in
    let groups = behind_agree m (token s.LeftParen).read (λ _. c >>= (λ x. (token s.RightParen).read >>= (λ _. pure x))) (λ _. c' >>= (λ x. (token s.RightParen).read >>= (λ _. pure x))) (token_takes s.LeftParen refl) (λ _ j lt. ap (λ r. and_then r (λ x. (token s.RightParen).read >>= (λ _. pure x))) (h j lt).1) i le in
    rw (negs, groups) refl

inner_agree : (m d e : ℕ) → m < d → m < e → (i : Input) → left i ≤ m → ((g.inner d).0 i ≡ (g.inner e).0 i) × ((g.inner d).1 i ≡ (g.inner e).1 i)
unfolding g.inner same
inner_agree m zero e ld le i lm = absurd (omega arith)
inner_agree m (suc d) zero ld le i lm = absurd (omega arith)
inner_agree m (suc d) (suc e) ld le i lm =
    let p = g.neg_of (g.inner d).0 (g.inner d).1 in
    let q = g.neg_of (g.inner e).0 (g.inner e).1 in
    let takes = neg_of_takes (g.inner d).0 (g.inner d).1 (inner_keeps d).0 (inner_keeps d).1 in
    let negs : AgreeTo m p.read q.read = neg_agree m (g.inner d).0 (g.inner d).1 (g.inner e).0 (g.inner e).1 (λ j lt. inner_agree (left j) d e (omega arith) (omega arith) j (omega arith)) (inner_keeps d).1 in
    let conjs = chain_agree And m s.And p q refl takes negs in
    (negs i lm, chain_agree Or m s.Or (g.conj_of p) (g.conj_of q) refl (conj_of_takes p takes) conjs i lm)

pub depth_free : IsDepthFree
unfolding g.inner g.neg g.conj g.cond
depth_free d e i ld le = (inner_agree (left i) (suc d) (suc e) (omega arith) (omega arith) i (omega arith)).1
