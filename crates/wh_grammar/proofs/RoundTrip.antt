-- What is shown is read again.
use Rattle.std.proofs.Common.{◌≡◌, ◌≢◌, ℕ, suc, Bool, true, false, List, [], ◌∷◌, ◌++◌, Ok, refl, ap, ◌∙◌, append_assoc}
use Rattle.wh_grammar.specs.declared.symbol.Symbol.{Symbol}
use Rattle.wh_grammar.specs.declared.symbol.Symbol.TheVariants as s
use Rattle.wh_base.specs.declared.cond.Cond.{Cond}
use Rattle.wh_base.specs.declared.cond.Cond.TheVariants.{Cmp, Not, And, Or}
use Rattle.wh_base.specs.declared.cond.Operand.{Operand}
use Rattle.wh_base.specs.declared.cond.Operand.TheVariants as operands
use Rattle.wh_base.specs.declared.cond.Op.{Op}
use Rattle.wh_grammar.specs.Symbols.{symbol}
use Rattle.wh_grammar.specs.Grammar.{Input, Lexeme, Outcome, Parser, ◌>>=◌, pure, and_then, same, next, after, spelling, token, each, more}
use Rattle.wh_grammar.specs.Conditions as g
use Rattle.wh_grammar.specs.RoundTrip.{IsReadAgain, from}
use Rattle.wh_grammar.specs.Printing.{Shape, basic, conj, disj, is_disj, is_compound, IsToken, IsOperand, IsOp, Shows, Held, compares, negates, joins, parts, plain, group}
use Rattle.wh_grammar.proofs.GrammarLemmas.{chain_goes, each_stops, other_than}
use Rattle.wh_grammar.proofs.CondLemmas.{neg_takes, conj_takes, inner_suc, neg_else}

-- what reading gives where a condition is shown
abbrev Claim : Shape → ℕ → Cond → List Lexeme → Type 0
Claim basic d c ts = (end : ℕ) (rest : List Lexeme) → (g.neg d).read (from end (ts ++ rest)) ≡ Ok (c, from end rest)
Claim conj d c ts = (end : ℕ) (rest : List Lexeme) → (g.conj d).read (from end (ts ++ rest)) ≡ each And (more (g.neg d) s.And) c (from end rest)
Claim disj d c ts = (end : ℕ) (rest : List Lexeme) → same (next (from end rest)) s.And ≡ false → (g.cond d).read (from end (ts ++ rest)) ≡ each Or (more (g.conj d) s.Or) c (from end rest)

abbrev HeldClaim : Bool → Shape → ℕ → Cond → List Lexeme → Type 0
HeldClaim false k d c ts = Claim k d c ts
HeldClaim true k d c ts = Claim basic d c ts

basic_conj : (d : ℕ) (c : Cond) (ts : List Lexeme) → Claim basic d c ts → Claim conj d c ts
unfolding g.conj
basic_conj d c ts h end rest = ap (λ r. and_then r (λ first. each And (more (g.neg d) s.And) first)) (h end rest)

conj_disj : (d : ℕ) (c : Cond) (ts : List Lexeme) → Claim conj d c ts → Claim disj d c ts
unfolding g.cond
conj_disj d c ts h end rest other =
    let one : (g.conj d).read (from end (ts ++ rest)) ≡ Ok (c, from end rest) = h end rest ∙ each_stops And (more (g.neg d) s.And) c (from end rest) other in
    ap (λ r. and_then r (λ first. each Or (more (g.conj d) s.Or) first)) one

any_disj : (k : Shape) (d : ℕ) (c : Cond) (ts : List Lexeme) → Claim k d c ts → Claim disj d c ts
any_disj basic d c ts h = conj_disj d c ts (basic_conj d c ts h)
any_disj conj d c ts h = conj_disj d c ts h
any_disj disj d c ts h = h

held_conj : (k : Shape) (d : ℕ) (c : Cond) (ts : List Lexeme) → HeldClaim (is_disj k) k d c ts → Claim conj d c ts
held_conj basic d c ts h = basic_conj d c ts h
held_conj conj d c ts h = h
held_conj disj d c ts h = basic_conj d c ts h

held_basic : (k : Shape) (d : ℕ) (c : Cond) (ts : List Lexeme) → HeldClaim (is_compound k) k d c ts → Claim basic d c ts
held_basic basic d c ts h = h
held_basic conj d c ts h = h
held_basic disj d c ts h = h

-- ---- tokens

pub reads_token : (t : Lexeme) (k : Symbol) (end : ℕ) (ts : List Lexeme) → same k k ≡ true → IsToken k t → (token k).read (from end (t ∷ ts)) ≡ Ok (tt, from end ts)
unfolding next after
reads_token t k end ts self is = rw (is, self) refl

-- a step of a sequence
pub then : {A B : Type 0} (r : Outcome A) (f : A → Parser B) (x : A) (j : Input) (y : Outcome B) → r ≡ Ok (x, j) → f x j ≡ y → and_then r f ≡ y
then r f x j y e h = ap (λ q. and_then q f) e ∙ h

reads_operand : (x : Operand) (t : Lexeme) (end : ℕ) (ts : List Lexeme) → IsOperand x t → g.operand.read (from end (t ∷ ts)) ≡ Ok (x, from end ts)
unfolding next after spelling same symbol
reads_operand (operands.Attr n) t end ts is = rw (is.0, is.1) refl
reads_operand (operands.Int v) t end ts is = rw is refl
reads_operand (operands.Text v) t end ts is = rw is refl

not_negation : (x : Operand) (t : Lexeme) → IsOperand x t → symbol t.kind t.bytes ≢ s.Not
unfolding symbol
not_negation (operands.Attr n) t is e = absurd (cc is.0)
not_negation (operands.Int v) t is e = absurd (cc (rw is at e))
not_negation (operands.Text v) t is e = absurd (cc (rw is at e))

not_group : (x : Operand) (t : Lexeme) → IsOperand x t → symbol t.kind t.bytes ≢ s.LeftParen
unfolding symbol
not_group (operands.Attr n) t is e = absurd (cc is.0)
not_group (operands.Int v) t is e = absurd (cc (rw is at e))
not_group (operands.Text v) t is e = absurd (cc (rw is at e))

reads_comparison : (o : Op) (t : Lexeme) (end : ℕ) (ts : List Lexeme) → IsOp o t → g.comparison.read (from end (t ∷ ts)) ≡ Ok (o, from end ts)
unfolding next after
reads_comparison o t end ts is = rw is refl

-- ---- each shape

shows_compare : (d : ℕ) (l r : Operand) (o : Op) (t u v : Lexeme) → IsOperand l t → IsOp o u → IsOperand r v → Claim basic d (Cmp l o r) (t ∷ u ∷ v ∷ [])
unfolding next
shows_compare d l r o t u v a b c end rest =
    let i = from end (t ∷ u ∷ v ∷ rest) in
    neg_else d i (not_negation l t a) (not_group l t a)
    ∙ then (g.operand.read i) (λ left. g.comparison.read >>= (λ by. g.operand.read >>= (λ right. pure (Cmp left by right)))) l (from end (u ∷ v ∷ rest)) (Ok (Cmp l o r, from end rest)) (reads_operand l t end (u ∷ v ∷ rest) a)
    (then (g.comparison.read (from end (u ∷ v ∷ rest))) (λ by. g.operand.read >>= (λ right. pure (Cmp l by right))) o (from end (v ∷ rest)) (Ok (Cmp l o r, from end rest)) (reads_comparison o u end (v ∷ rest) b)
    (then (g.operand.read (from end (v ∷ rest))) (λ right. pure (Cmp l o right)) r (from end rest) (Ok (Cmp l o r, from end rest)) (reads_operand r v end rest c) refl))

neg_not : (d : ℕ) (i : Input) → same (next i) s.Not ≡ true → (g.neg (suc d)).read i ≡ ((token s.Not).read >>= (λ _. (g.neg d).read >>= (λ c. pure (Not c)))) i
unfolding g.neg
neg_not d i go = rw (go, inner_suc d) refl

neg_group : (d : ℕ) (i : Input) → same (next i) s.Not ≡ false → same (next i) s.LeftParen ≡ true
    → (g.neg (suc d)).read i ≡ ((token s.LeftParen).read >>= (λ _. (g.cond d).read >>= (λ c. (token s.RightParen).read >>= (λ _. pure c)))) i
unfolding g.neg
neg_group d i other go = rw (other, go, inner_suc d) refl

shows_not : (d : ℕ) (c : Cond) (t : Lexeme) (ts : List Lexeme) → IsToken s.Not t → Claim basic d c ts → Claim basic (suc d) (Not c) (t ∷ ts)
unfolding same next
shows_not d c t ts is h end rest =
    let i = from end (t ∷ ts ++ rest) in
    let go : same (next i) s.Not ≡ true = rw is refl in
    neg_not d i go
    ∙ then ((token s.Not).read i) (λ _. (g.neg d).read >>= (λ c. pure (Not c))) tt (from end (ts ++ rest)) (Ok (Not c, from end rest)) (reads_token t s.Not end (ts ++ rest) refl is)
    (then ((g.neg d).read (from end (ts ++ rest))) (λ c. pure (Not c)) c (from end rest) (Ok (Not c, from end rest)) (h end rest) refl)

shows_and : (d : ℕ) (a b : Cond) (t : Lexeme) (us vs : List Lexeme) → Claim conj d a us → IsToken s.And t → Claim basic d b vs → Claim conj d (And a b) (us ++ t ∷ vs)
unfolding same next after
shows_and d a b t us vs left is right end rest =
    let i = from end (t ∷ vs ++ rest) in
    let go : same (next i) s.And ≡ true = rw is refl in
    ap (λ ts. (g.conj d).read (from end ts)) (append_assoc us (t ∷ vs) rest)
    ∙ left end (t ∷ vs ++ rest)
    ∙ chain_goes And (g.neg d) s.And a i refl (neg_takes d) go
    ∙ then ((g.neg d).read (after i)) (λ x. each And (more (g.neg d) s.And) (And a x)) b (from end rest) (each And (more (g.neg d) s.And) (And a b) (from end rest)) (right end rest) refl

shows_or : (d : ℕ) (a b : Cond) (t : Lexeme) (us vs : List Lexeme) → Claim disj d a us → IsToken s.Or t → Claim conj d b vs → Claim disj d (Or a b) (us ++ t ∷ vs)
unfolding same next after
shows_or d a b t us vs left is right end rest other =
    let i = from end (t ∷ vs ++ rest) in
    let go : same (next i) s.Or ≡ true = rw is refl in
    let no_and : same (next i) s.And ≡ false = rw is refl in
    ap (λ ts. (g.cond d).read (from end ts)) (append_assoc us (t ∷ vs) rest)
    ∙ left end (t ∷ vs ++ rest) no_and
    ∙ chain_goes Or (g.conj d) s.Or a i refl (conj_takes d) go
    ∙ then ((g.conj d).read (after i)) (λ x. each Or (more (g.conj d) s.Or) (Or a x)) b (from end rest) (each Or (more (g.conj d) s.Or) (Or a b) (from end rest)) (right end rest ∙ each_stops And (more (g.neg d) s.And) b (from end rest) other) refl

shows_group : (d : ℕ) (c : Cond) (l r : Lexeme) (ts : List Lexeme) → IsToken s.LeftParen l → Claim disj d c ts → IsToken s.RightParen r → Claim basic (suc d) c (l ∷ ts ++ r ∷ [])
unfolding same next
shows_group d c l r ts opens h closes end rest =
    let i = from end (l ∷ (ts ++ r ∷ []) ++ rest) in
    let k = from end (r ∷ rest) in
    let no_not : same (next i) s.Not ≡ false = rw opens refl in
    let go : same (next i) s.LeftParen ≡ true = rw opens refl in
    let no_and : same (next k) s.And ≡ false = rw closes refl in
    let no_or : same (next k) s.Or ≡ false = rw closes refl in
    let inside : (g.cond d).read (from end ((ts ++ r ∷ []) ++ rest)) ≡ Ok (c, k) =
    ap (λ us. (g.cond d).read (from end us)) (append_assoc ts (r ∷ []) rest) ∙ h end (r ∷ rest) no_and ∙ each_stops Or (more (g.conj d) s.Or) c k no_or in
    neg_group d i no_not go
    ∙ then ((token s.LeftParen).read i) (λ _. (g.cond d).read >>= (λ c. (token s.RightParen).read >>= (λ _. pure c))) tt (from end ((ts ++ r ∷ []) ++ rest)) (Ok (c, from end rest)) (reads_token l s.LeftParen end ((ts ++ r ∷ []) ++ rest) refl opens)
    (then ((g.cond d).read (from end ((ts ++ r ∷ []) ++ rest))) (λ c. (token s.RightParen).read >>= (λ _. pure c)) c k (Ok (c, from end rest)) inside
    (then ((token s.RightParen).read k) (λ _. pure c) tt (from end rest) (Ok (c, from end rest)) (reads_token r s.RightParen end rest refl closes) refl))

mutual
  shown : {k : Shape} {d : ℕ} {c : Cond} {ts : List Lexeme} → Shows k d c ts → Claim k d c ts
  shown (compares {d} {l} {r} {o} {t} {u} {v} a b c) = shows_compare d l r o t u v a b c
  shown (negates {k} {d} {c} {t} {ts} is h) = shows_not d c t ts is (held_basic k d c ts (held h))
  shown (joins {j} {k} {d} {a} {b} t {us} {vs} x is y) = shows_and d a b t us vs (held_conj j d a us (held x)) is (held_basic k d b vs (held y))
  shown (parts {j} {k} {d} {a} {b} t {us} {vs} x is y) = shows_or d a b t us vs (any_disj j d a us (held x)) is (held_conj k d b vs (held y))

  held : {p : Bool} {k : Shape} {d : ℕ} {c : Cond} {ts : List Lexeme} → Held p k d c ts → HeldClaim p k d c ts
  held (plain h) = shown h
  held (group {k} {d} {c} l r {ts} opens h closes) = shows_group d c l r ts opens (any_disj k d c ts (shown h)) closes

pub read_again : IsReadAgain
unfolding next
read_again k d c ts rest end h no_and no_or =
    any_disj k d c ts (shown h) end rest (other_than (next (from end rest)) s.And no_and) ∙ each_stops Or (more (g.conj d) s.Or) c (from end rest) (other_than (next (from end rest)) s.Or no_or)
