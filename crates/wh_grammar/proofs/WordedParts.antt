-- The parts of a grammar, and conditions, give what is made of the words of the text.
use Rattle.std.proofs.Common.{◌≡◌, ◌<◌, ℕ, zero, suc, ◌+◌, Bool, true, false, ◌&&◌, cond, List, [], ◌∷◌, length, Option, Some, None, Ok, refl, sym, ap, subst, ◌∙◌, arith}
use Rattle.std.specs.Prelude.{nat_lt}
use Rattle.std.specs.List.{AllByRecursion}
use Rattle.std.proofs.lemmas.Bool.{lt-ltb, ltb-true, and_parts}
use Rattle.std.proofs.lemmas.List.{length-append}
use Rattle.wh_lex.specs.declared.token.TokenKind.{TokenKind}
use Rattle.wh_lex.specs.declared.token.TokenKind.TheVariants as kinds
use Rattle.wh_lex.proofs.SpelledLemmas.{IsSpelled}
use Rattle.wh_base.specs.declared.cond.Cond.{Cond}
use Rattle.wh_base.specs.declared.cond.Cond.TheVariants.{Cmp, Not, And, Or, outs-Cmp, outs-Not, outs-And, outs-Or}
use Rattle.wh_base.specs.declared.cond.Op.{Op}
use Rattle.wh_base.specs.declared.cond.Operand.{Operand}
use Rattle.wh_base.specs.declared.cond.Operand.TheVariants as operands
use Rattle.wh_grammar.specs.declared.symbol.Symbol.{Symbol}
use Rattle.wh_grammar.specs.declared.symbol.Symbol.TheVariants as s
use Rattle.wh_grammar.specs.Symbols.{symbol}
use Rattle.wh_grammar.specs.Grammar.{Input, Lexeme, Parser, Part, ◌>>=◌, pure, fail, same, next, symbol_of, token, name, ◌or◌, enclosed, maybe, each_from, each, push, more, separated, whole}
use Rattle.wh_grammar.specs.Nesting.{parens_after}
use Rattle.wh_grammar.specs.Conditions as g
use Rattle.wh_grammar.specs.Printable.{IsName, HasText, IsTextual, compares, negates, joins, parts}
use Rattle.wh_grammar.specs.Printed.{is_or, is_compound, is_or_at, is_compound_at, held_shallow, is_shallow}
use Rattle.wh_grammar.proofs.CondLemmas.{taken_ok}
use Rattle.wh_grammar.proofs.PrintedLemmas.{shallow_cmp, shallow_not, shallow_and, shallow_or}
use Rattle.wh_grammar.proofs.Worded.{Fine, Good, passed, bind_good, pure_good, weaken_good, fail_good, token_good, open_good, close_good, name_good, all_append}

-- ---- choices and repeated parts

cond_good : {A : Type 0} (p q : ℕ) (Q : A → Type 0) (b : Bool) (m n : Parser A) → Good p q Q m → Good p q Q n → (i : Input) (x : A) (j : Input) → cond b (m i) (n i) ≡ Ok (x, j) → Fine p i → Fine q j × Q x
cond_good p q Q true m n one two i x j e fine = one i x j e fine
cond_good p q Q false m n one two i x j e fine = two i x j e fine

pub or_good : {A : Type 0} (p q : ℕ) (Q : A → Type 0) (a b : Part A) → Good p q Q a.read → Good p q Q b.read → Good p q Q (a or b).read
or_good p q Q a b one two i x j e fine =
    cond_good p q Q (a.begins (next i)) a.read (λ k. cond (b.begins (next i)) (b.read k) (fail k)) one
    (λ k y l d f. cond_good p q Q (b.begins (next i)) b.read fail two (fail_good p q Q) k y l d f) i x j e fine

abbrev pub OnBoth : {A : Type 0} → Type 0 → (A → Type 0) → Option A → Type 0
OnBoth none Q None = none
OnBoth none Q (Some x) = Q x

pub maybe_good : {A : Type 0} (p : ℕ) (none : Type 0) (Q : A → Type 0) (a : Part A) → none → Good p p Q a.read → Good p p (OnBoth none Q) (maybe a)
maybe_good p none Q a nothing one i x j e fine =
    cond_good p p (OnBoth none Q) (a.begins (next i)) (a.read >>= (λ y. pure (Some y))) (pure None)
    (bind_good p p p Q (OnBoth none Q) a.read (λ y. pure (Some y)) one (λ y h. pure_good p (OnBoth none Q) (Some y) h)) (pure_good p (OnBoth none Q) None nothing) i x j e fine

each_from_good : {A B : Type 0} (p : ℕ) (Q : A → Type 0) (R : B → Type 0) (f : A → B → A) (a : Part B) → Good p p R a.read → ((x : A) (y : B) → Q x → R y → Q (f x y)) → (n : ℕ) (x : A) → Q x → Good p p Q (each_from f a n x)
unfolding each_from
each_from_good p Q R f a one step zero x h i y j e fine = pure_good p Q x h i y j e fine
each_from_good p Q R f a one step (suc n) x h i y j e fine =
    cond_good p p Q (a.begins (next i)) (a.read >>= (λ b. each_from f a n (f x b))) (pure x)
    (bind_good p p p R Q a.read (λ b. each_from f a n (f x b)) one (λ b k. each_from_good p Q R f a one step n (f x b) (step x b h k))) (pure_good p Q x h) i y j e fine

pub each_good : {A B : Type 0} (p : ℕ) (Q : A → Type 0) (R : B → Type 0) (f : A → B → A) (a : Part B) → Good p p R a.read → ((x : A) (y : B) → Q x → R y → Q (f x y)) → (x : A) → Q x → Good p p Q (each f a x)
unfolding each
each_good p Q R f a one step x h i y j e fine = each_from_good p Q R f a one step (suc (length i.ahead)) x h i y j e fine

-- one item or more
abbrev pub AreSome : {A : Type 0} → (A → Type 0) → List A → Type 0
AreSome P xs = (0 < length xs) × AllByRecursion P xs

push_some : {A : Type 0} (P : A → Type 0) (xs : List A) (x : A) → AreSome P xs → P x → AreSome P (push xs x)
push_some P xs x h k = (omega (arith, length-append xs (x ∷ [])), all_append P xs (x ∷ []) h.1 (k, tt))

pub separated_good : {A : Type 0} (p : ℕ) (P : A → Type 0) (a : Part A) (k : Symbol) → parens_after p k ≡ p → Good p p P a.read → Good p p (AreSome P) (separated a k).read
separated_good p P a k counts one =
    bind_good p p p P (AreSome P) a.read (λ first. each push (more a k) (first ∷ [])) one
    (λ x h. each_good p (AreSome P) P push (more a k) (bind_good p p p (λ _. Unit {0}) P (token k).read (λ _. a.read) (token_good p p k counts) (λ _ _. one)) (push_some P) (x ∷ []) (omega arith, (h, tt)))

pub enclosed_good : {A : Type 0} (p : ℕ) (Q : A → Type 0) (m : Parser A) → (p < 64 → Good (p + 1) (p + 1) Q m) → Good p p Q (enclosed m).read
enclosed_good p Q m one =
    bind_good p (p + 1) p (λ _. p < 64) Q (token s.LeftParen).read (λ _. m >>= (λ x. (token s.RightParen).read >>= (λ _. pure x))) (open_good p)
    (λ _ room. bind_good (p + 1) (p + 1) p Q Q m (λ x. (token s.RightParen).read >>= (λ _. pure x)) (one room)
    (λ x h. bind_good (p + 1) p p (λ _. Unit {0}) Q (token s.RightParen).read (λ _. pure x) (close_good p) (λ _ _. pure_good p Q x h)))

pub whole_good : {A : Type 0} (p : ℕ) (Q : A → Type 0) (m : Parser A) → Good p p Q m → Good p p Q (whole m)
whole_good p Q m one =
    bind_good p p p Q Q m (λ a j. cond (same (next j) s.End) (Ok (a, j)) (fail j)) one
    (λ x h i y j e fine. cond_good p p Q (same (next i) s.End) (pure x) fail (pure_good p Q x h) (fail_good p p Q) i y j e fine)

-- ---- operands and comparisons

literal_token : (p : ℕ) (kind : TokenKind) (bytes : List ℕ) (x : Operand) → g.value_of kind ≡ Some x → IsSpelled kind bytes → HasText x × (parens_after p (symbol kind bytes) ≡ p)
unfolding symbol
literal_token p kinds.Word bytes x e h = absurd cc
literal_token p (kinds.Int v) bytes x e h = (subst HasText (some_is e) h, refl)
  where
    some_is : {a b : Operand} → Some a ≡ Some b → a ≡ b
    some_is e = cc
literal_token p (kinds.Text v) bytes x e h = (subst HasText (some_is e) h, refl)
  where
    some_is : {a b : Operand} → Some a ≡ Some b → a ≡ b
    some_is e = cc
literal_token p kinds.Mark bytes x e h = absurd cc

literal_at : (p end : ℕ) (ts : List Lexeme) (x : Operand) → g.literal_of ts ≡ Some x → Fine p (record { ahead = ts; end = end }) → HasText x × (parens_after p (symbol_of ts) ≡ p)
literal_at p end [] x e fine = absurd cc
literal_at p end (t ∷ ts) x e fine = literal_token p t.kind t.bytes x e fine.0.0

literal_good : (p : ℕ) → Good p p HasText g.literal.read
unfolding next
literal_good p i x j e fine =
    let t = taken_ok (g.literal_of i.ahead) i x j e in
    let h = literal_at p i.end i.ahead x t.0 fine in
    (subst (λ l. Fine p l) (sym t.1) (passed p p i (next i) refl h.1 fine), h.0)

operand_good : (p : ℕ) → Good p p HasText g.operand.read
operand_good p = or_good p p HasText g.named g.literal (bind_good p p p IsName HasText name.read (λ n. pure (operands.Attr n)) (name_good p) (λ n h. pure_good p HasText (operands.Attr n) h)) (literal_good p)

op_counts : (p : ℕ) (t : Symbol) (o : Op) → g.op_of t ≡ Some o → parens_after p t ≡ p
op_counts p s.LeftParen o e = absurd cc
op_counts p s.RightParen o e = absurd cc
op_counts p _ o e = refl

comparison_good : (p : ℕ) → Good p p (λ _. Unit {0}) g.comparison.read
comparison_good p i x j e fine =
    let t = taken_ok (g.op_of (next i)) i x j e in
    (subst (λ l. Fine p l) (sym t.1) (passed p p i (next i) refl (op_counts p (next i) x t.0) fine), tt)

-- ---- conditions, whose printed form is in no more parentheses than the text

and_true : (x y : Bool) → x ≡ true → y ≡ true → (x && y) ≡ true
and_true true true h k = refl
and_true true false h k = k
and_true false y h k = h

held_lower : (b : Bool) (f : ℕ → Bool) → ((p : ℕ) → f (p + 1) ≡ true → f p ≡ true) → (p : ℕ) → held_shallow b f (p + 1) ≡ true → held_shallow b f p ≡ true
held_lower true f lower p h =
    let q = and_parts (nat_lt (p + 1) 64) (f (p + 1 + 1)) h in
    let room : p + 1 < 64 = ltb-true (p + 1) 64 q.0 in
    and_true (nat_lt p 64) (f (p + 1)) (lt-ltb p 64 (omega arith)) (lower (p + 1) q.1)
held_lower false f lower p h = lower p h

-- what nests not too deep does so where one parenthesis fewer is open
lower : {c : Cond} → IsTextual c → (p : ℕ) → is_shallow c (p + 1) ≡ true → is_shallow c p ≡ true
lower (compares {l} {r} {o} h k) p e = shallow_cmp l r o p
lower (negates c h) p e = shallow_not c p ∙ held_lower (is_compound c) (is_shallow c) (lower h) p (sym (shallow_not c (p + 1)) ∙ e)
lower (joins a b h k) p e =
    let q = and_parts (held_shallow (is_or a) (is_shallow a) (p + 1)) (held_shallow (is_compound b) (is_shallow b) (p + 1)) (sym (shallow_and a b (p + 1)) ∙ e) in
    shallow_and a b p ∙ and_true _ _ (held_lower (is_or a) (is_shallow a) (lower h) p q.0) (held_lower (is_compound b) (is_shallow b) (lower k) p q.1)
lower (parts a b h k) p e =
    let q = and_parts (is_shallow a (p + 1)) (held_shallow (is_or b) (is_shallow b) (p + 1)) (sym (shallow_or a b (p + 1)) ∙ e) in
    shallow_or a b p ∙ and_true _ _ (lower h p q.0) (held_lower (is_or b) (is_shallow b) (lower k) p q.1)

-- what `neg`, `conj` and `cond` give where so many parentheses are open
abbrev pub IsNeg : ℕ → Cond → Type 0
IsNeg p c = IsTextual c × (held_shallow (is_compound c) (is_shallow c) p ≡ true)

abbrev pub IsConj : ℕ → Cond → Type 0
IsConj p c = IsTextual c × (held_shallow (is_or c) (is_shallow c) p ≡ true)

abbrev pub IsCond : ℕ → Cond → Type 0
IsCond p c = IsTextual c × (is_shallow c p ≡ true)

held_none : (p : ℕ) (b : Bool) (f : ℕ → Bool) → b ≡ false → f p ≡ true → held_shallow b f p ≡ true
held_none p b f none h = rw none h

held_some : (p : ℕ) (b : Bool) (f : ℕ → Bool) → b ≡ true → held_shallow b f p ≡ true → f (p + 1) ≡ true
held_some p b f is h = let g : (nat_lt p 64 && f (p + 1)) ≡ true = rw is at h in (and_parts (nat_lt p 64) (f (p + 1)) g).1

unheld : (p : ℕ) (b : Bool) (f : ℕ → Bool) → b ≡ false → held_shallow b f p ≡ true → f p ≡ true
unheld p b f none h = rw none at h

neg_is_conj : (p : ℕ) {c : Cond} → IsTextual c → held_shallow (is_compound c) (is_shallow c) p ≡ true → held_shallow (is_or c) (is_shallow c) p ≡ true
neg_is_conj p (compares {l} {r} {o} h k) e = let c = Cmp l o r in held_none p (is_or c) (is_shallow c) (ap is_or_at (outs-Cmp l o r)) (shallow_cmp l r o p)
neg_is_conj p (negates a h) e = let c = Not a in held_none p (is_or c) (is_shallow c) (ap is_or_at (outs-Not a)) (unheld p (is_compound c) (is_shallow c) (ap is_compound_at (outs-Not a)) e)
neg_is_conj p (joins a b h k) e = let c = And a b in held_none p (is_or c) (is_shallow c) (ap is_or_at (outs-And a b)) (lower (joins a b h k) p (held_some p (is_compound c) (is_shallow c) (ap is_compound_at (outs-And a b)) e))
neg_is_conj p (parts a b h k) e =
    let alike : is_or (Or a b) ≡ is_compound (Or a b) = ap is_or_at (outs-Or a b) ∙ sym (ap is_compound_at (outs-Or a b)) in
    ap (λ x. held_shallow x (is_shallow (Or a b)) p) alike ∙ e

conj_is_cond : (p : ℕ) {c : Cond} → IsTextual c → held_shallow (is_or c) (is_shallow c) p ≡ true → is_shallow c p ≡ true
conj_is_cond p (compares {l} {r} {o} h k) e = shallow_cmp l r o p
conj_is_cond p (negates a h) e = let c = Not a in unheld p (is_or c) (is_shallow c) (ap is_or_at (outs-Not a)) e
conj_is_cond p (joins a b h k) e = let c = And a b in unheld p (is_or c) (is_shallow c) (ap is_or_at (outs-And a b)) e
conj_is_cond p (parts a b h k) e = let c = Or a b in lower (parts a b h k) p (held_some p (is_or c) (is_shallow c) (ap is_or_at (outs-Or a b)) e)

-- a condition in parentheses
group_is_neg : (p : ℕ) (c : Cond) → p < 64 → IsCond (p + 1) c → IsNeg p c
group_is_neg p c room h = (h.0, held (is_compound c))
  where
    held : (b : Bool) → held_shallow b (is_shallow c) p ≡ true
    held true = and_true (nat_lt p 64) (is_shallow c (p + 1)) (lt-ltb p 64 room) h.1
    held false = lower h.0 p h.1

compare_good : (p : ℕ) → Good p p (IsNeg p) g.compare.read
compare_good p =
    bind_good p p p HasText (IsNeg p) g.operand.read (λ l. g.comparison.read >>= (λ o. g.operand.read >>= (λ r. pure (Cmp l o r)))) (operand_good p) (λ l hl.
    bind_good p p p (λ _. Unit {0}) (IsNeg p) g.comparison.read (λ o. g.operand.read >>= (λ r. pure (Cmp l o r))) (comparison_good p) (λ o _.
    bind_good p p p HasText (IsNeg p) g.operand.read (λ r. pure (Cmp l o r)) (operand_good p) (λ r hr.
    pure_good p (IsNeg p) (Cmp l o r) (compares hl hr, held_none p (is_compound (Cmp l o r)) (is_shallow (Cmp l o r)) (ap is_compound_at (outs-Cmp l o r)) (shallow_cmp l r o p)))))

negated_good : (p : ℕ) (n : Parser Cond) → Good p p (IsNeg p) n → Good p p (IsNeg p) (g.negated n).read
negated_good p n one =
    bind_good p p p (λ _. Unit {0}) (IsNeg p) (token s.Not).read (λ _. n >>= (λ c. pure (Not c))) (token_good p p s.Not refl) (λ _ _.
    bind_good p p p (IsNeg p) (IsNeg p) n (λ c. pure (Not c)) one (λ c h.
    pure_good p (IsNeg p) (Not c) (negates c h.0, held_none p (is_compound (Not c)) (is_shallow (Not c)) (ap is_compound_at (outs-Not c)) (shallow_not c p ∙ h.1))))

neg_of_good : (p : ℕ) (n c : Parser Cond) → Good p p (IsNeg p) n → Good (p + 1) (p + 1) (IsCond (p + 1)) c → Good p p (IsNeg p) (g.neg_of n c).read
neg_of_good p n c one two =
    or_good p p (IsNeg p) (g.negated n) (g.group c or g.compare) (negated_good p n one)
    (or_good p p (IsNeg p) (g.group c) g.compare (enclosed_good p (IsNeg p) c (λ room. weaken_good (p + 1) (p + 1) (IsCond (p + 1)) (IsNeg p) c (λ x h. group_is_neg p x room h) two)) (compare_good p))

conj_of_good : (p : ℕ) (neg : Part Cond) → Good p p (IsNeg p) neg.read → Good p p (IsConj p) (g.conj_of neg).read
conj_of_good p neg one =
    bind_good p p p (IsNeg p) (IsConj p) neg.read (λ first. each And (more neg s.And) first) one (λ x h.
    each_good p (IsConj p) (IsNeg p) And (more neg s.And) (bind_good p p p (λ _. Unit {0}) (IsNeg p) (token s.And).read (λ _. neg.read) (token_good p p s.And refl) (λ _ _. one))
    (λ a b ha hb. (joins a b ha.0 hb.0, held_none p (is_or (And a b)) (is_shallow (And a b)) (ap is_or_at (outs-And a b)) (shallow_and a b p ∙ and_true _ _ ha.1 hb.1)))
    x (h.0, neg_is_conj p h.0 h.1))

cond_of_good : (p : ℕ) (conj : Part Cond) → Good p p (IsConj p) conj.read → Good p p (IsCond p) (g.cond_of conj).read
cond_of_good p conj one =
    bind_good p p p (IsConj p) (IsCond p) conj.read (λ first. each Or (more conj s.Or) first) one (λ x h.
    each_good p (IsCond p) (IsConj p) Or (more conj s.Or) (bind_good p p p (λ _. Unit {0}) (IsConj p) (token s.Or).read (λ _. conj.read) (token_good p p s.Or refl) (λ _ _. one))
    (λ a b ha hb. (parts a b ha.0 hb.0, shallow_or a b p ∙ and_true _ _ ha.1 hb.1))
    x (h.0, conj_is_cond p h.0 h.1))

inner_good : (d p : ℕ) → Good p p (IsNeg p) (g.inner d).0 × Good p p (IsCond p) (g.inner d).1
unfolding g.inner
inner_good zero p = (fail_good p p (IsNeg p), fail_good p p (IsCond p))
inner_good (suc d) p =
    let neg = neg_of_good p (g.inner d).0 (g.inner d).1 (inner_good d p).0 (inner_good d (p + 1)).1 in
    (neg, cond_of_good p (g.conj_of (g.neg_of (g.inner d).0 (g.inner d).1)) (conj_of_good p (g.neg_of (g.inner d).0 (g.inner d).1) neg))

-- a condition has a text, and its printed form nests not too deep
pub condition_good : (d p : ℕ) → Good p p (IsCond p) (g.cond d).read
unfolding g.cond g.conj g.neg
condition_good d p =
    let neg = neg_of_good p (g.inner d).0 (g.inner d).1 (inner_good d p).0 (inner_good d (p + 1)).1 in
    cond_of_good p (g.conj_of (g.neg_of (g.inner d).0 (g.inner d).1)) (conj_of_good p (g.neg_of (g.inner d).0 (g.inner d).1) neg)
