-- What is read of a text has words, and its printed form has no more parentheses open at once than the text.
use Rattle.std.proofs.Common.{◌≡◌, ◌<◌, ◌≤◌, ℕ, zero, suc, ◌+◌, ◌-◌, Bool, true, false, ◌&&◌, List, length, Option, Some, Result, Ok, Err, refl, sym, ap, subst, ◌∙◌, arith}
use Rattle.std.specs.Prelude.{nat_lt}
use Rattle.std.proofs.lemmas.Bool.{lt-ltb, ltb-true, and_parts}
use Rattle.wh_base.specs.declared.cond.Cond.{Cond}
use Rattle.wh_expr.specs.declared.expr.Renaming.{Renaming}
use Rattle.wh_lex.specs.declared.token.Token.{Token}
use Rattle.wh_grammar.specs.declared.fault.TextFault.{TextFault}
use Rattle.wh_grammar.specs.declared.symbol.Symbol.{Symbol}
use Rattle.wh_grammar.specs.declared.symbol.Symbol.TheVariants as s
use Rattle.wh_grammar.specs.Grammar.{Input, Outcome, Parser, Part, ◌>>=◌, pure, next, place, start_of, token, valued, name, starts, enclosed, ◌or◌, each, separated}
use Rattle.wh_grammar.specs.Nesting.{parens_after}
use Rattle.wh_grammar.specs.Conditions as conditions
use Rattle.wh_grammar.specs.Printable.{IsName, IsTextual, compares, negates, joins, parts}
use Rattle.wh_grammar.specs.Printed.{is_or, is_compound, held_shallow, is_shallow}
use Rattle.wh_grammar.specs.Scanned.{scanned, read_tokens, value_of}
use Rattle.wh_grammar.proofs.CondLemmas.{taken_ok}
use Rattle.wh_grammar.proofs.PrintedLemmas.{shallow_cmp, shallow_not, shallow_and, shallow_or}
use Rattle.wh_grammar.proofs.Worded.{Fine, Good, passed, bind_good, pure_good, weaken_good, fail_good, token_good, name_good, scanned_fine}
use Rattle.wh_grammar.proofs.WordedParts.{or_good, each_good, AreSome, separated_good, enclosed_good, whole_good, IsCond, condition_good}
use Rattle.wh_query_text.specs.declared.raw.Infix.{Infix}
use Rattle.wh_query_text.specs.declared.raw.Infix.TheVariants as infixes
use Rattle.wh_query_text.specs.declared.raw.Prefix.{Prefix}
use Rattle.wh_query_text.specs.declared.raw.Prefix.TheVariants as prefixes
use Rattle.wh_query_text.specs.declared.raw.RawQuery.{RawQuery}
use Rattle.wh_query_text.specs.declared.raw.RawQuery.TheVariants.{Named, Behind, Between}
use Rattle.wh_query_text.specs.Queries as g
use Rattle.wh_query_text.specs.Queries.{noted, Further, attach, product_of, sum_of, any_query}
use Rattle.wh_query_text.specs.QueryTexts.{raw_of_text}

-- ---- parentheses of conditions

and_true : (x y : Bool) → x ≡ true → y ≡ true → (x && y) ≡ true
and_true true true h k = refl
and_true true false h k = k
and_true false y h k = h

held_lower : (b : Bool) (f : ℕ → Bool) → ((p : ℕ) → f (p + 1) ≡ true → f p ≡ true) → (p : ℕ) → held_shallow b f (p + 1) ≡ true → held_shallow b f p ≡ true
held_lower true f lower p h =
    let q = and_parts (nat_lt (p + 1) 64) (f (p + 1 + 1)) h in
    let room : p + 1 < 64 = ltb-true (p + 1) 64 q.0 in
    and_true (nat_lt p 64) (f (p + 1)) (lt-ltb p 64 (omega arith)) (lower (p + 1) q.1)
held_lower false f lower p h = lower p h

-- what nests not too deep does so where one parenthesis fewer is open
lower_cond : {c : Cond} → IsTextual c → (p : ℕ) → is_shallow c (p + 1) ≡ true → is_shallow c p ≡ true
lower_cond (compares {l} {r} {o} h k) p e = shallow_cmp l r o p
lower_cond (negates c h) p e = shallow_not c p ∙ held_lower (is_compound c) (is_shallow c) (lower_cond h) p (sym (shallow_not c (p + 1)) ∙ e)
lower_cond (joins a b h k) p e =
    let q = and_parts (held_shallow (is_or a) (is_shallow a) (p + 1)) (held_shallow (is_compound b) (is_shallow b) (p + 1)) (sym (shallow_and a b (p + 1)) ∙ e) in
    shallow_and a b p ∙ and_true _ _ (held_lower (is_or a) (is_shallow a) (lower_cond h) p q.0) (held_lower (is_compound b) (is_shallow b) (lower_cond k) p q.1)
lower_cond (parts a b h k) p e =
    let q = and_parts (is_shallow a (p + 1)) (held_shallow (is_or b) (is_shallow b) (p + 1)) (sym (shallow_or a b (p + 1)) ∙ e) in
    shallow_or a b p ∙ and_true _ _ (lower_cond h p q.0) (held_lower (is_or b) (is_shallow b) (lower_cond k) p q.1)

lower_by : {c : Cond} → IsTextual c → (n q : ℕ) → is_shallow c (q + n) ≡ true → is_shallow c q ≡ true
lower_by {c} h zero q e = let same : q + 0 ≡ q = omega arith in rw same at e
lower_by {c} h (suc n) q e = let same : q + suc n ≡ q + n + 1 = omega arith in lower_by h n q (lower_cond h (q + n) (rw same at e))

pub lower_to : {c : Cond} → IsTextual c → (p q : ℕ) → q ≤ p → is_shallow c p ≡ true → is_shallow c q ≡ true
lower_to {c} h p q le e = let same : p ≡ q + (p - q) = omega arith in lower_by h (p - q) q (subst (λ n. is_shallow c n ≡ true) same e)

-- ---- queries that have a text, where so many parentheses are open, with the level of their node

abbrev pub IsPair : Renaming → Type 0
IsPair r = IsName r.from × IsName r.to

abbrev pub IsPrefix : ℕ → Prefix → Type 0
IsPrefix p (prefixes.Project names) = (p < 64) × AreSome IsName names
IsPrefix p (prefixes.Select c) = (p < 64) × IsCond (p + 1) c
IsPrefix p (prefixes.Rename pairs) = (p < 64) × AreSome IsPair pairs

-- how tightly a word binds
abbrev pub word_level : Infix → ℕ
word_level infixes.Union = 1
word_level infixes.Minus = 1
word_level infixes.Join = 2

mutual
  pub data Fits : ℕ → ℕ → RawQuery → Type 0 where
    table : {p at : ℕ} {n : List ℕ} → IsName n → Fits p 3 (Named at n)
    behind : {p at : ℕ} {x : Prefix} {q : RawQuery} → IsPrefix p x → Held p 3 q → Fits p 3 (Behind at x q)
    between : {p at : ℕ} {a b : RawQuery} (o : Infix) → Held p (word_level o) a → Held p (word_level o + 1) b → Fits p (word_level o) (Between at o a b)

  -- the same of an operand that has to bind so tightly, in parentheses or not
  pub data Held : ℕ → ℕ → RawQuery → Type 0 where
    bare : {p l least : ℕ} {q : RawQuery} → least ≤ l → Fits p l q → Held p least q
    grouped : {p l least : ℕ} {q : RawQuery} → l < least → p < 64 → Fits (p + 1) l q → Held p least q

lower_prefix : (p : ℕ) (x : Prefix) → IsPrefix (p + 1) x → IsPrefix p x
lower_prefix p (prefixes.Project names) h = (omega (arith, h.0), h.1)
lower_prefix p (prefixes.Select c) h = (omega (arith, h.0), (h.1.0, lower_cond h.1.0 (p + 1) h.1.1))
lower_prefix p (prefixes.Rename pairs) h = (omega (arith, h.0), h.1)

mutual
  lower : {p l : ℕ} {q : RawQuery} → Fits p l q → (k : ℕ) → p ≡ k + 1 → Fits k l q
  lower (table h) k e = table h
  lower (behind {x} h f) k e = behind (lower_prefix k x (subst (λ n. IsPrefix n x) e h)) (lower_held f k e)
  lower (between o f g) k e = between o (lower_held f k e) (lower_held g k e)

  lower_held : {p least : ℕ} {q : RawQuery} → Held p least q → (k : ℕ) → p ≡ k + 1 → Held k least q
  lower_held (bare le f) k e = bare le (lower f k e)
  lower_held (grouped lt room f) k e = grouped lt (omega arith) (lower f (k + 1) (ap (λ n. n + 1) e))

-- a query in parentheses, as a factor
group_held : (k : ℕ) {p : ℕ} {q : RawQuery} → k < 64 → p ≡ k + 1 → Held p 1 q → Held k 3 q
group_held k room e (bare le (table h)) = bare (omega arith) (lower (table h) k e)
group_held k room e (bare le (behind h f)) = bare (omega arith) (lower (behind h f) k e)
group_held k room e (bare le (between {at} {a} {b} o f g)) = grouped (low o) room (subst (λ n. Fits n (word_level o) (Between at o a b)) e (between o f g))
  where
    low : (o : Infix) → word_level o < 3
    low infixes.Union = omega arith
    low infixes.Minus = omega arith
    low infixes.Join = omega arith
group_held k room e (grouped lt more (table h)) = absurd (omega arith)
group_held k room e (grouped lt more (behind h f)) = absurd (omega arith)
group_held k room e (grouped lt more (between o f g)) = absurd (high o lt)
  where
    high : (o : Infix) → word_level o < 1 → ⊥
    high infixes.Union h = omega arith
    high infixes.Minus h = omega arith
    high infixes.Join h = omega arith

-- a factor as a term
factor_held : {p : ℕ} {q : RawQuery} → Held p 3 q → Held p 2 q
factor_held (bare le f) = bare (omega arith) f
factor_held (grouped lt room (table h)) = absurd (omega arith)
factor_held (grouped lt room (behind h k)) = absurd (omega arith)
factor_held {p} (grouped lt room (between infixes.Union h k)) = grouped (omega arith) room (between infixes.Union h k)
factor_held {p} (grouped lt room (between infixes.Minus h k)) = grouped (omega arith) room (between infixes.Minus h k)
factor_held {p} (grouped lt room (between infixes.Join h k)) = bare (omega arith) (lower (between infixes.Join h k) p refl)

-- a term as a query
term_held : {p : ℕ} {q : RawQuery} → Held p 2 q → Held p 1 q
term_held (bare le f) = bare (omega arith) f
term_held (grouped lt room (table h)) = absurd (omega arith)
term_held (grouped lt room (behind h k)) = absurd (omega arith)
term_held {p} (grouped lt room (between infixes.Union h k)) = bare (omega arith) (lower (between infixes.Union h k) p refl)
term_held {p} (grouped lt room (between infixes.Minus h k)) = bare (omega arith) (lower (between infixes.Minus h k) p refl)
term_held {p} (grouped lt room (between infixes.Join h k)) = absurd (omega arith)

-- ---- what the readers give

abbrev Any : {A : Type 0} → A → Type 0
Any _ = Unit {0}

noted_good : {A B : Type 0} (p q r : ℕ) (Q : A → Type 0) (R : B → Type 0) (a : Part A) (f : ℕ → A → Parser B) → Good p q Q a.read → ((at : ℕ) (x : A) → Q x → Good q r R (f at x)) → Good p r R (noted a f).read
noted_good p q r Q R a f one two i x j e fine = bind_good p q r Q R a.read (f (place i)) one (two (place i)) i x j e fine

-- a prefix behind its word
word_good : {A : Type 0} (p : ℕ) (k : Symbol) (Q : A → Type 0) (m : Parser A) (f : A → Prefix) → parens_after p k ≡ p → Good p p Q m → ((x : A) → Q x → IsPrefix p (f x)) → Good p p (IsPrefix p) (starts (token k) (λ _. m >>= (λ x. pure (f x)))).read
word_good p k Q m f counts one h =
    bind_good p p p Any (IsPrefix p) (token k).read (λ _. m >>= (λ x. pure (f x))) (token_good p p k counts) (λ _ _.
    bind_good p p p Q (IsPrefix p) m (λ x. pure (f x)) one (λ x q. pure_good p (IsPrefix p) (f x) (h x q)))

-- with the room for its parenthesis
room_good : {A : Type 0} (p : ℕ) (Q : A → Type 0) (m : Parser A) → (p < 64 → Good (p + 1) (p + 1) Q m) → Good p p (λ x. (p < 64) × Q x) (enclosed m).read
room_good p Q m one = enclosed_good p (λ x. (p < 64) × Q x) m (λ room. weaken_good (p + 1) (p + 1) Q (λ x. (p < 64) × Q x) m (λ x q. (room, q)) (one room))

renaming_good : (p : ℕ) → Good p p IsPair g.renaming.read
renaming_good p =
    bind_good p p p IsName IsPair name.read (λ from. (token s.To).read >>= (λ _. name.read >>= (λ to. pure (record { from = from; to = to })))) (name_good p) (λ from hf.
    bind_good p p p Any IsPair (token s.To).read (λ _. name.read >>= (λ to. pure (record { from = from; to = to }))) (token_good p p s.To refl) (λ _ _.
    bind_good p p p IsName IsPair name.read (λ to. pure (record { from = from; to = to })) (name_good p) (λ to ht. pure_good p IsPair (record { from = from; to = to }) (hf, ht))))

before_good : (d p : ℕ) → Good p p (IsPrefix p) (g.before d).read
before_good d p =
    or_good p p (IsPrefix p) g.project (g.select d or g.rename)
    (word_good p s.Project (λ ns. (p < 64) × AreSome IsName ns) g.columns.read prefixes.Project refl (room_good p (AreSome IsName) (separated name s.Comma).read (λ _. separated_good (p + 1) IsName name s.Comma refl (name_good (p + 1)))) (λ x h. h))
    (or_good p p (IsPrefix p) (g.select d) g.rename
    (word_good p s.Select (λ c. (p < 64) × IsCond (p + 1) c) (g.selection d).read prefixes.Select refl (room_good p (IsCond (p + 1)) (conditions.cond d).read (λ _. condition_good d (p + 1))) (λ x h. h))
    (word_good p s.Rename (λ ps. (p < 64) × AreSome IsPair ps) g.renaming_columns.read prefixes.Rename refl (room_good p (AreSome IsPair) g.renamings.read (λ _. separated_good (p + 1) IsPair g.renaming s.Comma refl (renaming_good (p + 1)))) (λ x h. h)))

factor_of_good : (d p : ℕ) (n c : Parser RawQuery) → Good p p (Held p 3) n → Good (p + 1) (p + 1) (Held (p + 1) 1) c → Good p p (Held p 3) (g.factor_of d n c).read
factor_of_good d p n c one two =
    or_good p p (Held p 3) g.named (g.group c or g.prefixed d n)
    (noted_good p p p IsName (Held p 3) name (λ at m. pure (Named at m)) (name_good p) (λ at m h. pure_good p (Held p 3) (Named at m) (bare (omega arith) (table h))))
    (or_good p p (Held p 3) (g.group c) (g.prefixed d n)
    (enclosed_good p (Held p 3) c (λ room. weaken_good (p + 1) (p + 1) (Held (p + 1) 1) (Held p 3) c (λ x h. group_held p room refl h) two))
    (noted_good p p p (IsPrefix p) (Held p 3) (g.before d) (λ at x. n >>= (λ q. pure (Behind at x q))) (before_good d p) (λ at x hx.
    bind_good p p p (Held p 3) (Held p 3) n (λ q. pure (Behind at x q)) one (λ q hq. pure_good p (Held p 3) (Behind at x q) (bare (omega arith) (behind hx hq))))))

valued_good : (p : ℕ) (words : Symbol → Option Infix) (Q : Infix → Type 0) → ((t : Symbol) (o : Infix) → words t ≡ Some o → Q o × (parens_after p t ≡ p)) → Good p p Q (valued words).read
valued_good p words Q h i x j e fine =
    let t = taken_ok (words (next i)) i x j e in
    let k = h (next i) x t.0 in
    (subst (λ l. Fine p l) (sym t.1) (passed p p i (next i) refl k.1 fine), k.0)

chain_good : (p l : ℕ) (words : Symbol → Option Infix) (m : Part RawQuery) → ((t : Symbol) (o : Infix) → words t ≡ Some o → (word_level o ≡ l) × (parens_after p t ≡ p)) → Good p p (Held p (l + 1)) m.read → ((q : RawQuery) → Held p (l + 1) q → Held p l q)
    → Good p p (Held p l) (g.chain words m).read
chain_good p l words m known one weaker =
    let R : Further → Type 0 = λ f. (word_level f.by ≡ l) × Held p (l + 1) f.right in
    bind_good p p p (Held p (l + 1)) (Held p l) m.read (λ first. each attach (g.further words m) first) one (λ x h.
    each_good p (Held p l) R attach (g.further words m)
    (noted_good p p p (λ o. word_level o ≡ l) R (valued words) (λ at o. m.read >>= (λ q. pure (record { at = at; by = o; right = q }))) (valued_good p words (λ o. word_level o ≡ l) known) (λ at o ho.
    bind_good p p p (Held p (l + 1)) R m.read (λ q. pure (record { at = at; by = o; right = q })) one (λ q hq. pure_good p R (record { at = at; by = o; right = q }) (ho, hq))))
    (λ a f ha hf. bare (omega (arith, hf.0)) (between f.by (subst (λ n. Held p n a) (sym hf.0) ha) (subst (λ n. Held p (n + 1) f.right) (sym hf.0) hf.1)))
    x (weaker x h))

join_level : (p : ℕ) (t : Symbol) (o : Infix) → product_of t ≡ Some o → (word_level o ≡ 2) × (parens_after p t ≡ p)
join_level p s.Join o e = let same-word : infixes.Join ≡ o = cc in (ap word_level (sym same-word), refl)
join_level p _ o e = absurd cc

sum_level : (p : ℕ) (t : Symbol) (o : Infix) → sum_of t ≡ Some o → (word_level o ≡ 1) × (parens_after p t ≡ p)
sum_level p s.Union o e = let same-word : infixes.Union ≡ o = cc in (ap word_level (sym same-word), refl)
sum_level p s.Minus o e = let same-word : infixes.Minus ≡ o = cc in (ap word_level (sym same-word), refl)
sum_level p _ o e = absurd cc

chains_good : (p : ℕ) (m : Part RawQuery) → Good p p (Held p 3) m.read → Good p p (Held p 1) (g.chain sum_of (g.chain product_of m)).read
chains_good p m one = chain_good p 1 sum_of (g.chain product_of m) (sum_level p) (chain_good p 2 product_of m (join_level p) one (λ q h. factor_held h)) (λ q h. term_held h)

inner_good : (d p : ℕ) → Good p p (Held p 3) (g.inner d).0 × Good p p (Held p 1) (g.inner d).1
unfolding g.inner
inner_good zero p = (fail_good p p (Held p 3), fail_good p p (Held p 1))
inner_good (suc d) p =
    let f = factor_of_good d p (g.inner d).0 (g.inner d).1 (inner_good d p).0 (inner_good d (p + 1)).1 in
    (f, chains_good p (g.factor_of d (g.inner d).0 (g.inner d).1) f)

query_good : (d p : ℕ) → Good p p (Held p 1) (g.query d).read
unfolding g.query g.term g.factor
query_good d p = chains_good p (g.factor_of d (g.inner d).0 (g.inner d).1) (factor_of_good d p (g.inner d).0 (g.inner d).1 (inner_good d p).0 (inner_good d (p + 1)).1)

-- ---- a whole text

same_value : {A : Type 0} (a b : A) (r : Result A TextFault) → r ≡ Ok a → r ≡ Ok b → a ≡ b
same_value a b r x y = cc

value_ok : {A : Type 0} (o : Outcome A) (x : A) → value_of o ≡ Ok x → (j : Input) × (o ≡ Ok (x, j))
value_ok {A} (Ok p) x e = (p.1, ap (λ (v : A). Ok (v, p.1)) (same_value p.0 x (value_of (Ok p)) refl e))
value_ok (Err d) x e = absurd cc

read_fits : (t : List ℕ) (raw : RawQuery) (r : Result (List Token) TextFault) → scanned t ≡ r → read_tokens any_query t r ≡ Ok raw → Held 0 1 raw
read_fits t raw (Err e) is h = absurd cc
read_fits t raw (Ok tokens) is h =
    let i = start_of t tokens in
    let o = value_ok (any_query i) raw h in
    (whole_good 0 (Held 0 1) (g.query (length i.ahead)).read (query_good (length i.ahead) 0) i raw o.0 o.1 (scanned_fine t tokens is)).1

pub raw_fits : (text : List ℕ) (raw : RawQuery) → raw_of_text text ≡ Ok raw → Held 0 1 raw
unfolding raw_of_text
raw_fits text raw e = read_fits text raw (scanned text) refl e
