-- What a part takes, and the steps of a repeated part.
use Rattle.std.proofs.Common.{◌||◌, ◌≢◌, rules, ◌≡◌, ◌<◌, ◌≤◌, ℕ, zero, suc, ◌-◌, Bool, true, false, cond, List, [], ◌∷◌, ◌++◌, length, Option, Some, None, Ok, Err, refl, sym, ap, ◌∙◌, arith, inl, inr, length-drop}
use Rattle.std.proofs.lemmas.Bool.{cases_Bool}
use denote.Enum.Bare.{same_true}
use Rattle.wh_grammar.specs.contracts.symbol.Symbol.{the_type}
use Rattle.wh_grammar.specs.declared.symbol.Symbol.{Symbol}
use Rattle.wh_grammar.specs.declared.symbol.Symbol.TheVariants.{End, Name, LeftParen, RightParen}
use Rattle.wh_grammar.specs.declared.fault.TextFault.{TextFault}
use Rattle.wh_grammar.specs.Grammar.{Input, Lexeme, Outcome, Parser, Part, and_then, ◌>>=◌, pure, refusal, next, after, spelling, symbol_of, same, token, name, starts, enclosed, ◌or◌, maybe, each_from, each, push, more, separated, fail, whole}

-- how many tokens an input has
abbrev pub left : Input → ℕ
left i = length i.ahead

-- a reader never gives tokens back
abbrev pub Keeps : {A : Type 0} → Parser A → Type 0
Keeps {A} p = (i : Input) (x : A) (j : Input) → p i ≡ Ok (x, j) → left j ≤ left i

-- a part takes a token or more
abbrev pub Takes : {A : Type 0} → Parser A → Type 0
Takes {A} p = (i : Input) (x : A) (j : Input) → p i ≡ Ok (x, j) → left j < left i

-- ---- the outcome of a sequence

pub bind_ok : {A B : Type 0} (r : Outcome A) (f : A → Parser B) (y : B) (j : Input) → and_then r f ≡ Ok (y, j) → (x : A) × (k : Input) × (r ≡ Ok (x, k)) × (f x k ≡ Ok (y, j))
bind_ok (Ok p) f y j e = (p.0, p.1, refl, e)
bind_ok (Err d) f y j e = absurd cc

pub bind_same : {A B : Type 0} (r : Outcome A) (f g : A → Parser B) → ((x : A) (j : Input) → r ≡ Ok (x, j) → f x j ≡ g x j) → and_then r f ≡ and_then r g
bind_same (Ok p) f g h = h p.0 p.1 refl
bind_same (Err d) f g h = refl

-- ---- what sequences take

pub bind_keeps : {A B : Type 0} (p : Parser A) (f : A → Parser B) → Keeps p → ((x : A) → Keeps (f x)) → Keeps (p >>= f)
bind_keeps p f hp hf i y j e =
    let b = bind_ok (p i) f y j e in
    omega (arith, hp i b.0 b.1 b.2, hf b.0 b.1 y j b.3)

pub bind_takes : {A B : Type 0} (p : Parser A) (f : A → Parser B) → Takes p → ((x : A) → Keeps (f x)) → Takes (p >>= f)
bind_takes p f hp hf i y j e =
    let b = bind_ok (p i) f y j e in
    omega (arith, hp i b.0 b.1 b.2, hf b.0 b.1 y j b.3)

pub takes_keeps : {A : Type 0} (p : Parser A) → Takes p → Keeps p
takes_keeps p h i x j e = omega (arith, h i x j e)

input_or : {A : Type 0} → Input → Outcome A → Input
input_or i (Ok p) = p.1
input_or i (Err d) = i

value_or : {A : Type 0} → A → Outcome A → A
value_or x (Ok p) = p.0
value_or x (Err d) = x

abbrev pub read_ok : {A : Type 0} → A → Input → Outcome A
read_ok x i = Ok (x, i)

pub ok_value : {A : Type 0} (x y : A) (i j : Input) → read_ok x i ≡ read_ok y j → x ≡ y
unfolding value_or
ok_value {A} x y i j e = ap (λ (r : Outcome A). value_or x r) e

pub ok_input : {A : Type 0} (x y : A) (i j : Input) → read_ok x i ≡ read_ok y j → i ≡ j
unfolding input_or
ok_input {A} x y i j e = ap (λ (r : Outcome A). input_or i r) e

pub pure_keeps : {A : Type 0} (x : A) → Keeps (pure x)
pure_keeps {A} x i y j e = let same-input : i ≡ j = ok_input x y i j e in omega (arith, ap left same-input)

-- ---- a single token

-- a test that did not fail
pub guard_ok : {A : Type 0} (b : Bool) (d : TextFault) (x y : A) (k j : Input) → cond {A = Outcome A} b (Ok (x, k)) (Err d) ≡ Ok (y, j) → (b ≡ true) × (k ≡ j)
guard_ok true d x y k j e = (refl, ok_input x y k j e)
guard_ok false d x y k j e = absurd cc

some_ahead : (ts : List Lexeme) (s : Symbol) → same End s ≡ false → same (symbol_of ts) s ≡ true → 0 < length ts
some_ahead [] s other is = absurd cc
some_ahead (t ∷ ts) s other is = omega arith

pub token_takes : (s : Symbol) → same End s ≡ false → Takes (token s).read
unfolding next after
token_takes s other i x j e =
    let g = guard_ok (same (next i) s) (refusal i) tt x (after i) j e in
    let some : 0 < left i = some_ahead i.ahead s other g.0 in
    omega (arith, ap left g.1, length-drop 1 i.ahead)

pub name_takes : Takes name.read
unfolding next after same
name_takes i x j e =
    let g = guard_ok (same (next i) Name) (refusal i) (spelling i) x (after i) j e in
    let some : 0 < left i = some_ahead i.ahead Name refl g.0 in
    omega (arith, ap left g.1, length-drop 1 i.ahead)

-- ---- a repeated part

enough : {A B : Type 0} (f : A → B → A) (p : Part B) → Takes p.read → (n m : ℕ) (a : A) (i : Input) → left i < n → left i < m → each_from f p n a i ≡ each_from f p m a i
unfolding each_from
enough f p takes zero m a i hn hm = absurd (omega arith)
enough f p takes (suc n) zero a i hn hm = absurd (omega arith)
enough f p takes (suc n) (suc m) a i hn hm =
    ap (λ x. cond (p.begins (next i)) x (Ok (a, i)))
    (bind_same (p.read i) (λ b. each_from f p n (f a b)) (λ b. each_from f p m (f a b)) (λ b j e. enough f p takes n m (f a b) j (omega (arith, takes i b j e)) (omega (arith, takes i b j e))))

pub each_stops : {A B : Type 0} (f : A → B → A) (p : Part B) (a : A) (i : Input) → p.begins (next i) ≡ false → each f p a i ≡ Ok (a, i)
unfolding each each_from
each_stops f p a i stop = rw stop refl

pub each_goes : {A B : Type 0} (f : A → B → A) (p : Part B) (a : A) (i : Input) → Takes p.read → p.begins (next i) ≡ true → each f p a i ≡ and_then (p.read i) (λ b. each f p (f a b))
unfolding each each_from
each_goes f p a i takes go =
    rw go (bind_same (p.read i) (λ b. each_from f p (left i) (f a b)) (λ b. each f p (f a b)) (λ b j e. enough f p takes (left i) (suc (left j)) (f a b) j (takes i b j e) (omega arith)))

each_turn_keeps : {A : Type 0} (b : Bool) (p : Parser A) (a : A) → Keeps p → (i : Input) (x : A) (j : Input) → cond b (p i) (Ok (a, i)) ≡ Ok (x, j) → left j ≤ left i
each_turn_keeps true p a keeps i x j e = keeps i x j e
each_turn_keeps false p a keeps i x j e = pure_keeps a i x j e

each_from_keeps : {A B : Type 0} (f : A → B → A) (p : Part B) → Takes p.read → (n : ℕ) (a : A) → Keeps (each_from f p n a)
unfolding each_from
each_from_keeps f p takes zero a i x j e = pure_keeps a i x j e
each_from_keeps f p takes (suc n) a i x j e = each_turn_keeps (p.begins (next i)) (p.read >>= (λ b. each_from f p n (f a b))) a (bind_keeps p.read (λ b. each_from f p n (f a b)) (takes_keeps p.read takes) (λ b. each_from_keeps f p takes n (f a b))) i x j e

pub each_keeps : {A B : Type 0} (f : A → B → A) (p : Part B) → Takes p.read → (a : A) → Keeps (each f p a)
unfolding each
each_keeps f p takes a i x j e = each_from_keeps f p takes (suc (left i)) a i x j e

-- ---- parts of parts

pub more_takes : {A : Type 0} (p : Part A) (s : Symbol) → same End s ≡ false → Takes p.read → Takes (more p s).read
more_takes p s other takes = bind_takes (token s).read (λ _. p.read) (token_takes s other) (λ _. takes_keeps p.read takes)

pub separated_takes : {A : Type 0} (p : Part A) (s : Symbol) → same End s ≡ false → Takes p.read → Takes (separated p s).read
separated_takes p s other takes = bind_takes p.read (λ first. each push (more p s) (first ∷ [])) takes (λ first. each_keeps push (more p s) (more_takes p s other takes) (first ∷ []))

-- the two steps of a loop over what a symbol separates

pub more_stops : {A : Type 0} (p : Part A) (s : Symbol) (a : List A) (i : Input) → same (next i) s ≡ false → each push (more p s) a i ≡ Ok (a, i)
more_stops p s a i stop = each_stops push (more p s) a i stop

pub more_goes : {A : Type 0} (p : Part A) (s : Symbol) (a : List A) (i : Input) → same End s ≡ false → Takes p.read → same (next i) s ≡ true → each push (more p s) a i ≡ and_then (p.read (after i)) (λ x. each push (more p s) (a ++ x ∷ []))
more_goes p s a i other takes go = each_goes push (more p s) a i (more_takes p s other takes) go ∙ rw go refl

pub after_keeps : (i : Input) → left (after i) ≤ left i
unfolding after
after_keeps i = omega (arith, length-drop 1 i.ahead)

-- a turn that passes a token and then takes a part leaves fewer tokens
pub turn_takes : {A : Type 0} (p : Part A) → Takes p.read → (i k j : Input) (x : A) → k ≡ after i → p.read k ≡ Ok (x, j) → left j < left i
turn_takes p takes i k j x e h = omega (arith, takes k x j h, after_keeps i, ap left e)

cond_takes : {A : Type 0} (b : Bool) (p q : Parser A) → Takes p → Takes q → (i : Input) (x : A) (j : Input) → cond b (p i) (q i) ≡ Ok (x, j) → left j < left i
cond_takes true p q hp hq i x j e = hp i x j e
cond_takes false p q hp hq i x j e = hq i x j e

pub fail_takes : {A : Type 0} → Takes (fail {A = A})
fail_takes i x j e = absurd cc

pub or_takes : {A : Type 0} (p q : Part A) → Takes p.read → Takes q.read → Takes (p or q).read
or_takes p q hp hq i x j e =
    cond_takes (p.begins (next i)) p.read (λ k. cond (q.begins (next i)) (q.read k) (fail k)) hp (λ k y l d. cond_takes (q.begins (next i)) q.read fail hq fail_takes k y l d) i x j e

-- ---- a part fails at the next token where it cannot begin with it

abbrev pub Refuses : {A : Type 0} → Part A → Type 0
Refuses p = (i : Input) → p.begins (next i) ≡ false → p.read i ≡ fail i

pub starts_refuses : {A B : Type 0} (p : Part A) (f : A → Parser B) → Refuses p → Refuses (starts p f)
starts_refuses p f refuses i other = ap (λ r. and_then r f) (refuses i other)

or_false : (x y : Bool) → (x || y) ≡ false → (x ≡ false) × (y ≡ false)
or_false false false e = (refl, refl)
or_false true y e = absurd cc
or_false false true e = absurd cc

pub or_refuses : {A : Type 0} (p q : Part A) → Refuses (p or q)
or_refuses p q i other =
    let o = or_false (p.begins (next i)) (q.begins (next i)) other in
    rw (o.0, o.1) refl

-- ---- a repeated part up to the end

and_then-assoc : {A B C : Type 0} (r : Outcome A) (f : A → Parser B) (g : B → Parser C) → and_then (and_then r f) g ≡ and_then r (λ x j. and_then (f x j) g)
and_then-assoc (Ok p) f g = refl
and_then-assoc (Err e) f g = refl

whole_turn : {A B : Type 0} (b : Bool) (f : A → B → A) (p : Part B) (a : A) (i : Input) → Takes p.read → Refuses p → same (next i) End ≡ false → p.begins (next i) ≡ b
    → whole (each f p a) i ≡ and_then (p.read i) (λ x. whole (each f p (f a x)))
whole_turn true f p a i takes refuses some is = rw (each_goes f p a i takes is) (and_then-assoc (p.read i) (λ x. each f p (f a x)) (λ y j. cond (same (next j) End) (Ok (y, j)) (fail j)))
whole_turn false f p a i takes refuses some is = rw (each_stops f p a i is, refuses i is, some) refl

pub whole_goes : {A B : Type 0} (f : A → B → A) (p : Part B) (a : A) (i : Input) → Takes p.read → Refuses p → same (next i) End ≡ false
    → whole (each f p a) i ≡ and_then (p.read i) (λ x. whole (each f p (f a x)))
whole_goes f p a i takes refuses some = whole_turn (p.begins (next i)) f p a i takes refuses some refl

pub whole_stops : {A B : Type 0} (f : A → B → A) (p : Part B) (a : A) (i : Input) → same (next i) End ≡ true → p.begins (next i) ≡ false → whole (each f p a) i ≡ Ok (a, i)
whole_stops f p a i done other = rw (each_stops f p a i other, done) refl

last : {A : Type 0} (b : Bool) (x y : Outcome A) → (b ≡ false → x ≡ y) → cond b x y ≡ x
last true x y h = refl
last false x y h = sym (h refl)

-- the last part of a choice
pub or_else : {A : Type 0} (p q : Part A) (i : Input) → Refuses q → p.begins (next i) ≡ false → (p or q).read i ≡ q.read i
or_else p q i refuses other = rw other (last (q.begins (next i)) (q.read i) (fail i) (refuses i))

-- ---- a chain: a part, and then parts behind a symbol, taken in from the left

pub chain_takes : {A : Type 0} (f : A → A → A) (p : Part A) (s : Symbol) → same End s ≡ false → Takes p.read → Takes (starts p (λ first. each f (more p s) first)).read
chain_takes f p s other takes = bind_takes p.read (λ first. each f (more p s) first) takes (λ first. each_keeps f (more p s) (more_takes p s other takes) first)

pub chain_goes : {A : Type 0} (f : A → A → A) (p : Part A) (s : Symbol) (a : A) (i : Input) → same End s ≡ false → Takes p.read → same (next i) s ≡ true → each f (more p s) a i ≡ and_then (p.read (after i)) (λ x. each f (more p s) (f a x))
chain_goes f p s a i other takes go = each_goes f (more p s) a i (more_takes p s other takes) go ∙ rw go refl

pub same_is : (t s : Symbol) → same t s ≡ true → t ≡ s
unfolding same
same_is t s h = same_true the_type (search rules) _ _ h

pub other_than : (t s : Symbol) → t ≢ s → same t s ≡ false
other_than t s h = elim (cases_Bool (same t s)) [ inl e ↦ absurd (h (same_is t s e)) | inr e ↦ e ]

pub after_is : (i : Input) → left (after i) ≡ left i - 1
unfolding after
after_is i = length-drop 1 i.ahead

-- ---- an optional part

maybe_turn : {A : Type 0} (b : Bool) (p : Part A) → Keeps p.read → (i : Input) (x : Option A) (j : Input) → cond b (and_then (p.read i) (λ a. pure (Some a))) (Ok (None, i)) ≡ Ok (x, j) → left j ≤ left i
maybe_turn true p keeps i x j e = bind_keeps p.read (λ a. pure (Some a)) keeps (λ a. pure_keeps (Some a)) i x j e
maybe_turn false p keeps i x j e = pure_keeps None i x j e

pub maybe_keeps : {A : Type 0} (p : Part A) → Keeps p.read → Keeps (maybe p)
maybe_keeps p keeps i x j e = maybe_turn (p.begins (next i)) p keeps i x j e

pub enclosed_takes : {A : Type 0} (p : Parser A) → Keeps p → Takes (enclosed p).read
unfolding same
enclosed_takes p keeps =
    bind_takes (token LeftParen).read (λ _. p >>= (λ x. (token RightParen).read >>= (λ _. pure x))) (token_takes LeftParen refl)
    (λ _. bind_keeps p (λ x. (token RightParen).read >>= (λ _. pure x)) keeps
    (λ x. bind_keeps (token RightParen).read (λ _. pure x) (takes_keeps (token RightParen).read (token_takes RightParen refl)) (λ _. pure_keeps x)))
