-- What is read of the tokens of a text is made of the words, the numbers and the texts that stand there, in parentheses that are not too many.
use Rattle.std.proofs.Common.{◌≡◌, ◌<◌, ℕ, ◌+◌, Bool, true, false, cond, List, [], ◌∷◌, ◌++◌, drop, Option, Some, None, Result, Ok, Err, refl, ap, subst, ◌∙◌, arith}
use Rattle.std.specs.List.{AllByRecursion}
use Rattle.std.proofs.lemmas.Bool.{leb-false}
use Rattle.wh_lex.specs.declared.token.Token.{Token}
use Rattle.wh_lex.specs.declared.token.TokenKind.{TokenKind}
use Rattle.wh_lex.specs.declared.token.TokenKind.TheVariants as kinds
use Rattle.wh_lex.specs.declared.fault.LexFault.{LexFault}
use Rattle.wh_lex.specs.Front.{Piece}
use Rattle.wh_lex.specs.Lexes.{Stand, Lexes}
use Rattle.wh_lex.specs.Lexed.{lexed}
use Rattle.wh_lex.proofs.LexedLemmas.{lexes_every_text}
use Rattle.wh_lex.proofs.SpelledLemmas.{IsSpelled, Sound, front_sound}
use Rattle.wh_grammar.specs.declared.symbol.Symbol.{Symbol}
use Rattle.wh_grammar.specs.declared.symbol.Symbol.TheVariants as s
use Rattle.wh_grammar.specs.Symbols.{symbol, lookup, marks}
use Rattle.wh_grammar.specs.Grammar.{Input, Lexeme, Outcome, Parser, ◌>>=◌, pure, fail, refusal, same, next, after, spelling, symbol_of, start_of, token, name, more}
use Rattle.wh_grammar.specs.Nesting.{is_too_deep, parens_after, connectives_after, too_nested}
use Rattle.wh_grammar.specs.Scanned.{scanned, scanned_tokens, if_shallow}
use Rattle.wh_grammar.specs.Printable.{IsName}
use Rattle.wh_grammar.proofs.GrammarLemmas.{bind_ok, guard_ok, ok_value, ok_input, same_is}
use Rattle.wh_grammar.proofs.CondDataLemmas.{lookup_no}
use Rattle.wh_grammar.proofs.Segments.{lexemes, lexeme_of, map_lexemes}

-- ---- the tokens of a text

abbrev pub IsWorded : Lexeme → Type 0
IsWorded t = IsSpelled t.kind t.bytes

pub all_append : {A : Type 0} (P : A → Type 0) (xs ys : List A) → AllByRecursion P xs → AllByRecursion P ys → AllByRecursion P (xs ++ ys)
all_append P [] ys h k = k
all_append P (x ∷ xs) ys h k = (h.0, all_append P xs ys h.1 k)

piece_worded : (at : ℕ) (z : List ℕ) (p : Piece) → Sound z (Ok p) → AllByRecursion IsWorded (lexeme_of at z p)
piece_worded at z (None, n) h = tt
piece_worded at z (Some k, n) h = (h, tt)

lexemes_worded : (at : ℕ) (z rest : List ℕ) (ps : List Piece) → Stand at z ps rest → AllByRecursion IsWorded (lexemes at z ps)
lexemes_worded at z rest [] stand = tt
lexemes_worded at z rest (p ∷ ps) stand =
    all_append IsWorded (lexeme_of at z p) (lexemes (at + p.1) (drop p.1 z) ps)
    (piece_worded at z p (subst (λ r. Sound z r) stand.1 (front_sound at z stand.0)))
    (lexemes_worded (at + p.1) (drop p.1 z) rest ps stand.2)

lexed_worded : (text : List ℕ) (tokens : List Token) → lexed text ≡ Ok tokens → AllByRecursion IsWorded (start_of text tokens).ahead
lexed_worded text tokens e =
    let h : Lexes text (Ok tokens) = subst (λ (r : Result (List Token) LexFault). Lexes text r) e (lexes_every_text text) in
    let found = map_lexemes [] text [] 0 h.0 refl h.1 in
    rw (h.2, found) (lexemes_worded 0 text [] h.0 h.1)

shallow_ok : (deep : Option ℕ) (ts tokens : List Token) → if_shallow deep ts ≡ Ok tokens → (deep ≡ None) × (ts ≡ tokens)
shallow_ok None ts tokens e = (refl, cc)
shallow_ok (Some at) ts tokens e = absurd cc

scanned_ok : (text : List ℕ) (tokens : List Token) (r : Result (List Token) LexFault) → lexed text ≡ r → scanned_tokens text r ≡ Ok tokens → (lexed text ≡ Ok tokens) × (too_nested 0 0 (start_of text tokens).ahead ≡ None)
scanned_ok text tokens (Err fault) e h = absurd cc
scanned_ok text tokens (Ok ts) e h =
    let k = shallow_ok (too_nested 0 0 (start_of text ts).ahead) ts tokens h in
    (e ∙ ap Ok k.1, subst (λ us. too_nested 0 0 (start_of text us).ahead ≡ None) k.1 k.0)

-- ---- parentheses that are not too many

abbrev pub Opens : ℕ → Symbol → Type 0
Opens p s.LeftParen = p < 64
Opens p _ = Unit {0}

abbrev pub Flat : ℕ → List Lexeme → Type 0
Flat p [] = Unit {0}
Flat p (t ∷ ts) = Opens p (symbol t.kind t.bytes) × Flat (parens_after p (symbol t.kind t.bytes)) ts

opens_from : (p k : ℕ) (t : Symbol) → is_too_deep p k t ≡ false → Opens p t
opens_from p k s.LeftParen h = leb-false 64 p h
opens_from p k _ h = tt

flat_turn : (p k : ℕ) (t : Lexeme) (ts : List Lexeme) (b : Bool) → is_too_deep p k (symbol t.kind t.bytes) ≡ b
    → cond b (Some t.from) (too_nested (parens_after p (symbol t.kind t.bytes)) (connectives_after k (symbol t.kind t.bytes)) ts) ≡ None
    → (too_nested (parens_after p (symbol t.kind t.bytes)) (connectives_after k (symbol t.kind t.bytes)) ts ≡ None → Flat (parens_after p (symbol t.kind t.bytes)) ts) → Flat p (t ∷ ts)
flat_turn p k t ts true e h more = absurd cc
flat_turn p k t ts false e h more = (opens_from p k (symbol t.kind t.bytes) e, more h)

flat_from : (p k : ℕ) (ts : List Lexeme) → too_nested p k ts ≡ None → Flat p ts
flat_from p k [] h = tt
flat_from p k (t ∷ ts) h =
    flat_turn p k t ts (is_too_deep p k (symbol t.kind t.bytes)) refl h
    (λ rest. flat_from (parens_after p (symbol t.kind t.bytes)) (connectives_after k (symbol t.kind t.bytes)) ts rest)

-- ---- what a reader gives where so many parentheses are open before, and so many behind

abbrev pub Fine : ℕ → Input → Type 0
Fine p i = AllByRecursion IsWorded i.ahead × Flat p i.ahead

pub scanned_fine : (text : List ℕ) (tokens : List Token) → scanned text ≡ Ok tokens → Fine 0 (start_of text tokens)
unfolding scanned
scanned_fine text tokens e =
    let h = scanned_ok text tokens (lexed text) refl e in
    (lexed_worded text tokens h.0, flat_from 0 0 (start_of text tokens).ahead h.1)

abbrev pub Good : {A : Type 0} → ℕ → ℕ → (A → Type 0) → Parser A → Type 0
Good {A} p q Q m = (i : Input) (x : A) (j : Input) → m i ≡ Ok (x, j) → Fine p i → Fine q j × Q x

pub bind_good : {A B : Type 0} (p q r : ℕ) (Q : A → Type 0) (R : B → Type 0) (m : Parser A) (f : A → Parser B) → Good p q Q m → ((x : A) → Q x → Good q r R (f x)) → Good p r R (m >>= f)
bind_good p q r Q R m f one two i y j e fine =
    let b = bind_ok (m i) f y j e in
    let l = one i b.0 b.1 b.2 fine in
    two b.0 l.1 b.1 y j b.3 l.0

pub pure_good : {A : Type 0} (p : ℕ) (Q : A → Type 0) (x : A) → Q x → Good p p Q (pure x)
pure_good {A} p Q x h i y j e fine =
    let same-value : x ≡ y = ok_value x y i j e in
    let same-input : i ≡ j = ok_input x y i j e in
    (subst (λ k. Fine p k) same-input fine, subst Q same-value h)

pub weaken_good : {A : Type 0} (p q : ℕ) (Q R : A → Type 0) (m : Parser A) → ((x : A) → Q x → R x) → Good p q Q m → Good p q R m
weaken_good p q Q R m h one i x j e fine = let l = one i x j e fine in (l.0, h x l.1)

pub fail_good : {A : Type 0} (p q : ℕ) (Q : A → Type 0) → Good p q Q (fail {A = A})
fail_good p q Q i x j e fine = absurd cc

-- ---- tokens

-- the token that was passed, and the state behind it
passed_at : (p q end : ℕ) (ts : List Lexeme) (k : Symbol) → symbol_of ts ≡ k → parens_after p k ≡ q → Fine p (record { ahead = ts; end = end }) → Fine q (after (record { ahead = ts; end = end }))
unfolding after
passed_at p q end [] k is counts fine = (tt, tt)
passed_at p q end (t ∷ ts) k is counts fine = (fine.0.1, subst (λ n. Flat n ts) counts (rw is at fine.1.1))

pub passed : (p q : ℕ) (i : Input) (k : Symbol) → next i ≡ k → parens_after p k ≡ q → Fine p i → Fine q (after i)
unfolding next
passed p q i k is counts fine = passed_at p q i.end i.ahead k is counts fine

pub token_good : (p q : ℕ) (k : Symbol) → parens_after p k ≡ q → Good p q (λ _. Unit {0}) (token k).read
token_good p q k counts i x j e fine =
    let g = guard_ok (same (next i) k) (refusal i) tt x (after i) j e in
    (subst (λ l. Fine q l) g.1 (passed p q i k (same_is (next i) k g.0) counts fine), tt)

opens_at : (p end : ℕ) (ts : List Lexeme) → symbol_of ts ≡ s.LeftParen → Fine p (record { ahead = ts; end = end }) → p < 64
opens_at p end [] is fine = absurd cc
opens_at p end (t ∷ ts) is fine = rw is at fine.1.0

pub open_good : (p : ℕ) → Good p (p + 1) (λ _. p < 64) (token s.LeftParen).read
unfolding next
open_good p i x j e fine =
    let g = guard_ok (same (next i) s.LeftParen) (refusal i) tt x (after i) j e in
    let is = same_is (next i) s.LeftParen g.0 in
    (subst (λ l. Fine (p + 1) l) g.1 (passed p (p + 1) i s.LeftParen is refl fine), opens_at p i.end i.ahead is fine)

pub close_good : (p : ℕ) → Good (p + 1) p (λ _. Unit {0}) (token s.RightParen).read
close_good p = token_good (p + 1) p s.RightParen (omega arith)

-- a token whose symbol is that of a name is a word
is_name_mark : (bytes : List ℕ) → same (lookup marks bytes s.End) s.Name ≡ false
unfolding same
is_name_mark bytes = lookup_no (λ t. same t s.Name) marks bytes s.End refl refl

name_token : (kind : TokenKind) (bytes : List ℕ) → symbol kind bytes ≡ s.Name → IsSpelled kind bytes → IsName bytes
unfolding symbol same
name_token kinds.Word bytes is h = (h, is)
name_token (kinds.Int v) bytes is h = absurd cc
name_token (kinds.Text v) bytes is h = absurd cc
name_token kinds.Mark bytes is h = let e = is_name_mark bytes in let f : true ≡ false = rw is at e in absurd cc

name_at : (p end : ℕ) (ts : List Lexeme) → symbol_of ts ≡ s.Name → Fine p (record { ahead = ts; end = end }) → IsName (spelling (record { ahead = ts; end = end }))
unfolding spelling
name_at p end [] is fine = absurd cc
name_at p end (t ∷ ts) is fine = name_token t.kind t.bytes is fine.0.0

pub name_good : (p : ℕ) → Good p p IsName name.read
unfolding next
name_good p i x j e fine =
    let g = guard_ok (same (next i) s.Name) (refusal i) (spelling i) x (after i) j e in
    let is = same_is (next i) s.Name g.0 in
    let value : spelling i ≡ x = named (same (next i) s.Name) i x j g.0 e in
    (subst (λ l. Fine p l) g.1 (passed p p i s.Name is refl fine), subst IsName value (name_at p i.end i.ahead is fine))
  where
    named : (b : Bool) (i : Input) (x : List ℕ) (j : Input) → b ≡ true → cond {A = Outcome (List ℕ)} b (Ok (spelling i, after i)) (Err (refusal i)) ≡ Ok (x, j) → spelling i ≡ x
    named true i x j h e = ok_value (spelling i) x (after i) j e
    named false i x j h e = absurd cc
