-- What the parts of a query take, and the steps of its readers.
use Rattle.std.proofs.Common.{◌≡◌, ◌≢◌, ◌<◌, ◌-◌, ℕ, zero, suc, List, [], ◌∷◌, length, Ok, Err, Option, Some, None, refl, sym, ap, ◌∙◌, arith}
use Rattle.std.specs.Prelude.{is_some}
use Rattle.wh_grammar.specs.declared.symbol.Symbol.{Symbol}
use Rattle.wh_grammar.specs.declared.symbol.Symbol.TheVariants as s
use Rattle.wh_grammar.specs.Grammar.{Input, Outcome, Lexeme, Parser, Part, symbol_of, ◌>>=◌, and_then, pure, fail, same, next, after, place, token, valued, name, ◌or◌, each}
use Rattle.wh_grammar.proofs.GrammarLemmas.{Keeps, Takes, Refuses, bind_keeps, bind_takes, takes_keeps, pure_keeps, token_takes, name_takes, or_takes, or_else, or_refuses, separated_takes, enclosed_takes, fail_takes, each_keeps, each_goes, each_stops, other_than, left, after_is}
use Rattle.wh_grammar.proofs.CondLemmas.{condition_takes, taken_ok}
use Rattle.wh_query_text.specs.declared.raw.Infix.{Infix}
use Rattle.wh_query_text.specs.declared.raw.Prefix.TheVariants as prefixes
use Rattle.wh_query_text.specs.declared.raw.RawQuery.{RawQuery}
use Rattle.wh_query_text.specs.declared.raw.RawQuery.TheVariants.{Named, Behind, Between}
use Rattle.wh_query_text.specs.Queries.{noted, columns, project, selection, select, renaming, renamings, renaming_columns, rename, before, named, group, prefixed, factor_of, attach, further, chain, product_of, sum_of, inner, factor, term, query}

pub noted_takes : {A B : Type 0} (p : Part A) (f : ℕ → A → Parser B) → Takes p.read → ((at : ℕ) (x : A) → Keeps (f at x)) → Takes (noted p f).read
noted_takes p f hp hf i x j e = bind_takes p.read (f (place i)) hp (hf (place i)) i x j e

pub noted_refuses : {A B : Type 0} (p : Part A) (f : ℕ → A → Parser B) → Refuses p → Refuses (noted p f)
noted_refuses p f refuses i other = ap (λ r. and_then r (f (place i))) (refuses i other)

-- ---- prefixes

pub columns_takes : Takes columns.read
unfolding same
columns_takes = enclosed_takes _ (takes_keeps _ (separated_takes name s.Comma refl name_takes))

pub selection_takes : (d : ℕ) → Takes (selection d).read
selection_takes d = enclosed_takes _ (takes_keeps _ (condition_takes d))

pub renaming_takes : Takes renaming.read
unfolding same
renaming_takes = bind_takes _ _ name_takes (λ from. bind_keeps _ _ (takes_keeps _ (token_takes s.To refl)) (λ _. bind_keeps _ _ (takes_keeps _ name_takes) (λ to. pure_keeps _)))

pub renamings_takes : Takes renamings.read
unfolding same
renamings_takes = separated_takes renaming s.Comma refl renaming_takes

pub renaming_columns_takes : Takes renaming_columns.read
renaming_columns_takes = enclosed_takes _ (takes_keeps _ renamings_takes)

pub before_takes : (d : ℕ) → Takes (before d).read
unfolding same
before_takes d =
    or_takes project (select d or rename) (bind_takes (token s.Project).read (λ _. columns.read >>= (λ ns. pure (prefixes.Project ns))) (token_takes s.Project refl) (λ _. bind_keeps _ _ (takes_keeps _ columns_takes) (λ ns. pure_keeps _)))
    (or_takes (select d) rename (bind_takes (token s.Select).read (λ _. (selection d).read >>= (λ c. pure (prefixes.Select c))) (token_takes s.Select refl) (λ _. bind_keeps _ _ (takes_keeps _ (selection_takes d)) (λ c. pure_keeps _)))
    (bind_takes (token s.Rename).read (λ _. renaming_columns.read >>= (λ ps. pure (prefixes.Rename ps))) (token_takes s.Rename refl) (λ _. bind_keeps _ _ (takes_keeps _ renaming_columns_takes) (λ ps. pure_keeps _))))

-- ---- factors and chains

pub factor_of_takes : (d : ℕ) (n c : Parser RawQuery) → Keeps n → Keeps c → Takes (factor_of d n c).read
factor_of_takes d n c hn hc =
    or_takes named (group c or prefixed d n) (noted_takes name (λ at m. pure (Named at m)) name_takes (λ at m. pure_keeps _))
    (or_takes (group c) (prefixed d n) (enclosed_takes c hc) (noted_takes (before d) (λ at p. n >>= (λ q. pure (Behind at p q))) (before_takes d) (λ at p. bind_keeps n _ hn (λ q. pure_keeps _))))

some_word : (words : Symbol → Option Infix) (i : Input) (o : Infix) → words s.End ≡ None → words (next i) ≡ Some o → 0 < left i
unfolding next
some_word words i o none some = some_ahead i.ahead some
  where
    some_ahead : (ts : List Lexeme) → words (symbol_of ts) ≡ Some o → 0 < length ts
    some_ahead [] e = absurd (cc (sym none ∙ e))
    some_ahead (t ∷ ts) e = omega arith

pub word_takes : (words : Symbol → Option Infix) → words s.End ≡ None → Takes (valued words).read
word_takes words none i x j e =
    let t = taken_ok (words (next i)) i x j e in
    omega (arith, some_word words i x none t.0, after_is i, ap left t.1)

pub further_takes : (words : Symbol → Option Infix) (p : Part RawQuery) → words s.End ≡ None → Takes p.read → Takes (further words p).read
further_takes words p none takes = noted_takes (valued words) (λ at o. p.read >>= (λ q. pure (record { at = at; by = o; right = q }))) (word_takes words none) (λ at o. bind_keeps p.read _ (takes_keeps p.read takes) (λ q. pure_keeps _))

pub chain_takes : (words : Symbol → Option Infix) (p : Part RawQuery) → words s.End ≡ None → Takes p.read → Takes (chain words p).read
chain_takes words p none takes = bind_takes p.read (λ first. each attach (further words p) first) takes (λ first. each_keeps attach (further words p) (further_takes words p none takes) first)

pub inner_keeps : (d : ℕ) → Keeps (inner d).0 × Keeps (inner d).1
unfolding inner
inner_keeps zero = (takes_keeps fail fail_takes, takes_keeps fail fail_takes)
inner_keeps (suc d) =
    let h = inner_keeps d in
    let p = factor_of d (inner d).0 (inner d).1 in
    let n = factor_of_takes d (inner d).0 (inner d).1 h.0 h.1 in
    (takes_keeps p.read n, takes_keeps (chain sum_of (chain product_of p)).read (chain_takes sum_of (chain product_of p) refl (chain_takes product_of p refl n)))

pub factor_takes : (d : ℕ) → Takes (factor d).read
unfolding factor
factor_takes d = let h = inner_keeps d in factor_of_takes d (inner d).0 (inner d).1 h.0 h.1

pub term_takes : (d : ℕ) → Takes (term d).read
unfolding term
term_takes d = chain_takes product_of (factor d) refl (factor_takes d)

pub query_takes : (d : ℕ) → Takes (query d).read
unfolding query
query_takes d = chain_takes sum_of (term d) refl (term_takes d)

-- ---- the steps of the readers

before_refuses : (d : ℕ) → Refuses (before d)
before_refuses d = or_refuses project (select d or rename)

pub factor_else : (d : ℕ) (i : Input) → next i ≢ s.Name → next i ≢ s.LeftParen → (factor d).read i ≡ (prefixed d (inner d).0).read i
unfolding factor
factor_else d i a b =
    or_else named (group (inner d).1 or prefixed d (inner d).0) i (or_refuses (group (inner d).1) (prefixed d (inner d).0)) (other_than (next i) s.Name a)
    ∙ or_else (group (inner d).1) (prefixed d (inner d).0) i (noted_refuses (before d) (λ at p. (inner d).0 >>= (λ q. pure (Behind at p q))) (before_refuses d)) (other_than (next i) s.LeftParen b)

pub inner_none : (d : ℕ) → d ≡ 0 → inner d ≡ (fail, fail)
unfolding inner
inner_none d e = rw e refl

pub inner_suc : (d : ℕ) → inner (suc d) ≡ ((factor d).read, (query d).read)
unfolding inner factor term query
inner_suc d = refl

pub inner_some : (d : ℕ) → 0 < d → inner d ≡ ((factor (d - 1)).read, (query (d - 1)).read)
inner_some d lt = let e : d ≡ suc (d - 1) = omega arith in ap inner e ∙ inner_suc (d - 1)

-- a chain goes on with a word
pub further_goes : (words : Symbol → Option Infix) (p : Part RawQuery) (a : RawQuery) (i : Input) (o : Infix) → words s.End ≡ None → Takes p.read → words (next i) ≡ Some o
    → each attach (further words p) a i ≡ and_then (p.read (after i)) (λ q. each attach (further words p) (Between (place i) o a q))
further_goes words p a i o none takes some =
    each_goes attach (further words p) a i (further_takes words p none takes) (ap is_some some)
    ∙ ap (λ r. and_then r (λ b. each attach (further words p) (attach a b))) (read_word some)
    ∙ made (p.read (after i))
  where
    read_word : words (next i) ≡ Some o → (further words p).read i ≡ and_then (p.read (after i)) (λ q. pure (record { at = place i; by = o; right = q }))
    read_word e = rw e refl

    made : (r : Outcome RawQuery) → and_then (and_then r (λ q. pure (record { at = place i; by = o; right = q }))) (λ b. each attach (further words p) (attach a b)) ≡ and_then r (λ q. each attach (further words p) (Between (place i) o a q))
    made (Ok p) = refl
    made (Err e) = refl

-- a chain ends before another symbol
pub further_stops : (words : Symbol → Option Infix) (p : Part RawQuery) (a : RawQuery) (i : Input) → words (next i) ≡ None → each attach (further words p) a i ≡ Ok (a, i)
further_stops words p a i none = each_stops attach (further words p) a i (ap is_some none)
