-- What a query text gives, its printed form gives again.
use Rattle.std.proofs.Common.{◌≡◌, ◌≤◌, ℕ, ◌+◌, Bool, true, false, ◌&&◌, List, [], ◌∷◌, ◌++◌, length, map, nat_lt, IsTrue, Result, Ok, Err, None, refl, sym, ap, subst, ◌∙◌, arith}
use Rattle.std.specs.Prelude.{nat_le}
use Rattle.std.proofs.lemmas.Bool.{leb-true, and_parts}
use Rattle.std.proofs.lemmas.List.{append-nil, length-map}
use Rattle.wh_base.specs.declared.value.Attr.{Attr}
use Rattle.wh_lex.specs.declared.token.Token.{Token}
use Rattle.wh_lex.specs.declared.fault.LexFault.{LexFault}
use Rattle.wh_lex.specs.Lexes.{tokens_of}
use Rattle.wh_lex.specs.Lexed.{lexed}
use Rattle.wh_lex.proofs.LexedLemmas.{lexed_is}
use Rattle.wh_expr.specs.declared.expr.Expr.{Expr}
use Rattle.wh_expr.specs.declared.fault.TypeCause.TheVariants.{TooDeep, TooBig}
use Rattle.wh_expr.specs.Meaning.{uses_only}
use Rattle.wh_expr.specs.Typing.{Fault, IsWellTyped, here, unless, depth, size, typing, limited_typing}
use Rattle.wh_expr.proofs.TypedLemmas.{numbers-answer}
use Rattle.wh_grammar.specs.declared.fault.TextFault.{TextFault}
use Rattle.wh_grammar.specs.Grammar.{Input, Outcome, pure, and_then, same, next, lexeme, start_of}
use Rattle.wh_grammar.specs.Nesting.{too_nested}
use Rattle.wh_grammar.specs.RoundTrip.{from}
use Rattle.wh_grammar.proofs.GrammarLemmas.{ok_value, ok_input}
use Rattle.wh_grammar.proofs.RoundTrip.{then}
use Rattle.wh_grammar.proofs.ScannedLemmas.{scanned_whole}
use Rattle.wh_grammar.proofs.Segments.{map_lexemes}
use Rattle.wh_schema.specs.declared.spec.Spec.{Spec}
use Rattle.wh_schema.specs.Heads.{heads_of}
use Rattle.wh_query_text.specs.declared.parsing.Query.{Query}
use Rattle.wh_query_text.specs.declared.raw.Infix.TheVariants as infixes
use Rattle.wh_query_text.specs.declared.raw.RawQuery.{RawQuery}
use Rattle.wh_query_text.specs.Printed.{placed, expr_shown, expr_text}
use Rattle.wh_query_text.specs.Queries as g
use Rattle.wh_query_text.specs.Queries.{sum_of}
use Rattle.wh_query_text.specs.QueryTexts.{raw_of_text, ruled, expr_of, number_of, query_of_expr, query_of_raw, query_of_text}
use Rattle.wh_query_text.specs.QueryLaws.{AnswersAreTyped, AnswersAreTextual}
use Rattle.wh_query_text.proofs.Fits.{Held, bare, grouped, Fits, table, behind, between, raw_fits}
use Rattle.wh_query_text.proofs.PlacedLemmas.{placed_tight}
use Rattle.wh_query_text.proofs.QueryTextLemmas.{raw_is, query_is}
use Rattle.wh_query_text.proofs.ShownLemmas.{number_named, number_known, uses_base, uses_applied, uses_combined}
use Rattle.wh_query_text.proofs.QueryTextTrip.{Text, whole_text, level_is, stops}
use Rattle.wh_query_text.proofs.Unplaced as e

-- ---- what a query that was answered obeys

ruled_kept : (raw : RawQuery) (x : Expr) (attrs : List Attr) (faults : List Fault) (q : Query) → ruled raw x attrs faults ≡ Ok q → (faults ≡ []) × (q ≡ record { expr = x; attrs = attrs })
ruled_kept raw x attrs [] q is = (refl, cc)
ruled_kept raw x attrs (f ∷ faults) q is = absurd cc

no_faults : (a b : List Fault) → a ++ b ≡ [] → (a ≡ []) × (b ≡ [])
no_faults [] b is = (refl, is)
no_faults (f ∷ a) b is = absurd cc

limits_kept : (b c : Bool) → here (unless b TooDeep ++ unless c TooBig) ≡ [] → c ≡ true
limits_kept true true is = refl
limits_kept true false is = absurd cc
limits_kept false c is = absurd cc

-- the raw query of a text that gives a query
raw_read : (spec : Spec) (r : Result RawQuery TextFault) (q : Query) → query_of_raw spec r ≡ Ok q → (raw : RawQuery) × (r ≡ Ok raw) × (query_of_expr spec raw (expr_of (number_of spec) raw) ≡ Ok q)
raw_read spec (Ok raw) q is = (raw, refl, is)
raw_read spec (Err fault) q is = absurd cc

-- ---- the tokens of the printed form

module _ (spec : Spec) (raw : RawQuery) (held : Held 0 1 raw) (known : uses_only (λ n. nat_lt n (length (heads_of spec))) (expr_of (number_of spec) raw) ≡ true) (small : size (expr_of (number_of spec) raw) ≤ 1000) where
  abbrev number : List ℕ → ℕ
  number = number_of spec

  abbrev x : Expr
  x = expr_of number raw

  abbrev text : List ℕ
  text = placed 1 (expr_shown (heads_of spec) x)

  found : (most : ℕ) → Text number (heads_of spec) most (number_named spec) 1 x text 0 0 []
  found most = whole_text number (heads_of spec) most (number_named spec) raw held known

  tokens_at : ℕ → List Token
  tokens_at most = tokens_of 0 (found most).segment.pieces

  whole_segment : text ++ [] ≡ text
  whole_segment = append-nil text

  lexed_at : (most : ℕ) → lexed text ≡ Ok (tokens_at most)
  unfolding tokens_at
  lexed_at most = let f = (found most).segment in ap lexed (sym whole_segment) ∙ lexed_is (text ++ []) (Ok (tokens_of 0 f.pieces)) (f.pieces, f.stand, refl)

  lexemes_at : (most : ℕ) → map (lexeme text) (tokens_at most) ≡ (found most).tokens
  unfolding tokens_at
  lexemes_at most = let f = (found most).segment in ap (λ w. map (lexeme w) (tokens_of 0 f.pieces)) (sym whole_segment) ∙ map_lexemes [] (text ++ []) [] 0 f.pieces refl f.stand ∙ f.tokens

  ok_tokens : (a b : List Token) (r : Result (List Token) LexFault) → r ≡ Ok a → r ≡ Ok b → a ≡ b
  ok_tokens a b r c d = cc

  made_value : (r : Outcome RawQuery) (j : Input) → and_then r (λ q. pure (expr_of number q)) ≡ Ok (x, j) → (q : RawQuery) × (r ≡ Ok (q, j)) × (expr_of number q ≡ x)
  made_value (Ok p) j is = (p.0, ap (λ (k : Input). Ok (p.0, k)) (ok_input (expr_of number p.0) x p.1 j is), ok_value (expr_of number p.0) x p.1 j is)
  made_value (Err d) j is = absurd cc

  -- the printed form spells an expression that is the same
  read_again : (q : RawQuery) × (raw_of_text text ≡ Ok q) × (expr_of number q ≡ x)
  unfolding next same
  read_again =
      -- the tokens are the same, however deep a reader may go
      let depth = length (tokens_at 0) in
      let tokens = tokens_at depth in
      let f = found depth in
      let same-tokens : tokens ≡ tokens_at 0 = ok_tokens tokens (tokens_at 0) (lexed text) (lexed_at depth) (lexed_at 0) in
      let count : depth ≡ length tokens = ap length (sym same-tokens) in
      let total = length text in
      let start : from total f.tokens ≡ start_of text tokens = ap (from total) (sym (lexemes_at depth)) in
      let long : length f.tokens ≤ depth = omega (arith, ap length (lexemes_at depth), length-map tokens (lexeme text), count) in
      let all : f.tokens ++ [] ≡ f.tokens = append-nil f.tokens in
      let few : 0 + f.many ≤ 2000 = omega (arith, f.few, small) in
      let flat : too_nested 0 0 (start_of text tokens).ahead ≡ None = ap (too_nested 0 0) (lexemes_at depth ∙ sym all) ∙ f.nests 0 [] few in
      let read : (e.query number depth).read (from total f.tokens) ≡ Ok (x, from total []) =
      ap (λ ts. (e.query number depth).read (from total ts)) (sym all) ∙ f.reads depth total [] (omega (arith, ap length all)) (omega arith) refl
      ∙ stops number (heads_of spec) depth (number_named spec) sum_of (e.term number depth) x (from total []) refl in
      let m = made_value ((g.query depth).read (from total f.tokens)) (from total []) (sym ((e.query_made number depth).reads (from total f.tokens)) ∙ read) in
      let ended : g.whole_query depth (from total f.tokens) ≡ Ok (m.0, from total []) = then ((g.query depth).read (from total f.tokens)) _ m.0 (from total []) (Ok (m.0, from total [])) m.1 refl in
      (m.0, raw_is text tokens tokens depth (from total f.tokens) (Ok (m.0, from total [])) (scanned_whole text tokens (lexed_at depth) flat) refl start count ended, m.2)

one_level : {p l : ℕ} {q : RawQuery} → Fits p l q → 1 ≤ l
one_level (table is) = omega arith
one_level (behind is part) = omega arith
one_level (between infixes.Union left right) = omega arith
one_level (between infixes.Minus left right) = omega arith
one_level (between infixes.Join left right) = omega arith

-- a whole query stands in no parentheses
unplaced : (spec : Spec) {q : RawQuery} → Held 0 1 q → placed 1 (expr_shown (heads_of spec) (expr_of (number_of spec) q)) ≡ expr_text (heads_of spec) (expr_of (number_of spec) q)
unplaced spec {q} (bare {l} le f) = placed_tight 1 l (expr_shown (heads_of spec) (expr_of (number_of spec) q)) (level_is (number_of spec) (heads_of spec) 0 (number_named spec) f) le
unplaced spec (grouped lt room f) = absurd (omega (arith, one_level f))

-- ---- the numbers that it uses

and_true : (x y : Bool) → x ≡ true → y ≡ true → (x && y) ≡ true
and_true true true h k = refl
and_true true false h k = k
and_true false y h k = h

-- what holds of the numbers of its names holds of all that it uses
module _ (number : List ℕ → ℕ) (P Q : ℕ → Bool) (step : (n : List ℕ) → P (number n) ≡ true → Q (number n) ≡ true) where
  mutual
    fits_uses : {p l : ℕ} {q : RawQuery} → Fits p l q → uses_only P (expr_of number q) ≡ true → uses_only Q (expr_of number q) ≡ true
    fits_uses (table {at} {n} is) known =
        let named = e.expr_named number at n in
        ap (uses_only Q) named ∙ uses_base Q (number n) ∙ step n (sym (ap (uses_only P) named ∙ uses_base P (number n)) ∙ known)
    fits_uses (behind {at} {x} {q} is part) known =
        let named = e.expr_behind number at x q in
        ap (uses_only Q) named ∙ uses_applied Q x (expr_of number q) ∙ held_uses part (sym (ap (uses_only P) named ∙ uses_applied P x (expr_of number q)) ∙ known)
    fits_uses (between {at} {a} {b} o left right) known =
        let named = e.expr_between number at o a b in
        let both = and_parts (uses_only P (expr_of number a)) (uses_only P (expr_of number b)) (sym (ap (uses_only P) named ∙ uses_combined P o (expr_of number a) (expr_of number b)) ∙ known) in
        ap (uses_only Q) named ∙ uses_combined Q o (expr_of number a) (expr_of number b)
        ∙ and_true (uses_only Q (expr_of number a)) (uses_only Q (expr_of number b)) (held_uses left both.0) (held_uses right both.1)

    held_uses : {p least : ℕ} {q : RawQuery} → Held p least q → uses_only P (expr_of number q) ≡ true → uses_only Q (expr_of number q) ≡ true
    held_uses (bare le f) known = fits_uses f known
    held_uses (grouped lt room f) known = fits_uses f known

pub answers_are_typed : AnswersAreTyped
unfolding query_of_text
answers_are_typed spec text q is =
    let r = raw_read spec (raw_of_text text) q is in
    let raw = r.0 in
    let heads = heads_of spec in
    let x = expr_of (number_of spec) raw in
    let t = limited_typing heads x in
    let kept = ruled_kept raw x t.attrs t.faults q r.2 in
    let clean = no_faults (here (unless (nat_le (depth x) 64) TooDeep ++ unless (nat_le (size x) 1000) TooBig)) (typing heads x).faults kept.0 in
    let known : uses_only (λ n. nat_lt n (length heads)) x ≡ true = numbers-answer heads x (Ok t.attrs) (clean.1, refl) in
    let sources : uses_only (λ n. nat_lt n (length spec.relations + length spec.views)) x ≡ true =
    held_uses (number_of spec) (λ n. nat_lt n (length heads)) (λ n. nat_lt n (length spec.relations + length spec.views)) (number_known spec) (raw_fits text raw r.1) known in
    subst (λ (u : Query). IsTrue (uses_only (λ n. nat_lt n (length spec.relations + length spec.views)) u.expr) × IsWellTyped heads u.expr × (u.attrs ≡ (typing heads u.expr).attrs)) (sym kept.1) (sources, clean.1, refl)

pub answers_are_textual : AnswersAreTextual
unfolding query_of_text
answers_are_textual spec text q is =
    let r = raw_read spec (raw_of_text text) q is in
    let raw = r.0 in
    let heads = heads_of spec in
    let x = expr_of (number_of spec) raw in
    let t = limited_typing heads x in
    let kept = ruled_kept raw x t.attrs t.faults q r.2 in
    let clean = no_faults (here (unless (nat_le (depth x) 64) TooDeep ++ unless (nat_le (size x) 1000) TooBig)) (typing heads x).faults kept.0 in
    let small : size x ≤ 1000 = leb-true (size x) 1000 (limits_kept (nat_le (depth x) 64) (nat_le (size x) 1000) clean.0) in
    let known : uses_only (λ n. nat_lt n (length heads)) x ≡ true = numbers-answer heads x (Ok t.attrs) (clean.1, refl) in
    let held = raw_fits text raw r.1 in
    let again = read_again spec raw held known small in
    let printed : expr_text heads q.expr ≡ placed 1 (expr_shown heads x) = ap (λ (u : Query). expr_text heads u.expr) kept.1 ∙ sym (unplaced spec held) in
    ap (query_of_text spec) printed
    ∙ query_is spec (placed 1 (expr_shown heads x)) again.0 x again.1 (sym again.2)
    ∙ ap (λ faults. ruled again.0 x t.attrs faults) kept.0
    ∙ sym (ap (λ (u : Query). Ok u) kept.1)
