-- The printed form of what is read of a query text, wherever it stands, is read as the same expression.
use Rattle.std.proofs.Common.{◌≡◌, ◌<◌, ◌≤◌, ℕ, zero, suc, ◌+◌, ◌-◌, true, List, [], ◌∷◌, ◌++◌, length, Option, Some, None, Ok, codes, refl, sym, ap, subst, ◌∙◌, append_assoc, arith}
use Rattle.std.specs.Prelude.{nat_lt, is_some}
use Rattle.std.proofs.lemmas.Bool.{and_parts}
use Rattle.std.proofs.lemmas.List.{length-append}
use Rattle.wh_lex.specs.declared.token.TokenKind.TheVariants as kinds
use Rattle.wh_lex.specs.Spelling.{Follows}
use Rattle.wh_lex.proofs.SpellingLemmas.{reads_open, reads_close}
use Rattle.wh_base.specs.declared.head.Head.{Head}
use Rattle.wh_expr.specs.declared.expr.Expr.{Expr}
use Rattle.wh_expr.specs.declared.expr.Expr.TheVariants.{Base}
use Rattle.wh_expr.specs.Meaning.{uses_only}
use Rattle.wh_expr.specs.Typing.{size}
use Rattle.wh_grammar.specs.declared.symbol.Symbol.{Symbol}
use Rattle.wh_grammar.specs.declared.symbol.Symbol.TheVariants as s
use Rattle.wh_grammar.specs.Symbols.{symbol}
use Rattle.wh_grammar.specs.Grammar.{Input, Lexeme, Parser, Part, ◌>>=◌, pure, and_then as outcome_then, same, next, after, spelling, symbol_of, token, valued, enclosed, each}
use Rattle.wh_grammar.specs.Nesting.{too_nested}
use Rattle.wh_grammar.specs.Printable.{IsName}
use Rattle.wh_grammar.specs.RoundTrip.{from}
use Rattle.wh_grammar.proofs.GrammarLemmas.{Takes, left, bind_takes, bind_keeps, pure_keeps, takes_keeps, each_goes, each_stops}
use Rattle.wh_grammar.proofs.NestSteps.{nest_plain, nest_connective, nest_open, nest_close}
use Rattle.wh_grammar.proofs.RoundTrip.{then, reads_token}
use Rattle.wh_grammar.proofs.Segments.{Segment, and_then, space, segment_of, token_segment}
use Rattle.wh_query_text.specs.declared.raw.Infix.{Infix}
use Rattle.wh_query_text.specs.declared.raw.Infix.TheVariants as infixes
use Rattle.wh_query_text.specs.declared.raw.Prefix.{Prefix}
use Rattle.wh_query_text.specs.declared.raw.RawQuery.{RawQuery}
use Rattle.wh_query_text.specs.declared.raw.RawQuery.TheVariants.{Named, Behind, Between}
use Rattle.wh_query_text.specs.Printed.{Shown, placed, name_at, expr_shown}
use Rattle.wh_query_text.specs.Queries.{product_of, sum_of}
use Rattle.wh_query_text.specs.QueryTexts.{applied, combined, expr_of}
use Rattle.wh_query_text.proofs.Fits.{word_level, Fits, table, behind, between, Held, bare, grouped}
use Rattle.wh_query_text.proofs.PlacedLemmas.{placed_loose, placed_tight}
use Rattle.wh_query_text.proofs.PrefixTrip.{IsPrefixWord, PrefixText, prefix_read}
use Rattle.wh_query_text.proofs.QueryLemmas.{word_takes}
use Rattle.wh_query_text.proofs.ShownLemmas.{prefix_text, word_text, shown_base, shown_applied, shown_combined, size_applied, size_combined, uses_base, uses_applied, uses_combined}
use Rattle.wh_query_text.proofs.Unplaced as e

-- ---- words between parts

abbrev infix_symbol : Infix → Symbol
infix_symbol infixes.Union = s.Union
infix_symbol infixes.Minus = s.Minus
infix_symbol infixes.Join = s.Join

abbrev infix_word : Infix → List ℕ
infix_word infixes.Union = codes "union"
infix_word infixes.Minus = codes "minus"
infix_word infixes.Join = codes "join"

word_at : Infix → ℕ → Lexeme
word_at o at = record { kind = kinds.Word; bytes = infix_word o; from = at }

word_is : (o : Infix) (at : ℕ) → symbol (word_at o at).kind (word_at o at).bytes ≡ infix_symbol o
unfolding word_at symbol
word_is infixes.Union at = refl
word_is infixes.Minus at = refl
word_is infixes.Join at = refl

word_segment : (o : Infix) (at : ℕ) (rest : List ℕ) → Segment at (word_text o ++ rest) rest (at + 1 + length (infix_word o) + 1) (word_at o (at + 1) ∷ [])
unfolding word_at
word_segment infixes.Union at rest = and_then (space at (codes "union" ++ 32 ∷ rest)) (and_then (token_segment (at + 1) kinds.Word (codes "union") (32 ∷ rest) (refl, refl) refl) (space (at + 1 + 5) rest))
word_segment infixes.Minus at rest = and_then (space at (codes "minus" ++ 32 ∷ rest)) (and_then (token_segment (at + 1) kinds.Word (codes "minus") (32 ∷ rest) (refl, refl) refl) (space (at + 1 + 5) rest))
word_segment infixes.Join at rest = and_then (space at (codes "join" ++ 32 ∷ rest)) (and_then (token_segment (at + 1) kinds.Word (codes "join") (32 ∷ rest) (refl, refl) refl) (space (at + 1 + 4) rest))

word_nests : (o : Infix) (p k : ℕ) (t : Lexeme) (more : List Lexeme) → symbol t.kind t.bytes ≡ infix_symbol o → k < 2000 → too_nested p k (t ∷ more) ≡ too_nested p (k + 1) more
word_nests infixes.Union p k t more is few = nest_connective p k t s.Union more is refl few
word_nests infixes.Minus p k t more is few = nest_connective p k t s.Minus more is refl few
word_nests infixes.Join p k t more is few = nest_connective p k t s.Join more is refl few

word_follows : (o : Infix) (rest : List ℕ) → Follows (word_text o ++ rest)
word_follows infixes.Union rest = refl
word_follows infixes.Minus rest = refl
word_follows infixes.Join rest = refl

-- ---- parentheses

abbrev opening : ℕ → Lexeme
opening at = record { kind = kinds.Mark; bytes = 40 ∷ []; from = at }

abbrev closing : ℕ → Lexeme
closing at = record { kind = kinds.Mark; bytes = 41 ∷ []; from = at }

is_opening : (at : ℕ) → symbol (opening at).kind (opening at).bytes ≡ s.LeftParen
unfolding symbol
is_opening at = refl

is_closing : (at : ℕ) → symbol (closing at).kind (closing at).bytes ≡ s.RightParen
unfolding symbol
is_closing at = refl

enclosed_reads : {A : Type 0} (p : Parser A) (x : A) (l r : Lexeme) (ts more : List Lexeme) (total : ℕ) → symbol l.kind l.bytes ≡ s.LeftParen → symbol r.kind r.bytes ≡ s.RightParen
    → p (from total (ts ++ (r ∷ more))) ≡ Ok (x, from total (r ∷ more)) → (enclosed p).read (from total (l ∷ ts ++ (r ∷ more))) ≡ Ok (x, from total more)
unfolding same
enclosed_reads p x l r ts more total opens closes inside =
    then ((token s.LeftParen).read (from total (l ∷ ts ++ (r ∷ more)))) (λ _. p >>= (λ y. (token s.RightParen).read >>= (λ _. pure y))) tt (from total (ts ++ (r ∷ more))) (Ok (x, from total more)) (reads_token l s.LeftParen total (ts ++ (r ∷ more)) refl opens)
    (then (p (from total (ts ++ (r ∷ more)))) (λ y. (token s.RightParen).read >>= (λ _. pure y)) x (from total (r ∷ more)) (Ok (x, from total more)) inside
    (then ((token s.RightParen).read (from total (r ∷ more))) (λ _. pure x) tt (from total more) (Ok (x, from total more)) (reads_token r s.RightParen total more refl closes) refl))

-- ---- what reading gives

module _ (number : List ℕ → ℕ) (heads : List Head) (most : ℕ) (printed_name : (n : List ℕ) → nat_lt (number n) (length heads) ≡ true → name_at heads (number n) ≡ n) where
  abbrev h : RawQuery → Expr
  h = expr_of number

  abbrev products : ℕ → Expr → Parser Expr
  products d = each (e.attach_expr number) (e.further number product_of (e.factor number d))

  abbrev sums : ℕ → Expr → Parser Expr
  sums d = each (e.attach_expr number) (e.further number sum_of (e.term number d))

  -- what is read of some tokens, before others: a factor; a term that may go on; a query that may go on
  abbrev IsFactor : Expr → ℕ → ℕ → List Lexeme → List Lexeme → Type 0
  IsFactor x d total ts more = (e.factor number d).read (from total (ts ++ more)) ≡ Ok (x, from total more)

  abbrev IsTerm : Expr → ℕ → ℕ → List Lexeme → List Lexeme → Type 0
  IsTerm x d total ts more = (e.term number d).read (from total (ts ++ more)) ≡ products d x (from total more)

  abbrev IsQuery : Expr → ℕ → ℕ → List Lexeme → List Lexeme → Type 0
  IsQuery x d total ts more = product_of (symbol_of more) ≡ None → (e.query number d).read (from total (ts ++ more)) ≡ sums d x (from total more)

  abbrev AtLevel : ℕ → Expr → ℕ → ℕ → List Lexeme → List Lexeme → Type 0
  AtLevel zero = IsQuery
  AtLevel (suc zero) = IsQuery
  AtLevel (suc (suc zero)) = IsTerm
  AtLevel (suc (suc (suc n))) = IsFactor

  pub stops : (words : Symbol → Option Infix) (p : Part Expr) (a : Expr) (i : Input) → words (next i) ≡ None → each (e.attach_expr number) (e.further number words p) a i ≡ Ok (a, i)
  stops words p a i none = each_stops (e.attach_expr number) (e.further number words p) a i (ap is_some none)

  to_term : (x : Expr) (d total : ℕ) (ts more : List Lexeme) → IsFactor x d total ts more → IsTerm x d total ts more
  unfolding e.term
  to_term x d total ts more one = ap (λ r. outcome_then r (products d)) one

  to_query : (x : Expr) (d total : ℕ) (ts more : List Lexeme) → IsTerm x d total ts more → IsQuery x d total ts more
  unfolding e.query next
  to_query x d total ts more one none = ap (λ r. outcome_then r (sums d)) (one ∙ stops product_of (e.factor number d) x (from total more) none)

  down : (l : ℕ) (x : Expr) (d total : ℕ) (ts more : List Lexeme) → AtLevel l x d total ts more → IsQuery x d total ts more
  down zero x d total ts more one = one
  down (suc zero) x d total ts more one = one
  down (suc (suc zero)) x d total ts more one = to_query x d total ts more one
  down (suc (suc (suc n))) x d total ts more one = to_query x d total ts more (to_term x d total ts more one)

  raise : (least l : ℕ) (x : Expr) (d total : ℕ) (ts more : List Lexeme) → least ≤ l → AtLevel l x d total ts more → AtLevel least x d total ts more
  raise zero l x d total ts more le one = down l x d total ts more one
  raise (suc zero) l x d total ts more le one = down l x d total ts more one
  raise (suc (suc zero)) zero x d total ts more le one = absurd (omega arith)
  raise (suc (suc zero)) (suc zero) x d total ts more le one = absurd (omega arith)
  raise (suc (suc zero)) (suc (suc zero)) x d total ts more le one = one
  raise (suc (suc zero)) (suc (suc (suc n))) x d total ts more le one = to_term x d total ts more one
  raise (suc (suc (suc m))) zero x d total ts more le one = absurd (omega arith)
  raise (suc (suc (suc m))) (suc zero) x d total ts more le one = absurd (omega arith)
  raise (suc (suc (suc m))) (suc (suc zero)) x d total ts more le one = absurd (omega arith)
  raise (suc (suc (suc m))) (suc (suc (suc n))) x d total ts more le one = one

  up : (least : ℕ) (x : Expr) (d total : ℕ) (ts more : List Lexeme) → IsFactor x d total ts more → AtLevel least x d total ts more
  up zero x d total ts more one = to_query x d total ts more (to_term x d total ts more one)
  up (suc zero) x d total ts more one = to_query x d total ts more (to_term x d total ts more one)
  up (suc (suc zero)) x d total ts more one = to_term x d total ts more one
  up (suc (suc (suc n))) x d total ts more one = one

  -- ---- a text at some place, where so many parentheses are open

  pub record Text (l : ℕ) (x : Expr) (w : List ℕ) (p at : ℕ) (rest : List ℕ) : Type 0 where
    pub tokens : List Lexeme
    pub end : ℕ
    pub many : ℕ
    pub segment : Segment at (w ++ rest) rest end tokens
    pub reads : (d total : ℕ) (more : List Lexeme) → length (tokens ++ more) ≤ d → d ≤ most → AtLevel l x d total tokens more
    pub few : many ≤ size x
    pub nests : (k : ℕ) (more : List Lexeme) → k + many ≤ 2000 → too_nested p k (tokens ++ more) ≡ too_nested p (k + many) more

  abbrev recast : {l p at : ℕ} {rest : List ℕ} (x y : Expr) (w v : List ℕ) → x ≡ y → w ≡ v → Text l x w p at rest → Text l y v p at rest
  recast {l} {p} {at} {rest} x y w v e f t = subst (λ z. Text l z v p at rest) e (subst (λ z. Text l x z p at rest) f t)

  -- ---- a table

  reads_table : (n : List ℕ) (at d total : ℕ) (more : List Lexeme) → symbol kinds.Word n ≡ s.Name → IsFactor (Base (number n)) d total (record { kind = kinds.Word; bytes = n; from = at } ∷ []) more
  unfolding e.factor next after spelling same
  reads_table n at d total more is = rw is refl

  table_text : (n : List ℕ) → IsName n → (p at : ℕ) (rest : List ℕ) → Follows rest → Text 3 (Base (number n)) n p at rest
  table_text n is p at rest follows =
      let t : Lexeme = record { kind = kinds.Word; bytes = n; from = at } in
      record {
        tokens = t ∷ [];
        end = at + length n;
        many = 0;
        segment = token_segment at kinds.Word n rest is.0 follows;
        reads = λ d total more le deep. reads_table n at d total more is.1;
        few = omega arith;
        nests = λ k more few. nest_plain p k t s.Name more is.1 refl ∙ ap (λ i. too_nested p i more) (omega arith);
      }

  -- ---- in parentheses

  reads_group : (x : Expr) (d total : ℕ) (l r : Lexeme) (ts more : List Lexeme) → symbol l.kind l.bytes ≡ s.LeftParen → symbol r.kind r.bytes ≡ s.RightParen → 0 < d → IsQuery x (d - 1) total ts (r ∷ more) → IsFactor x d total (l ∷ ts ++ r ∷ []) more
  unfolding e.factor next same
  reads_group x d total l r ts more opens closes some inside =
      let i = from total (l ∷ ts ++ (r ∷ more)) in
      let ended : product_of (symbol_of (r ∷ more)) ≡ None = rw closes refl in
      let over : sum_of (next (from total (r ∷ more))) ≡ None = rw closes refl in
      let deeper : (e.inner number d).1 ≡ (e.query number (d - 1)).read = ap (λ p. p.1) (e.inner_some number d some) in
      let all : (e.query number (d - 1)).read (from total (ts ++ (r ∷ more))) ≡ Ok (x, from total (r ∷ more)) = inside ended ∙ stops sum_of (e.term number (d - 1)) x (from total (r ∷ more)) over in
      let read : (enclosed (e.inner number d).1).read i ≡ Ok (x, from total more) = rw deeper (enclosed_reads (e.query number (d - 1)).read x l r ts more total opens closes all) in
      let picked : (e.factor number d).read i ≡ (enclosed (e.inner number d).1).read i = rw opens refl in
      ap (λ us. (e.factor number d).read (from total (l ∷ us))) (append_assoc ts (r ∷ []) more) ∙ picked ∙ read

  group_text : (least l : ℕ) (x : Expr) (w : List ℕ) (p at : ℕ) (rest : List ℕ) → p < 64 → Text l x w (p + 1) (at + 1) (41 ∷ rest) → Text least x (codes "(" ++ w ++ codes ")") p at rest
  group_text least l x w p at rest room t =
      let first = segment_of at kinds.Mark (40 ∷ []) (w ++ 41 ∷ rest) (reads_open at (w ++ 41 ∷ rest)) (omega arith) in
      let last = segment_of t.end kinds.Mark (41 ∷ []) rest (reads_close t.end rest) (omega arith) in
      let whole : Segment at (40 ∷ (w ++ 41 ∷ rest)) rest (t.end + 1) (opening at ∷ t.tokens ++ closing t.end ∷ []) = and_then first (and_then t.segment last) in
      record {
        tokens = opening at ∷ t.tokens ++ closing t.end ∷ [];
        end = t.end + 1;
        many = t.many;
        segment = rw (append_assoc w (41 ∷ []) rest) whole;
        reads = λ d total more le deep.
            let long : suc (length (t.tokens ++ (closing t.end ∷ more))) ≤ d = omega (arith, ap length (append_assoc t.tokens (closing t.end ∷ []) more)) in
            up least x d total (opening at ∷ t.tokens ++ closing t.end ∷ []) more
            (reads_group x d total (opening at) (closing t.end) t.tokens more (is_opening at) (is_closing t.end) (omega arith)
            (down l x (d - 1) total t.tokens (closing t.end ∷ more) (t.reads (d - 1) total (closing t.end ∷ more) (omega arith) (omega arith))));
        few = t.few;
        nests = λ k more few.
            nest_open p k (opening at) ((t.tokens ++ closing t.end ∷ []) ++ more) (is_opening at) room
            ∙ ap (too_nested (p + 1) k) (append_assoc t.tokens (closing t.end ∷ []) more)
            ∙ t.nests k (closing t.end ∷ more) few
            ∙ nest_close p (k + t.many) (closing t.end) more (is_closing t.end);
      }

  -- ---- behind a prefix

  picks_prefix : (t : Symbol) (d : ℕ) (i : Input) → next i ≡ t → IsPrefixWord t → (e.factor number d).read i ≡ (e.prefixed number d (e.inner number d).0).read i
  unfolding e.factor same
  picks_prefix s.Project d i is word = rw is refl
  picks_prefix s.Select d i is word = rw is refl
  picks_prefix s.Rename d i is word = rw is refl
  picks_prefix _ d i is word = absurd word

  behind_text : (x : Prefix) (q : Expr) (v : List ℕ) (p at : ℕ) (rest : List ℕ) (a : PrefixText number most x p at (v ++ rest)) → Text 3 q v p a.end rest → Text 3 (applied x q) (prefix_text x ++ v) p at rest
  unfolding next
  behind_text x q v p at rest a b = record {
    tokens = a.tokens ++ b.tokens;
    end = b.end;
    many = a.many + b.many;
    segment = rw (append_assoc (prefix_text x) v rest) (and_then a.segment b.segment);
    reads = λ d total more le deep.
        let long : length (a.tokens ++ (b.tokens ++ more)) ≤ d = omega (arith, ap length (append_assoc a.tokens b.tokens more)) in
        let both : length (a.tokens ++ (b.tokens ++ more)) ≡ length a.tokens + length (b.tokens ++ more) = length-append a.tokens (b.tokens ++ more) in
        let some : 0 < d = omega (arith, a.some) in
        let deeper : (e.inner number d).0 (from total (b.tokens ++ more)) ≡ Ok (q, from total more) =
        ap (λ r. r.0 (from total (b.tokens ++ more))) (e.inner_some number d some) ∙ b.reads (d - 1) total more (omega (arith, a.some)) (omega arith) in
        ap (λ ts. (e.factor number d).read (from total ts)) (append_assoc a.tokens b.tokens more)
        ∙ picks_prefix (symbol_of (a.tokens ++ (b.tokens ++ more))) d (from total (a.tokens ++ (b.tokens ++ more))) refl (a.begins (b.tokens ++ more))
        ∙ a.reads d total (b.tokens ++ more) (e.inner number d).0 q (from total more) long deep deeper;
    few = omega (arith, a.few, b.few, size_applied x q);
    nests = λ k more few.
        ap (too_nested p k) (append_assoc a.tokens b.tokens more)
        ∙ a.nests k (b.tokens ++ more) (omega arith)
        ∙ b.nests (k + a.many) more (omega arith)
        ∙ ap (λ i. too_nested p i more) (omega arith);
  }

  -- ---- two parts with a word between them

  further_takes : (words : Symbol → Option Infix) (p : Part Expr) → words s.End ≡ None → Takes p.read → Takes (e.further number words p).read
  further_takes words p none takes = bind_takes (valued words).read (λ o. p.read >>= (λ x. pure (o, x))) (word_takes words none) (λ o. bind_keeps p.read (λ x. pure (o, x)) (takes_keeps p.read takes) (λ x. pure_keeps (o, x)))

  goes_on : (words : Symbol → Option Infix) (p : Part Expr) (a b : Expr) (o : Infix) (total : ℕ) (t : Lexeme) (ts : List Lexeme) (j : Input) → words s.End ≡ None → Takes p.read → words (symbol t.kind t.bytes) ≡ Some o → p.read (from total ts) ≡ Ok (b, j)
      → each (e.attach_expr number) (e.further number words p) a (from total (t ∷ ts)) ≡ each (e.attach_expr number) (e.further number words p) (combined o a b) j
  unfolding next after
  goes_on words p a b o total t ts j none takes word right =
      let i = from total (t ∷ ts) in
      let read : (e.further number words p).read i ≡ outcome_then (p.read (from total ts)) (λ x. pure (o, x)) = rw word refl in
      each_goes (e.attach_expr number) (e.further number words p) a i (further_takes words p none takes) (ap is_some word)
      ∙ ap (λ r. outcome_then r (λ f. each (e.attach_expr number) (e.further number words p) (e.attach_expr number a f))) (read ∙ ap (λ r. outcome_then r (λ x. pure (o, x))) right)

  product_none : (o : Infix) (t : Symbol) → t ≡ infix_symbol o → word_level o ≡ 1 → product_of t ≡ None
  product_none infixes.Union t is l = rw is refl
  product_none infixes.Minus t is l = rw is refl
  product_none infixes.Join t is l = absurd (omega (arith, l))

  sum_reads : (o : Infix) (a b : Expr) (d total : ℕ) (us vs more : List Lexeme) (t : Lexeme) → symbol t.kind t.bytes ≡ infix_symbol o → sum_of (infix_symbol o) ≡ Some o → product_of (infix_symbol o) ≡ None
      → IsQuery a d total us (t ∷ vs ++ more) → IsTerm b d total vs more → IsQuery (combined o a b) d total (us ++ t ∷ vs) more
  unfolding next
  sum_reads o a b d total us vs more t is sum product left right none =
      let word : sum_of (symbol t.kind t.bytes) ≡ Some o = rw is sum in
      let ended : product_of (symbol_of (t ∷ vs ++ more)) ≡ None = rw is product in
      let whole : (e.term number d).read (from total (vs ++ more)) ≡ Ok (b, from total more) = right ∙ stops product_of (e.factor number d) b (from total more) none in
      ap (λ ts. (e.query number d).read (from total ts)) (append_assoc us (t ∷ vs) more)
      ∙ left ended
      ∙ goes_on sum_of (e.term number d) a b o total t (vs ++ more) (from total more) refl (e.term_takes_too number d) word whole

  pair_reads : (o : Infix) (a b : Expr) (d total : ℕ) (us vs more : List Lexeme) (t : Lexeme) → symbol t.kind t.bytes ≡ infix_symbol o
      → AtLevel (word_level o) a d total us (t ∷ vs ++ more) → AtLevel (word_level o + 1) b d total vs more → AtLevel (word_level o) (combined o a b) d total (us ++ t ∷ vs) more
  pair_reads infixes.Union a b d total us vs more t is left right = sum_reads infixes.Union a b d total us vs more t is refl refl left right
  pair_reads infixes.Minus a b d total us vs more t is left right = sum_reads infixes.Minus a b d total us vs more t is refl refl left right
  pair_reads infixes.Join a b d total us vs more t is left right =
      let word : product_of (symbol t.kind t.bytes) ≡ Some infixes.Join = rw is refl in
      ap (λ ts. (e.term number d).read (from total ts)) (append_assoc us (t ∷ vs) more)
      ∙ left
      ∙ goes_on product_of (e.factor number d) a b infixes.Join total t (vs ++ more) (from total more) refl (e.factor_takes_too number d) word right

  pair_text : (o : Infix) (a b : Expr) (w v : List ℕ) (p at : ℕ) (rest : List ℕ) (x : Text (word_level o) a w p at (word_text o ++ (v ++ rest)))
      → Text (word_level o + 1) b v p (x.end + 1 + length (infix_word o) + 1) rest → Text (word_level o) (combined o a b) (w ++ word_text o ++ v) p at rest
  pair_text o a b w v p at rest x y =
      let t = word_at o (x.end + 1) in
      let is = word_is o (x.end + 1) in
      let text : (w ++ word_text o ++ v) ++ rest ≡ w ++ (word_text o ++ (v ++ rest)) = append_assoc (w ++ word_text o) v rest ∙ append_assoc w (word_text o) (v ++ rest) in
      record {
        tokens = x.tokens ++ t ∷ y.tokens;
        end = y.end;
        many = x.many + y.many + 1;
        segment = rw text (and_then x.segment (and_then (word_segment o x.end (v ++ rest)) y.segment));
        reads = λ d total more le deep.
            let split : (x.tokens ++ t ∷ y.tokens) ++ more ≡ x.tokens ++ (t ∷ y.tokens ++ more) = append_assoc x.tokens (t ∷ y.tokens) more in
            let sizes : length (x.tokens ++ (t ∷ y.tokens ++ more)) ≡ length x.tokens + length (t ∷ y.tokens ++ more) = length-append x.tokens (t ∷ y.tokens ++ more) in
            pair_reads o a b d total x.tokens y.tokens more t is (x.reads d total (t ∷ y.tokens ++ more) (omega (arith, ap length split)) deep) (y.reads d total more (omega (arith, ap length split)) deep);
        few = omega (arith, x.few, y.few, size_combined o a b);
        nests = λ k more few.
            ap (too_nested p k) (append_assoc x.tokens (t ∷ y.tokens) more)
            ∙ x.nests k (t ∷ y.tokens ++ more) (omega arith)
            ∙ word_nests o p (k + x.many) t (y.tokens ++ more) is (omega arith)
            ∙ y.nests (k + x.many + 1) more (omega arith)
            ∙ ap (λ i. too_nested p i more) (omega arith);
      }

  -- ---- what was read of a text

  abbrev T : RawQuery → Shown
  T q = expr_shown heads (h q)

  abbrev Known : RawQuery → Type 0
  Known q = uses_only (λ n. nat_lt n (length heads)) (h q) ≡ true

  pub level_is : {p l : ℕ} {q : RawQuery} → Fits p l q → l ≡ (T q).level
  level_is (table {at} {n} is) = sym (ap (λ x. (expr_shown heads x).level) (e.expr_named number at n) ∙ ap (λ (t : Shown). t.level) (shown_base heads (number n)))
  level_is (behind {at} {x} {q} is part) = sym (ap (λ y. (expr_shown heads y).level) (e.expr_behind number at x q) ∙ ap (λ (t : Shown). t.level) (shown_applied heads x (h q)))
  level_is (between {at} {a} {b} o left right) = sym (ap (λ y. (expr_shown heads y).level) (e.expr_between number at o a b) ∙ ap (λ (t : Shown). t.level) (shown_combined heads o (h a) (h b)))

  mutual
    fits_text : {p l : ℕ} {q : RawQuery} → Fits p l q → Known q → (at : ℕ) (rest : List ℕ) → Follows rest → Text l (h q) (T q).text p at rest
    fits_text (table {p} {at} {n} is) known place rest follows =
        let named = e.expr_named number at n in
        let used : nat_lt (number n) (length heads) ≡ true = sym (ap (uses_only (λ n. nat_lt n (length heads))) named ∙ uses_base (λ n. nat_lt n (length heads)) (number n)) ∙ known in
        let text : n ≡ (T (Named at n)).text = sym (ap (λ x. (expr_shown heads x).text) named ∙ ap (λ (t : Shown). t.text) (shown_base heads (number n)) ∙ printed_name n used) in
        recast (Base (number n)) (h (Named at n)) n (T (Named at n)).text (sym named) text (table_text n is p place rest follows)
    fits_text (behind {p} {at} {x} {q} is part) known place rest follows =
        let named = e.expr_behind number at x q in
        let used : Known q = sym (ap (uses_only (λ n. nat_lt n (length heads))) named ∙ uses_applied (λ n. nat_lt n (length heads)) x (h q)) ∙ known in
        let text : prefix_text x ++ placed 3 (T q) ≡ (T (Behind at x q)).text = sym (ap (λ y. (expr_shown heads y).text) named ∙ ap (λ (t : Shown). t.text) (shown_applied heads x (h q))) in
        let a = prefix_read number most p x is place (placed 3 (T q) ++ rest) in
        recast (applied x (h q)) (h (Behind at x q)) (prefix_text x ++ placed 3 (T q)) (T (Behind at x q)).text (sym named) text
        (behind_text x (h q) (placed 3 (T q)) p place rest a (held_text part used a.end rest follows))
    fits_text (between {p} {at} {a} {b} o left right) known place rest follows =
        let named = e.expr_between number at o a b in
        let l = word_level o in
        let used = and_parts (uses_only (λ n. nat_lt n (length heads)) (h a)) (uses_only (λ n. nat_lt n (length heads)) (h b)) (sym (ap (uses_only (λ n. nat_lt n (length heads))) named ∙ uses_combined (λ n. nat_lt n (length heads)) o (h a) (h b)) ∙ known) in
        let text : placed l (T a) ++ word_text o ++ placed (l + 1) (T b) ≡ (T (Between at o a b)).text = sym (ap (λ y. (expr_shown heads y).text) named ∙ ap (λ (t : Shown). t.text) (shown_combined heads o (h a) (h b))) in
        let x = held_text left used.0 place (word_text o ++ (placed (l + 1) (T b) ++ rest)) (word_follows o (placed (l + 1) (T b) ++ rest)) in
        recast (combined o (h a) (h b)) (h (Between at o a b)) (placed l (T a) ++ word_text o ++ placed (l + 1) (T b)) (T (Between at o a b)).text (sym named) text
        (pair_text o (h a) (h b) (placed l (T a)) (placed (l + 1) (T b)) p place rest x (held_text right used.1 (x.end + 1 + length (infix_word o) + 1) rest follows))

    held_text : {p least : ℕ} {q : RawQuery} → Held p least q → Known q → (at : ℕ) (rest : List ℕ) → Follows rest → Text least (h q) (placed least (T q)) p at rest
    held_text (bare {p} {l} {least} {q} le f) known at rest follows =
        let x = fits_text f known at rest follows in
        subst (λ w. Text least (h q) w p at rest) (sym (placed_tight least l (T q) (level_is f) le))
        (record { tokens = x.tokens; end = x.end; many = x.many; segment = x.segment; reads = λ d total more long deep. raise least l (h q) d total x.tokens more le (x.reads d total more long deep); few = x.few; nests = x.nests })
    held_text (grouped {p} {l} {least} {q} lt room f) known at rest follows =
        subst (λ w. Text least (h q) w p at rest) (sym (placed_loose least l (T q) (level_is f) lt))
        (group_text least l (h q) (T q).text p at rest room (fits_text f known (at + 1) (41 ∷ rest) refl))

  -- the text of a whole query, up to its end
  pub whole_text : (q : RawQuery) → Held 0 1 q → Known q → Text 1 (h q) (placed 1 (T q)) 0 0 []
  whole_text q held known = held_text held known 0 [] refl
