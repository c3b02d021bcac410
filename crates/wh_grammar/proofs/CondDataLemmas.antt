-- The readers of conditions against the grammar of conditions as data.
use Rattle.std.proofs.Common.{◌≡◌, ◌<◌, ◌≤◌, ℕ, zero, suc, ◌+◌, ◌*◌, Bool, true, false, not, ◌||◌, cond, List, [], ◌∷◌, Option, Some, None, Err, refl, sym, ap, subst, arith}
use Rattle.std.specs.List.{list_all}
use Rattle.std.specs.Str.{bytes_eq}
use Rattle.std.proofs.lemmas.Bool.{and_parts}
use Rattle.wh_lex.specs.declared.token.TokenKind.{TokenKind}
use Rattle.wh_lex.specs.declared.token.TokenKind.TheVariants as kinds
use Rattle.wh_base.specs.declared.cond.Cond.{Cond}
use Rattle.wh_base.specs.declared.cond.Cond.TheVariants.{Cmp, Not, And, Or}
use Rattle.wh_base.specs.declared.cond.Operand.{Operand}
use Rattle.wh_grammar.specs.declared.symbol.Symbol.{Symbol}
use Rattle.wh_grammar.specs.declared.symbol.Symbol.TheVariants as s
use Rattle.wh_grammar.specs.Symbols.{symbol, lookup, reserved_words, marks}
use Rattle.wh_grammar.specs.Grammar.{Input, Lexeme, Outcome, Part, ◌>>=◌, pure, refusal, same, next, token, taken, ◌or◌, each, more}
use Rattle.wh_grammar.specs.GrammarData.{Tree, leaf, pair, left, right, empty, Grammar, Agrees, token_tree, mapped, sequence, repeated, meaning, trees, unit_of, behind}
use Rattle.wh_grammar.specs.Conditions as g
use Rattle.wh_grammar.specs.ConditionData.{CondRule, disjunction, conjunction, negation, operator, operand, conditions, operand_of, operator_of, cond_of, disjoined, conj_of, conjoined, neg_of, ConditionsAgree}
use Rattle.wh_grammar.proofs.GrammarLemmas.{left as tokens_left, takes_keeps, token_takes, more_takes}
use Rattle.wh_grammar.proofs.CondLemmas.{comparison_keeps, operand_takes, neg_of_takes, conj_of_takes, inner_keeps}
use Rattle.wh_grammar.proofs.DataLemmas.{SameTo, seq_agrees, behind_agrees, starts_same, map_agrees, map_same, step, last_step, token_same, or_same, each_agrees, more_same}

-- ---- operators

operator_begins : (t : Symbol) → (meaning {N = CondRule} (λ r. token_tree s.End) (conditions (λ r. r) operator)).begins t ≡ g.comparison.begins t
unfolding same
operator_begins s.Equal = refl
operator_begins s.NotEqual = refl
operator_begins s.Less = refl
operator_begins s.LessEqual = refl
operator_begins s.Greater = refl
operator_begins s.GreaterEqual = refl
operator_begins _ = refl

operator_turn : (t : Symbol) (i : Input) → next i ≡ t → Agrees operator_of ((meaning {N = CondRule} (λ r. token_tree s.End) (conditions (λ r. r) operator)).read i) (g.comparison.read i)
unfolding same
operator_turn s.Equal i e = rw e (refl, refl)
operator_turn s.NotEqual i e = rw e (refl, refl)
operator_turn s.Less i e = rw e (refl, refl)
operator_turn s.LessEqual i e = rw e (refl, refl)
operator_turn s.Greater i e = rw e (refl, refl)
operator_turn s.GreaterEqual i e = rw e (refl, refl)
operator_turn _ i e = rw e refl

-- ---- operands

pub lookup_no : (p : Symbol → Bool) (table : List (List ℕ × Symbol)) (word : List ℕ) (other : Symbol) → list_all (λ (k : List ℕ × Symbol). not (p k.1)) table ≡ true → p other ≡ false → p (lookup table word other) ≡ false
lookup_no p [] word other all no-other = no-other
lookup_no p (k ∷ ks) word other all no-other = lookup_turn (bytes_eq k.0 word) p k.1 (lookup ks word other) (and_parts (not (p k.1)) (list_all (λ (k : List ℕ × Symbol). not (p k.1)) ks) all).0 (lookup_no p ks word other (and_parts (not (p k.1)) (list_all (λ (k : List ℕ × Symbol). not (p k.1)) ks) all).1 no-other)
  where
    unset : (b : Bool) → not b ≡ true → b ≡ false
    unset true h = absurd cc
    unset false h = refl

    lookup_turn : (b : Bool) (p : Symbol → Bool) (x y : Symbol) → not (p x) ≡ true → p y ≡ false → p (cond b x y) ≡ false
    lookup_turn true p x y h k = unset (p x) h
    lookup_turn false p x y h k = k

no_literal : (t : Lexeme) → (t.kind ≡ kinds.Word) → g.literal.begins (symbol t.kind t.bytes) ≡ false
unfolding symbol same
no_literal t e = rw e (lookup_no g.literal.begins reserved_words t.bytes s.Name refl refl)

no_mark_literal : (t : Lexeme) → (t.kind ≡ kinds.Mark) → g.literal.begins (symbol t.kind t.bytes) ≡ false
unfolding symbol same
no_mark_literal t e = rw e (lookup_no g.literal.begins marks t.bytes s.End refl refl)

abbrev literal_tree : Part Tree
literal_tree = mapped left (token_tree s.Integer) or mapped right (token_tree s.Quoted)

abbrev literal_in : Tree → Option Operand
literal_in t = operand_of (right t)

none_outcome : (o : Option Operand) (b c : Bool) (i : Input) (x y : Outcome Tree) → b ≡ false → c ≡ false → o ≡ None → Agrees literal_in (cond b x (cond c y (Err (refusal i)))) (taken o i)
none_outcome o b c i x y e f n = rw (e, f, n) refl

or_none : (x y : Bool) → (x || y) ≡ false → (x ≡ false) × (y ≡ false)
or_none false false e = (refl, refl)
or_none true y e = absurd cc
or_none false true e = absurd cc

no_token : (t : Lexeme) (ts : List Lexeme) (end : ℕ) → g.literal.begins (symbol t.kind t.bytes) ≡ false → g.value_of t.kind ≡ None
    → Agrees literal_in (literal_tree.read (record { ahead = t ∷ ts; end = end })) (g.literal.read (record { ahead = t ∷ ts; end = end }))
unfolding next
no_token t ts end other none =
    let i : Input = record { ahead = t ∷ ts; end = end } in
    let o = or_none (same (symbol t.kind t.bytes) s.Integer) (same (symbol t.kind t.bytes) s.Quoted) other in
    none_outcome (g.value_of t.kind) (same (symbol t.kind t.bytes) s.Integer) (same (symbol t.kind t.bytes) s.Quoted) i _ _ o.0 o.1 none

literal_token : (kind : TokenKind) (t : Lexeme) (ts : List Lexeme) (end : ℕ) → t.kind ≡ kind
    → Agrees literal_in (literal_tree.read (record { ahead = t ∷ ts; end = end })) (g.literal.read (record { ahead = t ∷ ts; end = end }))
unfolding next same symbol
literal_token kinds.Word t ts end e = no_token t ts end (no_literal t e) (ap g.value_of e)
literal_token (kinds.Int v) t ts end e = rw e (refl, refl)
literal_token (kinds.Text v) t ts end e = rw e (refl, refl)
literal_token kinds.Mark t ts end e = no_token t ts end (no_mark_literal t e) (ap g.value_of e)

literal_reads : (ts : List Lexeme) (end : ℕ) → Agrees literal_in (literal_tree.read (record { ahead = ts; end = end })) (g.literal.read (record { ahead = ts; end = end }))
unfolding next same
literal_reads [] end = refl
literal_reads (t ∷ ts) end = literal_token t.kind t ts end refl

literal_same : (m : ℕ) → SameTo m literal_in literal_tree g.literal
literal_same m = record { begins = λ k. refl; reads = λ i le. literal_reads i.ahead i.end }

named_turn : (b : Bool) (i : Input) → same (next i) s.Name ≡ b → Agrees operand_of ((mapped left (token_tree s.Name)).read i) (g.named.read i)
named_turn true i e = rw e (refl, refl)
named_turn false i e = rw e refl

named_same : (m : ℕ) → SameTo m operand_of (mapped left (token_tree s.Name)) g.named
named_same m = record { begins = λ k. refl; reads = λ i le. named_turn (same (next i) s.Name) i refl }

operand_same : (m : ℕ) → SameTo m operand_of (mapped left (token_tree s.Name) or mapped right literal_tree) g.operand
operand_same m = or_same m operand_of (mapped left (token_tree s.Name)) (mapped right literal_tree) g.named g.literal (named_same m) (map_same m literal_in operand_of literal_tree g.literal right (literal_same m) (λ x a e. e))

-- ---- conditions behind a first one

conj_step : (o : Option Cond) (t x : Tree) (a b : Cond) → conjoined t o ≡ Some a → behind neg_of x ≡ Some b → conjoined (pair t x) o ≡ Some (And a b)
conj_step o t empty a b h k = absurd cc
conj_step o t (leaf kind bytes) a b h k = absurd cc
conj_step o t (pair y c) a b h k = rw (h, k) refl
conj_step o t (left y) a b h k = absurd cc
conj_step o t (right y) a b h k = absurd cc

disj_step : (o : Option Cond) (t x : Tree) (a b : Cond) → disjoined t o ≡ Some a → behind conj_of x ≡ Some b → disjoined (pair t x) o ≡ Some (Or a b)
disj_step o t empty a b h k = absurd cc
disj_step o t (leaf kind bytes) a b h k = absurd cc
disj_step o t (pair y c) a b h k = rw (h, k) refl
disj_step o t (left y) a b h k = absurd cc
disj_step o t (right y) a b h k = absurd cc

-- ---- the rules of a grammar that has those of a condition among its own

module _ {N : Type 0} (grammar : N → Grammar N) (within : CondRule → N) (is : (r : CondRule) → grammar (within r) ≡ conditions within r) where
  abbrev tree : ℕ → CondRule → Part Tree
  tree depth r = trees grammar depth (within r)

  -- a rule, one deeper
  deeper : {A : Type 0} (m depth : ℕ) (r : CondRule) (v : Tree → Option A) (q : Part A) → SameTo m v (meaning (trees grammar depth) (conditions within r)) q → SameTo m v (tree (suc depth) r) q
  deeper m depth r v q h = subst (λ (w : Grammar N). SameTo m v (meaning (trees grammar depth) w) q) (sym (is r)) h

  operator_at : (m depth : ℕ) → 1 ≤ depth → SameTo m operator_of (tree depth operator) g.comparison
  operator_at m zero le = absurd (omega arith)
  operator_at m (suc depth) le = deeper m depth operator operator_of g.comparison (record { begins = operator_begins; reads = λ i le. operator_turn (next i) i refl })

  operand_at : (m depth : ℕ) → 1 ≤ depth → SameTo m operand_of (tree depth operand) g.operand
  operand_at m zero le = absurd (omega arith)
  operand_at m (suc depth) le = deeper m depth operand operand_of g.operand (operand_same m)

  abbrev compare_in : Tree → Option Cond
  compare_in t = neg_of (right (right t))

  compare_same : (m depth : ℕ) → 1 ≤ depth → SameTo m compare_in (sequence (tree depth operand) (sequence (tree depth operator) (tree depth operand))) g.compare
  compare_same m depth le = record {
    begins = (operand_at m depth le).begins;
    reads = step m operand_of compare_in (tree depth operand).read g.operand.read _ _ (takes_keeps g.operand.read operand_takes) (operand_at m depth le).reads (λ x l e.
        step m operator_of (λ z. compare_in (pair x z)) (tree depth operator).read g.comparison.read _ _ comparison_keeps (operator_at m depth le).reads (λ y o d.
        last_step m operand_of (λ z. compare_in (pair x (pair y z))) (tree depth operand).read g.operand.read (λ r. Cmp l o r) (operand_at m depth le).reads (λ z r c. rw (e, d, c) refl)));
  }

  -- what stands behind a `not` and in parentheses agrees, where fewer tokens are left
  abbrev Inner : ℕ → ℕ → Type 0
  Inner d m = (j : Input) → tokens_left j < m → (depth : ℕ) → 3 * m + 1 ≤ depth
      → Agrees neg_of ((tree depth negation).read j) ((g.inner d).0 j) × Agrees cond_of ((tree depth disjunction).read j) ((g.inner d).1 j)

  abbrev negated_in : Tree → Option Cond
  negated_in t = neg_of (left t)

  negated_same : (d m depth : ℕ) → Inner d m → 3 * m + 1 ≤ depth → SameTo m negated_in (sequence (token_tree s.Not) (tree depth negation)) (g.negated (g.inner d).0)
  unfolding same
  negated_same d m depth inner le = record {
    begins = λ k. refl;
    reads = behind_agrees m unit_of negated_in (token_tree s.Not).read (token s.Not).read _ _ (token_takes s.Not refl) (token_same m s.Not).reads
        (λ x a j e lt. seq_agrees neg_of negated_in ((tree depth negation).read j) ((g.inner d).0 j) (λ y. pure (pair x y)) (λ c. pure (Not c)) (inner j lt depth le).0 (λ y c k f o. (rw f refl, refl)));
  }

  abbrev group_in : Tree → Option Cond
  group_in t = neg_of (right (left t))

  group_same : (d m depth : ℕ) → Inner d m → 3 * m + 1 ≤ depth → SameTo m group_in (sequence (token_tree s.LeftParen) (sequence (tree depth disjunction) (token_tree s.RightParen))) (g.group (g.inner d).1)
  unfolding same
  group_same d m depth inner le = record {
    begins = λ k. refl;
    reads = behind_agrees m unit_of group_in (token_tree s.LeftParen).read (token s.LeftParen).read _ _ (token_takes s.LeftParen refl) (token_same m s.LeftParen).reads
        (λ x a j e lt. map_agrees (λ z. group_in (pair x z)) group_in _ _ (λ z. pair x z)
        (seq_agrees cond_of (λ z. group_in (pair x z)) ((tree depth disjunction).read j) ((g.inner d).1 j) (λ y. (token_tree s.RightParen).read >>= (λ z. pure (pair y z))) (λ c. (token s.RightParen).read >>= (λ _. pure c)) (inner j lt depth le).1
        (λ y c k f o. seq_agrees unit_of (λ z. group_in (pair x z)) ((token_tree s.RightParen).read k) ((token s.RightParen).read k) (λ z. pure (pair y z)) (λ _. pure c) ((token_same (tokens_left k) s.RightParen).reads k (omega arith)) (λ z u l h q. (f, refl))))
        (λ z b c. c));
  }

  neg_at : (d m depth : ℕ) → Inner d m → 3 * m + 2 ≤ depth → SameTo m neg_of (tree depth negation) (g.neg_of (g.inner d).0 (g.inner d).1)
  neg_at d m zero inner le = absurd (omega arith)
  neg_at d m (suc depth) inner le =
      let negs = negated_same d m depth inner (omega arith) in
      let groups = group_same d m depth inner (omega arith) in
      let compares = compare_same m depth (omega arith) in
      deeper m depth negation neg_of (g.neg_of (g.inner d).0 (g.inner d).1)
      (or_same m neg_of _ _ (g.negated (g.inner d).0) _ (map_same m negated_in neg_of _ (g.negated (g.inner d).0) left negs (λ x a e. e))
      (map_same m (λ t. neg_of (right t)) neg_of _ _ right
      (or_same m (λ t. neg_of (right t)) _ _ (g.group (g.inner d).1) g.compare (map_same m group_in (λ t. neg_of (right t)) _ (g.group (g.inner d).1) left groups (λ x a e. e)) (map_same m compare_in (λ t. neg_of (right t)) _ g.compare right compares (λ x a e. e)))
      (λ x a e. e)))

  conj_at : (d m depth : ℕ) → Inner d m → 3 * m + 3 ≤ depth → SameTo m conj_of (tree depth conjunction) (g.conj_of (g.neg_of (g.inner d).0 (g.inner d).1))
  unfolding same
  conj_at d m zero inner le = absurd (omega arith)
  conj_at d m (suc depth) inner le =
      let neg = g.neg_of (g.inner d).0 (g.inner d).1 in
      let takes = neg_of_takes (g.inner d).0 (g.inner d).1 (inner_keeps d).0 (inner_keeps d).1 in
      let h = neg_at d m depth inner (omega arith) in
      let turns = sequence (token_tree s.And) (tree depth negation) in
      deeper m depth conjunction conj_of (g.conj_of neg)
      (starts_same m neg_of conj_of (tree depth negation) neg (λ x. (repeated turns).read >>= (λ y. pure (pair x y))) (λ first. each And (more neg s.And) first) (takes_keeps neg.read takes) h
      (λ x a e i le. map_agrees (λ t. conjoined t (Some a)) conj_of ((repeated turns).read i) (each And (more neg s.And) a i) (λ y. pair x y)
      (each_agrees m (behind neg_of) (λ t. conjoined t (Some a)) And turns (more neg s.And) (takes_keeps (more neg s.And).read (more_takes neg s.And refl takes)) (more_same m neg_of (tree depth negation) neg s.And refl h) (conj_step (Some a)) a refl i le)
      (λ t c f. rw e f)))

  cond_at : (d m depth : ℕ) → Inner d m → 3 * m + 4 ≤ depth → SameTo m cond_of (tree depth disjunction) (g.cond_of (g.conj_of (g.neg_of (g.inner d).0 (g.inner d).1)))
  unfolding same
  cond_at d m zero inner le = absurd (omega arith)
  cond_at d m (suc depth) inner le =
      let neg = g.neg_of (g.inner d).0 (g.inner d).1 in
      let conj = g.conj_of neg in
      let takes = conj_of_takes neg (neg_of_takes (g.inner d).0 (g.inner d).1 (inner_keeps d).0 (inner_keeps d).1) in
      let h = conj_at d m depth inner (omega arith) in
      let turns = sequence (token_tree s.Or) (tree depth conjunction) in
      deeper m depth disjunction cond_of (g.cond_of conj)
      (starts_same m conj_of cond_of (tree depth conjunction) conj (λ x. (repeated turns).read >>= (λ y. pure (pair x y))) (λ first. each Or (more conj s.Or) first) (takes_keeps conj.read takes) h
      (λ x a e i le. map_agrees (λ t. disjoined t (Some a)) cond_of ((repeated turns).read i) (each Or (more conj s.Or) a i) (λ y. pair x y)
      (each_agrees m (behind conj_of) (λ t. disjoined t (Some a)) Or turns (more conj s.Or) (takes_keeps (more conj s.Or).read (more_takes conj s.Or refl takes)) (more_same m conj_of (tree depth conjunction) conj s.Or refl h) (disj_step (Some a)) a refl i le)
      (λ t c f. rw e f)))

  inner_same : (d m : ℕ) → m ≤ d → Inner d m
  unfolding g.inner
  inner_same zero m le j lt depth more = absurd (omega arith)
  inner_same (suc d) m le j lt depth more =
      let n = tokens_left j in
      let h = inner_same d n (omega arith) in
      ((neg_at d n depth h (omega arith)).reads j (omega arith), (cond_at d n depth h (omega arith)).reads j (omega arith))

  -- a condition agrees, where both may go as deep as there are tokens
  pub cond_same : (d m depth : ℕ) → m ≤ d → 3 * m + 4 ≤ depth → SameTo m cond_of (tree depth disjunction) (g.cond d)
  unfolding g.cond g.conj g.neg
  cond_same d m depth le more = cond_at d m depth (inner_same d m le) more

pub conditions_agree : ConditionsAgree
conditions_agree d e i le more = (cond_same (conditions (λ r. r)) (λ r. r) (λ r. refl) d (tokens_left i) e le more).reads i (omega arith)
