-- The readers of a query against the grammar as data.
use Rattle.std.proofs.Common.{◌≡◌, ◌<◌, ◌≤◌, ℕ, zero, suc, ◌+◌, ◌*◌, Bool, true, false, List, Option, Some, None, Ok, Err, refl, ap, subst, ◌∙◌, arith}
use Rattle.std.specs.Prelude.{is_some}
use Rattle.wh_expr.specs.declared.expr.Expr.{Expr}
use Rattle.wh_grammar.specs.declared.symbol.Symbol.{Symbol}
use Rattle.wh_grammar.specs.declared.symbol.Symbol.TheVariants as s
use Rattle.wh_grammar.specs.Grammar.{Input, Part, Parser, ◌>>=◌, pure, same, next, refusal, token, valued, name, enclosed, ◌or◌, each, separated, whole}
use Rattle.wh_grammar.specs.GrammarData.{Tree, empty, leaf, pair, left, right, Agrees, token_tree, mapped, sequence, repeated, meaning, trees, name_of, unit_of, both, separated_of, enclosed_of}
use Rattle.wh_grammar.specs.Conditions as conditions
use Rattle.wh_grammar.specs.ConditionData.{disjunction, cond_of}
use Rattle.wh_grammar.proofs.GrammarLemmas.{left as tokens_left, Keeps, Takes, bind_takes, bind_keeps, pure_keeps, takes_keeps, token_takes, name_takes, separated_takes, each_keeps}
use Rattle.wh_grammar.proofs.CondLemmas.{condition_takes}
use Rattle.wh_grammar.proofs.DataLemmas.{AgreeTo, SameTo, seq_agrees, behind_agrees, starts_same, map_agrees, map_same, step, last_step, token_same, name_same, or_same, cond_agrees, each_agrees, separated_same, enclosed_same}
use Rattle.wh_grammar.proofs.CondDataLemmas.{cond_same}
use Rattle.wh_query_text.specs.declared.raw.Infix.{Infix}
use Rattle.wh_query_text.specs.declared.raw.Infix.TheVariants as infixes
use Rattle.wh_query_text.specs.declared.raw.Prefix.{Prefix}
use Rattle.wh_query_text.specs.declared.raw.Prefix.TheVariants as prefixes
use Rattle.wh_query_text.specs.Queries as g
use Rattle.wh_query_text.specs.Queries.{product_of, sum_of}
use Rattle.wh_query_text.specs.QueryTexts.{applied, combined, expr_of}
use Rattle.wh_query_text.specs.QueryData as d
use Rattle.wh_query_text.specs.QueryData.{Rule, queries, in_parentheses, renaming_of, columns_of, renaming_columns_of, query_of, summed, term_of, joined, factor_of, made, QueriesAgree}
use Rattle.wh_query_text.proofs.QueryLemmas.{columns_takes, selection_takes, renaming_takes, renamings_takes, renaming_columns_takes, word_takes}
use Rattle.wh_query_text.proofs.Unplaced as e

abbrev tree : ℕ → Rule → Part Tree
tree depth r = trees queries depth r

abbrev one : (m : ℕ) (k : Symbol) → AgreeTo m unit_of (token_tree k).read (token k).read
one m k = (token_same m k).reads

-- ---- names, renamings and conditions in parentheses

names_same : (m depth : ℕ) → 1 ≤ depth → SameTo m (separated_of name_of) (tree depth d.names) (separated name s.Comma)
unfolding same
names_same m zero le = absurd (omega arith)
names_same m (suc depth) le = separated_same m name_of (token_tree s.Name) name s.Comma refl name_takes (name_same m)

columns_same : (m depth : ℕ) → 1 ≤ depth → SameTo m columns_of (meaning (tree depth) (in_parentheses d.names)) g.columns
unfolding same
columns_same m depth le = enclosed_same m (separated_of name_of) (tree depth d.names) (separated name s.Comma).read (takes_keeps _ (separated_takes name s.Comma refl name_takes)) (names_same m depth le).reads

renaming_same : (m depth : ℕ) → SameTo m renaming_of (meaning (tree depth) d.renaming) g.renaming
unfolding same
renaming_same m depth = record {
  begins = λ t. refl;
  reads =
      step m name_of renaming_of (token_tree s.Name).read name.read _ _ (takes_keeps _ name_takes) (name_same m).reads (λ x from f.
      step m unit_of (λ z. renaming_of (pair x z)) (token_tree s.To).read (token s.To).read _ _ (takes_keeps (token s.To).read (token_takes s.To refl)) (one m s.To) (λ y a h.
      last_step m name_of (λ z. renaming_of (pair x (pair y z))) (token_tree s.Name).read name.read (λ to. record { from = from; to = to }) (name_same m).reads (λ z to k. rw (f, k) refl)));
}

renamings_same : (m depth : ℕ) → 1 ≤ depth → SameTo m (separated_of renaming_of) (tree depth d.renamings) g.renamings
unfolding same
renamings_same m zero le = absurd (omega arith)
renamings_same m (suc depth) le = separated_same m renaming_of (meaning (tree depth) d.renaming) g.renaming s.Comma refl renaming_takes (renaming_same m depth)

renaming_columns_same : (m depth : ℕ) → 1 ≤ depth → SameTo m renaming_columns_of (meaning (tree depth) (in_parentheses d.renamings)) g.renaming_columns
renaming_columns_same m depth le = enclosed_same m (separated_of renaming_of) (tree depth d.renamings) g.renamings.read (takes_keeps _ renamings_takes) (renamings_same m depth le).reads

selection_same : (m n depth : ℕ) → m ≤ n → 3 * m + 4 ≤ depth → SameTo m (enclosed_of cond_of) (meaning (tree depth) (in_parentheses (d.condition disjunction))) (g.selection n)
selection_same m n depth le deep = enclosed_same m cond_of (tree depth (d.condition disjunction)) (conditions.cond n).read (takes_keeps _ (condition_takes n)) (cond_same queries d.condition (λ r. refl) n m depth le deep).reads

-- ---- words between parts

-- a word and the part behind it
abbrev turn_of : (Tree → Option Infix) → (Tree → Option Expr) → Tree → Option (Infix × Expr)
turn_of word value (pair x t) = both (λ o e. (o, e)) (word x) (value t)
turn_of word value _ = None

abbrev join_word : Tree → Option Infix
join_word _ = Some infixes.Join

abbrev sum_word : Tree → Option Infix
sum_word (left t) = Some infixes.Union
sum_word (right t) = Some infixes.Minus
sum_word _ = None

abbrev sum_tree : Part Tree
sum_tree = mapped left (token_tree s.Union) or mapped right (token_tree s.Minus)

join_begins : (t : Symbol) → same t s.Join ≡ is_some (product_of t)
unfolding same
join_begins s.Join = refl
join_begins _ = refl

join_turn : (t : Symbol) (i : Input) → next i ≡ t → Agrees join_word ((token_tree s.Join).read i) ((valued product_of).read i)
unfolding same
join_turn s.Join i h = rw h (refl, refl)
join_turn _ i h = rw h refl

join_same : (m : ℕ) → SameTo m join_word (token_tree s.Join) (valued product_of)
join_same m = record { begins = join_begins; reads = λ i le. join_turn (next i) i refl }

sum_begins : (t : Symbol) → sum_tree.begins t ≡ is_some (sum_of t)
unfolding same
sum_begins s.Union = refl
sum_begins s.Minus = refl
sum_begins _ = refl

sum_turn : (t : Symbol) (i : Input) → next i ≡ t → Agrees sum_word (sum_tree.read i) ((valued sum_of).read i)
unfolding same
sum_turn s.Union i h = rw h (refl, refl)
sum_turn s.Minus i h = rw h (refl, refl)
sum_turn _ i h = rw h refl

sum_same : (m : ℕ) → SameTo m sum_word sum_tree (valued sum_of)
sum_same m = record { begins = sum_begins; reads = λ i le. sum_turn (next i) i refl }

both_parts : (o : Option Infix) (u : Option Expr) (b : Infix × Expr) → both (λ o e. (o, e)) o u ≡ Some b → (o ≡ Some b.0) × (u ≡ Some b.1)
both_parts None u b h = absurd cc
both_parts (Some o) None b h = absurd cc
both_parts (Some o) (Some x) b h = let same-pair : (o, x) ≡ b = cc in (ap (λ (p : Infix × Expr). Some p.0) same-pair, ap (λ (p : Infix × Expr). Some p.1) same-pair)

some_is : (a b : Infix) → Some a ≡ Some b → a ≡ b
some_is a b h = cc

-- ---- the rules of a query

module _ (number : List ℕ → ℕ) where
  join_step : (o : Option Expr) (t x : Tree) (a : Expr) (b : Infix × Expr) → joined number t o ≡ Some a → turn_of join_word (factor_of number) x ≡ Some b → joined number (pair t x) o ≡ Some (combined b.0 a b.1)
  join_step o t empty a b h k = absurd cc
  join_step o t (leaf kind bytes) a b h k = absurd cc
  join_step o t (left y) a b h k = absurd cc
  join_step o t (right y) a b h k = absurd cc
  join_step o t (pair y c) a b h k =
      let p = both_parts (join_word y) (factor_of number c) b k in
      let word = some_is infixes.Join b.0 p.0 in
      rw (h, p.1, ← word) refl

  sum_step : (o : Option Expr) (t x : Tree) (a : Expr) (b : Infix × Expr) → summed number t o ≡ Some a → turn_of sum_word (term_of number) x ≡ Some b → summed number (pair t x) o ≡ Some (combined b.0 a b.1)
  sum_step o t empty a b h k = absurd cc
  sum_step o t (leaf kind bytes) a b h k = absurd cc
  sum_step o t (left y) a b h k = absurd cc
  sum_step o t (right y) a b h k = absurd cc
  sum_step o t (pair (left y) c) a b h k =
      let p = both_parts (Some infixes.Union) (term_of number c) b k in
      let word = some_is infixes.Union b.0 p.0 in
      rw (h, p.1, ← word) refl
  sum_step o t (pair (right y) c) a b h k =
      let p = both_parts (Some infixes.Minus) (term_of number c) b k in
      let word = some_is infixes.Minus b.0 p.0 in
      rw (h, p.1, ← word) refl
  sum_step o t (pair empty c) a b h k = absurd cc
  sum_step o t (pair (leaf kind bytes) c) a b h k = absurd cc
  sum_step o t (pair (pair y z) c) a b h k = absurd cc

  further_takes : (words : Symbol → Option Infix) (p : Part Expr) → words s.End ≡ None → Takes p.read → Takes (e.further number words p).read
  further_takes words p none takes = bind_takes (valued words).read (λ o. p.read >>= (λ x. pure (o, x))) (word_takes words none) (λ o. bind_keeps p.read (λ x. pure (o, x)) (takes_keeps p.read takes) (λ x. pure_keeps (o, x)))

  turn_same : (m : ℕ) (words : Symbol → Option Infix) (word : Tree → Option Infix) (word_tree : Part Tree) (value : Tree → Option Expr) (t : Part Tree) (p : Part Expr) → words s.End ≡ None
      → SameTo m word word_tree (valued words) → SameTo m value t p → SameTo m (turn_of word value) (sequence word_tree t) (e.further number words p)
  turn_same m words word word_tree value t p none one two =
      starts_same m word (turn_of word value) word_tree (valued words) (λ x. t.read >>= (λ y. pure (pair x y))) (λ o. p.read >>= (λ a. pure (o, a))) (takes_keeps _ (word_takes words none)) one
      (λ x o f i le. seq_agrees value (turn_of word value) (t.read i) (p.read i) (λ y. pure (pair x y)) (λ a. pure (o, a)) (two.reads i le) (λ y a j h k. (rw (f, h) refl, refl)))

  chain_same : (m : ℕ) (words : Symbol → Option Infix) (word : Tree → Option Infix) (word_tree : Part Tree) (value : Tree → Option Expr) (t : Part Tree) (p : Part Expr)
      (chained : Tree → Option Expr → Option Expr) (all : Tree → Option Expr) → words s.End ≡ None → Takes p.read
      → SameTo m word word_tree (valued words) → SameTo m value t p
      → ((o : Option Expr) (t x : Tree) (a : Expr) (b : Infix × Expr) → chained t o ≡ Some a → turn_of word value x ≡ Some b → chained (pair t x) o ≡ Some (combined b.0 a b.1))
      → ((o : Option Expr) → chained empty o ≡ o) → ((x y : Tree) → all (pair x y) ≡ chained y (value x))
      → SameTo m all (sequence t (repeated (sequence word_tree t))) (e.chain number words p)
  chain_same m words word word_tree value t p chained all none takes one two turn start whole =
      let turns = sequence word_tree t in
      let more = e.further number words p in
      starts_same m value all t p (λ x. (repeated turns).read >>= (λ y. pure (pair x y))) (λ first. each (e.attach_expr number) more first) (takes_keeps p.read takes) two
      (λ x a f i le. map_agrees (λ z. chained z (Some a)) all ((repeated turns).read i) (each (e.attach_expr number) more a i) (λ y. pair x y)
      (each_agrees m (turn_of word value) (λ z. chained z (Some a)) (e.attach_expr number) turns more (takes_keeps more.read (further_takes words p none takes)) (turn_same m words word word_tree value t p none one two) (turn (Some a)) a (start (Some a)) i le)
      (λ z c h. whole x z ∙ ap (λ o. chained z o) f ∙ h))

  -- what stands behind a prefix and in parentheses agrees, where fewer tokens are left
  abbrev Inner : ℕ → ℕ → Type 0
  Inner n m = (j : Input) → tokens_left j < m → (depth : ℕ) → 3 * m + 4 ≤ depth
      → Agrees (factor_of number) ((tree depth d.factor).read j) ((e.inner number n).0 j) × Agrees (query_of number) ((tree depth d.query).read j) ((e.inner number n).1 j)

  named_turn : (b : Bool) (i : Input) → same (next i) s.Name ≡ b → Agrees (factor_of number) ((mapped left (token_tree s.Name)).read i) ((e.named number).read i)
  named_turn true i h = rw h (refl, refl)
  named_turn false i h = rw h refl

  named_at : (m : ℕ) → SameTo m (factor_of number) (mapped left (token_tree s.Name)) (e.named number)
  named_at m = record { begins = λ t. refl; reads = λ i le. named_turn (same (next i) s.Name) i refl }

  abbrev group_in : Tree → Option Expr
  group_in t = factor_of number (right (left t))

  group_at : (n m depth : ℕ) → Inner n m → 3 * m + 4 ≤ depth → SameTo m group_in (meaning (tree depth) (in_parentheses d.query)) (enclosed (e.inner number n).1)
  unfolding same
  group_at n m depth inner le = record {
    begins = λ k. refl;
    reads = behind_agrees m unit_of group_in (token_tree s.LeftParen).read (token s.LeftParen).read _ _ (token_takes s.LeftParen refl) (token_same m s.LeftParen).reads
        (λ x a j f lt. map_agrees (λ z. group_in (pair x z)) group_in _ _ (λ z. pair x z)
        (seq_agrees (query_of number) (λ z. group_in (pair x z)) ((tree depth d.query).read j) ((e.inner number n).1 j) (λ y. (token_tree s.RightParen).read >>= (λ z. pure (pair y z))) (λ c. (token s.RightParen).read >>= (λ _. pure c)) (inner j lt depth le).1
        (λ y c k h o. seq_agrees unit_of (λ z. group_in (pair x z)) ((token_tree s.RightParen).read k) ((token s.RightParen).read k) (λ z. pure (pair y z)) (λ _. pure c) ((token_same (tokens_left k) s.RightParen).reads k (omega arith)) (λ z u l q r. (h, refl))))
        (λ z b c. c));
  }

  -- a prefix and the factor behind it
  prefix_same : {A : Type 0} (n m depth : ℕ) (k : Symbol) (v : Tree → Option A) (t : Part Tree) (p : Parser A) (f : A → Prefix) (w : Tree → Option Expr) → same s.End k ≡ false → Keeps p → AgreeTo m v t.read p → Inner n m → 3 * m + 4 ≤ depth
      → ((x y z : Tree) (a : A) (q : Expr) → v y ≡ Some a → factor_of number z ≡ Some q → w (pair x (pair y z)) ≡ Some (applied (f a) q))
      → SameTo m w (sequence (token_tree k) (sequence t (tree depth d.factor))) (e.behind_word number k p f (e.inner number n).0)
  prefix_same n m depth k v t p f w other keeps agree inner le value = record {
    begins = λ t. refl;
    reads = behind_agrees m unit_of w (token_tree k).read (token k).read _ _ (token_takes k other) (token_same m k).reads
        (λ x u j h lt. map_agrees (λ z. w (pair x z)) w _ _ (λ z. pair x z)
        (seq_agrees v (λ z. w (pair x z)) (t.read j) (p j) (λ y. (tree depth d.factor).read >>= (λ z. pure (pair y z))) (λ a. (e.inner number n).0 >>= (λ q. pure (applied (f a) q))) (agree j (omega arith))
        (λ y a l o r. seq_agrees (factor_of number) (λ z. w (pair x z)) ((tree depth d.factor).read l) ((e.inner number n).0 l) (λ z. pure (pair y z)) (λ q. pure (applied (f a) q)) (inner l (omega (arith, keeps j a l r)) depth le).0
        (λ z q i c b. (value x y z a q o c, refl))))
        (λ z b c. c));
  }

  abbrev project_in : Tree → Option Expr
  project_in t = factor_of number (right (right (left t)))

  abbrev select_in : Tree → Option Expr
  select_in t = factor_of number (right (right (right (left t))))

  abbrev rename_in : Tree → Option Expr
  rename_in t = factor_of number (right (right (right (right t))))

  factor_at : (n m depth : ℕ) → m ≤ n → Inner n m → 3 * m + 5 ≤ depth → SameTo m (factor_of number) (tree depth d.factor) (e.factor_of number n (e.inner number n).0 (e.inner number n).1)
  unfolding same
  factor_at n m zero le inner deep = absurd (omega arith)
  factor_at n m (suc depth) le inner deep =
      let i0 = (e.inner number n).0 in
      let some : 1 ≤ depth = omega arith in
      let enough : 3 * m + 4 ≤ depth = omega arith in
      let projects = prefix_same n m depth s.Project columns_of (meaning (tree depth) (in_parentheses d.names)) g.columns.read prefixes.Project project_in refl (takes_keeps _ columns_takes) (columns_same m depth some).reads inner enough (λ x y z a q h k. rw (h, k) refl) in
      let selects = prefix_same n m depth s.Select (enclosed_of cond_of) (meaning (tree depth) (in_parentheses (d.condition disjunction))) (g.selection n).read prefixes.Select select_in refl (takes_keeps _ (selection_takes n)) (selection_same m n depth le enough).reads inner enough (λ x y z a q h k. rw (h, k) refl) in
      let renames = prefix_same n m depth s.Rename renaming_columns_of (meaning (tree depth) (in_parentheses d.renamings)) g.renaming_columns.read prefixes.Rename rename_in refl (takes_keeps _ renaming_columns_takes) (renaming_columns_same m depth some).reads inner enough (λ x y z a q h k. rw (h, k) refl) in
      or_same m (factor_of number) _ _ (e.named number) _ (named_at m)
      (map_same m (λ t. factor_of number (right t)) (factor_of number) _ _ right
      (or_same m (λ t. factor_of number (right t)) _ _ (enclosed (e.inner number n).1) _ (map_same m group_in (λ t. factor_of number (right t)) _ _ left (group_at n m depth inner enough) (λ x a h. h))
      (map_same m (λ t. factor_of number (right (right t))) (λ t. factor_of number (right t)) _ _ right
      (or_same m (λ t. factor_of number (right (right t))) _ _ (e.behind_word number s.Project g.columns.read prefixes.Project i0) _ (map_same m project_in (λ t. factor_of number (right (right t))) _ _ left projects (λ x a h. h))
      (map_same m (λ t. factor_of number (right (right (right t)))) (λ t. factor_of number (right (right t))) _ _ right
      (or_same m (λ t. factor_of number (right (right (right t)))) _ _ (e.behind_word number s.Select (g.selection n).read prefixes.Select i0) _ (map_same m select_in (λ t. factor_of number (right (right (right t)))) _ _ left selects (λ x a h. h))
      (map_same m rename_in (λ t. factor_of number (right (right (right t)))) _ _ right renames (λ x a h. h)))
      (λ x a h. h)))
      (λ x a h. h)))
      (λ x a h. h))

  term_at : (n m depth : ℕ) → Takes (e.factor_of number n (e.inner number n).0 (e.inner number n).1).read → m ≤ n → Inner n m → 3 * m + 6 ≤ depth
      → SameTo m (term_of number) (tree depth d.term) (e.chain number product_of (e.factor_of number n (e.inner number n).0 (e.inner number n).1))
  term_at n m zero takes le inner deep = absurd (omega arith)
  term_at n m (suc depth) takes le inner deep =
      chain_same m product_of join_word (token_tree s.Join) (factor_of number) (tree depth d.factor) (e.factor_of number n (e.inner number n).0 (e.inner number n).1) (joined number) (term_of number) refl takes
      (join_same m) (factor_at n m depth le inner (omega arith)) join_step (λ o. refl) (λ x y. refl)

  chain_takes : (words : Symbol → Option Infix) (p : Part Expr) → words s.End ≡ None → Takes p.read → Takes (e.chain number words p).read
  chain_takes words p none takes = bind_takes p.read (λ first. each (e.attach_expr number) (e.further number words p) first) takes (λ first. each_keeps (e.attach_expr number) (e.further number words p) (further_takes words p none takes) first)

  query_at : (n m depth : ℕ) → Takes (e.factor_of number n (e.inner number n).0 (e.inner number n).1).read → m ≤ n → Inner n m → 3 * m + 7 ≤ depth
      → SameTo m (query_of number) (tree depth d.query) (e.chain number sum_of (e.chain number product_of (e.factor_of number n (e.inner number n).0 (e.inner number n).1)))
  query_at n m zero takes le inner deep = absurd (omega arith)
  query_at n m (suc depth) takes le inner deep =
      let p = e.factor_of number n (e.inner number n).0 (e.inner number n).1 in
      chain_same m sum_of sum_word sum_tree (term_of number) (tree depth d.term) (e.chain number product_of p) (summed number) (query_of number) refl (chain_takes product_of p refl takes)
      (sum_same m) (term_at n m depth takes le inner (omega arith)) sum_step (λ o. refl) (λ x y. refl)

  factor_takes : (n : ℕ) → Takes (e.factor_of number n (e.inner number n).0 (e.inner number n).1).read
  unfolding e.factor
  factor_takes n = e.factor_takes_too number n

  inner_same : (n m : ℕ) → m ≤ n → Inner n m
  unfolding e.inner
  inner_same zero m le j lt depth more = absurd (omega arith)
  inner_same (suc n) m le j lt depth more =
      let k = tokens_left j in
      let h = inner_same n k (omega arith) in
      ((factor_at n k depth (omega arith) h (omega arith)).reads j (omega arith), (query_at n k depth (factor_takes n) (omega arith) h (omega arith)).reads j (omega arith))

  query_same : (n m depth : ℕ) → m ≤ n → 3 * m + 7 ≤ depth → SameTo m (query_of number) (tree depth d.query) (e.query number n)
  unfolding e.query e.term e.factor
  query_same n m depth le deep = query_at n m depth (factor_takes n) le (inner_same n m le) deep

pub queries_agree : QueriesAgree
queries_agree number n depth i le deep =
    let v = query_of number in
    let agreed : Agrees v (whole (tree depth d.query).read i) (whole (e.query number n).read i) =
    seq_agrees v v ((tree depth d.query).read i) ((e.query number n).read i) _ _ ((query_same number n (tokens_left i) depth le (omega arith)).reads i (omega arith))
    (λ x a j f o. cond_agrees v (same (next j) s.End) (same (next j) s.End) (Ok (x, j)) (Err (refusal j)) (Ok (a, j)) (Err (refusal j)) refl (f, refl) refl) in
    subst (λ r. Agrees v (whole (tree depth d.query).read i) r) (e.whole_made (expr_of number) (g.query n).read (e.query number n).read (e.query_made number n).reads i) agreed
