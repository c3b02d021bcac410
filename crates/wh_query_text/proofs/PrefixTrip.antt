-- The text of a prefix, wherever it stands, is read as the prefix.
use Rattle.std.proofs.Common.{◌≡◌, ◌≢◌, ◌<◌, ◌≤◌, ℕ, ◌+◌, ◌*◌, true, false, List, [], ◌∷◌, ◌++◌, length, Ok, Err, codes, refl, sym, ap, subst, ◌∙◌, append_assoc, arith}
use Rattle.std.specs.List.{AllByRecursion}
use Rattle.std.proofs.lemmas.Bool.{and_parts}
use Rattle.wh_lex.specs.declared.token.TokenKind.TheVariants as kinds
use Rattle.wh_lex.specs.Spelling.{Follows}
use Rattle.wh_base.specs.declared.cond.Cond.{Cond}
use Rattle.wh_base.specs.Cond.{nodes}
use Rattle.wh_expr.specs.declared.expr.Expr.{Expr}
use Rattle.wh_expr.specs.declared.expr.Renaming.{Renaming}
use Rattle.wh_grammar.specs.declared.symbol.Symbol.{Symbol}
use Rattle.wh_grammar.specs.declared.symbol.Symbol.TheVariants as s
use Rattle.wh_grammar.specs.Symbols.{symbol}
use Rattle.wh_grammar.specs.Grammar.{Input, Outcome, Lexeme, Parser, ◌>>=◌, pure, and_then as outcome_then, same, next, symbol_of, token, name, separated}
use Rattle.wh_grammar.specs.Nesting.{too_nested}
use Rattle.wh_grammar.specs.Conditions as conditions
use Rattle.wh_grammar.specs.Printed.{printed, is_shallow}
use Rattle.wh_grammar.specs.Printable.{IsName, IsTextual}
use Rattle.wh_grammar.specs.RoundTrip.{from}
use Rattle.wh_grammar.proofs.DepthLemmas.{depth_free}
use Rattle.wh_grammar.proofs.GrammarLemmas.{left, bind_same, name_takes, token_takes, same_is}
use Rattle.wh_grammar.proofs.PrintTrip.{claim}
use Rattle.wh_grammar.proofs.RoundTrip.{then, read_again}
use Rattle.wh_grammar.proofs.Segments.{Segment}
use Rattle.wh_grammar.proofs.Spelt.{Claim, any, only, other, Anything, seq, made, space_before, space_behind, printed_token, printed_connective, name_claim, weaken, enclosed_claim, separated_claim, ends_cond}
use Rattle.wh_grammar.proofs.WordedParts.{AreSome}
use Rattle.wh_query_text.specs.declared.raw.Prefix.{Prefix}
use Rattle.wh_query_text.specs.declared.raw.Prefix.TheVariants as prefixes
use Rattle.wh_query_text.specs.Queries as g
use Rattle.wh_query_text.specs.Printed.{names_text, renaming_text, renamings_text}
use Rattle.wh_query_text.specs.QueryTexts.{applied}
use Rattle.wh_query_text.proofs.Fits.{IsPair, IsPrefix, lower_to}
use Rattle.wh_query_text.proofs.QueryLemmas.{renaming_takes}
use Rattle.wh_query_text.proofs.ShownLemmas.{prefix_text, prefix_nodes, joined_is}
use Rattle.wh_query_text.proofs.Unplaced as e

-- ---- names

comma : (depth top : ℕ) → Claim (token s.Comma).read tt (codes ", ") depth top 0 (only s.Comma) any Anything
unfolding symbol same
comma depth top = space_behind (token s.Comma).read tt (codes ",") depth top 0 (only s.Comma) any (printed_token kinds.Mark (codes ",") s.Comma depth top (2, omega arith, refl) refl refl refl)

to_word : (depth top : ℕ) → Claim (token s.To).read tt (codes " to ") depth top 0 (only s.To) any Anything
unfolding symbol same
to_word depth top = space_before (token s.To).read tt (codes "to ") depth top 0 (only s.To) any Anything (space_behind (token s.To).read tt (codes "to") depth top 0 (only s.To) any (printed_token kinds.Word (codes "to") s.To depth top (refl, refl) refl refl refl))

project_word : (depth top : ℕ) → Claim (token s.Project).read tt (codes "project ") depth top 1 (only s.Project) any Anything
unfolding symbol same
project_word depth top = space_behind (token s.Project).read tt (codes "project") depth top 1 (only s.Project) any (printed_connective kinds.Word (codes "project") s.Project depth top (refl, refl) refl refl refl)

select_word : (depth top : ℕ) → Claim (token s.Select).read tt (codes "select ") depth top 1 (only s.Select) any Anything
unfolding symbol same
select_word depth top = space_behind (token s.Select).read tt (codes "select") depth top 1 (only s.Select) any (printed_connective kinds.Word (codes "select") s.Select depth top (refl, refl) refl refl refl)

rename_word : (depth top : ℕ) → Claim (token s.Rename).read tt (codes "rename ") depth top 1 (only s.Rename) any Anything
unfolding symbol same
rename_word depth top = space_behind (token s.Rename).read tt (codes "rename") depth top 1 (only s.Rename) any (printed_connective kinds.Word (codes "rename") s.Rename depth top (refl, refl) refl refl refl)

comma_follows : (rest : List ℕ) → Follows (codes ", " ++ rest)
comma_follows rest = refl

name_items : (depth top : ℕ) (ns : List (List ℕ)) → AllByRecursion IsName ns → AllByRecursion (λ n. Claim name.read n n depth top 0 (only s.Name) any Follows) ns
name_items depth top [] all = tt
name_items depth top (n ∷ ns) all = (name_claim n depth top all.0, name_items depth top ns all.1)

names_claim : (depth top : ℕ) (ns : List (List ℕ)) → AreSome IsName ns → Claim (separated name s.Comma).read ns (names_text ns) depth top 0 (only s.Name) (other s.Comma) Follows
unfolding same
names_claim depth top [] all = absurd (omega (arith, all.0))
names_claim depth top (n ∷ ns) all =
    let h = separated_claim name (λ (w : List ℕ). w) s.Comma (codes ", ") depth top 0 (only s.Name) name_takes refl comma_follows (comma depth top) n ns (name_items depth top (n ∷ ns) all.1) in
    let none : 0 + 0 * length ns ≡ 0 = omega arith in
    let text = subst (λ w. Claim (separated name s.Comma).read (n ∷ ns) w depth top (0 + 0 * length ns) (only s.Name) (other s.Comma) Follows) (joined_is (λ (w : List ℕ). w) (codes ", ") n ns) h in
    subst (λ m. Claim (separated name s.Comma).read (n ∷ ns) (names_text (n ∷ ns)) depth top m (only s.Name) (other s.Comma) Follows) none text

renaming_claim : (depth top : ℕ) (r : Renaming) → IsPair r → Claim g.renaming.read r (renaming_text r) depth top 0 (only s.Name) any Follows
renaming_claim depth top r is =
    subst (λ w. Claim g.renaming.read r w depth top 0 (only s.Name) any Follows) (sym (append_assoc r.from (codes " to ") r.to))
    (seq name.read (λ f. (token s.To).read >>= (λ _. name.read >>= (λ t. pure (record { from = f; to = t })))) r.from r r.from (codes " to " ++ r.to) depth top 0 0 (only s.Name) any (only s.To) any Follows Follows
    (name_claim r.from depth top is.0) (λ rest f. refl) (λ t h. refl)
    (seq (token s.To).read (λ _. name.read >>= (λ t. pure (record { from = r.from; to = t }))) tt r (codes " to ") r.to depth top 0 0 (only s.To) any (only s.Name) any Anything Follows (to_word depth top) (λ rest f. tt) (λ t h. refl)
    (made name.read (λ (t : List ℕ). record { from = r.from; to = t }) r.to r.to depth top 0 (only s.Name) any Follows (name_claim r.to depth top is.1))))

renaming_items : (depth top : ℕ) (rs : List Renaming) → AllByRecursion IsPair rs → AllByRecursion (λ r. Claim g.renaming.read r (renaming_text r) depth top 0 (only s.Name) any Follows) rs
renaming_items depth top [] all = tt
renaming_items depth top (r ∷ rs) all = (renaming_claim depth top r all.0, renaming_items depth top rs all.1)

renamings_claim : (depth top : ℕ) (rs : List Renaming) → AreSome IsPair rs → Claim g.renamings.read rs (renamings_text rs) depth top 0 (only s.Name) (other s.Comma) Follows
unfolding same
renamings_claim depth top [] all = absurd (omega (arith, all.0))
renamings_claim depth top (r ∷ rs) all =
    let h = separated_claim g.renaming renaming_text s.Comma (codes ", ") depth top 0 (only s.Name) renaming_takes refl comma_follows (comma depth top) r rs (renaming_items depth top (r ∷ rs) all.1) in
    let none : 0 + 0 * length rs ≡ 0 = omega arith in
    let text = subst (λ w. Claim g.renamings.read (r ∷ rs) w depth top (0 + 0 * length rs) (only s.Name) (other s.Comma) Follows) (joined_is renaming_text (codes ", ") r rs) h in
    subst (λ m. Claim g.renamings.read (r ∷ rs) (renamings_text (r ∷ rs)) depth top m (only s.Name) (other s.Comma) Follows) none text

-- ---- conditions

no_and : (t : Symbol) → other s.And t ≡ true → t ≢ s.And
unfolding same
no_and t h f = let k : false ≡ true = rw f at h in absurd cc

no_or : (t : Symbol) → other s.Or t ≡ true → t ≢ s.Or
unfolding same
no_or t h f = let k : false ≡ true = rw f at h in absurd cc

cond_claim : (c : Cond) (depth top : ℕ) → IsTextual c → is_shallow c top ≡ true → Claim (conditions.cond depth).read c (printed c) depth top (nodes c) any ends_cond Follows
cond_claim c depth top textual flat at rest after =
    let x = claim textual at rest after in
    record {
      tokens = x.tokens;
      end = x.end;
      segment = x.segment;
      reads = λ total more le last.
          let parts = and_parts (other s.And (symbol_of more)) (other s.Or (symbol_of more)) last in
          depth_free depth (depth + x.need) (from total (x.tokens ++ more)) le (omega arith)
          ∙ read_again x.shape (depth + x.need) c x.tokens more total (x.shows (depth + x.need) (omega arith)) (no_and (symbol_of more) parts.0) (no_or (symbol_of more) parts.1);
      begins = λ more last. refl;
      nests = λ q k more le few. x.nests q k more (lower_to textual top q le flat) few;
    }

-- ---- prefixes

-- the words with which a prefix begins
abbrev pub IsPrefixWord : Symbol → Type 0
IsPrefixWord s.Project = Unit {0}
IsPrefixWord s.Select = Unit {0}
IsPrefixWord s.Rename = Unit {0}
IsPrefixWord _ = ⊥

module _ (number : List ℕ → ℕ) (most : ℕ) where
  -- the text of a prefix, where so many parentheses are open: before a factor it is read as the prefix, by a reader that may go at most so deep
  pub record PrefixText (x : Prefix) (p at : ℕ) (rest : List ℕ) : Type 0 where
    pub tokens : List Lexeme
    pub end : ℕ
    pub many : ℕ
    pub segment : Segment at (prefix_text x ++ rest) rest end tokens
    pub some : 0 < length tokens
    pub reads : (d total : ℕ) (more : List Lexeme) (inner : Parser Expr) (q : Expr) (j : Input) → length (tokens ++ more) ≤ d → d ≤ most → inner (from total more) ≡ Ok (q, j)
        → (e.prefixed number d inner).read (from total (tokens ++ more)) ≡ Ok (applied x q, j)
    pub begins : (more : List Lexeme) → IsPrefixWord (symbol_of (tokens ++ more))
    pub few : many ≤ prefix_nodes x + 1
    pub nests : (k : ℕ) (more : List Lexeme) → k + many ≤ 2000 → too_nested p k (tokens ++ more) ≡ too_nested p (k + many) more

  and_then-assoc : {A B C : Type 0} (r : Outcome A) (f : A → Parser B) (h : B → Parser C) → outcome_then r (λ x j. outcome_then (f x j) h) ≡ outcome_then (outcome_then r f) h
  and_then-assoc (Ok p) f h = refl
  and_then-assoc (Err c) f h = refl

  -- the reader of a prefix, from one that may go deeper
  word_reads : {A : Type 0} (k : Symbol) (m n : Parser A) (f : A → Prefix) (x : A) (inner : Parser Expr) (q : Expr) (i l j : Input) → same s.End k ≡ false
      → ((h : Input) → left h < left i → m h ≡ n h) → ((token k).read >>= (λ _. n)) i ≡ Ok (x, l) → inner l ≡ Ok (q, j) → (e.behind_word number k m f inner).read i ≡ Ok (applied (f x) q, j)
  word_reads k m n f x inner q i l j some agree reads behind =
      bind_same ((token k).read i) (λ _. m >>= (λ y. inner >>= (λ z. pure (applied (f y) z)))) (λ _. n >>= (λ y. inner >>= (λ z. pure (applied (f y) z))))
      (λ u h o. ap (λ r. outcome_then r (λ y. inner >>= (λ z. pure (applied (f y) z)))) (agree h (token_takes k some i u h o)))
      ∙ and_then-assoc ((token k).read i) (λ _. n) (λ y. inner >>= (λ z. pure (applied (f y) z)))
      ∙ then (((token k).read >>= (λ _. n)) i) (λ y. inner >>= (λ z. pure (applied (f y) z))) x l (Ok (applied (f x) q, j)) reads
      (then (inner l) (λ z. pure (applied (f x) z)) q j (Ok (applied (f x) q, j)) behind refl)

  some_tokens : (k : Symbol) (ts : List Lexeme) → same s.End k ≡ false → only k (symbol_of (ts ++ [])) ≡ true → 0 < length ts
  some_tokens k [] ends is = absurd (cc (sym is ∙ ends))
  some_tokens k (t ∷ ts) ends is = omega arith

  -- a word, and what stands behind it in parentheses
  prefix_claim : {A : Type 0} (p m : ℕ) (k : Symbol) (n : Parser A) (x : A) (w v : List ℕ) → Claim (token k).read tt w most p 1 (only k) any Anything → Claim n x v most p m (only s.LeftParen) any Anything
      → Claim ((token k).read >>= (λ _. n)) x ((w ++ v) ++ codes " ") most p (1 + m) (only k) any Anything
  prefix_claim p m k n x w v word body =
      space_behind ((token k).read >>= (λ _. n)) x (w ++ v) most p (1 + m) (only k) any
      (weaken (seq (token k).read (λ _. n) tt x w v most p 1 m (only k) any (only s.LeftParen) any Anything Anything word (λ rest f. tt) (λ t h. refl) body) (λ t h. h) (λ t h. h) (λ rest f. tt))

  prefix_text_of : {A : Type 0} (p m : ℕ) (k : Symbol) (reader : ℕ → Parser A) (f : A → Prefix) (x : A) (w : List ℕ) → same s.End k ≡ false → ((t : Symbol) → only k t ≡ true → IsPrefixWord t)
      → ((d : ℕ) (inner : Parser Expr) (i : Input) → only k (next i) ≡ true → (e.prefixed number d inner).read i ≡ (e.behind_word number k (reader d) f inner).read i)
      → ((d : ℕ) (i : Input) → left i ≤ d → d ≤ most → reader d i ≡ reader most i) → m ≤ prefix_nodes (f x) → w ≡ prefix_text (f x)
      → Claim ((token k).read >>= (λ _. reader most)) x w most p (1 + m) (only k) any Anything → (at : ℕ) (rest : List ℕ) → PrefixText (f x) p at rest
  unfolding next
  prefix_text_of p m k reader f x w ends word pick agree size text claimed at rest =
      let l = claimed at rest tt in
      record {
        tokens = l.tokens;
        end = l.end;
        many = 1 + m;
        segment = subst (λ z. Segment at (z ++ rest) rest l.end l.tokens) text l.segment;
        some = some_tokens k l.tokens ends (l.begins [] refl);
        reads = λ d total more inner q j le deep behind.
            pick d inner (from total (l.tokens ++ more)) (l.begins more refl)
            ∙ word_reads k (reader d) (reader most) f x inner q (from total (l.tokens ++ more)) (from total more) j ends (λ h lt. agree d h (omega arith) deep) (l.reads total more (omega arith) refl) behind;
        begins = λ more. word (symbol_of (l.tokens ++ more)) (l.begins more refl);
        few = omega arith;
        nests = λ c more few. l.nests p c more (omega arith) few;
      }

  is_project : (t : Symbol) → only s.Project t ≡ true → IsPrefixWord t
  unfolding same
  is_project t h = let e = same_is t s.Project h in rw e tt

  is_select : (t : Symbol) → only s.Select t ≡ true → IsPrefixWord t
  unfolding same
  is_select t h = let e = same_is t s.Select h in rw e tt

  is_rename : (t : Symbol) → only s.Rename t ≡ true → IsPrefixWord t
  unfolding same
  is_rename t h = let e = same_is t s.Rename h in rw e tt

  pick_project : (d : ℕ) (inner : Parser Expr) (i : Input) → only s.Project (next i) ≡ true → (e.prefixed number d inner).read i ≡ (e.behind_word number s.Project g.columns.read prefixes.Project inner).read i
  unfolding same
  pick_project d inner i h = let e = same_is (next i) s.Project h in rw e refl

  pick_select : (d : ℕ) (inner : Parser Expr) (i : Input) → only s.Select (next i) ≡ true → (e.prefixed number d inner).read i ≡ (e.behind_word number s.Select (g.selection d).read prefixes.Select inner).read i
  unfolding same
  pick_select d inner i h = let e = same_is (next i) s.Select h in rw e refl

  pick_rename : (d : ℕ) (inner : Parser Expr) (i : Input) → only s.Rename (next i) ≡ true → (e.prefixed number d inner).read i ≡ (e.behind_word number s.Rename g.renaming_columns.read prefixes.Rename inner).read i
  unfolding same
  pick_rename d inner i h = let e = same_is (next i) s.Rename h in rw e refl

  selection_free : (d : ℕ) (i : Input) → left i ≤ d → d ≤ most → (g.selection d).read i ≡ (g.selection most).read i
  unfolding same
  selection_free d i le deep =
      bind_same ((token s.LeftParen).read i) (λ _. (conditions.cond d).read >>= (λ x. (token s.RightParen).read >>= (λ _. pure x))) (λ _. (conditions.cond most).read >>= (λ x. (token s.RightParen).read >>= (λ _. pure x)))
      (λ u j o. ap (λ r. outcome_then r (λ x. (token s.RightParen).read >>= (λ _. pure x))) (depth_free d most j (omega (arith, token_takes s.LeftParen refl i u j o)) (omega (arith, token_takes s.LeftParen refl i u j o))))

  pub prefix_read : (p : ℕ) (x : Prefix) → IsPrefix p x → (at : ℕ) (rest : List ℕ) → PrefixText x p at rest
  unfolding same
  prefix_read p (prefixes.Project names) is =
      prefix_text_of p 0 s.Project (λ _. g.columns.read) prefixes.Project names ((codes "project " ++ (codes "(" ++ names_text names ++ codes ")")) ++ codes " ") refl is_project pick_project (λ d i le deep. refl) (omega arith)
      (ap (λ t. codes "project (" ++ t) (append_assoc (names_text names) (codes ")") (codes " ")))
      (prefix_claim p 0 s.Project g.columns.read names (codes "project ") (codes "(" ++ names_text names ++ codes ")") (project_word most p)
      (enclosed_claim (separated name s.Comma).read names (names_text names) most p 0 (only s.Name) (other s.Comma) is.0 refl (names_claim most (p + 1) names is.1)))
  prefix_read p (prefixes.Select c) is =
      prefix_text_of p (nodes c) s.Select (λ d. (g.selection d).read) prefixes.Select c ((codes "select " ++ (codes "(" ++ printed c ++ codes ")")) ++ codes " ") refl is_select pick_select selection_free (omega arith)
      (ap (λ t. codes "select (" ++ t) (append_assoc (printed c) (codes ")") (codes " ")))
      (prefix_claim p (nodes c) s.Select (g.selection most).read c (codes "select ") (codes "(" ++ printed c ++ codes ")") (select_word most p)
      (enclosed_claim (conditions.cond most).read c (printed c) most p (nodes c) any ends_cond is.0 refl (cond_claim c most (p + 1) is.1.0 is.1.1)))
  prefix_read p (prefixes.Rename pairs) is =
      prefix_text_of p 0 s.Rename (λ _. g.renaming_columns.read) prefixes.Rename pairs ((codes "rename " ++ (codes "(" ++ renamings_text pairs ++ codes ")")) ++ codes " ") refl is_rename pick_rename (λ d i le deep. refl) (omega arith)
      (ap (λ t. codes "rename (" ++ t) (append_assoc (renamings_text pairs) (codes ")") (codes " ")))
      (prefix_claim p 0 s.Rename g.renaming_columns.read pairs (codes "rename ") (codes "(" ++ renamings_text pairs ++ codes ")") (rename_word most p)
      (enclosed_claim g.renamings.read pairs (renamings_text pairs) most p 0 (only s.Name) (other s.Comma) is.0 refl (renamings_claim most (p + 1) pairs is.1)))
