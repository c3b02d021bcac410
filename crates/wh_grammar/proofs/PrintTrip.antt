-- The text of a condition is lexed as tokens that show it.
use Rattle.std.proofs.Common.{◌≡◌, ◌≤◌, ℕ, suc, ◌+◌, ◌-◌, Bool, true, false, List, [], ◌∷◌, ◌++◌, length, map, codes, refl, sym, ap, subst, ◌∙◌, append_assoc, arith}
use Rattle.std.proofs.lemmas.List.{append-nil}
use Rattle.wh_lex.specs.declared.token.TokenKind.{TokenKind}
use Rattle.wh_lex.specs.declared.token.TokenKind.TheVariants as kinds
use Rattle.wh_lex.specs.Lexes.{Stand, tokens_of}
use Rattle.wh_lex.specs.Spelling.{IsPrinted, IsWordText, Follows}
use Rattle.wh_lex.proofs.SpellingLemmas.{reads_open, reads_close}
use Rattle.wh_grammar.specs.declared.symbol.Symbol.TheVariants as s
use Rattle.wh_base.specs.declared.cond.Operand.{Operand}
use Rattle.wh_base.specs.declared.cond.Operand.TheVariants as operands
use Rattle.wh_base.specs.declared.cond.Op.{Op}
use Rattle.wh_base.specs.declared.cond.Op.TheVariants as comparisons
use Rattle.wh_base.specs.declared.cond.Cond.{Cond}
use Rattle.wh_base.specs.declared.cond.Cond.TheVariants.{Cmp, Not, And, Or, outs-Cmp, outs-Not, outs-And, outs-Or}
use Rattle.wh_grammar.specs.Symbols.{symbol}
use Rattle.wh_grammar.specs.Grammar.{Lexeme, lexeme}
use Rattle.wh_grammar.specs.Printing.{Shape, basic, conj, disj, is_disj, is_compound, IsToken, IsOperand, IsOp, Shows, Held, compares, negates, joins, parts, plain, group}
use Rattle.wh_grammar.specs.Printed.{printed, held, operand_text, op_text, is_or, is_or_at, is_compound_at, is_compound as printed_compound, held_shallow, is_shallow as printed_shallow}
use Rattle.wh_base.specs.Cond.{nodes}
use Rattle.wh_grammar.specs.declared.symbol.Symbol.{Symbol}
use Rattle.wh_grammar.specs.Nesting.{too_nested, is_connective}
use Rattle.wh_grammar.proofs.NestSteps.{is_plain, nest_plain, nest_connective, nest_open, nest_close}
use Rattle.std.proofs.lemmas.Bool.{and_parts, ltb-true}
use Rattle.std.specs.Prelude.{nat_lt}
use Rattle.wh_grammar.proofs.Segments.{Segment, lexemes, and_then, space, segment_of, token_segment, map_lexemes}
use Rattle.wh_grammar.specs.Printable.{HasText, IsTextual, IsShownByText, IsReadFromText}
use Rattle.wh_grammar.specs.Conditions as g
use Rattle.wh_grammar.specs.RoundTrip.{from}
use Rattle.wh_grammar.proofs.RoundTrip.{read_again}
use Rattle.wh_grammar.specs.Printable as textual
use Rattle.wh_grammar.proofs.PrintedLemmas.{printed_compare, printed_not, printed_and, printed_or, shallow_not, shallow_and, shallow_or, nodes_cmp, nodes_not, nodes_and, nodes_or}

kind_of : Operand → TokenKind
kind_of (operands.Attr n) = kinds.Word
kind_of (operands.Int v) = kinds.Int v
kind_of (operands.Text v) = kinds.Text v

operand_printed : (x : Operand) → HasText x → IsPrinted (kind_of x) (operand_text x)
unfolding kind_of
operand_printed (operands.Attr n) h = h.0
operand_printed (operands.Int v) h = (h, refl)
operand_printed (operands.Text v) h = (h.0, h.1, refl)

operand_is : (x : Operand) (at : ℕ) → HasText x → IsOperand x (record { kind = kind_of x; bytes = operand_text x; from = at })
unfolding kind_of
operand_is (operands.Attr n) at h = (h.1, refl)
operand_is (operands.Int v) at h = refl
operand_is (operands.Text v) at h = refl

comparison_printed : (o : Op) → IsPrinted kinds.Mark (op_text o)
comparison_printed comparisons.Eq = (4, omega arith, refl)
comparison_printed comparisons.Ne = (5, omega arith, refl)
comparison_printed comparisons.Lt = (6, omega arith, refl)
comparison_printed comparisons.Le = (7, omega arith, refl)
comparison_printed comparisons.Gt = (8, omega arith, refl)
comparison_printed comparisons.Ge = (9, omega arith, refl)

comparison_is : (o : Op) (at : ℕ) → IsOp o (record { kind = kinds.Mark; bytes = op_text o; from = at })
unfolding symbol
comparison_is comparisons.Eq at = refl
comparison_is comparisons.Ne at = refl
comparison_is comparisons.Lt at = refl
comparison_is comparisons.Le at = refl
comparison_is comparisons.Gt at = refl
comparison_is comparisons.Ge at = refl

-- ---- how the tokens of a condition count for nesting

-- where so many parentheses are open, and so many connectives stand since the last semicolon
abbrev pub Nests : Cond → List Lexeme → Type 0
Nests c ts = (p k : ℕ) (more : List Lexeme) → printed_shallow c p ≡ true → k + nodes c ≤ 2000 → too_nested p k (ts ++ more) ≡ too_nested p (k + nodes c) more

abbrev HeldNests : Bool → Cond → List Lexeme → Type 0
HeldNests b c ts = (p k : ℕ) (more : List Lexeme) → held_shallow b (printed_shallow c) p ≡ true → k + nodes c ≤ 2000 → too_nested p k (ts ++ more) ≡ too_nested p (k + nodes c) more

operand_plain : (x : Operand) → HasText x → is_plain (symbol (kind_of x) (operand_text x)) ≡ true
unfolding kind_of symbol
operand_plain (operands.Attr n) h = rw h.1 refl
operand_plain (operands.Int v) h = refl
operand_plain (operands.Text v) h = refl

op_connective : (o : Op) → is_connective (symbol kinds.Mark (op_text o)) ≡ true
unfolding symbol
op_connective comparisons.Eq = refl
op_connective comparisons.Ne = refl
op_connective comparisons.Lt = refl
op_connective comparisons.Le = refl
op_connective comparisons.Gt = refl
op_connective comparisons.Ge = refl

abbrev token : TokenKind → List ℕ → ℕ → Lexeme
token kind bytes at = record { kind = kind; bytes = bytes; from = at }

nests_compare : (l r : Operand) (o : Op) (a b c : ℕ) → HasText l → HasText r → Nests (Cmp l o r) (token (kind_of l) (operand_text l) a ∷ token kinds.Mark (op_text o) b ∷ token (kind_of r) (operand_text r) c ∷ [])
nests_compare l r o a b c hl hr p k more flat few =
    let t = token (kind_of l) (operand_text l) a in
    let u = token kinds.Mark (op_text o) b in
    let v = token (kind_of r) (operand_text r) c in
    let one : nodes (Cmp l o r) ≡ 1 = nodes_cmp l r o in
    nest_plain p k t (symbol t.kind t.bytes) (u ∷ v ∷ more) refl (operand_plain l hl)
    ∙ nest_connective p k u (symbol u.kind u.bytes) (v ∷ more) refl (op_connective o) (omega arith)
    ∙ nest_plain p (k + 1) v (symbol v.kind v.bytes) more refl (operand_plain r hr)
    ∙ ap (λ n. too_nested p n more) (omega arith)

nests_group : (c : Cond) (ts : List Lexeme) (l r : Lexeme) → IsToken s.LeftParen l → IsToken s.RightParen r → Nests c ts → HeldNests true c (l ∷ ts ++ r ∷ [])
nests_group c ts l r opens closes h p k more flat few =
    let parts = and_parts (nat_lt p 64) (printed_shallow c (p + 1)) flat in
    nest_open p k l ((ts ++ r ∷ []) ++ more) opens (ltb-true p 64 parts.0)
    ∙ ap (too_nested (p + 1) k) (append_assoc ts (r ∷ []) more)
    ∙ h (p + 1) k (r ∷ more) parts.1 few
    ∙ nest_close p (k + nodes c) r more closes

nests_not : (c : Cond) (ts : List Lexeme) (t : Lexeme) → IsToken s.Not t → HeldNests (printed_compound c) c ts → Nests (Not c) (t ∷ ts)
nests_not c ts t is h p k more flat few =
    let size = nodes_not c in
    nest_connective p k t s.Not (ts ++ more) is refl (omega arith)
    ∙ h p (k + 1) more (sym (shallow_not c p) ∙ flat) (omega arith)
    ∙ ap (λ n. too_nested p n more) (omega arith)

nests_pair : (p k m n : ℕ) (us vs more : List Lexeme) (t : Lexeme) (w : Symbol) → IsToken w t → is_connective w ≡ true → k + (m + n + 1) ≤ 2000
    → ((more : List Lexeme) → too_nested p k (us ++ more) ≡ too_nested p (k + m) more) → ((more : List Lexeme) → too_nested p (k + m + 1) (vs ++ more) ≡ too_nested p (k + m + 1 + n) more)
    → too_nested p k ((us ++ t ∷ vs) ++ more) ≡ too_nested p (k + (m + n + 1)) more
nests_pair p k m n us vs more t w is connective few left right =
    ap (too_nested p k) (append_assoc us (t ∷ vs) more)
    ∙ left (t ∷ vs ++ more)
    ∙ nest_connective p (k + m) t w (vs ++ more) is connective (omega arith)
    ∙ right more
    ∙ ap (λ i. too_nested p i more) (omega arith)

nests_and : (a b : Cond) (us vs : List Lexeme) (t : Lexeme) → IsToken s.And t → HeldNests (is_or a) a us → HeldNests (printed_compound b) b vs → Nests (And a b) (us ++ t ∷ vs)
nests_and a b us vs t is left right p k more flat few =
    let parts = and_parts (held_shallow (is_or a) (printed_shallow a) p) (held_shallow (printed_compound b) (printed_shallow b) p) (sym (shallow_and a b p) ∙ flat) in
    let size = nodes_and a b in
    nests_pair p k (nodes a) (nodes b) us vs more t s.And is refl (omega arith) (λ rest. left p k rest parts.0 (omega arith)) (λ rest. right p (k + nodes a + 1) rest parts.1 (omega arith))
    ∙ ap (λ n. too_nested p n more) (omega arith)

nests_or : (a b : Cond) (us vs : List Lexeme) (t : Lexeme) → IsToken s.Or t → Nests a us → HeldNests (is_or b) b vs → Nests (Or a b) (us ++ t ∷ vs)
nests_or a b us vs t is left right p k more flat few =
    let parts = and_parts (printed_shallow a p) (held_shallow (is_or b) (printed_shallow b) p) (sym (shallow_or a b p) ∙ flat) in
    let size = nodes_or a b in
    nests_pair p k (nodes a) (nodes b) us vs more t s.Or is refl (omega arith) (λ rest. left p k rest parts.0 (omega arith)) (λ rest. right p (k + nodes a + 1) rest parts.1 (omega arith))
    ∙ ap (λ n. too_nested p n more) (omega arith)

-- a condition at the front of a text
pub record Shown (c : Cond) (at : ℕ) (rest : List ℕ) : Type 0 where
  pub tokens : List Lexeme
  pub shape : Shape
  pub need : ℕ
  pub end : ℕ
  pub segment : Segment at (printed c ++ rest) rest end tokens
  pub shows : (d : ℕ) → need ≤ d → Shows shape d c tokens
  pub disj : is_disj shape ≡ is_or c
  pub compound : is_compound shape ≡ printed_compound c
  pub nests : Nests c tokens

record HeldShown (b : Bool) (c : Cond) (at : ℕ) (rest : List ℕ) : Type 0 where
  tokens : List Lexeme
  shape : Shape
  need : ℕ
  end : ℕ
  segment : Segment at (held b (printed c) ++ rest) rest end tokens
  holds : (d : ℕ) → need ≤ d → Held b shape d c tokens
  disj : is_disj shape ≡ is_or c
  compound : is_compound shape ≡ printed_compound c
  nests : HeldNests b c tokens

abbrev paren : ℕ → ℕ → Lexeme
paren b at = record { kind = kinds.Mark; bytes = b ∷ []; from = at }

is_open : (at : ℕ) → IsToken s.LeftParen (paren 40 at)
unfolding symbol
is_open at = refl

is_close : (at : ℕ) → IsToken s.RightParen (paren 41 at)
unfolding symbol
is_close at = refl

grouped : (k : Shape) (n d : ℕ) (c : Cond) (ts : List Lexeme) (a e : ℕ) → ((d : ℕ) → n ≤ d → Shows k d c ts) → suc n ≤ d → Held true k d c (paren 40 a ∷ ts ++ paren 41 e ∷ [])
grouped k n d c ts a e shows le =
    let same : d ≡ suc (d - 1) = omega arith in
    subst (λ m. Held true k m c (paren 40 a ∷ ts ++ paren 41 e ∷ [])) (sym same) (group (paren 40 a) (paren 41 e) (is_open a) (shows (d - 1) (omega arith)) (is_close e))

held_of : (b : Bool) (c : Cond) (at : ℕ) (rest : List ℕ) → Follows rest → ((at : ℕ) (rest : List ℕ) → Follows rest → Shown c at rest) → HeldShown b c at rest
held_of false c at rest follows claim =
    let x = claim at rest follows in
    record { tokens = x.tokens; shape = x.shape; need = x.need; end = x.end; segment = x.segment; holds = λ d le. plain (x.shows d le); disj = x.disj; compound = x.compound; nests = x.nests }
held_of true c at rest follows claim =
    let x = claim (at + 1) (41 ∷ rest) refl in
    let first = segment_of at kinds.Mark (40 ∷ []) (printed c ++ 41 ∷ rest) (reads_open at (printed c ++ 41 ∷ rest)) (omega arith) in
    let last = segment_of x.end kinds.Mark (41 ∷ []) rest (reads_close x.end rest) (omega arith) in
    let whole : Segment at (40 ∷ (printed c ++ 41 ∷ rest)) rest (x.end + 1) (paren 40 at ∷ x.tokens ++ paren 41 x.end ∷ []) = and_then first (and_then x.segment last) in
    record {
      tokens = paren 40 at ∷ x.tokens ++ paren 41 x.end ∷ [];
      shape = x.shape;
      need = suc x.need;
      end = x.end + 1;
      segment = rw (append_assoc (printed c) (41 ∷ []) rest) whole;
      holds = λ d le. grouped x.shape x.need d c x.tokens at x.end x.shows le;
      disj = x.disj;
      compound = x.compound;
      nests = nests_group c x.tokens (paren 40 at) (paren 41 x.end) (is_open at) (is_close x.end) x.nests;
    }

-- ---- each kind of condition

word : ℕ → List ℕ → Lexeme
word at w = record { kind = kinds.Word; bytes = w; from = at }

word_segment : (at : ℕ) (w rest : List ℕ) → IsWordText w → Segment at (w ++ 32 ∷ rest) rest (at + length w + 1) (word at w ∷ [])
unfolding word
word_segment at w rest is = and_then (token_segment at kinds.Word w (32 ∷ rest) is refl) (space (at + length w) rest)

is_word : (at : ℕ) → IsToken s.Not (word at (codes "not")) × IsToken s.And (word at (codes "and")) × IsToken s.Or (word at (codes "or"))
unfolding word symbol
is_word at = (refl, refl, refl)

claim_compare : (l r : Operand) (o : Op) → HasText l → HasText r → (at : ℕ) (rest : List ℕ) → Follows rest → Shown (Cmp l o r) at rest
claim_compare l r o hl hr at rest follows =
    let text : printed (Cmp l o r) ++ rest ≡ operand_text l ++ (32 ∷ (op_text o ++ (32 ∷ (operand_text r ++ rest)))) = ap (λ t. t ++ rest) (printed_compare l r o) ∙ simp append_assoc in
    let third = op_text o ++ (32 ∷ (operand_text r ++ rest)) in
    let a = token_segment at (kind_of l) (operand_text l) (32 ∷ third) (operand_printed l hl) refl in
    let b = at + length (operand_text l) + 1 in
    let c = b + length (op_text o) + 1 in
    let m = token_segment b kinds.Mark (op_text o) (32 ∷ (operand_text r ++ rest)) (comparison_printed o) refl in
    let z = token_segment c (kind_of r) (operand_text r) rest (operand_printed r hr) follows in
    record {
      tokens = record { kind = kind_of l; bytes = operand_text l; from = at } ∷ record { kind = kinds.Mark; bytes = op_text o; from = b } ∷ record { kind = kind_of r; bytes = operand_text r; from = c } ∷ [];
      shape = basic;
      need = 0;
      end = c + length (operand_text r);
      segment = rw text (and_then a (and_then (space (at + length (operand_text l)) third) (and_then m (and_then (space (b + length (op_text o)) (operand_text r ++ rest)) z))));
      shows = λ d le. compares (operand_is l at hl) (comparison_is o b) (operand_is r c hr);
      disj = sym (ap is_or_at (outs-Cmp l o r));
      compound = sym (ap is_compound_at (outs-Cmp l o r));
      nests = nests_compare l r o at b c hl hr;
    }

negated : (k : Shape) (n d : ℕ) (c : Cond) (ts : List Lexeme) (at : ℕ) → ((d : ℕ) → n ≤ d → Held (is_compound k) k d c ts) → suc n ≤ d → Shows basic d (Not c) (word at (codes "not") ∷ ts)
negated k n d c ts at holds le =
    let same : d ≡ suc (d - 1) = omega arith in
    subst (λ m. Shows basic m (Not c) (word at (codes "not") ∷ ts)) (sym same) (negates {t = word at (codes "not")} (is_word at).0 (holds (d - 1) (omega arith)))

claim_not : (c : Cond) → ((at : ℕ) (rest : List ℕ) → Follows rest → Shown c at rest) → (at : ℕ) (rest : List ℕ) → Follows rest → Shown (Not c) at rest
claim_not c claim at rest follows =
    let inside = held (printed_compound c) (printed c) ++ rest in
    let text : printed (Not c) ++ rest ≡ codes "not" ++ (32 ∷ inside) = ap (λ t. t ++ rest) (printed_not c) in
    let x = held_of (printed_compound c) c (at + length (codes "not") + 1) rest follows claim in
    record {
      tokens = word at (codes "not") ∷ x.tokens;
      shape = basic;
      need = suc x.need;
      end = x.end;
      segment = rw text (and_then (word_segment at (codes "not") inside (refl, refl)) x.segment);
      shows = λ d le. negated x.shape x.need d c x.tokens at (λ e h. subst (λ b. Held b x.shape e c x.tokens) (sym x.compound) (x.holds e h)) le;
      disj = sym (ap is_or_at (outs-Not c));
      compound = sym (ap is_compound_at (outs-Not c));
      nests = nests_not c x.tokens (word at (codes "not")) (is_word at).0 x.nests;
    }

claim_and : (a b : Cond) → ((at : ℕ) (rest : List ℕ) → Follows rest → Shown a at rest) → ((at : ℕ) (rest : List ℕ) → Follows rest → Shown b at rest) → (at : ℕ) (rest : List ℕ) → Follows rest → Shown (And a b) at rest
claim_and a b left right at rest follows =
    let second = held (printed_compound b) (printed b) ++ rest in
    let middle = codes "and" ++ (32 ∷ second) in
    let text : printed (And a b) ++ rest ≡ held (is_or a) (printed a) ++ (32 ∷ middle) = ap (λ t. t ++ rest) (printed_and a b) ∙ simp append_assoc in
    let x = held_of (is_or a) a at (32 ∷ middle) refl left in
    let y = held_of (printed_compound b) b (x.end + 1 + length (codes "and") + 1) rest follows right in
    record {
      tokens = x.tokens ++ word (x.end + 1) (codes "and") ∷ y.tokens;
      shape = conj;
      need = x.need + y.need;
      end = y.end;
      segment = rw text (and_then x.segment (and_then (space x.end middle) (and_then (word_segment (x.end + 1) (codes "and") second (refl, refl)) y.segment)));
      shows = λ d le. joins (word (x.end + 1) (codes "and")) (subst (λ h. Held h x.shape d a x.tokens) (sym x.disj) (x.holds d (omega arith))) (is_word (x.end + 1)).1 (subst (λ h. Held h y.shape d b y.tokens) (sym y.compound) (y.holds d (omega arith)));
      disj = sym (ap is_or_at (outs-And a b));
      compound = sym (ap is_compound_at (outs-And a b));
      nests = nests_and a b x.tokens y.tokens (word (x.end + 1) (codes "and")) (is_word (x.end + 1)).1 x.nests y.nests;
    }

claim_or : (a b : Cond) → ((at : ℕ) (rest : List ℕ) → Follows rest → Shown a at rest) → ((at : ℕ) (rest : List ℕ) → Follows rest → Shown b at rest) → (at : ℕ) (rest : List ℕ) → Follows rest → Shown (Or a b) at rest
claim_or a b left right at rest follows =
    let second = held (is_or b) (printed b) ++ rest in
    let middle = codes "or" ++ (32 ∷ second) in
    let text : printed (Or a b) ++ rest ≡ printed a ++ (32 ∷ middle) = ap (λ t. t ++ rest) (printed_or a b) ∙ simp append_assoc in
    let x = left at (32 ∷ middle) refl in
    let y = held_of (is_or b) b (x.end + 1 + length (codes "or") + 1) rest follows right in
    record {
      tokens = x.tokens ++ word (x.end + 1) (codes "or") ∷ y.tokens;
      shape = disj;
      need = x.need + y.need;
      end = y.end;
      segment = rw text (and_then x.segment (and_then (space x.end middle) (and_then (word_segment (x.end + 1) (codes "or") second (refl, refl)) y.segment)));
      shows = λ d le. parts (word (x.end + 1) (codes "or")) (plain (x.shows d (omega arith))) (is_word (x.end + 1)).2 (subst (λ h. Held h y.shape d b y.tokens) (sym y.disj) (y.holds d (omega arith)));
      disj = sym (ap is_or_at (outs-Or a b));
      compound = sym (ap is_compound_at (outs-Or a b));
      nests = nests_or a b x.tokens y.tokens (word (x.end + 1) (codes "or")) (is_word (x.end + 1)).2 x.nests y.nests;
    }

pub claim : {c : Cond} → IsTextual c → (at : ℕ) (rest : List ℕ) → Follows rest → Shown c at rest
claim (textual.compares {l} {r} {o} hl hr) at rest follows = claim_compare l r o hl hr at rest follows
claim (textual.negates c h) at rest follows = claim_not c (claim h) at rest follows
claim (textual.joins a b h k) at rest follows = claim_and a b (claim h) (claim k) at rest follows
claim (textual.parts a b h k) at rest follows = claim_or a b (claim h) (claim k) at rest follows

pub shown_by_text : IsShownByText
shown_by_text c h =
    let x = claim h 0 [] refl in
    let stand : Stand 0 (printed c) x.segment.pieces [] = rw (append-nil (printed c)) at x.segment.stand in
    let tokens : lexemes 0 (printed c) x.segment.pieces ≡ x.tokens = rw (append-nil (printed c)) at x.segment.tokens in (
      tokens_of 0 x.segment.pieces,
      x.shape,
      x.need,
      (x.segment.pieces, stand, refl),
      λ d le. rw (map_lexemes [] (printed c) [] 0 x.segment.pieces refl stand, tokens) (x.shows d le),
    )

pub read_from_text : IsReadFromText
read_from_text c h =
    let x = shown_by_text c h in
    (x.0, x.2, x.3, λ d le. ap (λ ts. (g.cond d).read (from (length (printed c)) ts)) (sym (append-nil (map (lexeme (printed c)) x.0))) ∙ read_again x.1 d c (map (lexeme (printed c)) x.0) [] (length (printed c)) (x.4 d le) (λ e. absurd cc) (λ e. absurd cc))
