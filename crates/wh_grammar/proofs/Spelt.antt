-- Texts that a reader reads as a value, wherever they stand, put together from texts of their parts.
use Rattle.std.proofs.Common.{◌≡◌, ◌≢◌, ◌<◌, ◌≤◌, ℕ, ◌+◌, ◌*◌, Bool, true, false, not, ◌&&◌, List, [], ◌∷◌, ◌++◌, length, map, Some, None, Ok, codes, refl, sym, ap, subst, ◌∙◌, append_assoc, arith}
use Rattle.std.specs.List.{AllByRecursion}
use Rattle.std.proofs.lemmas.Bool.{and_parts}
use Rattle.std.proofs.lemmas.List.{length-append, append-nil}
use Rattle.wh_lex.specs.declared.token.TokenKind.{TokenKind}
use Rattle.wh_lex.specs.declared.token.TokenKind.TheVariants as kinds
use Rattle.wh_lex.specs.Front.{front}
use Rattle.wh_lex.specs.Spelling.{IsPrinted, Follows}
use Rattle.wh_lex.proofs.SpellingLemmas.{read_back, reads_open, reads_close, stops_all, printed_some}
use Rattle.wh_base.specs.declared.cond.Cond.{Cond}
use Rattle.wh_base.specs.Cond.{nodes}
use Rattle.wh_grammar.specs.declared.symbol.Symbol.{Symbol}
use Rattle.wh_grammar.specs.declared.symbol.Symbol.TheVariants as s
use Rattle.wh_grammar.specs.Symbols.{symbol}
use Rattle.wh_grammar.specs.Grammar.{Input, Lexeme, Parser, Part, ◌>>=◌, pure, and_then as outcome_then, same, next, after, spelling, symbol_of, token, name, enclosed, maybe, each, push, more, separated}
use Rattle.wh_grammar.specs.Nesting.{too_nested, is_connective}
use Rattle.wh_grammar.specs.Conditions as g
use Rattle.wh_grammar.specs.Printed.{printed, is_shallow, further, joined}
use Rattle.wh_grammar.specs.Printable.{IsName, IsTextual}
use Rattle.wh_grammar.specs.RoundTrip.{from}
use Rattle.wh_grammar.proofs.GrammarLemmas.{Takes, more_takes, each_goes, each_stops}
use Rattle.wh_grammar.proofs.DepthLemmas.{depth_free}
use Rattle.wh_grammar.proofs.NestSteps.{is_plain, nest_plain, nest_connective, nest_open, nest_close}
use Rattle.wh_grammar.proofs.RoundTrip.{then, reads_token, read_again}
use Rattle.wh_grammar.proofs.Segments.{Segment, and_then, space, segment_of}
use Rattle.wh_grammar.proofs.PrintTrip.{claim}

-- A text is read as a value where the next symbol is one of the last ones, by a reader that may go as deep as depth; the text
-- begins with one of the first symbols. Where at most `top` parentheses are open it nests not too deep, and it has so many connectives.
pub record Spelt {A : Type 0} (p : Parser A) (x : A) (w : List ℕ) (depth top many : ℕ) (first last : Symbol → Bool) (at : ℕ) (rest : List ℕ) : Type 0 where
  pub tokens : List Lexeme
  pub end : ℕ
  pub segment : Segment at (w ++ rest) rest end tokens
  pub reads : (total : ℕ) (more : List Lexeme) → length (tokens ++ more) ≤ depth → last (symbol_of more) ≡ true → p (from total (tokens ++ more)) ≡ Ok (x, from total more)
  pub begins : (more : List Lexeme) → last (symbol_of more) ≡ true → first (symbol_of (tokens ++ more)) ≡ true
  pub nests : (q k : ℕ) (more : List Lexeme) → q ≤ top → k + many ≤ 2000 → too_nested q k (tokens ++ more) ≡ too_nested q (k + many) more

-- the same of any place, before any bytes that may follow
abbrev pub Claim : {A : Type 0} → Parser A → A → List ℕ → ℕ → ℕ → ℕ → (Symbol → Bool) → (Symbol → Bool) → (List ℕ → Type 0) → Type 0
Claim p x w depth top many first last follows = (at : ℕ) (rest : List ℕ) → follows rest → Spelt p x w depth top many first last at rest

abbrev pub any : Symbol → Bool
any _ = true

abbrev pub only : Symbol → Symbol → Bool
only k t = same t k

abbrev pub other : Symbol → Symbol → Bool
other k t = not (same t k)

-- any bytes may follow
abbrev pub Anything : List ℕ → Type 0
Anything _ = Unit {0}

-- ---- sequences

pub seq : {A B : Type 0} (p : Parser A) (f : A → Parser B) (x : A) (y : B) (w v : List ℕ) (depth top m n : ℕ) (a b c d : Symbol → Bool) (F G : List ℕ → Type 0)
    → Claim p x w depth top m a b F → ((rest : List ℕ) → G rest → F (v ++ rest)) → ((t : Symbol) → c t ≡ true → b t ≡ true) → Claim (f x) y v depth top n c d G
    → Claim (p >>= f) y (w ++ v) depth top (m + n) a d G
seq p f x y w v depth top m n a b c d F G one follows links two at rest after =
    let l = one at (v ++ rest) (follows rest after) in
    let r = two l.end rest after in
    record {
      tokens = l.tokens ++ r.tokens;
      end = r.end;
      segment = rw (append_assoc w v rest) (and_then l.segment r.segment);
      reads = λ total more le last.
          let whole : length (l.tokens ++ (r.tokens ++ more)) ≤ depth = rw (← append_assoc l.tokens r.tokens more) le in
          ap (λ ts. outcome_then (p (from total ts)) f) (append_assoc l.tokens r.tokens more)
          ∙ then (p (from total (l.tokens ++ (r.tokens ++ more)))) f x (from total (r.tokens ++ more)) (Ok (y, from total more)) (l.reads total (r.tokens ++ more) whole (links (symbol_of (r.tokens ++ more)) (r.begins more last)))
          (r.reads total more (omega (arith, length-append l.tokens (r.tokens ++ more))) last);
      begins = λ more last. ap (λ ts. a (symbol_of ts)) (append_assoc l.tokens r.tokens more) ∙ l.begins (r.tokens ++ more) (links (symbol_of (r.tokens ++ more)) (r.begins more last));
      nests = λ q k more le few.
          ap (too_nested q k) (append_assoc l.tokens r.tokens more)
          ∙ l.nests q k (r.tokens ++ more) le (omega arith)
          ∙ r.nests q (k + m) more le (omega arith)
          ∙ ap (λ i. too_nested q i more) (omega arith);
    }

-- a value that is made of what was read
pub made : {A B : Type 0} (p : Parser A) (h : A → B) (x : A) (w : List ℕ) (depth top m : ℕ) (a b : Symbol → Bool) (F : List ℕ → Type 0)
    → Claim p x w depth top m a b F → Claim (p >>= (λ y. pure (h y))) (h x) w depth top m a b F
made p h x w depth top m a b F one at rest after =
    let l = one at rest after in
    record {
      tokens = l.tokens;
      end = l.end;
      segment = l.segment;
      reads = λ total more le last. ap (λ r. outcome_then r (λ y. pure (h y))) (l.reads total more le last);
      begins = l.begins;
      nests = l.nests;
    }

-- ---- blanks

pub space_before : {A : Type 0} (p : Parser A) (x : A) (w : List ℕ) (depth top m : ℕ) (a b : Symbol → Bool) (F : List ℕ → Type 0)
    → Claim p x w depth top m a b F → Claim p x (32 ∷ w) depth top m a b F
space_before p x w depth top m a b F one at rest after =
    let l = one (at + 1) rest after in
    record { tokens = l.tokens; end = l.end; segment = and_then (space at (w ++ rest)) l.segment; reads = l.reads; begins = l.begins; nests = l.nests }

pub space_behind : {A : Type 0} (p : Parser A) (x : A) (w : List ℕ) (depth top m : ℕ) (a b : Symbol → Bool)
    → Claim p x w depth top m a b Follows → Claim p x (w ++ 32 ∷ []) depth top m a b Anything
space_behind p x w depth top m a b one at rest after =
    let l = one at (32 ∷ rest) refl in
    record {
      tokens = l.tokens;
      end = l.end + 1;
      segment = rw (append_assoc w (32 ∷ []) rest) (rw (append-nil l.tokens) at (and_then l.segment (space l.end rest)));
      reads = l.reads;
      begins = l.begins;
      nests = l.nests;
    }

-- ---- single tokens

abbrev lexeme_at : TokenKind → List ℕ → ℕ → Lexeme
lexeme_at kind w at = record { kind = kind; bytes = w; from = at }

-- what a reader gives of a token
abbrev ReadsOne : {A : Type 0} → Parser A → A → TokenKind → List ℕ → Type 0
ReadsOne p x kind w = (at total : ℕ) (more : List Lexeme) → p (from total (lexeme_at kind w at ∷ more)) ≡ Ok (x, from total more)

pub plain_token : {A : Type 0} (p : Parser A) (x : A) (kind : TokenKind) (w : List ℕ) (k : Symbol) (depth top : ℕ) (F : List ℕ → Type 0)
    → ((at : ℕ) (rest : List ℕ) → F rest → front at (w ++ rest) ≡ Ok (Some kind, length w)) → 0 < length w → symbol kind w ≡ k → is_plain k ≡ true → same k k ≡ true → ReadsOne p x kind w
    → Claim p x w depth top 0 (only k) any F
plain_token p x kind w k depth top F stands some is plain self reads at rest after = record {
  tokens = lexeme_at kind w at ∷ [];
  end = at + length w;
  segment = segment_of at kind w rest (stands at rest after) some;
  reads = λ total more le last. reads at total more;
  begins = λ more last. rw is self;
  nests = λ q c more le few. nest_plain q c (lexeme_at kind w at) k more is plain ∙ ap (λ i. too_nested q i more) (omega arith);
}

pub connective_token : {A : Type 0} (p : Parser A) (x : A) (kind : TokenKind) (w : List ℕ) (k : Symbol) (depth top : ℕ) (F : List ℕ → Type 0)
    → ((at : ℕ) (rest : List ℕ) → F rest → front at (w ++ rest) ≡ Ok (Some kind, length w)) → 0 < length w → symbol kind w ≡ k → is_connective k ≡ true → same k k ≡ true → ReadsOne p x kind w
    → Claim p x w depth top 1 (only k) any F
connective_token p x kind w k depth top F stands some is connective self reads at rest after = record {
  tokens = lexeme_at kind w at ∷ [];
  end = at + length w;
  segment = segment_of at kind w rest (stands at rest after) some;
  reads = λ total more le last. reads at total more;
  begins = λ more last. rw is self;
  nests = λ q c more le few. nest_connective q c (lexeme_at kind w at) k more is connective (omega arith);
}

stands_printed : (kind : TokenKind) (w : List ℕ) → IsPrinted kind w → (at : ℕ) (rest : List ℕ) → Follows rest → front at (w ++ rest) ≡ Ok (Some kind, length w)
stands_printed kind w is at rest follows = read_back at kind w rest is (stops_all kind rest follows)

-- a token of the grammar
pub printed_token : (kind : TokenKind) (w : List ℕ) (k : Symbol) (depth top : ℕ) → IsPrinted kind w → symbol kind w ≡ k → is_plain k ≡ true → same k k ≡ true → Claim (token k).read tt w depth top 0 (only k) any Follows
printed_token kind w k depth top is sym-is plain self =
    plain_token (token k).read tt kind w k depth top Follows (stands_printed kind w is) (printed_some kind w is) sym-is plain self (λ at total more. reads_token (lexeme_at kind w at) k total more self sym-is)

pub printed_connective : (kind : TokenKind) (w : List ℕ) (k : Symbol) (depth top : ℕ) → IsPrinted kind w → symbol kind w ≡ k → is_connective k ≡ true → same k k ≡ true → Claim (token k).read tt w depth top 1 (only k) any Follows
printed_connective kind w k depth top is sym-is connective self =
    connective_token (token k).read tt kind w k depth top Follows (stands_printed kind w is) (printed_some kind w is) sym-is connective self (λ at total more. reads_token (lexeme_at kind w at) k total more self sym-is)

reads_name : (n : List ℕ) → symbol kinds.Word n ≡ s.Name → ReadsOne name.read n kinds.Word n
unfolding next after spelling same
reads_name n is at total more = rw is refl

pub name_claim : (n : List ℕ) (depth top : ℕ) → IsName n → Claim name.read n n depth top 0 (only s.Name) any Follows
unfolding same
name_claim n depth top is = plain_token name.read n kinds.Word n s.Name depth top Follows (stands_printed kinds.Word n is.0) (printed_some kinds.Word n is.0) is.1 refl refl (reads_name n is.1)

-- ---- in parentheses

enclosed_reads : {A : Type 0} (p : Parser A) (x : A) (l r : Lexeme) (ts more : List Lexeme) (total : ℕ) → symbol l.kind l.bytes ≡ s.LeftParen → symbol r.kind r.bytes ≡ s.RightParen
    → p (from total (ts ++ (r ∷ more))) ≡ Ok (x, from total (r ∷ more)) → (enclosed p).read (from total (l ∷ ts ++ (r ∷ more))) ≡ Ok (x, from total more)
unfolding same
enclosed_reads p x l r ts more total opens closes inside =
    then ((token s.LeftParen).read (from total (l ∷ ts ++ (r ∷ more)))) (λ _. p >>= (λ y. (token s.RightParen).read >>= (λ _. pure y))) tt (from total (ts ++ (r ∷ more))) (Ok (x, from total more)) (reads_token l s.LeftParen total (ts ++ (r ∷ more)) refl opens)
    (then (p (from total (ts ++ (r ∷ more)))) (λ y. (token s.RightParen).read >>= (λ _. pure y)) x (from total (r ∷ more)) (Ok (x, from total more)) inside
    (then ((token s.RightParen).read (from total (r ∷ more))) (λ _. pure x) tt (from total more) (Ok (x, from total more)) (reads_token r s.RightParen total more refl closes) refl))

abbrev opening : ℕ → Lexeme
opening at = lexeme_at kinds.Mark (40 ∷ []) at

abbrev closing : ℕ → Lexeme
closing at = lexeme_at kinds.Mark (41 ∷ []) at

is_opening : (at : ℕ) → symbol (opening at).kind (opening at).bytes ≡ s.LeftParen
unfolding symbol
is_opening at = refl

is_closing : (at : ℕ) → symbol (closing at).kind (closing at).bytes ≡ s.RightParen
unfolding symbol
is_closing at = refl

-- a part in parentheses, whose last symbols allow the closing one
pub enclosed_claim : {A : Type 0} (p : Parser A) (x : A) (w : List ℕ) (depth top m : ℕ) (a b : Symbol → Bool) → top < 64 → b s.RightParen ≡ true → Claim p x w depth (top + 1) m a b Follows
    → Claim (enclosed p).read x (codes "(" ++ w ++ codes ")") depth top m (only s.LeftParen) any Anything
unfolding same
enclosed_claim p x w depth top m a b room closes one at rest after =
    let l = one (at + 1) (41 ∷ rest) refl in
    let first = segment_of at kinds.Mark (40 ∷ []) (w ++ 41 ∷ rest) (reads_open at (w ++ 41 ∷ rest)) (omega arith) in
    let last = segment_of l.end kinds.Mark (41 ∷ []) rest (reads_close l.end rest) (omega arith) in
    let ends : (more : List Lexeme) → b (symbol_of (closing l.end ∷ more)) ≡ true = λ more. rw (is_closing l.end) closes in
    let whole : Segment at (40 ∷ (w ++ 41 ∷ rest)) rest (l.end + 1) (opening at ∷ l.tokens ++ closing l.end ∷ []) = and_then first (and_then l.segment last) in
    record {
      tokens = opening at ∷ l.tokens ++ closing l.end ∷ [];
      end = l.end + 1;
      segment = rw (append_assoc w (41 ∷ []) rest) whole;
      reads = λ total more le end.
          let split : (l.tokens ++ closing l.end ∷ []) ++ more ≡ l.tokens ++ (closing l.end ∷ more) = append_assoc l.tokens (closing l.end ∷ []) more in
          let long : length (l.tokens ++ (closing l.end ∷ more)) ≤ depth = omega (arith, ap length split) in
          ap (λ ts. (enclosed p).read (from total (opening at ∷ ts))) split
          ∙ enclosed_reads p x (opening at) (closing l.end) l.tokens more total (is_opening at) (is_closing l.end) (l.reads total (closing l.end ∷ more) long (ends more));
      begins = λ more end. rw (is_opening at) refl;
      nests = λ q k more le few.
          nest_open q k (opening at) ((l.tokens ++ closing l.end ∷ []) ++ more) (is_opening at) (omega arith)
          ∙ ap (too_nested (q + 1) k) (append_assoc l.tokens (closing l.end ∷ []) more)
          ∙ l.nests (q + 1) k (closing l.end ∷ more) (omega arith) few
          ∙ nest_close q (k + m) (closing l.end) more (is_closing l.end);
    }

-- ---- lists

not_other : (k t : Symbol) → other k t ≡ true → same t k ≡ false
not_other k t h = unset (same t k) h
  where
    unset : (b : Bool) → not b ≡ true → b ≡ false
    unset true e = absurd cc
    unset false e = refl

further_follows : {A : Type 0} (text : A → List ℕ) (between : List ℕ) (xs : List A) → ((rest : List ℕ) → Follows (between ++ rest)) → (rest : List ℕ) → Follows rest → Follows (further between (map text xs) ++ rest)
further_follows text between [] apart rest after = after
further_follows text between (x ∷ xs) apart rest after =
    let w = further between (map text xs) in
    let e : ((between ++ text x) ++ w) ++ rest ≡ between ++ (text x ++ (w ++ rest)) = append_assoc (between ++ text x) w rest ∙ append_assoc between (text x) (w ++ rest) in
    subst Follows (sym e) (apart (text x ++ (w ++ rest)))

-- further items, each behind a separator
pub further_claim : {A : Type 0} (q : Part A) (text : A → List ℕ) (k : Symbol) (between : List ℕ) (depth top e : ℕ) (a : Symbol → Bool) → Takes q.read → same s.End k ≡ false → ((rest : List ℕ) → Follows (between ++ rest))
    → Claim (token k).read tt between depth top e (only k) any Anything → (xs : List A) → AllByRecursion (λ x. Claim q.read x (text x) depth top 0 a any Follows) xs → (acc : List A)
    → Claim (each push (more q k) acc) (acc ++ xs) (further between (map text xs)) depth top (e * length xs) any (other k) Follows
unfolding next
further_claim q text k between depth top e a takes no_end apart sep [] all acc at rest after = record {
  tokens = [];
  end = at;
  segment = record { pieces = []; stand = refl; tokens = refl; place = omega arith };
  reads = λ total rest le last. each_stops push (more q k) acc (from total rest) (not_other k (symbol_of rest) last) ∙ ap (λ (v : List _). Ok (v, from total rest)) (sym (append-nil acc));
  begins = λ rest last. refl;
  nests = λ p c rest le few. ap (λ i. too_nested p i rest) (omega arith);
}
further_claim q text k between depth top e a takes no_end apart sep (x ∷ xs) all acc at rest after =
    let turn = seq (token k).read (λ _. q.read) tt x between (text x) depth top e 0 (only k) any a any Anything Follows sep (λ z f. tt) (λ t h. refl) all.0 in
    let tail = further_claim q text k between depth top e a takes no_end apart sep xs all.1 (acc ++ x ∷ []) in
    let whole = seq (more q k).read (λ b. each push (more q k) (push acc b)) x ((acc ++ x ∷ []) ++ xs) (between ++ text x) (further between (map text xs)) depth top (e + 0) (e * length xs) (only k) any any (other k) Follows Follows
    turn (further_follows text between xs apart) (λ t h. refl) tail at rest after in
    record {
      tokens = whole.tokens;
      end = whole.end;
      segment = whole.segment;
      reads = λ total further le last.
          each_goes push (more q k) acc (from total (whole.tokens ++ further)) (more_takes q k no_end takes) (whole.begins further last)
          ∙ whole.reads total further le last
          ∙ ap (λ (v : List _). Ok (v, from total further)) (append_assoc acc (x ∷ []) xs);
      begins = λ further last. refl;
      nests = λ p c further le few. whole.nests p c further le (omega arith) ∙ ap (λ i. too_nested p i further) (omega arith);
    }

-- items with a separator between each two
pub separated_claim : {A : Type 0} (q : Part A) (text : A → List ℕ) (k : Symbol) (between : List ℕ) (depth top e : ℕ) (a : Symbol → Bool) → Takes q.read → same s.End k ≡ false → ((rest : List ℕ) → Follows (between ++ rest))
    → Claim (token k).read tt between depth top e (only k) any Anything → (x : A) (xs : List A) → AllByRecursion (λ x. Claim q.read x (text x) depth top 0 a any Follows) (x ∷ xs)
    → Claim (separated q k).read (x ∷ xs) (joined between (map text (x ∷ xs))) depth top (0 + e * length xs) a (other k) Follows
separated_claim q text k between depth top e a takes no_end apart sep x xs all =
    seq q.read (λ first. each push (more q k) (first ∷ [])) x (x ∷ xs) (text x) (further between (map text xs)) depth top 0 (e * length xs) a any any (other k) Follows Follows
    all.0 (further_follows text between xs apart) (λ t h. refl) (further_claim q text k between depth top e a takes no_end apart sep xs all.1 (x ∷ []))

-- ---- optional parts

pub some_claim : {A : Type 0} (q : Part A) (x : A) (w : List ℕ) (depth top m : ℕ) (a b : Symbol → Bool) (F : List ℕ → Type 0) → ((t : Symbol) → a t ≡ true → q.begins t ≡ true)
    → Claim q.read x w depth top m a b F → Claim (maybe q) (Some x) w depth top m a b F
unfolding next
some_claim q x w depth top m a b F starts_so one at rest after =
    let l = made q.read Some x w depth top m a b F one at rest after in
    record {
      tokens = l.tokens;
      end = l.end;
      segment = l.segment;
      reads = λ total more le last. rw (starts_so (symbol_of (l.tokens ++ more)) (l.begins more last)) (l.reads total more le last);
      begins = l.begins;
      nests = l.nests;
    }

left_out : {A : Type 0} (q : Part A) (i : Input) → q.begins (next i) ≡ false → maybe q i ≡ Ok (None, i)
left_out q i other = rw other refl

-- nothing, before a symbol with which the part can't begin
pub none_claim : {A : Type 0} (q : Part A) (depth top : ℕ) (a : Symbol → Bool) → ((t : Symbol) → a t ≡ true → q.begins t ≡ false) → Claim (maybe q) None [] depth top 0 a a Anything
unfolding next
none_claim q depth top a apart at rest after = record {
  tokens = [];
  end = at;
  segment = record { pieces = []; stand = refl; tokens = refl; place = omega arith };
  reads = λ total more le last. left_out q (from total more) (apart (symbol_of more) last);
  begins = λ more last. last;
  nests = λ p c more le few. ap (λ i. too_nested p i more) (omega arith);
}

-- ---- conditions

-- neither `and` nor `or`
abbrev pub ends_cond : Symbol → Bool
ends_cond t = other s.And t && other s.Or t

no_and : (t : Symbol) → other s.And t ≡ true → t ≢ s.And
unfolding same
no_and t h e = let f : false ≡ true = rw e at h in absurd cc

no_or : (t : Symbol) → other s.Or t ≡ true → t ≢ s.Or
unfolding same
no_or t h e = let f : false ≡ true = rw e at h in absurd cc

pub cond_claim : (c : Cond) (depth : ℕ) → IsTextual c → is_shallow c 0 ≡ true → Claim (g.cond depth).read c (printed c) depth 0 (nodes c) any ends_cond Follows
cond_claim c depth textual flat at rest after =
    let x = claim textual at rest after in
    record {
      tokens = x.tokens;
      end = x.end;
      segment = x.segment;
      reads = λ total more le last.
          let parts = and_parts (other s.And (symbol_of more)) (other s.Or (symbol_of more)) last in
          depth_free depth (depth + x.need) (from total (x.tokens ++ more)) le (omega arith)
          ∙ read_again x.shape (depth + x.need) c x.tokens more total (x.shows (depth + x.need) (omega arith)) (no_and (symbol_of more) parts.0) (no_or (symbol_of more) parts.1);
      begins = λ more last. refl;
      nests = λ q k more le few. x.nests q k more (let e : q ≡ 0 = omega arith in rw e flat) few;
    }

-- ---- what a claim leaves out

pub weaken : {A : Type 0} {p : Parser A} {x : A} {w : List ℕ} {depth top m : ℕ} {a b c d : Symbol → Bool} {F G : List ℕ → Type 0}
    → Claim p x w depth top m a b F → ((t : Symbol) → a t ≡ true → c t ≡ true) → ((t : Symbol) → d t ≡ true → b t ≡ true) → ((rest : List ℕ) → G rest → F rest) → Claim p x w depth top m c d G
weaken one first last follows at rest after =
    let l = one at rest (follows rest after) in
    record {
      tokens = l.tokens;
      end = l.end;
      segment = l.segment;
      reads = λ total more le ends. l.reads total more le (last (symbol_of more) ends);
      begins = λ more ends. first (symbol_of (l.tokens ++ more)) (l.begins more (last (symbol_of more) ends));
      nests = l.nests;
    }
