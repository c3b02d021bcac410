-- Pieces of a text, one after the other.
use Rattle.std.proofs.Common.{◌≡◌, ◌<◌, ◌≤◌, ℕ, ◌+◌, ◌-◌, List, [], ◌∷◌, ◌++◌, length, drop, Option, Some, None, Ok, Err, refl, sym, ap, subst, append_assoc, add_assoc, add-zero, zero-add, arith, length-drop}
use Rattle.std.proofs.lemmas.List.{append-nil}
use Rattle.std.proofs.lemmas.List.Elements.{All-nil, All-append, All-cons}
use Rattle.std.specs.Prelude.{All}
use Rattle.wh_lex.specs.declared.token.Token.{Token}
use Rattle.wh_lex.specs.declared.fault.LexFault.{LexFault}
use Rattle.wh_lex.specs.Front.{Piece, front}
use Rattle.wh_lex.specs.Lexes.{Stand, token_of, tokens_of, len_of, Lexes, IsWithin, IsOneReading}

-- a part of the text was read
pub record Reached (text rest : List ℕ) (found : List Token) : Type 0 where
  pub pieces : List Piece
  pub stand : Stand 0 text pieces rest
  pub tokens : found ≡ tokens_of 0 pieces
  pub place : len_of pieces + length rest ≡ length text
  pub within : All (IsWithin text) found

Stand-push : (at : ℕ) (text rest : List ℕ) (ps : List Piece) (p : Piece) → Stand at text ps rest → 0 < length rest → front (at + len_of ps) rest ≡ Ok p → Stand at text (ps ++ p ∷ []) (drop p.1 rest)
Stand-push at text rest [] p stand some is = rw stand (some, rw (add-zero at) at is, refl)
Stand-push at text rest (q ∷ ps) p stand some is = (stand.0, stand.1, Stand-push (at + q.1) (drop q.1 text) rest ps p stand.2 some (rw (add_assoc at q.1 (len_of ps)) is))

tokens_of-push : (at : ℕ) (ps : List Piece) (p : Piece) → tokens_of at (ps ++ p ∷ []) ≡ tokens_of at ps ++ token_of (at + len_of ps) p
tokens_of-push at [] p = rw (add-zero at, append-nil (token_of at p)) refl
tokens_of-push at (q ∷ ps) p = rw (tokens_of-push (at + q.1) ps p, add_assoc at q.1 (len_of ps)) (sym (append_assoc (token_of at q) (tokens_of (at + q.1) ps) (token_of (at + (q.1 + len_of ps)) p)))

len_of-push : (ps : List Piece) (p : Piece) → len_of (ps ++ p ∷ []) ≡ len_of ps + p.1
len_of-push [] p = omega arith
len_of-push (q ∷ ps) p = omega (arith, len_of-push ps p)

token_of-within : (text : List ℕ) (at : ℕ) (p : Piece) → 0 < p.1 → at + p.1 ≤ length text → All (IsWithin text) (token_of at p)
token_of-within text at (None, len) more fits = All-nil (IsWithin text)
token_of-within text at (Some kind, len) more fits = All-cons (IsWithin text) (record { kind = kind; from = at; to = at + len }) [] (omega arith, omega arith) (All-nil (IsWithin text))

pub Reached-push : (text rest : List ℕ) (found : List Token) (p : Piece) (at : ℕ) → Reached text rest found → 0 < length rest → at ≡ length text - length rest → front at rest ≡ Ok p → 0 < p.1 → p.1 ≤ length rest
    → Reached text (drop p.1 rest) (found ++ token_of at p)
Reached-push text rest found p at so_far some at-is is more fits =
    let place : at ≡ len_of so_far.pieces = omega (arith, so_far.place) in
    let front-is : front (0 + len_of so_far.pieces) rest ≡ Ok p = rw (zero-add (len_of so_far.pieces), ← place) is in
    record {
      pieces = so_far.pieces ++ p ∷ [];
      stand = Stand-push 0 text rest so_far.pieces p so_far.stand some front-is;
      tokens = rw (tokens_of-push 0 so_far.pieces p, zero-add (len_of so_far.pieces), ← place, so_far.tokens) refl;
      place = omega (arith, len_of-push so_far.pieces p, length-drop p.1 rest, so_far.place);
      within = All-append (IsWithin text) found (token_of at p) so_far.within (token_of-within text at p more (omega (arith, so_far.place)));
    }

no_more : (rest : List ℕ) → length rest ≡ 0 → rest ≡ []
no_more [] none = refl
no_more (b ∷ rest) none = absurd (omega arith)

pub Lexes-end : (text rest : List ℕ) (found : List Token) → Reached text rest found → length rest ≡ 0 → Lexes text (Ok found)
Lexes-end text rest found so_far none = (so_far.pieces, rw (no_more rest none) at so_far.stand, so_far.tokens)

pub Lexes-fault : (text rest : List ℕ) (found : List Token) (fault : LexFault) (at : ℕ) → Reached text rest found → 0 < length rest → at ≡ length text - length rest → front at rest ≡ Err fault → Lexes text (Err fault)
Lexes-fault text rest found fault at so_far some at-is is =
    let place : at ≡ len_of so_far.pieces = omega (arith, so_far.place) in
    (so_far.pieces, rest, so_far.stand, some, rw (← place) is)

-- how a sequence of pieces ends
abbrev pub Ends : ℕ → List ℕ → Option LexFault → Type 0
Ends at rest None = rest ≡ []
Ends at rest (Some fault) = (0 < length rest) × (front at rest ≡ Err fault)

-- at the place where one reading ends, the other has no piece
ends_here : (at : ℕ) (text : List ℕ) (p : Piece) (e : Option LexFault) → 0 < length text → front at text ≡ Ok p → Ends at text e → ⊥
ends_here at text p None some is end = omega (arith, ap length end)
ends_here at text p (Some fault) some is end = cc

same_end : (at : ℕ) (text : List ℕ) (e f : Option LexFault) → Ends at text e → Ends at text f → e ≡ f
same_end at text None None a b = refl
same_end at text None (Some f) a b = absurd (omega (arith, ap length a, b.0))
same_end at text (Some e) None a b = absurd (omega (arith, ap length b, a.0))
same_end at text (Some e) (Some f) a b = cc

same_pieces : (at : ℕ) (text : List ℕ) (ps qs : List Piece) (r s : List ℕ) (e f : Option LexFault) → Stand at text ps r → Stand at text qs s → Ends (at + len_of ps) r e → Ends (at + len_of qs) s f → (ps ≡ qs) × (e ≡ f)
same_pieces at text [] [] r s e f a b c d = (refl, same_end (at + 0) text e f (rw (← a) at c) (rw (← b) at d))
same_pieces at text [] (q ∷ qs) r s e f a b c d = absurd (ends_here at text q e b.0 b.1 (rw (← a, add-zero at) at c))
same_pieces at text (p ∷ ps) [] r s e f a b c d = absurd (ends_here at text p f a.0 a.1 (rw (← b, add-zero at) at d))
same_pieces at text (p ∷ ps) (q ∷ qs) r s e f a b c d =
    let head : q ≡ p = cc in
    let stand : Stand (at + p.1) (drop p.1 text) qs s = subst (λ (x : Piece). Stand (at + x.1) (drop x.1 text) qs s) head b.2 in
    let left : Ends ((at + p.1) + len_of ps) r e = rw (add_assoc at p.1 (len_of ps)) c in
    let right : Ends ((at + p.1) + len_of qs) s f = subst (λ (x : Piece). Ends ((at + x.1) + len_of qs) s f) head (rw (add_assoc at q.1 (len_of qs)) d) in
    let more = same_pieces (at + p.1) (drop p.1 text) ps qs r s e f a.2 stand left right in
    (cc, more.1)

pub one_reading : IsOneReading
one_reading text (Ok v) (Ok w) x y =
    let same = same_pieces 0 text x.0 y.0 [] [] None None x.1 y.1 refl refl in
    let tokens : tokens_of 0 x.0 ≡ tokens_of 0 y.0 = ap (tokens_of 0) same.0 in
    cc
one_reading text (Ok v) (Err w) x y =
    let same = same_pieces 0 text x.0 y.0 [] y.1 None (Some w) x.1 y.2 refl (rw zero-add (y.3, y.4)) in
    absurd (cc same.1)
one_reading text (Err v) (Ok w) x y =
    let same = same_pieces 0 text x.0 y.0 x.1 [] (Some v) None x.2 y.1 (rw zero-add (x.3, x.4)) refl in
    absurd (cc same.1)
one_reading text (Err v) (Err w) x y =
    let same = same_pieces 0 text x.0 y.0 x.1 y.1 (Some v) (Some w) x.2 y.2 (rw zero-add (x.3, x.4)) (rw zero-add (y.3, y.4)) in
    cc same.1
