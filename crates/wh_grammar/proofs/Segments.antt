-- The tokens at the front of a text, one segment after the other.
use Rattle.std.proofs.Common.{◌≡◌, ◌<◌, ℕ, ◌+◌, ◌-◌, List, [], ◌∷◌, ◌++◌, length, take, drop, map, Some, None, Ok, refl, sym, ap, ◌∙◌, append_assoc, add_assoc, add-zero, arith}
use Rattle.std.proofs.lemmas.List.{length-append, take_at, drop_at, append-nil, length-drop, length-take, take-append-drop, map-append}
use Rattle.wh_lex.specs.declared.token.TokenKind.{TokenKind}
use Rattle.wh_lex.specs.Front.{Piece, front}
use Rattle.wh_lex.specs.Lexes.{Stand, len_of, token_of, tokens_of}
use Rattle.wh_lex.specs.Spelling.{IsPrinted, Follows}
use Rattle.wh_lex.proofs.SpellingLemmas.{read_back, reads_space, stops_all, printed_some}
use Rattle.wh_grammar.specs.Grammar.{Lexeme, lexeme}

-- the token of a piece, with its bytes
abbrev pub lexeme_of : ℕ → List ℕ → Piece → List Lexeme
lexeme_of at text (None, n) = []
lexeme_of at text (Some k, n) = record { kind = k; bytes = take n text; from = at } ∷ []

abbrev pub lexemes : ℕ → List ℕ → List Piece → List Lexeme
lexemes at text [] = []
lexemes at text (p ∷ ps) = lexeme_of at text p ++ lexemes (at + p.1) (drop p.1 text) ps

-- these tokens stand at the front of a text, and the rest follows
pub record Segment (at : ℕ) (text rest : List ℕ) (end : ℕ) (ts : List Lexeme) : Type 0 where
  pub pieces : List Piece
  pub stand : Stand at text pieces rest
  pub tokens : lexemes at text pieces ≡ ts
  pub place : at + len_of pieces ≡ end

pub stand_then : (at : ℕ) (text rest more : List ℕ) (ps qs : List Piece) → Stand at text ps rest → Stand (at + len_of ps) rest qs more → Stand at text (ps ++ qs) more
stand_then at text rest more [] qs a b = rw (a, ← add-zero at) b
stand_then at text rest more (p ∷ ps) qs a b = (a.0, a.1, stand_then (at + p.1) (drop p.1 text) rest more ps qs a.2 (rw (add_assoc at p.1 (len_of ps)) b))

pub lexemes_then : (at : ℕ) (text rest : List ℕ) (ps qs : List Piece) → Stand at text ps rest → lexemes at text (ps ++ qs) ≡ lexemes at text ps ++ lexemes (at + len_of ps) rest qs
lexemes_then at text rest [] qs a = rw (a, add-zero at) refl
lexemes_then at text rest (p ∷ ps) qs a =
    rw (lexemes_then (at + p.1) (drop p.1 text) rest ps qs a.2, add_assoc at p.1 (len_of ps)) (sym (append_assoc (lexeme_of at text p) (lexemes (at + p.1) (drop p.1 text) ps) (lexemes (at + (p.1 + len_of ps)) rest qs)))

len_then : (ps qs : List Piece) → len_of (ps ++ qs) ≡ len_of ps + len_of qs
len_then [] qs = omega arith
len_then (p ∷ ps) qs = omega (arith, len_then ps qs)

pub and_then : {a b c : ℕ} {t u v : List ℕ} {xs ys : List Lexeme} → Segment a t u b xs → Segment b u v c ys → Segment a t v c (xs ++ ys)
and_then {a} {b} {c} {t} {u} {v} {xs} {ys} x y =
    let second : Stand (a + len_of x.pieces) u y.pieces v = rw x.place y.stand in
    record {
      pieces = x.pieces ++ y.pieces;
      stand = stand_then a t u v x.pieces y.pieces x.stand second;
      tokens = rw (lexemes_then a t u x.pieces y.pieces x.stand, x.place, x.tokens, y.tokens) refl;
      place = omega (arith, len_then x.pieces y.pieces, x.place, y.place);
    }

pub space : (at : ℕ) (rest : List ℕ) → Segment at (32 ∷ rest) rest (at + 1) []
space at rest = record { pieces = (None, 1) ∷ []; stand = (omega arith, reads_space at rest, refl); tokens = refl; place = omega arith }

pub segment_of : (at : ℕ) (kind : TokenKind) (w rest : List ℕ) → front at (w ++ rest) ≡ Ok (Some kind, length w) → 0 < length w → Segment at (w ++ rest) rest (at + length w) (record { kind = kind; bytes = w; from = at } ∷ [])
segment_of at kind w rest is some = record {
  pieces = (Some kind, length w) ∷ [];
  stand = (omega (arith, length-append w rest), is, drop_at w rest (length w) refl);
  tokens = rw (take_at w rest (length w) refl) refl;
  place = omega arith;
}

pub token_segment : (at : ℕ) (kind : TokenKind) (w rest : List ℕ) → IsPrinted kind w → Follows rest → Segment at (w ++ rest) rest (at + length w) (record { kind = kind; bytes = w; from = at } ∷ [])
token_segment at kind w rest is follows = segment_of at kind w rest (read_back at kind w rest is (stops_all kind rest follows)) (printed_some kind w is)

-- ---- the tokens of a whole text

one_lexeme : (front text : List ℕ) (at : ℕ) (p : Piece) → length front ≡ at → map (lexeme (front ++ text)) (token_of at p) ≡ lexeme_of at text p
one_lexeme front text at (None, n) len = refl
one_lexeme front text at (Some k, n) len =
    let size : at + n - at ≡ n = omega arith in
    rw (size, drop_at front text at len) refl

pub map_lexemes : (front text rest : List ℕ) (at : ℕ) (ps : List Piece) → length front ≡ at → Stand at text ps rest → map (lexeme (front ++ text)) (tokens_of at ps) ≡ lexemes at text ps
map_lexemes front text rest at [] len stand = refl
map_lexemes front text rest at (p ∷ []) len stand = rw (append-nil (token_of at p), append-nil (lexeme_of at text p)) (one_lexeme front text at p len)
map_lexemes front text rest at (p ∷ q ∷ qs) len stand =
    let some : p.1 < length text = omega (arith, stand.2.0, length-drop p.1 text) in
    let whole : front ++ text ≡ (front ++ take p.1 text) ++ drop p.1 text = sym (append_assoc front (take p.1 text) (drop p.1 text) ∙ ap (λ t. front ++ t) (take-append-drop p.1 text)) in
    let long : length (front ++ take p.1 text) ≡ at + p.1 = omega (arith, length-append front (take p.1 text), length-take p.1 text) in
    let more : map (lexeme (front ++ text)) (tokens_of (at + p.1) (q ∷ qs)) ≡ lexemes (at + p.1) (drop p.1 text) (q ∷ qs) =
    ap (λ w. map (lexeme w) (tokens_of (at + p.1) (q ∷ qs))) whole ∙ map_lexemes (front ++ take p.1 text) (drop p.1 text) rest (at + p.1) (q ∷ qs) long stand.2 in
    map-append (lexeme (front ++ text)) (token_of at p) (tokens_of (at + p.1) (q ∷ qs)) ∙ rw (one_lexeme front text at p len, more) refl
