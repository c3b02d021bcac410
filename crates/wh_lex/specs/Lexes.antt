-- A text as a sequence of tokens and blanks, or its first fault.
use Rattle.std.specs.Prelude.{◌≡◌, ◌<◌, ◌≤◌, ℕ, ◌+◌, List, [], ◌∷◌, ◌++◌, length, drop, Some, None, Result, Ok, Err}
use Rattle.wh_lex.specs.declared.token.Token.{Token}
use Rattle.wh_lex.specs.declared.fault.LexFault.{LexFault}
use Rattle.wh_lex.specs.Front.{Piece, front}

-- These pieces stand one after the other at the front of a text that begins at a place of the whole, and the rest follows.
abbrev pub Stand : ℕ → List ℕ → List Piece → List ℕ → Type 0
Stand at text [] rest = text ≡ rest
Stand at text (p ∷ ps) rest = (0 < length text) × (front at text ≡ Ok p) × Stand (at + p.1) (drop p.1 text) ps rest

-- the token of a piece, and none of a blank
abbrev pub token_of : ℕ → Piece → List Token
token_of at (None, len) = []
token_of at (Some kind, len) = record { kind = kind; from = at; to = at + len } ∷ []

-- the tokens of pieces
abbrev pub tokens_of : ℕ → List Piece → List Token
tokens_of at [] = []
tokens_of at (p ∷ ps) = token_of at p ++ tokens_of (at + p.1) ps

-- how many bytes pieces take
abbrev pub len_of : List Piece → ℕ
len_of [] = 0
len_of (p ∷ ps) = p.1 + len_of ps

-- the text spells these tokens, or this is its first fault
abbrev pub Lexes : List ℕ → Result (List Token) LexFault → Type 0
Lexes text (Ok tokens) = (ps : List Piece) × Stand 0 text ps [] × (tokens ≡ tokens_of 0 ps)
Lexes text (Err fault) = (ps : List Piece) × (rest : List ℕ) × Stand 0 text ps rest × (0 < length rest) × (front (len_of ps) rest ≡ Err fault)

-- a text has one reading
abbrev pub IsOneReading : Type 0
IsOneReading = (text : List ℕ) (a b : Result (List Token) LexFault) → Lexes text a → Lexes text b → a ≡ b

-- a token's bytes are in the text
abbrev pub IsWithin : List ℕ → Token → Type 0
IsWithin text t = (t.from < t.to) × (t.to ≤ length text)
