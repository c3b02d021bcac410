-- What a text spells, as a function.
use Rattle.std.specs.Prelude.{ℕ, zero, suc, ◌+◌, List, [], ◌∷◌, ◌++◌, length, drop, Result, Ok, Err}
use Rattle.wh_lex.specs.declared.token.Token.{Token}
use Rattle.wh_lex.specs.declared.fault.LexFault.{LexFault}
use Rattle.wh_lex.specs.Front.{Piece, front}
use Rattle.wh_lex.specs.Lexes.{token_of, Lexes}

-- what follows a piece, where there is one
abbrev pub behind : Result Piece LexFault → (Piece → Result (List Token) LexFault) → Result (List Token) LexFault
behind (Ok p) rest = rest p
behind (Err fault) rest = Err fault

-- tokens in front of a reading
abbrev pub before : List Token → Result (List Token) LexFault → Result (List Token) LexFault
before found (Ok tokens) = Ok (found ++ tokens)
before found (Err fault) = Err fault

-- the tokens of a rest of the text that begins at a place, or its first fault; a piece takes a byte at least, so as many pieces as bytes are enough
abbrev pub lexed_from : ℕ → ℕ → List ℕ → Result (List Token) LexFault
lexed_from pieces at [] = Ok []
lexed_from zero at (b ∷ z) = Ok []
lexed_from (suc pieces) at (b ∷ z) = behind (front at (b ∷ z)) (λ p. before (token_of at p) (lexed_from pieces (at + p.1) (drop p.1 (b ∷ z))))

-- the tokens that a text spells, or its first fault
unfoldable pub lexed : List ℕ → Result (List Token) LexFault
lexed text = lexed_from (length text) 0 text

-- the function is the reading
abbrev pub LexesEveryText : Type 0
LexesEveryText = (text : List ℕ) → Lexes text (lexed text)
