-- Conditions that have a text, and what their text is read as.
use Rattle.std.specs.Prelude.{◌≡◌, ◌≤◌, ℕ, List, [], length, map, Ok, IsUtf8, FitsSigned}
use Rattle.std.specs.Int.{w64}
use Rattle.wh_lex.specs.declared.token.Token.{Token}
use Rattle.wh_lex.specs.declared.token.TokenKind.TheVariants as kinds
use Rattle.wh_lex.specs.Lexes.{Lexes}
use Rattle.wh_lex.specs.Spelling.{IsWordText}
use Rattle.wh_grammar.specs.declared.symbol.Symbol.TheVariants as s
use Rattle.wh_base.specs.declared.cond.Operand.{Operand}
use Rattle.wh_base.specs.declared.cond.Operand.TheVariants.{Attr, Int, Text}
use Rattle.wh_base.specs.declared.cond.Op.{Op}
use Rattle.wh_base.specs.declared.cond.Cond.{Cond}
use Rattle.wh_base.specs.declared.cond.Cond.TheVariants.{Cmp, Not, And, Or}
use Rattle.wh_grammar.specs.Symbols.{symbol}
use Rattle.wh_grammar.specs.Conditions as g
use Rattle.wh_grammar.specs.RoundTrip.{from}
use Rattle.wh_grammar.specs.Grammar.{lexeme, start_of}
use Rattle.wh_grammar.specs.Printing.{Shape, Shows}
use Rattle.wh_grammar.specs.Printed.{printed}

-- a word that is not reserved
abbrev pub IsName : List ℕ → Type 0
IsName n = IsWordText n × (symbol kinds.Word n ≡ s.Name)

-- an operand that has a text
abbrev pub HasText : Operand → Type 0
HasText (Attr n) = IsName n
HasText (Int v) = FitsSigned w64 v
HasText (Text t) = (length t ≤ 65535) × IsUtf8 t

-- a condition that has a text
pub data IsTextual : Cond → Type 0 where
  compares : {l r : Operand} {o : Op} → HasText l → HasText r → IsTextual (Cmp l o r)
  negates : (c : Cond) → IsTextual c → IsTextual (Not c)
  joins : (a b : Cond) → IsTextual a → IsTextual b → IsTextual (And a b)
  parts : (a b : Cond) → IsTextual a → IsTextual b → IsTextual (Or a b)

-- the text of a condition is lexed as tokens that show it
abbrev pub IsShownByText : Type 0
IsShownByText = (c : Cond) → IsTextual c → (tokens : List Token) × (k : Shape) × (n : ℕ) × Lexes (printed c) (Ok tokens) × ((d : ℕ) → n ≤ d → Shows k d c (map (lexeme (printed c)) tokens))

-- and so it is read again, by a reader that may go deep enough
abbrev pub IsReadFromText : Type 0
IsReadFromText = (c : Cond) → IsTextual c → (tokens : List Token) × (n : ℕ) × Lexes (printed c) (Ok tokens) × ((d : ℕ) → n ≤ d → (g.cond d).read (start_of (printed c) tokens) ≡ Ok (c, from (length (printed c)) []))
