-- What is shown is read again, whatever follows that does not go on with it.
use Rattle.std.specs.Prelude.{◌≡◌, ◌≢◌, ℕ, List, ◌++◌, Ok}
use Rattle.wh_base.specs.declared.cond.Cond.{Cond}
use Rattle.wh_grammar.specs.declared.symbol.Symbol.TheVariants as s
use Rattle.wh_grammar.specs.Grammar.{Input, Lexeme, symbol_of}
use Rattle.wh_grammar.specs.Conditions as g
use Rattle.wh_grammar.specs.Printing.{Shape, Shows}

-- an input of a text with this length
abbrev pub from : ℕ → List Lexeme → Input
from end ts = record { ahead = ts; end = end }

-- the tokens that show a condition are read as it
abbrev pub IsReadAgain : Type 0
IsReadAgain = (k : Shape) (d : ℕ) (c : Cond) (ts rest : List Lexeme) (end : ℕ) → Shows k d c ts → symbol_of rest ≢ s.And → symbol_of rest ≢ s.Or
    → (g.cond d).read (from end (ts ++ rest)) ≡ Ok (c, from end rest)
