-- What a cursor shows, and what it keeps.
use Rattle.std.specs.Prelude.{All}
use Rattle.wh_lex.specs.Lexes.{IsWithin}
use Rattle.wh_grammar.specs.declared.cursor.Cursor.TheInside.{Inside}
use Rattle.wh_grammar.specs.Grammar.{Input, start_of}

-- the tokens ahead with their bytes
abbrev pub input_of : Inside → Input
input_of c = start_of c.text.now c.ahead.now

-- the tokens lie in the text
abbrev pub AreWithin : Inside → Type 0
AreWithin c = All (IsWithin c.text.now) c.ahead.now
