use Rattle.std.specs.Prelude.{ℕ, List, codes}
use Rattle.wh_lex.specs.declared.cause.TextCause.{TextCause}
use Rattle.wh_lex.specs.declared.cause.TextCause.TheVariants.{BadByte, OpenQuote, NumberRange, TextTooLong, TooNested, Syntax}

-- the words of a cause
abbrev pub words : TextCause → List ℕ
words BadByte = codes "bad byte"
words OpenQuote = codes "open quote"
words NumberRange = codes "number out of range"
words TextTooLong = codes "text too long"
words TooNested = codes "too nested"
words Syntax = codes "syntax"
