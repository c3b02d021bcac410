use Rattle.wh_lex.specs.declared.cause.TextCause.TheVariants as cause
use Rattle.wh_lex.specs.declared.fault.LexFault.{LexFault}
use Rattle.wh_lex.specs.declared.fault.LexFault.TheVariants as lex
use Rattle.wh_grammar.specs.declared.fault.TextFault.{TextFault}
use Rattle.wh_grammar.specs.declared.fault.TextFault.TheVariants.{At, NoMemory}

-- a fault of the tokens, as a fault of the text
abbrev pub of_lexing : LexFault → TextFault
of_lexing (lex.BadByte at) = At at cause.BadByte
of_lexing (lex.OpenQuote at) = At at cause.OpenQuote
of_lexing (lex.NumberRange at) = At at cause.NumberRange
of_lexing (lex.TextTooLong at) = At at cause.TextTooLong
of_lexing lex.NoMemory = NoMemory
