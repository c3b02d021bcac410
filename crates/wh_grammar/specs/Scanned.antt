-- What a grammar reads of a text.
use Rattle.std.specs.Prelude.{ℕ, List, Option, Some, None, Result, Ok, Err}
use Rattle.wh_lex.specs.declared.cause.TextCause.TheVariants as cause
use Rattle.wh_lex.specs.declared.token.Token.{Token}
use Rattle.wh_lex.specs.declared.fault.LexFault.{LexFault}
use Rattle.wh_lex.specs.Lexed.{lexed}
use Rattle.wh_grammar.specs.declared.fault.TextFault.{TextFault}
use Rattle.wh_grammar.specs.declared.fault.TextFault.TheVariants.{At}
use Rattle.wh_grammar.specs.Grammar.{Outcome, Parser, start_of}
use Rattle.wh_grammar.specs.Nesting.{too_nested}
use Rattle.wh_grammar.specs.TextFaults.{of_lexing}

-- tokens, or the place of the first that nests too deep
abbrev pub if_shallow : Option ℕ → List Token → Result (List Token) TextFault
if_shallow None tokens = Ok tokens
if_shallow (Some at) tokens = Err (At at cause.TooNested)

-- tokens that nest not too deep
abbrev pub scanned_tokens : List ℕ → Result (List Token) LexFault → Result (List Token) TextFault
scanned_tokens text (Err fault) = Err (of_lexing fault)
scanned_tokens text (Ok tokens) = if_shallow (too_nested 0 0 (start_of text tokens).ahead) tokens

-- the tokens of a text, or the first fault of its tokens, else of its nesting
unfoldable pub scanned : List ℕ → Result (List Token) TextFault
scanned text = scanned_tokens text (lexed text)

-- the value of what was read
abbrev pub value_of : {A : Type 0} → Outcome A → Result A TextFault
value_of (Ok p) = Ok p.0
value_of (Err e) = Err e

-- what a reader gives of the tokens of a text
abbrev pub read_tokens : {A : Type 0} → Parser A → List ℕ → Result (List Token) TextFault → Result A TextFault
read_tokens p text (Err e) = Err e
read_tokens p text (Ok tokens) = value_of (p (start_of text tokens))

-- what a reader gives of a text: the tokens come first, then the nesting, then the grammar
abbrev pub read_text : {A : Type 0} → Parser A → List ℕ → Result A TextFault
read_text p text = read_tokens p text (scanned text)
