-- The cases of the tokens of a text.
use Rattle.std.proofs.Common.{◌≡◌, ◌≢◌, ℕ, List, Option, Some, None, Ok, Err, ap, ◌∙◌}
use Rattle.wh_lex.specs.declared.cause.TextCause.TheVariants as cause
use Rattle.wh_lex.specs.declared.token.Token.{Token}
use Rattle.wh_lex.specs.declared.fault.LexFault.{LexFault}
use Rattle.wh_lex.specs.declared.fault.LexFault.TheVariants as lex
use Rattle.wh_lex.specs.Lexed.{lexed}
use Rattle.wh_grammar.specs.declared.fault.TextFault.{TextFault}
use Rattle.wh_grammar.specs.declared.fault.TextFault.TheVariants.{At, NoMemory}
use Rattle.wh_grammar.specs.Grammar.{Outcome, Parser, start_of}
use Rattle.wh_grammar.specs.Nesting.{too_nested}
use Rattle.wh_grammar.specs.TextFaults.{of_lexing}
use Rattle.wh_grammar.specs.Scanned.{scanned, scanned_tokens, if_shallow, read_text, read_tokens, value_of}

nesting_is : (text : List ℕ) (tokens : List Token) (deep : Option ℕ) → lexed text ≡ Ok tokens → too_nested 0 0 (start_of text tokens).ahead ≡ deep → scanned text ≡ if_shallow deep tokens
unfolding scanned
nesting_is text tokens deep e d = ap (scanned_tokens text) e ∙ ap (λ o. if_shallow o tokens) d

pub scanned_whole : (text : List ℕ) (tokens : List Token) → lexed text ≡ Ok tokens → too_nested 0 0 (start_of text tokens).ahead ≡ None → scanned text ≡ Ok tokens
scanned_whole text tokens e flat = nesting_is text tokens None e flat

pub scanned_deep : (text : List ℕ) (tokens : List Token) (at : ℕ) → lexed text ≡ Ok tokens → too_nested 0 0 (start_of text tokens).ahead ≡ Some at → scanned text ≡ Err (At at cause.TooNested)
scanned_deep text tokens at e deep = nesting_is text tokens (Some at) e deep

pub scanned_fault : (text : List ℕ) (fault : LexFault) → (fault ≢ lex.NoMemory → lexed text ≡ Err fault) → of_lexing fault ≢ NoMemory → scanned text ≡ Err (of_lexing fault)
unfolding scanned
scanned_fault text fault read known = ap (scanned_tokens text) (read (λ none. known (ap of_lexing none)))

-- ---- what a reader gives of a text

pub read_text_fault : {A : Type 0} (p : Parser A) (text : List ℕ) (e : TextFault) → scanned text ≡ Err e → read_text p text ≡ Err e
read_text_fault p text e h = ap (read_tokens p text) h

pub read_text_read : {A : Type 0} (p : Parser A) (text : List ℕ) (tokens : List Token) (o : Outcome A) → scanned text ≡ Ok tokens → p (start_of text tokens) ≡ o → read_text p text ≡ value_of o
read_text_read p text tokens o h e = ap (read_tokens p text) h ∙ ap value_of e
