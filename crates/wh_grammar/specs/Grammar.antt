-- Grammars whose next token alone decides, and the place at which they fail.
use Rattle.std.specs.Prelude.{◌≡◌, ◌≢◌, ℕ, zero, suc, ◌-◌, Bool, ◌||◌, if◌then◌else◌, List, [], ◌∷◌, ◌++◌, length, take, drop, map, Option, Some, None, is_some, Result, Ok, Err}
use denote.Enum.Bare.{sameb}
use Rattle.wh_lex.specs.declared.cause.TextCause.TheVariants.{Syntax}
use Rattle.wh_lex.specs.declared.token.Token.{Token}
use Rattle.wh_lex.specs.declared.token.TokenKind.{TokenKind}
use Rattle.wh_grammar.specs.declared.symbol.Symbol.{Symbol}
use Rattle.wh_grammar.specs.declared.symbol.Symbol.TheVariants.{End, Name, LeftParen, RightParen}
use Rattle.wh_grammar.specs.contracts.symbol.Symbol.{the_type}
use Rattle.wh_grammar.specs.declared.fault.TextFault.{TextFault}
use Rattle.wh_grammar.specs.declared.fault.TextFault.TheVariants.{At, NoMemory}
use Rattle.wh_grammar.specs.Symbols.{symbol}

-- a token with its bytes
pub record Lexeme : Type 0 where
  pub kind : TokenKind
  pub bytes : List ℕ
  pub from : ℕ

-- a token with its bytes in the text
abbrev pub lexeme : List ℕ → Token → Lexeme
lexeme text t = record { kind = t.kind; bytes = take (t.to - t.from) (drop t.from text); from = t.from }

-- the tokens that are left, and the length of the whole text
pub record Input : Type 0 where
  pub ahead : List Lexeme
  pub end : ℕ

-- the input at the start of a text
abbrev pub start_of : List ℕ → List Token → Input
start_of text tokens = record { ahead = map (lexeme text) tokens; end = length text }

-- ---- the next token

-- the symbol of the first token, or the end
abbrev pub symbol_of : List Lexeme → Symbol
symbol_of [] = End
symbol_of (t ∷ ts) = symbol t.kind t.bytes

-- where the first token begins, or the length of the text
abbrev pub place_of : List Lexeme → ℕ → ℕ
place_of [] end = end
place_of (t ∷ ts) end = t.from

-- the symbol of the next token
unfoldable pub next : Input → Symbol
next i = symbol_of i.ahead

-- the input behind the next token
unfoldable pub after : Input → Input
after i = record i { ahead = drop 1 i.ahead }

-- where the next token begins, or the length of the text
unfoldable pub place : Input → ℕ
place i = place_of i.ahead i.end

-- the bytes of the first token
abbrev pub bytes_of : List Lexeme → List ℕ
bytes_of [] = []
bytes_of (t ∷ ts) = t.bytes

-- the bytes of the next token
unfoldable pub spelling : Input → List ℕ
spelling i = bytes_of i.ahead

-- ---- what reads an input: the value and the input after it, or the place at which it fails

-- a value with the rest of the input, or a fault
abbrev pub Outcome : Type 0 → Type 0
Outcome A = Result (A × Input) TextFault

-- a reader of an input
abbrev pub Parser : Type 0 → Type 0
Parser A = Input → Outcome A

-- the further step, where there was no fault
abbrev pub and_then : {A B : Type 0} → Outcome A → (A → Parser B) → Outcome B
and_then (Ok p) f = f p.0 p.1
and_then (Err e) f = Err e

-- a reader, and then the reader that its value gives
infixl 10 ◌>>=◌
abbrev pub ◌>>=◌ : {A B : Type 0} → Parser A → (A → Parser B) → Parser B
p >>= f = λ i. and_then (p i) f

-- two readers in a row, of which the second gives the value
infixl 10 ◌>>◌
abbrev pub ◌>>◌ : {A B : Type 0} → Parser A → Parser B → Parser B
p >> q = p >>= (λ _. q)

-- reads nothing
abbrev pub pure : {A : Type 0} → A → Parser A
pure a = λ i. Ok (a, i)

-- the fault of a token that the grammar does not take, or of the end
abbrev pub refusal : Input → TextFault
refusal i = At (place i) Syntax

-- fails at the next token
abbrev pub fail : {A : Type 0} → Parser A
fail = λ i. Err (refusal i)

-- ---- parts of a grammar: the symbols with which one can begin, and how it reads

-- a part: the symbols with which it can begin, and how it reads
pub record Part (A : Type 0) : Type 0 where
  pub begins : Symbol → Bool
  pub read : Parser A

-- whether two symbols are the same
unfoldable pub same : Symbol → Symbol → Bool
same = sameb the_type

-- a single token
abbrev pub token : Symbol → Part (Unit {0})
token s = record { begins = λ t. same t s; read = λ i. if same (next i) s then Ok (tt, after i) else Err (refusal i) }

-- a single token that has a value
abbrev pub taken : {A : Type 0} → Option A → Parser A
taken None i = Err (refusal i)
taken (Some x) i = Ok (x, after i)

-- a single token whose symbol has a value
abbrev pub valued : {A : Type 0} → (Symbol → Option A) → Part A
valued value = record { begins = λ t. is_some (value t); read = λ i. taken (value (next i)) i }

-- a name, which is a word that is not reserved
abbrev pub name : Part (List ℕ)
name = record { begins = λ t. same t Name; read = λ i. if same (next i) Name then Ok (spelling i, after i) else Err (refusal i) }

-- a sequence that begins with a part
abbrev pub starts : {A B : Type 0} → Part A → (A → Parser B) → Part B
starts p rest = record { begins = p.begins; read = p.read >>= rest }

-- a choice of two, by the next token
infixr 9 ◌or◌
abbrev pub ◌or◌ : {A : Type 0} → Part A → Part A → Part A
p or q = record {
  begins = λ t. p.begins t || q.begins t;
  read = λ i. if p.begins (next i) then p.read i else if q.begins (next i) then q.read i else fail i;
}

-- an optional part is read exactly where it can begin with the next token
abbrev pub maybe : {A : Type 0} → Part A → Parser (Option A)
maybe p = λ i. if p.begins (next i) then (p.read >>= (λ x. pure (Some x))) i else Ok (None, i)

-- A repeated part is read again wherever it can begin with the next token, and what it reads is taken in from the left.
-- Each turn takes a token, so as many turns as there are tokens are enough.
unfoldable pub each_from : {A B : Type 0} → (A → B → A) → Part B → ℕ → A → Parser A
each_from f p zero a = λ i. Ok (a, i)
each_from f p (suc n) a = λ i. if p.begins (next i) then (p.read >>= (λ b. each_from f p n (f a b))) i else Ok (a, i)

-- a repeated part
unfoldable pub each : {A B : Type 0} → (A → B → A) → Part B → A → Parser A
each f p a = λ i. each_from f p (suc (length i.ahead)) a i

-- a list with one more item
abbrev pub push : {A : Type 0} → List A → A → List A
push xs x = xs ++ x ∷ []

-- one or more, with a token between them
abbrev pub more : {A : Type 0} → Part A → Symbol → Part A
more p s = starts (token s) (λ _. p.read)

-- one item or more, with a token between each two
abbrev pub separated : {A : Type 0} → Part A → Symbol → Part (List A)
separated p s = starts p (λ first. each push (more p s) (first ∷ []))

-- a part in parentheses
abbrev pub enclosed : {A : Type 0} → Parser A → Part A
enclosed p = starts (token LeftParen) (λ _. p >>= (λ x. (token RightParen).read >>= (λ _. pure x)))

-- after the whole grammar a further token fails
abbrev pub whole : {A : Type 0} → Parser A → Parser A
whole p = p >>= (λ a j. if same (next j) End then Ok (a, j) else fail j)

-- ---- what a function that reads ensures: the outcome, unless memory ran out

-- what a reader returned is the outcome, unless memory ran out
abbrev pub Reads : {A : Type 0} → Outcome A → Result A TextFault → Input → Type 0
Reads outcome (Ok a) new = outcome ≡ Ok (a, new)
Reads outcome (Err e) new = e ≢ NoMemory → outcome ≡ Err e
