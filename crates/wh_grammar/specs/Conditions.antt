-- The grammar of conditions.
--   cond := conj ("or" conj)*
--   conj := neg ("and" neg)*
--   neg  := "not" neg | "(" cond ")" | operand op operand
use Rattle.std.specs.Prelude.{ℕ, zero, suc, ◌||◌, List, [], ◌∷◌, Option, Some, None}
use Rattle.wh_lex.specs.declared.token.TokenKind.{TokenKind}
use Rattle.wh_lex.specs.declared.token.TokenKind.TheVariants as kinds
use Rattle.wh_grammar.specs.declared.symbol.Symbol.{Symbol}
use Rattle.wh_grammar.specs.declared.symbol.Symbol.TheVariants as s
use Rattle.wh_base.specs.declared.cond.Operand.{Operand}
use Rattle.wh_base.specs.declared.cond.Operand.TheVariants as operands
use Rattle.wh_base.specs.declared.cond.Op.{Op}
use Rattle.wh_base.specs.declared.cond.Op.TheVariants as comparisons
use Rattle.wh_base.specs.declared.cond.Cond.{Cond}
use Rattle.wh_base.specs.declared.cond.Cond.TheVariants.{Cmp, Not, And, Or}
use Rattle.wh_grammar.specs.Grammar.{Lexeme, Parser, Part, ◌>>=◌, pure, fail, same, name, token, taken, valued, starts, ◌or◌, each, more}

-- the operator that a symbol is
abbrev pub op_of : Symbol → Option Op
op_of s.Equal = Some comparisons.Eq
op_of s.NotEqual = Some comparisons.Ne
op_of s.Less = Some comparisons.Lt
op_of s.LessEqual = Some comparisons.Le
op_of s.Greater = Some comparisons.Gt
op_of s.GreaterEqual = Some comparisons.Ge
op_of _ = None

-- an operator
abbrev pub comparison : Part Op
comparison = valued op_of

-- a name as an operand
abbrev pub named : Part Operand
named = starts name (λ n. pure (operands.Attr n))

-- the value that a token is
abbrev pub value_of : TokenKind → Option Operand
value_of (kinds.Int value) = Some (operands.Int value)
value_of (kinds.Text value) = Some (operands.Text value)
value_of kinds.Word = None
value_of kinds.Mark = None

-- the value that the next token is
abbrev pub literal_of : List Lexeme → Option Operand
literal_of [] = None
literal_of (t ∷ ts) = value_of t.kind

-- an integer or a text
abbrev pub literal : Part Operand
literal = record { begins = λ t. same t s.Integer || same t s.Quoted; read = λ i. taken (literal_of i.ahead) i }

-- a name, an integer or a text
abbrev pub operand : Part Operand
operand = named or literal

-- a comparison of two operands
abbrev pub compare : Part Cond
compare = starts operand (λ left. do
  by ← comparison.read
  right ← operand.read
  pure (Cmp left by right))

-- each over what stands behind a `not`, and what stands in parentheses
abbrev pub negated : Parser Cond → Part Cond
negated inner = starts (token s.Not) (λ _. inner >>= (λ c. pure (Not c)))

-- a condition in parentheses
abbrev pub group : Parser Cond → Part Cond
group inner = starts (token s.LeftParen) (λ _. inner >>= (λ c. (token s.RightParen).read >>= (λ _. pure c)))

-- a negation, a condition in parentheses, or a comparison
abbrev pub neg_of : Parser Cond → Parser Cond → Part Cond
neg_of behind_not in_parentheses = negated behind_not or group in_parentheses or compare

-- conditions with `and` between them, grouped to the left
abbrev pub conj_of : Part Cond → Part Cond
conj_of neg = starts neg (λ first. each And (more neg s.And) first)

-- conditions with `or` between them, grouped to the left
abbrev pub cond_of : Part Cond → Part Cond
cond_of conj = starts conj (λ first. each Or (more conj s.Or) first)

-- what stands behind a `not`, and what stands in parentheses, so deep
unfoldable pub inner : ℕ → Parser Cond × Parser Cond
inner zero = (fail, fail)
inner (suc depth) = let neg = neg_of (inner depth).0 (inner depth).1 in (neg.read, (cond_of (conj_of neg)).read)

-- `neg` of the grammar, that nests at most so deep
unfoldable pub neg : ℕ → Part Cond
neg depth = neg_of (inner depth).0 (inner depth).1

-- `conj` of the grammar
unfoldable pub conj : ℕ → Part Cond
conj depth = conj_of (neg depth)

-- `cond` of the grammar
unfoldable pub cond : ℕ → Part Cond
cond depth = cond_of (conj depth)
