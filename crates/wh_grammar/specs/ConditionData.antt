-- The grammar of conditions as data, and the condition of a tree.
use Rattle.std.specs.Prelude.{◌≤◌, ◌+◌, ◌*◌, ℕ, Option, Some, None, length}
use Rattle.wh_base.specs.declared.cond.Cond.{Cond}
use Rattle.wh_base.specs.declared.cond.Cond.TheVariants.{Cmp, Not, And, Or}
use Rattle.wh_base.specs.declared.cond.Op.{Op}
use Rattle.wh_base.specs.declared.cond.Op.TheVariants.{Eq, Ne, Lt, Le, Gt, Ge}
use Rattle.wh_base.specs.declared.cond.Operand.{Operand}
use Rattle.wh_base.specs.declared.cond.Operand.TheVariants.{Attr}
use Rattle.wh_grammar.specs.declared.symbol.Symbol.TheVariants as s
use Rattle.wh_grammar.specs.Grammar.{Input}
use Rattle.wh_grammar.specs.GrammarData.{Tree, empty, leaf, pair, left, right, Grammar, one, alt, many, rule, ◌then◌, trees, both, Agrees}
use Rattle.wh_grammar.specs.Conditions as g

-- the rules of a condition
pub data CondRule : Type 0 where
  disjunction : CondRule
  conjunction : CondRule
  negation : CondRule
  operator : CondRule
  operand : CondRule

-- a condition inside a grammar that has these rules among its own:
--   cond    := conj ("or" conj)*
--   conj    := neg ("and" neg)*
--   neg     := "not" neg | "(" cond ")" | operand op operand
--   op      := "=" | "<>" | "<" | "<=" | ">" | ">="
--   operand := name | integer | text
abbrev pub conditions : {N : Type 0} → (CondRule → N) → CondRule → Grammar N
conditions within disjunction = rule (within conjunction) then many (one s.Or then rule (within conjunction))
conditions within conjunction = rule (within negation) then many (one s.And then rule (within negation))
conditions within negation =
    alt (one s.Not then rule (within negation))
    (alt (one s.LeftParen then rule (within disjunction) then one s.RightParen) (rule (within operand) then rule (within operator) then rule (within operand)))
conditions within operator = alt (one s.Equal) (alt (one s.NotEqual) (alt (one s.Less) (alt (one s.LessEqual) (alt (one s.Greater) (one s.GreaterEqual)))))
conditions within operand = alt (one s.Name) (alt (one s.Integer) (one s.Quoted))

-- ---- what a tree is

-- an integer or a text
abbrev pub literal_of : Tree → Option Operand
literal_of (leaf kind bytes) = g.value_of kind
literal_of _ = None

-- a name, an integer or a text
abbrev pub operand_of : Tree → Option Operand
operand_of (left (leaf kind bytes)) = Some (Attr bytes)
operand_of (right (left t)) = literal_of t
operand_of (right (right t)) = literal_of t
operand_of _ = None

-- the operator, by the choice that was taken
abbrev pub operator_of : Tree → Option Op
operator_of (left t) = Some Eq
operator_of (right (left t)) = Some Ne
operator_of (right (right (left t))) = Some Lt
operator_of (right (right (right (left t)))) = Some Le
operator_of (right (right (right (right (left t))))) = Some Gt
operator_of (right (right (right (right (right t))))) = Some Ge
operator_of _ = None

-- a comparison, where its parts are there
abbrev pub compared : Option Operand → Option Op → Option Operand → Option Cond
compared (Some l) (Some o) (Some r) = Some (Cmp l o r)
compared _ _ _ = None

-- the negation of a condition
abbrev pub negated : Option Cond → Option Cond
negated None = None
negated (Some c) = Some (Not c)

-- the conditions of trees
abbrev mutual
  -- conditions with `or` between them
  pub cond_of : Tree → Option Cond
  cond_of (pair first more) = disjoined more (conj_of first)
  cond_of _ = None

  -- the conditions behind a first one, each behind an `or`
  pub disjoined : Tree → Option Cond → Option Cond
  disjoined empty first = first
  disjoined (pair before (pair or c)) first = both Or (disjoined before first) (conj_of c)
  disjoined _ first = None

  -- conditions with `and` between them
  pub conj_of : Tree → Option Cond
  conj_of (pair first more) = conjoined more (neg_of first)
  conj_of _ = None

  -- the conditions behind a first one, each behind an `and`
  pub conjoined : Tree → Option Cond → Option Cond
  conjoined empty first = first
  conjoined (pair before (pair and c)) first = both And (conjoined before first) (neg_of c)
  conjoined _ first = None

  -- a negation, a condition in parentheses, or a comparison
  pub neg_of : Tree → Option Cond
  neg_of (left (pair not c)) = negated (neg_of c)
  neg_of (right (left (pair opening (pair c closing)))) = cond_of c
  neg_of (right (right (pair l (pair o r)))) = compared (operand_of l) (operator_of o) (operand_of r)
  neg_of _ = None

-- the readers of conditions give the value of the tree that the grammar has, and fail where it fails, where both may go as deep as there are tokens
abbrev pub ConditionsAgree : Type 0
ConditionsAgree = (d e : ℕ) (i : Input) → length i.ahead ≤ d → 3 * length i.ahead + 4 ≤ e → Agrees cond_of ((trees (conditions (λ r. r)) e disjunction).read i) ((g.cond d).read i)
