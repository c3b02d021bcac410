-- The grammar of a query as data, and the expression of a tree.
use Rattle.std.specs.Prelude.{◌≤◌, ◌+◌, ◌*◌, ℕ, List, length, Option, Some, None}
use Rattle.wh_expr.specs.declared.expr.Expr.{Expr}
use Rattle.wh_expr.specs.declared.expr.Expr.TheVariants.{Base, Project, Select, Rename, Join, Union, Minus}
use Rattle.wh_expr.specs.declared.expr.Renaming.{Renaming}
use Rattle.wh_grammar.specs.declared.symbol.Symbol.TheVariants as s
use Rattle.wh_grammar.specs.Grammar.{Input, Outcome, and_then, pure, whole}
use Rattle.wh_grammar.specs.GrammarData.{Tree, empty, leaf, pair, left, right, Grammar, one, alt, many, rule, ◌then◌, trees, name_of, both, separated_of, enclosed_of, Agrees}
use Rattle.wh_grammar.specs.ConditionData.{CondRule, disjunction, conditions, cond_of}
use Rattle.wh_query_text.specs.declared.raw.RawQuery.{RawQuery}
use Rattle.wh_query_text.specs.Queries as g
use Rattle.wh_query_text.specs.QueryTexts.{expr_of}

-- the rules of a query, those of a condition among them
pub data Rule : Type 0 where
  query : Rule
  term : Rule
  factor : Rule
  names : Rule
  renamings : Rule
  condition : CondRule → Rule

-- a rule in parentheses
abbrev pub in_parentheses : Rule → Grammar Rule
in_parentheses r = one s.LeftParen then rule r then one s.RightParen

-- name "to" name
abbrev pub renaming : Grammar Rule
renaming = one s.Name then one s.To then one s.Name

-- the grammar
abbrev pub queries : Rule → Grammar Rule
queries query = rule term then many (alt (one s.Union) (one s.Minus) then rule term)
queries term = rule factor then many (one s.Join then rule factor)
queries factor =
    alt (one s.Name)
    (alt (in_parentheses query)
    (alt (one s.Project then in_parentheses names then rule factor)
    (alt (one s.Select then in_parentheses (condition disjunction) then rule factor)
    (one s.Rename then in_parentheses renamings then rule factor))))
queries names = one s.Name then many (one s.Comma then one s.Name)
queries renamings = renaming then many (one s.Comma then renaming)
queries (condition r) = conditions condition r

-- ---- what a tree is

-- an old name and a new one
abbrev pub renaming_of : Tree → Option Renaming
renaming_of (pair from (pair word to)) = both (λ f t. record { from = f; to = t }) (name_of from) (name_of to)
renaming_of _ = None

-- names in parentheses
abbrev pub columns_of : Tree → Option (List (List ℕ))
columns_of = enclosed_of (separated_of name_of)

-- renamings in parentheses
abbrev pub renaming_columns_of : Tree → Option (List Renaming)
renaming_columns_of = enclosed_of (separated_of renaming_of)

-- the expressions of trees, where each name has a number
abbrev mutual
  -- terms with `union` or `minus` between them, grouped to the left
  pub query_of : (List ℕ → ℕ) → Tree → Option Expr
  query_of number (pair first more) = summed number more (term_of number first)
  query_of number _ = None

  -- the terms behind a first one
  pub summed : (List ℕ → ℕ) → Tree → Option Expr → Option Expr
  summed number empty first = first
  summed number (pair before (pair (left word) t)) first = both Union (summed number before first) (term_of number t)
  summed number (pair before (pair (right word) t)) first = both Minus (summed number before first) (term_of number t)
  summed number _ first = None

  -- factors with `join` between them, grouped to the left
  pub term_of : (List ℕ → ℕ) → Tree → Option Expr
  term_of number (pair first more) = joined number more (factor_of number first)
  term_of number _ = None

  -- the factors behind a first one
  pub joined : (List ℕ → ℕ) → Tree → Option Expr → Option Expr
  joined number empty first = first
  joined number (pair before (pair word t)) first = both Join (joined number before first) (factor_of number t)
  joined number _ first = None

  -- a name, a query in parentheses, or a factor behind a prefix
  pub factor_of : (List ℕ → ℕ) → Tree → Option Expr
  factor_of number (left (leaf kind bytes)) = Some (Base (number bytes))
  factor_of number (right (left (pair opening (pair q closing)))) = query_of number q
  factor_of number (right (right (left (pair word (pair found part))))) = both Project (columns_of found) (factor_of number part)
  factor_of number (right (right (right (left (pair word (pair c part)))))) = both Select (enclosed_of cond_of c) (factor_of number part)
  factor_of number (right (right (right (right (pair word (pair pairs part)))))) = both Rename (renaming_columns_of pairs) (factor_of number part)
  factor_of number _ = None

-- the expression of what was read
abbrev pub made : (List ℕ → ℕ) → Outcome RawQuery → Outcome Expr
made number r = and_then r (λ q. pure (expr_of number q))

-- the readers give the expression of the tree that the grammar has of a whole text, and fail where it fails, where both may go as deep as there are tokens
abbrev pub QueriesAgree : Type 0
QueriesAgree = (number : List ℕ → ℕ) (d e : ℕ) (i : Input) → length i.ahead ≤ d → 3 * length i.ahead + 8 ≤ e → Agrees (query_of number) (whole (trees queries e query).read i) (made number (g.whole_query d i))
