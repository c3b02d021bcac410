-- The grammar of a query, as readers.
--   query  := term (("union" | "minus") term)*
--   term   := factor ("join" factor)*
--   factor := name
--           | "(" query ")"
--           | "project" "(" names ")" factor
--           | "select" "(" cond ")" factor
--           | "rename" "(" name "to" name ("," name "to" name)* ")" factor
use Rattle.std.specs.Prelude.{ℕ, zero, suc, List, length, Option, Some, None}
use Rattle.wh_base.specs.declared.cond.Cond.{Cond}
use Rattle.wh_expr.specs.declared.expr.Renaming.{Renaming}
use Rattle.wh_grammar.specs.declared.symbol.Symbol.{Symbol}
use Rattle.wh_grammar.specs.declared.symbol.Symbol.TheVariants as s
use Rattle.wh_grammar.specs.Grammar.{Parser, Part, ◌>>=◌, ◌>>◌, pure, fail, place, token, valued, name, starts, enclosed, ◌or◌, each, separated, whole}
use Rattle.wh_grammar.specs.Conditions as conditions
use Rattle.wh_query_text.specs.declared.raw.Infix.{Infix}
use Rattle.wh_query_text.specs.declared.raw.Infix.TheVariants as infixes
use Rattle.wh_query_text.specs.declared.raw.Prefix.{Prefix}
use Rattle.wh_query_text.specs.declared.raw.Prefix.TheVariants as prefixes
use Rattle.wh_query_text.specs.declared.raw.RawQuery.{RawQuery}
use Rattle.wh_query_text.specs.declared.raw.RawQuery.TheVariants.{Named, Behind, Between}

-- a sequence that begins with a part, the place of which counts
abbrev pub noted : {A B : Type 0} → Part A → (ℕ → A → Parser B) → Part B
noted p rest = record { begins = p.begins; read = λ i. (p.read >>= rest (place i)) i }

-- ---- prefixes

-- names in parentheses
abbrev pub columns : Part (List (List ℕ))
columns = enclosed (separated name s.Comma).read

-- a projection
abbrev pub project : Part Prefix
project = starts (token s.Project) (λ _. columns.read >>= (λ ns. pure (prefixes.Project ns)))

-- a condition in parentheses
abbrev pub selection : ℕ → Part Cond
selection depth = enclosed (conditions.cond depth).read

-- a selection
abbrev pub select : ℕ → Part Prefix
select depth = starts (token s.Select) (λ _. (selection depth).read >>= (λ c. pure (prefixes.Select c)))

-- an old name and a new one
abbrev pub renaming : Part Renaming
renaming = starts name (λ from. do
  (token s.To).read
  to ← name.read
  pure (record { from = from; to = to }))

-- one renaming or more
abbrev pub renamings : Part (List Renaming)
renamings = separated renaming s.Comma

-- renamings in parentheses
abbrev pub renaming_columns : Part (List Renaming)
renaming_columns = enclosed renamings.read

-- a renaming
abbrev pub rename : Part Prefix
rename = starts (token s.Rename) (λ _. renaming_columns.read >>= (λ ps. pure (prefixes.Rename ps)))

-- what stands before a factor, in which conditions nest at most so deep
abbrev pub before : ℕ → Part Prefix
before depth = project or select depth or rename

-- ---- factors, and what stands between parts

-- a table
abbrev pub named : Part RawQuery
named = noted name (λ at n. pure (Named at n))

-- a query in parentheses
abbrev pub group : Parser RawQuery → Part RawQuery
group inner = enclosed inner

-- a factor behind a prefix
abbrev pub prefixed : ℕ → Parser RawQuery → Part RawQuery
prefixed depth inner = noted (before depth) (λ at p. inner >>= (λ q. pure (Behind at p q)))

-- a factor, over what stands behind a prefix and what stands in parentheses
abbrev pub factor_of : ℕ → Parser RawQuery → Parser RawQuery → Part RawQuery
factor_of depth behind_prefix in_parentheses = named or group in_parentheses or prefixed depth behind_prefix

-- a word with its place, and the part behind it
pub record Further : Type 0 where
  pub at : ℕ
  pub by : Infix
  pub right : RawQuery

-- a part with one more part behind it
abbrev pub attach : RawQuery → Further → RawQuery
attach left f = Between f.at f.by left f.right

-- a further part behind a word
abbrev pub further : (Symbol → Option Infix) → Part RawQuery → Part Further
further words p = noted (valued words) (λ at o. p.read >>= (λ q. pure (record { at = at; by = o; right = q })))

-- parts with words between them, grouped to the left
abbrev pub chain : (Symbol → Option Infix) → Part RawQuery → Part RawQuery
chain words p = starts p (λ first. each attach (further words p) first)

-- the words between factors
abbrev pub product_of : Symbol → Option Infix
product_of s.Join = Some infixes.Join
product_of _ = None

-- the words between terms
abbrev pub sum_of : Symbol → Option Infix
sum_of s.Union = Some infixes.Union
sum_of s.Minus = Some infixes.Minus
sum_of _ = None

-- ---- queries

-- what stands behind a prefix, and what stands in parentheses, so deep
unfoldable pub inner : ℕ → Parser RawQuery × Parser RawQuery
inner zero = (fail, fail)
inner (suc depth) = let p = factor_of depth (inner depth).0 (inner depth).1 in (p.read, (chain sum_of (chain product_of p)).read)

-- `factor` of the grammar, that nests at most so deep
unfoldable pub factor : ℕ → Part RawQuery
factor depth = factor_of depth (inner depth).0 (inner depth).1

-- `term` of the grammar
unfoldable pub term : ℕ → Part RawQuery
term depth = chain product_of (factor depth)

-- `query` of the grammar
unfoldable pub query : ℕ → Part RawQuery
query depth = chain sum_of (term depth)

-- a whole text, whose parts nest at most so deep
abbrev pub whole_query : ℕ → Parser RawQuery
whole_query depth = whole (query depth).read

-- no part nests deeper than there are tokens
abbrev pub any_query : Parser RawQuery
any_query i = whole_query (length i.ahead) i
