-- What a query text gives by all rules, and the words of its fault.
use Rattle.std.specs.Prelude.{ℕ, suc, zero, List, [], ◌∷◌, ◌++◌, Result, Ok, Err, map, length, nat_lt, codes, if◌then◌else◌}
use Rattle.std.specs.Fmt.{decimal}
use Rattle.wh_base.specs.declared.value.Attr.{Attr}
use Rattle.wh_base.specs.Columns.{place_of}
use Rattle.wh_lex.specs.Causes.{words}
use Rattle.wh_expr.specs.declared.expr.Expr.{Expr}
use Rattle.wh_expr.specs.declared.expr.Expr.TheVariants as expr
use Rattle.wh_expr.specs.declared.fault.TypeCause.{TypeCause}
use Rattle.wh_expr.specs.declared.fault.TypeCause.TheVariants.{TooDeep, TooBig, UnknownName, UnknownAttr, KindMismatch, HeadMismatch, EmptyHead, Repeated}
use Rattle.wh_expr.specs.Typing.{Fault, limited_typing}
use Rattle.wh_grammar.specs.declared.fault.TextFault.{TextFault}
use Rattle.wh_grammar.specs.declared.fault.TextFault.TheVariants as text_fault
use Rattle.wh_grammar.specs.Scanned.{read_text}
use Rattle.wh_schema.specs.declared.spec.Spec.{Spec}
use Rattle.wh_schema.specs.Heads.{heads_of}
use Rattle.wh_query_text.specs.declared.fault.QueryFault.{QueryFault}
use Rattle.wh_query_text.specs.declared.fault.QueryFault.TheVariants.{Text, Rule, NoMemory}
use Rattle.wh_query_text.specs.declared.parsing.Query.{Query}
use Rattle.wh_query_text.specs.declared.raw.Infix.{Infix}
use Rattle.wh_query_text.specs.declared.raw.Infix.TheVariants as infixes
use Rattle.wh_query_text.specs.declared.raw.Prefix.{Prefix}
use Rattle.wh_query_text.specs.declared.raw.Prefix.TheVariants as prefixes
use Rattle.wh_query_text.specs.declared.raw.RawQuery.{RawQuery, fold-RawQuery}
use Rattle.wh_query_text.specs.declared.raw.RawQuery.TheOpen.{RawQuery-F}
use Rattle.wh_query_text.specs.Queries.{any_query}

-- what a text spells, or its first fault; no byte order mark is taken off
unfoldable pub raw_of_text : List ℕ → Result RawQuery TextFault
raw_of_text text = read_text any_query text

-- ---- the expression of what is spelt

-- an expression behind a prefix
abbrev pub applied : Prefix → Expr → Expr
applied (prefixes.Project names) e = expr.Project names e
applied (prefixes.Select c) e = expr.Select c e
applied (prefixes.Rename pairs) e = expr.Rename pairs e

-- two expressions with a word between them
abbrev pub combined : Infix → Expr → Expr → Expr
combined infixes.Union left right = expr.Union left right
combined infixes.Minus left right = expr.Minus left right
combined infixes.Join left right = expr.Join left right

-- from the expressions of the parts
abbrev pub expr_at : (List ℕ → ℕ) → RawQuery-F Expr → Expr
expr_at number (RawQuery-F.Named at name) = expr.Base (number name)
expr_at number (RawQuery-F.Behind at p e) = applied p e
expr_at number (RawQuery-F.Between at o left right) = combined o left right

-- the expression, where each name has a number
abbrev pub expr_of : (List ℕ → ℕ) → RawQuery → Expr
expr_of number = fold-RawQuery Expr (expr_at number)

-- the names of relations, and then of views; those of complements are not among them
abbrev pub known_names : Spec → List (List ℕ)
known_names spec = map (λ r. r.name) spec.relations ++ map (λ v. v.name) spec.views

-- the place of a name among the known ones, or another number
abbrev pub number_among : List (List ℕ) → ℕ → List ℕ → ℕ
number_among known unknown name = if nat_lt (place_of known name) (length known) then place_of known name else unknown

-- the number of a relation or view; that of an unknown name is the number of no table
abbrev pub number_of : Spec → List ℕ → ℕ
number_of spec = number_among (known_names spec) (length (heads_of spec))

-- ---- places

-- from the places of the parts
abbrev pub place_below_at : RawQuery-F (List ℕ → ℕ) → List ℕ → ℕ
place_below_at (RawQuery-F.Named at name) path = at
place_below_at (RawQuery-F.Behind at p part) [] = at
place_below_at (RawQuery-F.Behind at p part) (step ∷ path) = part path
place_below_at (RawQuery-F.Between at o left right) [] = at
place_below_at (RawQuery-F.Between at o left right) (zero ∷ path) = left path
place_below_at (RawQuery-F.Between at o left right) (suc step ∷ path) = right path

-- the byte of the node to which these steps lead, 0 to an only or left part and 1 to a right one
abbrev pub place_below : RawQuery → List ℕ → ℕ
place_below = fold-RawQuery (List ℕ → ℕ) place_below_at

-- what is wrong with the whole stands at its start, and all else at its node
abbrev pub place_of_fault : TypeCause → ℕ → ℕ
place_of_fault TooDeep at = 0
place_of_fault TooBig at = 0
place_of_fault _ at = at

-- ---- queries

-- the query of an expression with these attributes, or its first fault
abbrev pub ruled : RawQuery → Expr → List Attr → List Fault → Result Query QueryFault
ruled raw e attrs [] = Ok (record { expr = e; attrs = attrs })
ruled raw e attrs (f ∷ faults) = Err (Rule (place_of_fault f.cause (place_below raw f.path)) f.cause)

-- a fault of the text, as a fault of a query
abbrev pub of_text : TextFault → QueryFault
of_text (text_fault.At at cause) = Text at cause
of_text text_fault.NoMemory = NoMemory

-- the query of an expression by the rules, whose places are those of what is spelt
abbrev pub query_of_expr : Spec → RawQuery → Expr → Result Query QueryFault
query_of_expr spec raw e = let t = limited_typing (heads_of spec) e in ruled raw e t.attrs t.faults

-- what the rules give of what a text spells
abbrev pub query_of_raw : Spec → Result RawQuery TextFault → Result Query QueryFault
query_of_raw spec (Err fault) = Err (of_text fault)
query_of_raw spec (Ok raw) = query_of_expr spec raw (expr_of (number_of spec) raw)

-- the query of a text, or its first fault: of its tokens, else of its nesting, else of the grammar, else of the rules
unfoldable pub query_of_text : Spec → List ℕ → Result Query QueryFault
query_of_text spec text = query_of_raw spec (raw_of_text text)

-- ---- the line of a fault

-- the words of a broken rule
abbrev pub rule_words : TypeCause → List ℕ
rule_words TooDeep = codes "too deep"
rule_words TooBig = codes "too big"
rule_words UnknownName = codes "unknown name"
rule_words UnknownAttr = codes "unknown attribute"
rule_words KindMismatch = codes "kinds differ"
rule_words HeadMismatch = codes "heads differ"
rule_words EmptyHead = codes "no attribute"
rule_words Repeated = codes "repeated attribute"

-- `byte AT: WORDS`; want of memory has no words
abbrev pub fault_words : QueryFault → List ℕ
fault_words (Text at cause) = codes "byte " ++ decimal at ++ codes ": " ++ words cause
fault_words (Rule at cause) = codes "byte " ++ decimal at ++ codes ": " ++ rule_words cause
fault_words NoMemory = []
