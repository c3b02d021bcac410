-- The symbol that a token is for a grammar.
use Rattle.std.specs.Prelude.{ℕ, List, [], ◌∷◌, codes, if◌then◌else◌}
use Rattle.std.specs.Str.{bytes_eq}
use Rattle.wh_lex.specs.declared.token.TokenKind.{TokenKind}
use Rattle.wh_lex.specs.declared.token.TokenKind.TheVariants.{Word, Int, Text, Mark}
use Rattle.wh_grammar.specs.declared.symbol.Symbol.{Symbol}
use Rattle.wh_grammar.specs.declared.symbol.Symbol.TheVariants as s

-- the symbol that a table has for some bytes
abbrev pub lookup : List (List ℕ × Symbol) → List ℕ → Symbol → Symbol
lookup [] word other = other
lookup (k ∷ ks) word other = if bytes_eq k.0 word then k.1 else lookup ks word other

-- the words that are no names
abbrev pub reserved_words : List (List ℕ × Symbol)
reserved_words =
    (codes "relation", s.Relation) ∷ (codes "key", s.Key) ∷ (codes "inclusion", s.Inclusion) ∷ (codes "in", s.In) ∷ (codes "view", s.View) ∷
    (codes "join", s.Join) ∷ (codes "where", s.Where) ∷ (codes "check", s.Check) ∷ (codes "and", s.And) ∷ (codes "or", s.Or) ∷
    (codes "not", s.Not) ∷ (codes "project", s.Project) ∷ (codes "select", s.Select) ∷ (codes "rename", s.Rename) ∷ (codes "to", s.To) ∷
    (codes "union", s.Union) ∷ (codes "minus", s.Minus) ∷ (codes "int", s.IntWord) ∷ (codes "text", s.TextWord) ∷ []

-- the marks
abbrev pub marks : List (List ℕ × Symbol)
marks =
    (codes "(", s.LeftParen) ∷ (codes ")", s.RightParen) ∷ (codes ",", s.Comma) ∷ (codes ";", s.Semicolon) ∷ (codes "=", s.Equal) ∷
    (codes "<>", s.NotEqual) ∷ (codes "<", s.Less) ∷ (codes "<=", s.LessEqual) ∷ (codes ">", s.Greater) ∷ (codes ">=", s.GreaterEqual) ∷ []

-- a word that is not reserved is a name; each mark has a symbol of its own
unfoldable pub symbol : TokenKind → List ℕ → Symbol
symbol Word bytes = lookup reserved_words bytes s.Name
symbol (Int value) bytes = s.Integer
symbol (Text value) bytes = s.Quoted
symbol Mark bytes = lookup marks bytes s.End
