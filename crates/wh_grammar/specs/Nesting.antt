-- How deep a text nests.
use Rattle.std.specs.Prelude.{ℕ, ◌+◌, ◌-◌, Bool, true, false, ◌&&◌, if◌then◌else◌, nat_le, List, [], ◌∷◌, Option, Some, None}
use Rattle.wh_grammar.specs.declared.symbol.Symbol.{Symbol}
use Rattle.wh_grammar.specs.declared.symbol.Symbol.TheVariants as s
use Rattle.wh_grammar.specs.Symbols.{symbol}
use Rattle.wh_grammar.specs.Grammar.{Lexeme}

-- words and marks that are counted
abbrev pub is_connective : Symbol → Bool
is_connective s.And = true
is_connective s.Or = true
is_connective s.Not = true
is_connective s.Join = true
is_connective s.Union = true
is_connective s.Minus = true
is_connective s.Project = true
is_connective s.Select = true
is_connective s.Rename = true
is_connective s.Equal = true
is_connective s.NotEqual = true
is_connective s.Less = true
is_connective s.LessEqual = true
is_connective s.Greater = true
is_connective s.GreaterEqual = true
is_connective _ = false

-- the 65th parenthesis open at once, or the 2,001st connective
abbrev pub is_too_deep : ℕ → ℕ → Symbol → Bool
is_too_deep parens connectives s.LeftParen = nat_le 64 parens
is_too_deep parens connectives t = is_connective t && nat_le 2000 connectives

-- the parentheses that are open behind a symbol; one that closes nothing leaves 0
abbrev pub parens_after : ℕ → Symbol → ℕ
parens_after parens s.LeftParen = parens + 1
parens_after parens s.RightParen = parens - 1
parens_after parens _ = parens

-- the connectives behind a symbol, since the start of the text or the last `;`
abbrev pub connectives_after : ℕ → Symbol → ℕ
connectives_after connectives s.Semicolon = 0
connectives_after connectives t = if is_connective t then connectives + 1 else connectives

-- the first token that nests too deep
abbrev pub too_nested : ℕ → ℕ → List Lexeme → Option ℕ
too_nested parens connectives [] = None
too_nested parens connectives (t ∷ ts) =
    let here = symbol t.kind t.bytes in
    if is_too_deep parens connectives here then Some t.from else too_nested (parens_after parens here) (connectives_after connectives here) ts
