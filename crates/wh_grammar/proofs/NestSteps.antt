-- How a token counts for nesting.
use Rattle.std.proofs.Common.{◌≡◌, ◌<◌, ℕ, ◌+◌, Bool, true, false, not, cond, List, ◌∷◌, Some, refl, ap, ◌∙◌, arith}
use Rattle.std.specs.Prelude.{nat_le}
use Rattle.std.proofs.lemmas.Bool.{lt-leb}
use Rattle.wh_grammar.specs.declared.symbol.Symbol.{Symbol}
use Rattle.wh_grammar.specs.declared.symbol.Symbol.TheVariants as s
use Rattle.wh_grammar.specs.Grammar.{Lexeme}
use Rattle.wh_grammar.specs.Symbols.{symbol}
use Rattle.wh_grammar.specs.Nesting.{is_connective, is_too_deep, parens_after, connectives_after, too_nested}

step_is : (p c : ℕ) (t : Lexeme) (k : Symbol) (more : List Lexeme) → symbol t.kind t.bytes ≡ k
    → too_nested p c (t ∷ more) ≡ cond (is_too_deep p c k) (Some t.from) (too_nested (parens_after p k) (connectives_after c k) more)
step_is p c t k more is = rw is refl

-- neither a parenthesis nor a semicolon nor a connective
abbrev pub is_plain : Symbol → Bool
is_plain s.LeftParen = false
is_plain s.RightParen = false
is_plain s.Semicolon = false
is_plain k = not (is_connective k)

plain_step : (p c : ℕ) (k : Symbol) → is_plain k ≡ true → (is_too_deep p c k ≡ false) × (parens_after p k ≡ p) × (connectives_after c k ≡ c)
plain_step p c s.LeftParen h = absurd cc
plain_step p c s.RightParen h = absurd cc
plain_step p c s.Semicolon h = absurd cc
plain_step p c s.And h = absurd cc
plain_step p c s.Or h = absurd cc
plain_step p c s.Not h = absurd cc
plain_step p c s.Join h = absurd cc
plain_step p c s.Union h = absurd cc
plain_step p c s.Minus h = absurd cc
plain_step p c s.Project h = absurd cc
plain_step p c s.Select h = absurd cc
plain_step p c s.Rename h = absurd cc
plain_step p c s.Equal h = absurd cc
plain_step p c s.NotEqual h = absurd cc
plain_step p c s.Less h = absurd cc
plain_step p c s.LessEqual h = absurd cc
plain_step p c s.Greater h = absurd cc
plain_step p c s.GreaterEqual h = absurd cc
plain_step p c _ h = (refl, refl, refl)

pub nest_plain : (p c : ℕ) (t : Lexeme) (k : Symbol) (more : List Lexeme) → symbol t.kind t.bytes ≡ k → is_plain k ≡ true → too_nested p c (t ∷ more) ≡ too_nested p c more
nest_plain p c t k more is plain = let h = plain_step p c k plain in step_is p c t k more is ∙ rw (h.0, h.1, h.2) refl

connective_step : (p c : ℕ) (k : Symbol) → is_connective k ≡ true → (is_too_deep p c k ≡ nat_le 2000 c) × (parens_after p k ≡ p) × (connectives_after c k ≡ c + 1)
connective_step p c s.And h = (refl, refl, refl)
connective_step p c s.Or h = (refl, refl, refl)
connective_step p c s.Not h = (refl, refl, refl)
connective_step p c s.Join h = (refl, refl, refl)
connective_step p c s.Union h = (refl, refl, refl)
connective_step p c s.Minus h = (refl, refl, refl)
connective_step p c s.Project h = (refl, refl, refl)
connective_step p c s.Select h = (refl, refl, refl)
connective_step p c s.Rename h = (refl, refl, refl)
connective_step p c s.Equal h = (refl, refl, refl)
connective_step p c s.NotEqual h = (refl, refl, refl)
connective_step p c s.Less h = (refl, refl, refl)
connective_step p c s.LessEqual h = (refl, refl, refl)
connective_step p c s.Greater h = (refl, refl, refl)
connective_step p c s.GreaterEqual h = (refl, refl, refl)
connective_step p c _ h = absurd cc

pub nest_connective : (p c : ℕ) (t : Lexeme) (k : Symbol) (more : List Lexeme) → symbol t.kind t.bytes ≡ k → is_connective k ≡ true → c < 2000 → too_nested p c (t ∷ more) ≡ too_nested p (c + 1) more
nest_connective p c t k more is connective few =
    let h = connective_step p c k connective in
    step_is p c t k more is ∙ rw (h.0, h.1, h.2, lt-leb 2000 c few) refl

pub nest_open : (p c : ℕ) (t : Lexeme) (more : List Lexeme) → symbol t.kind t.bytes ≡ s.LeftParen → p < 64 → too_nested p c (t ∷ more) ≡ too_nested (p + 1) c more
nest_open p c t more is few = step_is p c t s.LeftParen more is ∙ rw (lt-leb 64 p few) refl

pub nest_close : (p c : ℕ) (t : Lexeme) (more : List Lexeme) → symbol t.kind t.bytes ≡ s.RightParen → too_nested (p + 1) c (t ∷ more) ≡ too_nested p c more
nest_close p c t more is = step_is (p + 1) c t s.RightParen more is ∙ ap (λ n. too_nested n c more) (omega arith)

-- a semicolon ends what its connectives are counted over
pub nest_end : (p c : ℕ) (t : Lexeme) (more : List Lexeme) → symbol t.kind t.bytes ≡ s.Semicolon → too_nested p c (t ∷ more) ≡ too_nested p 0 more
nest_end p c t more is = step_is p c t s.Semicolon more is
