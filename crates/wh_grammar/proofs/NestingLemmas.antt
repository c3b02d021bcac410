-- A token of a text, and how deep it nests.
use Rattle.std.proofs.Common.{◌≡◌, ◌≢◌, ◌<◌, ◌≤◌, ℕ, ◌+◌, Bool, true, false, ◌&&◌, cond, List, [], ◌∷◌, length, Option, Some, refl, arith}
use Rattle.std.proofs.lemmas.Bool.{leb-false}
use Rattle.std.specs.Prelude.{nat_le}
use Rattle.wh_grammar.specs.declared.symbol.Symbol.{Symbol}
use Rattle.wh_grammar.specs.declared.symbol.Symbol.TheVariants as s
use Rattle.wh_grammar.specs.Grammar.{Input, Lexeme, next, place, after}
use Rattle.wh_grammar.specs.Nesting.{is_connective, is_too_deep, parens_after, connectives_after, too_nested}

abbrev step : ℕ → ℕ → Input → List Lexeme → Option ℕ
step p c i rest = cond (is_too_deep p c (next i)) (Some (place i)) (too_nested (parens_after p (next i)) (connectives_after c (next i)) rest)

by_tokens : (p c end : ℕ) (ts : List Lexeme) → ts ≢ [] → too_nested p c ts ≡ step p c (record { ahead = ts; end = end }) (after (record { ahead = ts; end = end })).ahead
unfolding next place after
by_tokens p c end [] some = absurd (some refl)
by_tokens p c end (t ∷ ts) some = refl

pub too_nested_step : (p c : ℕ) (i : Input) → i.ahead ≢ [] → too_nested p c i.ahead ≡ step p c i (after i).ahead
too_nested_step p c i some = by_tokens p c i.end i.ahead some

pub some_left : (ts : List Lexeme) → ts ≢ [] → 0 < length ts
some_left [] some = absurd (some refl)
some_left (t ∷ ts) some = omega arith

pub parens_fit : (p c : ℕ) (t : Symbol) → p ≤ 64 → is_too_deep p c t ≡ false → parens_after p t ≤ 64
parens_fit p c s.LeftParen le h = omega (arith, leb-false 64 p h)
parens_fit p c s.RightParen le h = omega arith
parens_fit p c _ le h = le

fit : (b : Bool) (c : ℕ) → c ≤ 2000 → (b && nat_le 2000 c) ≡ false → cond b (c + 1) c ≤ 2000
fit true c le h = omega (arith, leb-false 2000 c h)
fit false c le h = le

pub connectives_fit : (p c : ℕ) (t : Symbol) → c ≤ 2000 → is_too_deep p c t ≡ false → connectives_after c t ≤ 2000
connectives_fit p c s.LeftParen le h = le
connectives_fit p c s.Semicolon le h = omega arith
connectives_fit p c t le h = fit (is_connective t) c le h
