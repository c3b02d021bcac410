-- The tokens of a condition, with as few parentheses as there can be.
use Rattle.std.specs.Prelude.{◌≡◌, ℕ, suc, Bool, true, false, List, [], ◌∷◌, ◌++◌, Some}
use Rattle.wh_grammar.specs.declared.symbol.Symbol.{Symbol}
use Rattle.wh_grammar.specs.declared.symbol.Symbol.TheVariants as s
use Rattle.wh_lex.specs.declared.token.TokenKind.TheVariants as kinds
use Rattle.wh_base.specs.declared.cond.Operand.{Operand}
use Rattle.wh_base.specs.declared.cond.Operand.TheVariants as operands
use Rattle.wh_base.specs.declared.cond.Op.{Op}
use Rattle.wh_base.specs.declared.cond.Cond.{Cond}
use Rattle.wh_base.specs.declared.cond.Cond.TheVariants.{Cmp, Not, And, Or}
use Rattle.wh_grammar.specs.Symbols.{symbol}
use Rattle.wh_grammar.specs.Grammar.{Lexeme}
use Rattle.wh_grammar.specs.Conditions.{op_of}

-- what stands at the top: a comparison or a `not`, an `and`, or an `or`
pub data Shape : Type 0 where
  basic : Shape
  conj : Shape
  disj : Shape

-- whether a shape is an `or`
abbrev pub is_disj : Shape → Bool
is_disj basic = false
is_disj conj = false
is_disj disj = true

-- whether a shape is an `and` or an `or`
abbrev pub is_compound : Shape → Bool
is_compound basic = false
is_compound conj = true
is_compound disj = true

-- the token has this symbol
abbrev pub IsToken : Symbol → Lexeme → Type 0
IsToken s t = symbol t.kind t.bytes ≡ s

-- the token is this operand: a name, an integer or a text
abbrev pub IsOperand : Operand → Lexeme → Type 0
IsOperand (operands.Attr n) t = (symbol t.kind t.bytes ≡ s.Name) × (t.bytes ≡ n)
IsOperand (operands.Int v) t = t.kind ≡ kinds.Int v
IsOperand (operands.Text v) t = t.kind ≡ kinds.Text v

-- the token is this operator
abbrev pub IsOp : Op → Lexeme → Type 0
IsOp o t = op_of (symbol t.kind t.bytes) ≡ Some o

-- These tokens show a condition, which nests at most so deep.
mutual
  pub data Shows : Shape → ℕ → Cond → List Lexeme → Type 0 where
    compares : {d : ℕ} {l r : Operand} {o : Op} {t u v : Lexeme} → IsOperand l t → IsOp o u → IsOperand r v → Shows basic d (Cmp l o r) (t ∷ u ∷ v ∷ [])
    negates : {k : Shape} {d : ℕ} {c : Cond} {t : Lexeme} {ts : List Lexeme} → IsToken s.Not t → Held (is_compound k) k d c ts → Shows basic (suc d) (Not c) (t ∷ ts)
    joins : {j k : Shape} {d : ℕ} {a b : Cond} (t : Lexeme) {us vs : List Lexeme} → Held (is_disj j) j d a us → IsToken s.And t → Held (is_compound k) k d b vs → Shows conj d (And a b) (us ++ t ∷ vs)
    parts : {j k : Shape} {d : ℕ} {a b : Cond} (t : Lexeme) {us vs : List Lexeme} → Held false j d a us → IsToken s.Or t → Held (is_disj k) k d b vs → Shows disj d (Or a b) (us ++ t ∷ vs)

  -- the same of an operand, in parentheses or not
  pub data Held : Bool → Shape → ℕ → Cond → List Lexeme → Type 0 where
    plain : {k : Shape} {d : ℕ} {c : Cond} {ts : List Lexeme} → Shows k d c ts → Held false k d c ts
    group : {k : Shape} {d : ℕ} {c : Cond} (l r : Lexeme) {ts : List Lexeme} → IsToken s.LeftParen l → Shows k d c ts → IsToken s.RightParen r → Held true k (suc d) c (l ∷ ts ++ r ∷ [])
