-- What the parts of a condition take.
use Rattle.std.proofs.Common.{◌≡◌, ◌≢◌, ◌<◌, ◌-◌, ℕ, zero, suc, false, List, [], ◌∷◌, length, Ok, Option, Some, None, refl, sym, ap, ◌∙◌, arith}
use Rattle.wh_lex.specs.declared.token.TokenKind.{TokenKind}
use Rattle.wh_lex.specs.declared.token.TokenKind.TheVariants as kinds
use Rattle.wh_grammar.specs.declared.symbol.Symbol.TheVariants as s
use Rattle.wh_grammar.specs.Grammar.{Input, Lexeme, after, Parser, Part, ◌>>=◌, pure, fail, same, next, symbol_of, token, taken, name, ◌or◌}
use Rattle.wh_base.specs.declared.cond.Cond.{Cond}
use Rattle.wh_base.specs.declared.cond.Cond.TheVariants.{Not, And, Or}
use Rattle.wh_base.specs.declared.cond.Operand.{Operand}
use Rattle.wh_base.specs.declared.cond.Operand.TheVariants as operands
use Rattle.wh_grammar.specs.Symbols.{symbol}
use Rattle.wh_grammar.specs.Conditions.{named, literal, literal_of, value_of, operand, comparison, op_of, compare, negated, group, neg_of, conj_of, cond_of, inner, neg, conj, cond}
use Rattle.wh_grammar.proofs.GrammarLemmas.{Keeps, Takes, Refuses, bind_keeps, bind_takes, takes_keeps, pure_keeps, token_takes, name_takes, or_takes, or_else, or_refuses, starts_refuses, chain_takes, fail_takes, other_than, left, ok_input, ok_value, after_is}

no_value : (kind : TokenKind) (bytes : List ℕ) → literal.begins (symbol kind bytes) ≡ false → value_of kind ≡ None
unfolding symbol same
no_value kinds.Word bytes other = refl
no_value (kinds.Int v) bytes other = absurd cc
no_value (kinds.Text v) bytes other = absurd cc
no_value kinds.Mark bytes other = refl

no_literal : (ts : List Lexeme) → literal.begins (symbol_of ts) ≡ false → literal_of ts ≡ None
no_literal [] other = refl
no_literal (t ∷ ts) other = no_value t.kind t.bytes other

pub literal_refuses : Refuses literal
unfolding next
literal_refuses i other = rw (no_literal i.ahead other) refl

pub operand_else : (i : Input) → same (next i) s.Name ≡ false → operand.read i ≡ literal.read i
operand_else i other = or_else named literal i literal_refuses other

-- ---- what they take

pub taken_ok : {A : Type 0} (o : Option A) (i : Input) (x : A) (j : Input) → taken o i ≡ Ok (x, j) → (o ≡ Some x) × (j ≡ after i)
taken_ok None i x j e = absurd cc
taken_ok (Some y) i x j e = (ap Some (sym (ok_value x y j (after i) (sym e))), ok_input x y j (after i) (sym e))

some_literal : (ts : List Lexeme) (x : Operand) → literal_of ts ≡ Some x → 0 < length ts
some_literal [] x e = absurd cc
some_literal (t ∷ ts) x e = omega arith

pub literal_takes : Takes literal.read
literal_takes i x j e =
    let t = taken_ok (literal_of i.ahead) i x j e in
    omega (arith, some_literal i.ahead x t.0, after_is i, ap left t.1)

pub operand_takes : Takes operand.read
operand_takes = or_takes named literal (bind_takes name.read (λ n. pure (operands.Attr n)) name_takes (λ n. pure_keeps (operands.Attr n))) literal_takes

pub comparison_keeps : Keeps comparison.read
comparison_keeps i x j e =
    let t = taken_ok (op_of (next i)) i x j e in
    omega (arith, after_is i, ap left t.1)

pub compare_takes : Takes compare.read
compare_takes = bind_takes _ _ operand_takes (λ left. bind_keeps _ _ comparison_keeps (λ by. bind_keeps _ _ (takes_keeps _ operand_takes) (λ right. pure_keeps _)))

compare_refuses : Refuses compare
compare_refuses = starts_refuses operand _ (or_refuses named literal)

pub neg_of_takes : (n c : Parser Cond) → Keeps n → Keeps c → Takes (neg_of n c).read
unfolding same
neg_of_takes n c hn hc =
    or_takes (negated n) (group c or compare) (bind_takes (token s.Not).read (λ _. n >>= (λ x. pure (Not x))) (token_takes s.Not refl) (λ _. bind_keeps n (λ x. pure (Not x)) hn (λ x. pure_keeps (Not x))))
    (or_takes (group c) compare (bind_takes (token s.LeftParen).read (λ _. c >>= (λ x. (token s.RightParen).read >>= (λ _. pure x))) (token_takes s.LeftParen refl) (λ _. bind_keeps c (λ x. (token s.RightParen).read >>= (λ _. pure x)) hc (λ x. bind_keeps (token s.RightParen).read (λ _. pure x) (takes_keeps (token s.RightParen).read (token_takes s.RightParen refl)) (λ _. pure_keeps x)))) compare_takes)

pub conj_of_takes : (p : Part Cond) → Takes p.read → Takes (conj_of p).read
unfolding same
conj_of_takes p h = chain_takes And p s.And refl h

cond_of_takes : (p : Part Cond) → Takes p.read → Takes (cond_of p).read
unfolding same
cond_of_takes p h = chain_takes Or p s.Or refl h

pub inner_keeps : (d : ℕ) → Keeps (inner d).0 × Keeps (inner d).1
unfolding inner
inner_keeps zero = (takes_keeps fail fail_takes, takes_keeps fail fail_takes)
inner_keeps (suc d) =
    let h = inner_keeps d in
    let p = neg_of (inner d).0 (inner d).1 in
    let n = neg_of_takes (inner d).0 (inner d).1 h.0 h.1 in
    (takes_keeps p.read n, takes_keeps (cond_of (conj_of p)).read (cond_of_takes (conj_of p) (conj_of_takes p n)))

pub neg_takes : (d : ℕ) → Takes (neg d).read
unfolding neg
neg_takes d = let h = inner_keeps d in neg_of_takes (inner d).0 (inner d).1 h.0 h.1

pub conj_takes : (d : ℕ) → Takes (conj d).read
unfolding conj
conj_takes d = conj_of_takes (neg d) (neg_takes d)

-- ---- the steps of the readers

pub neg_else : (d : ℕ) (i : Input) → next i ≢ s.Not → next i ≢ s.LeftParen → (neg d).read i ≡ compare.read i
unfolding neg
neg_else d i a b =
    or_else (negated (inner d).0) (group (inner d).1 or compare) i (or_refuses (group (inner d).1) compare) (other_than (next i) s.Not a)
    ∙ or_else (group (inner d).1) compare i compare_refuses (other_than (next i) s.LeftParen b)

pub inner_none : (d : ℕ) → d ≡ 0 → inner d ≡ (fail, fail)
unfolding inner
inner_none d e = rw e refl

pub inner_suc : (d : ℕ) → inner (suc d) ≡ ((neg d).read, (cond d).read)
unfolding inner neg conj cond
inner_suc d = refl

pub inner_some : (d : ℕ) → 0 < d → inner d ≡ ((neg (d - 1)).read, (cond (d - 1)).read)
inner_some d lt = let e : d ≡ suc (d - 1) = omega arith in ap inner e ∙ inner_suc (d - 1)

pub condition_takes : (d : ℕ) → Takes (cond d).read
unfolding cond
condition_takes d = cond_of_takes (conj d) (conj_takes d)
