-- How a condition is printed.
use Rattle.std.specs.Prelude.{ℕ, ◌+◌, Bool, true, false, ◌&&◌, nat_lt, List, [], ◌∷◌, ◌++◌, codes, if◌then◌else◌}
use Rattle.std.specs.Fmt.{signed_decimal}
use Rattle.wh_lex.specs.Spelling.{quoted}
use Rattle.wh_base.specs.declared.cond.Operand.{Operand}
use Rattle.wh_base.specs.declared.cond.Operand.TheVariants.{Attr, Int, Text}
use Rattle.wh_base.specs.declared.cond.Op.{Op}
use Rattle.wh_base.specs.declared.cond.Op.TheVariants.{Eq, Ne, Lt, Le, Gt, Ge}
use Rattle.wh_base.specs.declared.cond.Cond.{Cond, out-Cond, para-Cond}
use Rattle.wh_base.specs.declared.cond.Cond.TheOpen.{Cond-F}

-- a name, a decimal, or a text in quotes
abbrev pub operand_text : Operand → List ℕ
operand_text (Attr n) = n
operand_text (Int v) = signed_decimal v
operand_text (Text t) = quoted t

-- the mark of an operator
abbrev pub op_text : Op → List ℕ
op_text Eq = codes "="
op_text Ne = codes "<>"
op_text Lt = codes "<"
op_text Le = codes "<="
op_text Gt = codes ">"
op_text Ge = codes ">="

-- whether a level is an `or`
abbrev pub is_or_at : Cond-F Cond → Bool
is_or_at Cond-F.Always = false
is_or_at (Cond-F.Cmp l o r) = false
is_or_at (Cond-F.Not c) = false
is_or_at (Cond-F.And a b) = false
is_or_at (Cond-F.Or a b) = true

-- whether a level is an `and` or an `or`
abbrev pub is_compound_at : Cond-F Cond → Bool
is_compound_at Cond-F.Always = false
is_compound_at (Cond-F.Cmp l o r) = false
is_compound_at (Cond-F.Not c) = false
is_compound_at (Cond-F.And a b) = true
is_compound_at (Cond-F.Or a b) = true

-- whether a condition is an `or`
abbrev pub is_or : Cond → Bool
is_or c = is_or_at (out-Cond c)

-- whether a condition is an `and` or an `or`
abbrev pub is_compound : Cond → Bool
is_compound c = is_compound_at (out-Cond c)

-- in parentheses, or as it is
abbrev pub held : Bool → List ℕ → List ℕ
held in_parentheses text = if in_parentheses then codes "(" ++ text ++ codes ")" else text

-- from the parts of a condition, each with its printed form
abbrev pub printed_at : Cond-F (Cond × List ℕ) → List ℕ
printed_at Cond-F.Always = []
printed_at (Cond-F.Cmp l o r) = operand_text l ++ codes " " ++ op_text o ++ codes " " ++ operand_text r
printed_at (Cond-F.Not c) = codes "not " ++ held (is_compound c.0) c.1
printed_at (Cond-F.And a b) = held (is_or a.0) a.1 ++ codes " and " ++ held (is_compound b.0) b.1
printed_at (Cond-F.Or a b) = a.1 ++ codes " or " ++ held (is_or b.0) b.1

-- a condition, with as few parentheses as there can be
abbrev pub printed : Cond → List ℕ
printed c = para-Cond (List ℕ) printed_at c

-- ---- how deep the parentheses of a printed condition stand in one another

-- a part in parentheses or as it is, where so many are open
abbrev pub held_shallow : Bool → (ℕ → Bool) → ℕ → Bool
held_shallow in_parentheses inside opened = if in_parentheses then nat_lt opened 64 && inside (opened + 1) else inside opened

-- the same of one level, from its parts
abbrev pub shallow_at : Cond-F (Cond × (ℕ → Bool)) → ℕ → Bool
shallow_at Cond-F.Always opened = true
shallow_at (Cond-F.Cmp l o r) opened = true
shallow_at (Cond-F.Not c) opened = held_shallow (is_compound c.0) c.1 opened
shallow_at (Cond-F.And a b) opened = held_shallow (is_or a.0) a.1 opened && held_shallow (is_compound b.0) b.1 opened
shallow_at (Cond-F.Or a b) opened = a.1 opened && held_shallow (is_or b.0) b.1 opened

-- no more than 64 parentheses are open at once, where so many are open before the condition
abbrev pub is_shallow : Cond → ℕ → Bool
is_shallow c = para-Cond (ℕ → Bool) shallow_at c

-- ---- texts of lists

-- further texts, each behind what stands between two
abbrev pub further : List ℕ → List (List ℕ) → List ℕ
further between [] = []
further between (t ∷ ts) = between ++ t ++ further between ts

-- texts with something between each two
abbrev pub joined : List ℕ → List (List ℕ) → List ℕ
joined between [] = []
joined between (t ∷ ts) = t ++ further between ts
