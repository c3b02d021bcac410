-- The printed form of each kind of condition.
use Rattle.std.proofs.Common.{◌≡◌, ℕ, ◌+◌, Bool, true, ◌&&◌, List, [], ◌++◌, codes, sym, ap, ◌∙◌}
use Rattle.wh_base.specs.declared.cond.Operand.{Operand}
use Rattle.wh_base.specs.declared.cond.Op.{Op}
use Rattle.wh_base.specs.declared.cond.Cond.{Cond, para-roll-Cond, fold-roll-Cond}
use Rattle.wh_base.specs.declared.cond.Cond.TheOpen.{Cond-F}
use Rattle.wh_base.specs.declared.cond.Cond.TheVariants.{Always, Cmp, Not, And, Or, rolls-Always, rolls-Cmp, rolls-Not, rolls-And, rolls-Or}
use Rattle.wh_grammar.specs.Printed.{printed, printed_at, operand_text, op_text, held, held_shallow, shallow_at, is_shallow, is_or, is_compound}
use Rattle.wh_base.specs.Cond.{nodes, nodes_at}

pub printed_compare : (l r : Operand) (o : Op) → printed (Cmp l o r) ≡ operand_text l ++ codes " " ++ op_text o ++ codes " " ++ operand_text r
printed_compare l r o = ap printed (sym (rolls-Cmp l o r)) ∙ para-roll-Cond (List ℕ) printed_at (Cond-F.Cmp l o r)

pub printed_not : (c : Cond) → printed (Not c) ≡ codes "not " ++ held (is_compound c) (printed c)
printed_not c = ap printed (sym (rolls-Not c)) ∙ para-roll-Cond (List ℕ) printed_at (Cond-F.Not c)

pub printed_and : (a b : Cond) → printed (And a b) ≡ held (is_or a) (printed a) ++ codes " and " ++ held (is_compound b) (printed b)
printed_and a b = ap printed (sym (rolls-And a b)) ∙ para-roll-Cond (List ℕ) printed_at (Cond-F.And a b)

pub printed_or : (a b : Cond) → printed (Or a b) ≡ printed a ++ codes " or " ++ held (is_or b) (printed b)
printed_or a b = ap printed (sym (rolls-Or a b)) ∙ para-roll-Cond (List ℕ) printed_at (Cond-F.Or a b)

pub printed_always : printed Always ≡ []
printed_always = ap printed (sym rolls-Always) ∙ para-roll-Cond (List ℕ) printed_at Cond-F.Always

-- ---- how deep the printed form of each kind nests, and how many nodes it has

pub shallow_not : (c : Cond) (opened : ℕ) → is_shallow (Not c) opened ≡ held_shallow (is_compound c) (is_shallow c) opened
shallow_not c opened = ap (λ (d : Cond). is_shallow d opened) (sym (rolls-Not c)) ∙ ap (λ (f : ℕ → Bool). f opened) (para-roll-Cond (ℕ → Bool) shallow_at (Cond-F.Not c))

pub shallow_and : (a b : Cond) (opened : ℕ) → is_shallow (And a b) opened ≡ held_shallow (is_or a) (is_shallow a) opened && held_shallow (is_compound b) (is_shallow b) opened
shallow_and a b opened = ap (λ (d : Cond). is_shallow d opened) (sym (rolls-And a b)) ∙ ap (λ (f : ℕ → Bool). f opened) (para-roll-Cond (ℕ → Bool) shallow_at (Cond-F.And a b))

pub shallow_or : (a b : Cond) (opened : ℕ) → is_shallow (Or a b) opened ≡ is_shallow a opened && held_shallow (is_or b) (is_shallow b) opened
shallow_or a b opened = ap (λ (d : Cond). is_shallow d opened) (sym (rolls-Or a b)) ∙ ap (λ (f : ℕ → Bool). f opened) (para-roll-Cond (ℕ → Bool) shallow_at (Cond-F.Or a b))

pub shallow_cmp : (l r : Operand) (o : Op) (opened : ℕ) → is_shallow (Cmp l o r) opened ≡ true
shallow_cmp l r o opened = ap (λ (d : Cond). is_shallow d opened) (sym (rolls-Cmp l o r)) ∙ ap (λ (f : ℕ → Bool). f opened) (para-roll-Cond (ℕ → Bool) shallow_at (Cond-F.Cmp l o r))

pub nodes_cmp : (l r : Operand) (o : Op) → nodes (Cmp l o r) ≡ 1
nodes_cmp l r o = ap nodes (sym (rolls-Cmp l o r)) ∙ fold-roll-Cond ℕ nodes_at (Cond-F.Cmp l o r)

pub nodes_not : (c : Cond) → nodes (Not c) ≡ nodes c + 1
nodes_not c = ap nodes (sym (rolls-Not c)) ∙ fold-roll-Cond ℕ nodes_at (Cond-F.Not c)

pub nodes_and : (a b : Cond) → nodes (And a b) ≡ nodes a + nodes b + 1
nodes_and a b = ap nodes (sym (rolls-And a b)) ∙ fold-roll-Cond ℕ nodes_at (Cond-F.And a b)

pub nodes_or : (a b : Cond) → nodes (Or a b) ≡ nodes a + nodes b + 1
nodes_or a b = ap nodes (sym (rolls-Or a b)) ∙ fold-roll-Cond ℕ nodes_at (Cond-F.Or a b)

pub nodes_always : nodes Always ≡ 0
nodes_always = ap nodes (sym rolls-Always) ∙ fold-roll-Cond ℕ nodes_at Cond-F.Always
