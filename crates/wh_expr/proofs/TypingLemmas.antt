-- How the answer for a node follows from those for its parts.
use Rattle.std.proofs.Common.{◌≡◌, List, [], ◌∷◌, ◌++◌, Some, Result, Err, sym, ap, subst, ◌∙◌}
use Rattle.wh_base.specs.declared.head.Head.{Head}
use Rattle.wh_base.specs.declared.value.Attr.{Attr}
use Rattle.wh_expr.specs.declared.expr.Expr.{Expr}
use Rattle.wh_expr.specs.declared.expr.Expr.TheOpen.{Expr-F}
use Rattle.wh_expr.specs.declared.expr.Expr.TheFolds.{fold-roll-Expr, map-Expr}
use Rattle.wh_expr.specs.declared.expr.Expr.TheViews.{roll-Expr}
use Rattle.wh_expr.specs.declared.fault.TypeCause.{TypeCause}
use Rattle.wh_expr.specs.declared.fault.TypeFault.{TypeFault}
use Rattle.wh_expr.specs.declared.fault.TypeFault.TheVariants.{At, NoMemory}
use Rattle.wh_expr.specs.Typing.{Answers, Fault, Typing, first_of, from_part, here, typing, typing_at}

first_of-append : (xs ys : List Fault) (f : Fault) → first_of xs ≡ Some f → first_of (xs ++ ys) ≡ Some f
first_of-append [] ys f h = cc
first_of-append (x ∷ xs) ys f h = h

-- the first fault of a part is that of the whole
pub Answers-append : (e : TypeFault) (attrs more_attrs : List Attr) (faults more : List Fault)
    → Answers (Err e) (record { attrs = attrs; faults = faults }) → Answers (Err e) (record { attrs = more_attrs; faults = faults ++ more })
Answers-append (At cause path) attrs more_attrs faults more h = first_of-append faults more (record { cause = cause; path = path }) h
Answers-append NoMemory attrs more_attrs faults more h = tt

-- the first fault of the right part is that of the whole, where the left part has none
pub Answers-right : (e : TypeFault) (attrs more_attrs : List Attr) (left right more : List Fault) → left ≡ []
    → Answers (Err e) (record { attrs = attrs; faults = right }) → Answers (Err e) (record { attrs = more_attrs; faults = left ++ right ++ more })
Answers-right e attrs more_attrs left right more none h =
    subst (λ faults. Answers (Err e) (record { attrs = more_attrs; faults = faults ++ right ++ more })) (sym none) (Answers-append e attrs more_attrs right more h)

-- where no part has a fault, the rules of the node decide
pub Answers-one : (r : Result (List Attr) TypeFault) (t : Typing) (attrs : List Attr) (attrs_of : List Attr → List Attr) (causes : List Attr → List TypeCause)
    → (from_part 0 t.faults ≡ []) × (attrs ≡ t.attrs)
    → Answers r (record { attrs = attrs_of attrs; faults = here (causes attrs) })
    → Answers r (record { attrs = attrs_of t.attrs; faults = from_part 0 t.faults ++ here (causes t.attrs) })
Answers-one r t attrs attrs_of causes part h =
    subst (λ faults. Answers r (record { attrs = attrs_of t.attrs; faults = faults ++ here (causes t.attrs) })) (sym part.0)
    (subst (λ a. Answers r (record { attrs = attrs_of a; faults = here (causes a) })) part.1 h)

-- the typing of an expression by its layers
pub typing-rolled : (heads : List Head) (e : Expr) (layer : Expr-F Expr) → e ≡ roll-Expr layer → typing heads e ≡ typing_at heads (map-Expr Expr Typing (typing heads) layer)
typing-rolled heads e layer is = ap (typing heads) is ∙ fold-roll-Expr Typing (typing_at heads) layer
