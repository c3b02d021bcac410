-- The attributes of an expression, and all that is wrong with it.
use Rattle.std.specs.Prelude.{◌≡◌, ◌+◌, ℕ, Bool, true, false, not, ◌&&◌, List, [], ◌∷◌, ◌++◌, Option, None, Some, Result, Ok, Err, map, filter, length, max, nat_le, nat_lt}
use Rattle.std.specs.List.{list_all}
use Rattle.wh_base.specs.declared.cond.Cond.{Cond}
use Rattle.wh_base.specs.declared.cond.CondFault.{CondFault}
use Rattle.wh_base.specs.declared.cond.CondFault.TheVariants as cond
use Rattle.wh_base.specs.declared.head.Head.{Head}
use Rattle.wh_base.specs.declared.value.Attr.{Attr}
use Rattle.wh_base.specs.declared.value.Kind.{Kind}
use Rattle.wh_base.specs.declared.value.Kind.TheVariants.{Int, Text}
use Rattle.wh_base.specs.Columns.{is_in, all_in, names_of}
use Rattle.wh_base.specs.Cond.{kind_of, faults as cond_faults, nodes}
use Rattle.wh_base.specs.Heads.{attrs_at}
use Rattle.wh_expr.specs.declared.expr.Expr.{Expr, fold-Expr}
use Rattle.wh_expr.specs.declared.expr.Expr.TheOpen.{Expr-F}
use Rattle.wh_expr.specs.declared.expr.Renaming.{Renaming}
use Rattle.wh_expr.specs.declared.fault.TypeCause.{TypeCause}
use Rattle.wh_expr.specs.declared.fault.TypeCause.TheVariants.{TooDeep, TooBig, UnknownName, UnknownAttr, KindMismatch, HeadMismatch, EmptyHead, Repeated}
use Rattle.wh_expr.specs.declared.fault.TypeFault.{TypeFault}
use Rattle.wh_expr.specs.declared.fault.TypeFault.TheVariants.{At, NoMemory}
use Rattle.wh_expr.specs.Rename.{new_name}

-- ---- names and kinds

abbrev pub kind_eq : Kind → Kind → Bool
kind_eq Int Int = true
kind_eq Int Text = false
kind_eq Text Int = false
kind_eq Text Text = true

-- whether no name stands twice
abbrev pub are_distinct : List (List ℕ) → Bool
are_distinct [] = true
are_distinct (n ∷ ns) = not (is_in ns n) && are_distinct ns

-- the kind of an attribute, where there is one of that name
abbrev pub kind_or_int : Option Kind → Kind
kind_or_int None = Int
kind_or_int (Some k) = k

-- the attributes with the names
abbrev pub attrs_named : List Attr → List (List ℕ) → List Attr
attrs_named attrs names = map (λ n. record { name = n; kind = kind_or_int (kind_of n attrs) }) names

-- whether the attribute of a name, if there is one, has the kind
abbrev pub is_kind_or_none : Option Kind → Kind → Bool
is_kind_or_none None k = true
is_kind_or_none (Some j) k = kind_eq j k

-- whether there is an attribute of a name, and it has the kind
abbrev pub is_kind : Option Kind → Kind → Bool
is_kind None k = false
is_kind (Some j) k = kind_eq j k

-- whether no shared attribute has two kinds
abbrev pub can_join : List Attr → List Attr → Bool
can_join left right = list_all (λ a. is_kind_or_none (kind_of a.name left) a.kind) right

-- the left attributes, and then the right ones that are not among them
abbrev pub joined_attrs : List Attr → List Attr → List Attr
joined_attrs left right = left ++ filter (λ a. not (is_in (names_of left) a.name)) right

-- whether each attribute of the second list is one of the first
abbrev pub has_attrs : List Attr → List Attr → Bool
has_attrs attrs others = list_all (λ a. is_kind (kind_of a.name attrs) a.kind) others

-- whether both lists have the same attributes with the same kinds
abbrev pub same_attrs : List Attr → List Attr → Bool
same_attrs left right = has_attrs left right && has_attrs right left

-- the old names of renamings
abbrev pub old_names : List Renaming → List (List ℕ)
old_names pairs = map (λ p. p.from) pairs

-- the attributes under their new names
abbrev pub renamed_attrs : List Renaming → List Attr → List Attr
renamed_attrs pairs attrs = map (λ a. record { name = new_name pairs a.name; kind = a.kind }) attrs

-- ---- what is wrong with one node, whose parts have these attributes

-- the cause, unless the rule is kept
abbrev pub unless : Bool → TypeCause → List TypeCause
unless true cause = []
unless false cause = cause ∷ []

abbrev pub is_empty : List (List ℕ) → Bool
is_empty [] = true
is_empty (n ∷ ns) = false

abbrev pub cause_of : CondFault → TypeCause
cause_of cond.UnknownAttr = UnknownAttr
cause_of cond.KindMismatch = KindMismatch

abbrev pub base_causes : ℕ → List Head → List TypeCause
base_causes n heads = unless (nat_lt n (length heads)) UnknownName

abbrev pub select_causes : Cond → List Attr → List TypeCause
select_causes c attrs = map cause_of (cond_faults c attrs)

abbrev pub project_causes : List (List ℕ) → List Attr → List TypeCause
project_causes names attrs = unless (all_in (names_of attrs) names) UnknownAttr ++ unless (are_distinct names) Repeated ++ unless (not (is_empty names)) EmptyHead

abbrev pub join_causes : List Attr → List Attr → List TypeCause
join_causes left right = unless (can_join left right) KindMismatch

abbrev pub same_head_causes : List Attr → List Attr → List TypeCause
same_head_causes left right = unless (same_attrs left right) HeadMismatch

abbrev pub rename_causes : List Renaming → List Attr → List TypeCause
rename_causes pairs attrs =
    unless (all_in (names_of attrs) (old_names pairs)) UnknownAttr
    ++ unless (are_distinct (old_names pairs) && are_distinct (names_of (renamed_attrs pairs attrs))) Repeated

-- ---- what is wrong with an expression

-- a fault: what it is, and the steps from the root to its node
pub record Fault : Type 0 where
  pub cause : TypeCause
  pub path : List ℕ

-- the attributes of an expression, which say something where it has no fault, and its faults in order
pub record Typing : Type 0 where
  pub attrs : List Attr
  pub faults : List Fault

-- the faults of a node itself
abbrev pub here : List TypeCause → List Fault
here causes = map (λ cause. record { cause = cause; path = [] }) causes

-- the faults of a part, seen from the node above it
abbrev pub from_part : ℕ → List Fault → List Fault
from_part step faults = map (λ f. record { cause = f.cause; path = step ∷ f.path }) faults

-- children come before their parent, and the left one before the right one
abbrev pub typing_at : List Head → Expr-F Typing → Typing
typing_at heads (Expr-F.Base n) = record { attrs = attrs_at heads n; faults = here (base_causes n heads) }
typing_at heads (Expr-F.Select c t) = record { attrs = t.attrs; faults = from_part 0 t.faults ++ here (select_causes c t.attrs) }
typing_at heads (Expr-F.Project names t) = record { attrs = attrs_named t.attrs names; faults = from_part 0 t.faults ++ here (project_causes names t.attrs) }
typing_at heads (Expr-F.Join t u) = record { attrs = joined_attrs t.attrs u.attrs; faults = from_part 0 t.faults ++ from_part 1 u.faults ++ here (join_causes t.attrs u.attrs) }
typing_at heads (Expr-F.Union t u) = record { attrs = t.attrs; faults = from_part 0 t.faults ++ from_part 1 u.faults ++ here (same_head_causes t.attrs u.attrs) }
typing_at heads (Expr-F.Minus t u) = record { attrs = t.attrs; faults = from_part 0 t.faults ++ from_part 1 u.faults ++ here (same_head_causes t.attrs u.attrs) }
typing_at heads (Expr-F.Rename pairs t) = record { attrs = renamed_attrs pairs t.attrs; faults = from_part 0 t.faults ++ here (rename_causes pairs t.attrs) }

-- the attributes of an expression over these heads, and the faults of its nodes
abbrev pub typing : List Head → Expr → Typing
typing heads = fold-Expr Typing (typing_at heads)

-- a name has depth 1, and any other node one more than its deepest part; conditions do not count
abbrev pub depth_at : Expr-F ℕ → ℕ
depth_at (Expr-F.Base n) = 1
depth_at (Expr-F.Select c d) = d + 1
depth_at (Expr-F.Project names d) = d + 1
depth_at (Expr-F.Join d k) = max d k + 1
depth_at (Expr-F.Union d k) = max d k + 1
depth_at (Expr-F.Minus d k) = max d k + 1
depth_at (Expr-F.Rename pairs d) = d + 1

abbrev pub depth : Expr → ℕ
depth = fold-Expr ℕ depth_at

-- how many nodes an expression and its conditions have
abbrev pub size_at : Expr-F ℕ → ℕ
size_at (Expr-F.Base n) = 1
size_at (Expr-F.Select c m) = nodes c + m + 1
size_at (Expr-F.Project names m) = m + 1
size_at (Expr-F.Join m n) = m + n + 1
size_at (Expr-F.Union m n) = m + n + 1
size_at (Expr-F.Minus m n) = m + n + 1
size_at (Expr-F.Rename pairs m) = m + 1

abbrev pub size : Expr → ℕ
size = fold-Expr ℕ size_at

-- with the limits of a query before the rules of the nodes
abbrev pub limited_typing : List Head → Expr → Typing
limited_typing heads e = record {
  attrs = (typing heads e).attrs;
  faults = here (unless (nat_le (depth e) 64) TooDeep ++ unless (nat_le (size e) 1000) TooBig) ++ (typing heads e).faults;
}

-- whether the rules of the nodes are kept
abbrev pub IsWellTyped : List Head → Expr → Type 0
IsWellTyped heads e = (typing heads e).faults ≡ []

abbrev pub first_of : List Fault → Option Fault
first_of [] = None
first_of (f ∷ fs) = Some f

-- the answer is the attributes where there is no fault, and else the first fault; memory may be short at any time
abbrev pub Answers : Result (List Attr) TypeFault → Typing → Type 0
Answers (Ok attrs) t = (t.faults ≡ []) × (attrs ≡ t.attrs)
Answers (Err (At cause path)) t = first_of t.faults ≡ Some (record { cause = cause; path = path })
Answers (Err NoMemory) t = Unit {0}
