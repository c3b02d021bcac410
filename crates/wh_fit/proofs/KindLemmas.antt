-- Kinds of rows and of attributes.
use Rattle.std.proofs.Common.{◌≡◌, Bool, true, false, List, [], ◌∷◌, length, Some, None, Contains, refl, sym, ◌∙◌, ap, subst, if◌then◌else◌, ◌||◌}
use Rattle.std.specs.Cmp.Lexicographic.{pointwise}
use Rattle.std.proofs.lemmas.Bool.{and_parts, and_from, true≢false}
use Rattle.std.proofs.lemmas.List.{length-map}
use Rattle.wh_base.specs.declared.value.Attr.{Attr}
use Rattle.wh_base.specs.declared.value.Kind.{Kind}
use Rattle.wh_base.specs.declared.value.Kind.TheVariants.{Int, Text}
use Rattle.wh_base.specs.Columns.{name_eq, is_in, names_of}
use Rattle.wh_base.specs.Cond.{kind_of}
use Rattle.wh_base.specs.Value.{kinds, row_kinds, value_kind}
use Rattle.wh_expr.specs.Typing.{kind_eq}
use Rattle.wh_schema.specs.Warehouse.{Row}
use Rattle.wh_store.specs.Image.{fit_attrs}
use Rattle.wh_laws.proofs.Equality.{Name, name_eq_decides}
use Rattle.wh_laws.proofs.Lists.{Contains-here, Contains-there, every_from, every_in}

kind_eq_is : (a b : Kind) → kind_eq a b ≡ true → a ≡ b
kind_eq_is Int Int e = refl
kind_eq_is Int Text e = absurd cc
kind_eq_is Text Int e = absurd cc
kind_eq_is Text Text e = refl

kind_eq_same : (k : Kind) → kind_eq k k ≡ true
kind_eq_same Int = refl
kind_eq_same Text = refl

kinds_are : (xs ys : List Kind) → pointwise kind_eq xs ys ≡ true → xs ≡ ys
kinds_are [] [] e = refl
kinds_are [] (y ∷ ys) e = absurd cc
kinds_are (x ∷ xs) [] e = absurd cc
kinds_are (x ∷ xs) (y ∷ ys) e =
    let p = and_parts (kind_eq x y) (pointwise kind_eq xs ys) e in
    let first = kind_eq_is x y p.0 in
    let rest = kinds_are xs ys p.1 in
    λ i. first i ∷ rest i

kinds_same : (xs : List Kind) → pointwise kind_eq xs xs ≡ true
kinds_same [] = refl
kinds_same (x ∷ xs) = and_from (kind_eq x x) (pointwise kind_eq xs xs) (kind_eq_same x) (kinds_same xs)

-- ---- rows that fit

pub fits_from : (attrs : List Attr) (rows : List Row) → fit_attrs attrs rows ≡ true → (x : Row) → Contains rows x → row_kinds x ≡ kinds attrs
fits_from attrs rows e x h = kinds_are (row_kinds x) (kinds attrs) (every_from (λ row. pointwise kind_eq (row_kinds row) (kinds attrs)) rows e x h)

pub fits_in : (attrs : List Attr) (rows : List Row) → ((x : Row) → Contains rows x → row_kinds x ≡ kinds attrs) → fit_attrs attrs rows ≡ true
fits_in attrs rows h =
    every_in (λ row. pointwise kind_eq (row_kinds row) (kinds attrs)) rows
    (λ x k. subst (λ z. pointwise kind_eq (row_kinds x) z ≡ true) (h x k) (kinds_same (row_kinds x)))

-- a row of the kinds of attributes has their number of values
pub width_is : (attrs : List Attr) (x : Row) → row_kinds x ≡ kinds attrs → length x ≡ length attrs
width_is attrs x e = sym (length-map x value_kind) ∙ ap length e ∙ length-map attrs (λ (a : Attr). a.kind)

-- ---- the kind of a name

-- a kind that is found is that of an attribute
pub kind_from : (n : Name) (attrs : List Attr) (k : Kind) → kind_of n attrs ≡ Some k → (a : Attr) × Contains attrs a × (a.name ≡ n) × (a.kind ≡ k)
kind_from n [] k e = absurd cc
kind_from n (a ∷ attrs) k e = by (name_eq n a.name) refl e (kind_from n attrs k)
  where
    by : (b : Bool) → name_eq n a.name ≡ b → (if b then Some a.kind else kind_of n attrs) ≡ Some k
        → (kind_of n attrs ≡ Some k → (c : Attr) × Contains attrs c × (c.name ≡ n) × (c.kind ≡ k)) → (c : Attr) × Contains (a ∷ attrs) c × (c.name ≡ n) × (c.kind ≡ k)
    by true is e more = (a, Contains-here a attrs, sym ((name_eq_decides n a.name).0 is), cc)
    by false is e more = let r = more e in (r.0, Contains-there a r.0 attrs r.1, r.2, r.3)

-- a name of an attribute has a kind
pub kind_known : (n : Name) (attrs : List Attr) → is_in (names_of attrs) n ≡ true → (k : Kind) × (kind_of n attrs ≡ Some k)
kind_known n [] h = absurd cc
kind_known n (a ∷ attrs) h = by (name_eq n a.name) h (kind_known n attrs)
  where
    by : (b : Bool) → (b || is_in (names_of attrs) n) ≡ true → (is_in (names_of attrs) n ≡ true → (k : Kind) × (kind_of n attrs ≡ Some k)) → (k : Kind) × ((if b then Some a.kind else kind_of n attrs) ≡ Some k)
    by true e more = (a.kind, refl)
    by false e more = more e

pub kind_unknown : (n : Name) (attrs : List Attr) → is_in (names_of attrs) n ≡ false → kind_of n attrs ≡ None
kind_unknown n [] h = refl
kind_unknown n (a ∷ attrs) h = by (name_eq n a.name) h (kind_unknown n attrs)
  where
    by : (b : Bool) → (b || is_in (names_of attrs) n) ≡ false → (is_in (names_of attrs) n ≡ false → kind_of n attrs ≡ None) → (if b then Some a.kind else kind_of n attrs) ≡ None
    by true e more = absurd (true≢false e)
    by false e more = more e
