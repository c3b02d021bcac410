-- The kind of a name among the attributes of a join.
use Rattle.std.proofs.Common.{◌≡◌, ◌⊎◌, ℕ, Bool, true, false, not, cond, List, [], ◌∷◌, ◌++◌, map, filter, length, Option, Some, None, Contains, refl, sym, ◌∙◌, ap, inl, inr, if◌then◌else◌, arith, ◌≤◌, ◌+◌, ◌*◌}
use Rattle.std.specs.Prelude.{fold}
use Rattle.std.proofs.lemmas.Bool.{cases_Bool, true≢false}
use Rattle.std.proofs.lemmas.List.{length-append}
use Rattle.wh_base.specs.declared.value.Attr.{Attr}
use Rattle.wh_base.specs.declared.value.Kind.{Kind}
use Rattle.wh_base.specs.Columns.{name_eq, is_in, names_of}
use Rattle.wh_base.specs.Cond.{kind_of}
use Rattle.wh_schema.specs.declared.spec.Spec.{Spec}
use Rattle.wh_schema.specs.Rules.{join_attrs, joined_attrs}
use Rattle.wh_schema.specs.Warehouse.{relation_at}
use Rattle.wh_laws.proofs.Equality.{Name, name_eq_decides}
use Rattle.wh_laws.proofs.Lists.{Contains-nil, Contains-here, Contains-there, Contains-cases}
use Rattle.wh_laws.proofs.Order.{filter_at_most}
use Rattle.wh_fit.proofs.KindLemmas.{kind_known}

-- the first of two kinds, where there is one
or_kind : Option Kind → Option Kind → Option Kind
or_kind (Some k) later = Some k
or_kind None later = later

appended : (n : Name) (xs ys : List Attr) → kind_of n (xs ++ ys) ≡ or_kind (kind_of n xs) (kind_of n ys)
unfolding or_kind
appended n [] ys = refl
appended n (x ∷ xs) ys = by (name_eq n x.name) (appended n xs ys)
  where
    by : (b : Bool) → kind_of n (xs ++ ys) ≡ or_kind (kind_of n xs) (kind_of n ys)
        → (if b then Some x.kind else kind_of n (xs ++ ys)) ≡ or_kind (if b then Some x.kind else kind_of n xs) (kind_of n ys)
    by true ih = refl
    by false ih = ih

kept : (n : Name) (left : List Name) → is_in left n ≡ false → (ys : List Attr) → kind_of n (filter (λ a. not (is_in left a.name)) ys) ≡ kind_of n ys
kept n left f [] = refl
kept n left f (y ∷ ys) = by (name_eq n y.name) refl (is_in left y.name) refl (kept n left f ys)
  where
    rest : List Attr
    rest = filter (λ a. not (is_in left a.name)) ys

    by : (b : Bool) → name_eq n y.name ≡ b → (c : Bool) → is_in left y.name ≡ c → kind_of n (filter (λ a. not (is_in left a.name)) ys) ≡ kind_of n ys
        → kind_of n (cond (not c) (y ∷ filter (λ a. not (is_in left a.name)) ys) (filter (λ a. not (is_in left a.name)) ys)) ≡ (if b then Some y.kind else kind_of n ys)
    by true e true g ih = absurd (true≢false (sym g ∙ sym (ap (is_in left) ((name_eq_decides n y.name).0 e)) ∙ f))
    by true e false g ih = ap (λ b. if b then Some y.kind else kind_of n (filter (λ a. not (is_in left a.name)) ys)) e
    by false e true g ih = ih
    by false e false g ih = ap (λ b. if b then Some y.kind else kind_of n (filter (λ a. not (is_in left a.name)) ys)) e ∙ ih

joined_pair : (n : Name) (left right : List Attr) → kind_of n (join_attrs left right) ≡ or_kind (kind_of n left) (kind_of n right)
unfolding or_kind
joined_pair n left right =
    let more = filter (λ a. not (is_in (names_of left) a.name)) right in
    appended n left more
    ∙ elim (cases_Bool (is_in (names_of left) n)) [
      | inl t ↦ let k = kind_known n left t in ap (λ o. or_kind o (kind_of n more)) k.1 ∙ sym (ap (λ o. or_kind o (kind_of n right)) k.1)
      | inr f ↦ ap (or_kind (kind_of n left)) (kept n (names_of left) f right)
    ]

folded : (n : Name) (spec : Spec) (numbers : List ℕ) (left : List Attr)
    → kind_of n (fold join_attrs left (map (λ i. (relation_at spec i).attrs) numbers)) ≡ fold or_kind (kind_of n left) (map (λ i. kind_of n (relation_at spec i).attrs) numbers)
folded n spec [] left = refl
folded n spec (i ∷ numbers) left =
    folded n spec numbers (join_attrs left (relation_at spec i).attrs)
    ∙ ap (λ o. fold or_kind o (map (λ j. kind_of n (relation_at spec j).attrs) numbers)) (joined_pair n left (relation_at spec i).attrs)

settled : (k : Kind) (os : List (Option Kind)) → fold or_kind (Some k) os ≡ Some k
unfolding or_kind
settled k [] = refl
settled k (o ∷ os) = settled k os

-- no kind, or this one
abbrev IsKindOrNone : Kind → Option Kind → Type 0
IsKindOrNone k o = (o ≡ None) ⊎ (o ≡ Some k)

first_kind : (f : ℕ → Option Kind) (k : Kind) (numbers : List ℕ) (i : ℕ) → Contains numbers i → f i ≡ Some k → ((j : ℕ) → Contains numbers j → IsKindOrNone k (f j)) → fold or_kind None (map f numbers) ≡ Some k
unfolding or_kind
first_kind f k [] i h e all = absurd (Contains-nil i h)
first_kind f k (j ∷ numbers) i h e all =
    elim (all j (Contains-here j numbers)) [
      | inl none ↦
          ap (λ o. fold or_kind o (map f numbers)) none
          ∙ elim (Contains-cases j i numbers h) [
            | inl same ↦ absurd (some_none k (sym e ∙ ap f (sym same) ∙ none))
            | inr m ↦ first_kind f k numbers i m e (λ q l. all q (Contains-there j q numbers l))
          ]
      | inr some ↦ ap (λ o. fold or_kind o (map f numbers)) some ∙ settled k (map f numbers)
    ]
  where
    some_none : (x : Kind) → Some x ≡ None → ⊥
    some_none x q = cc

-- a name has in the join the kind that it has in each joined relation
pub joined_kind : (n : Name) (spec : Spec) (numbers : List ℕ) (k : Kind) (i : ℕ) → Contains numbers i → kind_of n (relation_at spec i).attrs ≡ Some k
    → ((j : ℕ) → Contains numbers j → (kind_of n (relation_at spec j).attrs ≡ None) ⊎ (kind_of n (relation_at spec j).attrs ≡ Some k))
    → kind_of n (joined_attrs spec numbers) ≡ Some k
joined_kind n spec numbers k i h e all = folded n spec numbers [] ∙ first_kind (λ j. kind_of n (relation_at spec j).attrs) k numbers i h e all

-- ---- how many attributes a join has

folded_length : (spec : Spec) (most : (i : ℕ) → length (relation_at spec i).attrs ≤ 31) (numbers : List ℕ) (left : List Attr)
    → length (fold join_attrs left (map (λ i. (relation_at spec i).attrs) numbers)) ≤ length left + 31 * length numbers
folded_length spec most [] left = omega arith
folded_length spec most (i ∷ numbers) left =
    let right = (relation_at spec i).attrs in
    let more = filter (λ a. not (is_in (names_of left) a.name)) right in
    let rest = folded_length spec most numbers (join_attrs left right) in
    let longer : length (join_attrs left right) ≡ length left + length more = length-append left more in
    let fewer = filter_at_most (λ a. not (is_in (names_of left) a.name)) right in
    let narrow = most i in
    omega (arith, rest, longer, fewer, narrow)

pub joined_length : (spec : Spec) → ((i : ℕ) → length (relation_at spec i).attrs ≤ 31) → (numbers : List ℕ) → length (joined_attrs spec numbers) ≤ 31 * length numbers
joined_length spec most numbers = let h = folded_length spec most numbers [] in omega (arith, h)
