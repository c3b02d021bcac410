-- Lists of rows as sets.
use Rattle.std.proofs.Common.{◌≡◌, Bool, true, false, cond, ◌&&◌, ◌||◌, List, [], ◌∷◌, ◌++◌, map, filter, refl, sym, ap, subst, ◌∙◌, true≢false, inl, inr, ◌⊎◌}
use Rattle.std.specs.Cmp.{both_ways}
use Rattle.std.specs.List.{flat_map, IsDistinct, AllByRecursion}
use Rattle.std.proofs.lemmas.Map.Keys.{IsDistinct-head, IsDistinct-tail, IsDistinct-cons}
use Rattle.wh_base.specs.declared.value.Value.{Value}
use Rattle.wh_base.specs.RowSet.{has, SameRows, IsSetOf}
use Rattle.wh_base.specs.Value.{row_eq}
use Rattle.wh_base.specs.ValueLaws.{row_eq-Decides}

abbrev Row : Type 0
Row = List Value

or_false : (b : Bool) → (b || false) ≡ b
or_false true = refl
or_false false = refl

or_assoc : (a b c : Bool) → ((a || b) || c) ≡ (a || (b || c))
or_assoc true b c = refl
or_assoc false b c = refl

or_cases : (a b : Bool) → (a || b) ≡ true → (a ≡ true) ⊎ (b ≡ true)
or_cases true b h = inl refl
or_cases false b h = inr h

or_left : (a b : Bool) → a ≡ true → (a || b) ≡ true
or_left a b h = ap (λ c. c || b) h

or_right : (a b : Bool) → b ≡ true → (a || b) ≡ true
or_right true b h = refl
or_right false b h = h

-- membership after each way to make a list
pub has-append : (xs ys : List Row) (r : Row) → has (xs ++ ys) r ≡ (has xs r || has ys r)
has-append [] ys r = refl
has-append (x ∷ xs) ys r = ap (λ b. row_eq r x || b) (has-append xs ys r) ∙ sym (or_assoc (row_eq r x) (has xs r) (has ys r))

keeps_one : (p : Row → Bool) (r x : Row) (rest : Bool) → (row_eq r x ≡ true → p x ≡ p r) → (c : Bool) → p x ≡ c → (ks : List Row) → has ks r ≡ (rest && p r) → has (cond c (x ∷ ks) ks) r ≡ ((row_eq r x || rest) && p r)
keeps_one p r x rest same true e ks h = by (row_eq r x) refl
  where
    by : (b : Bool) → row_eq r x ≡ b → (row_eq r x || has ks r) ≡ ((row_eq r x || rest) && p r)
    by true k = ap (λ b. b || has ks r) k ∙ sym (ap (λ b. (b || rest) && p r) k ∙ (sym (same k) ∙ e))
    by false k = ap (λ b. b || has ks r) k ∙ h ∙ sym (ap (λ b. (b || rest) && p r) k)
keeps_one p r x rest same false e ks h = by (row_eq r x) refl
  where
    and_false : (b : Bool) → (b && false) ≡ false
    and_false true = refl
    and_false false = refl

    by : (b : Bool) → row_eq r x ≡ b → has ks r ≡ ((row_eq r x || rest) && p r)
    by true k = let none : p r ≡ false = sym (same k) ∙ e in h ∙ (ap (λ b. rest && b) none ∙ and_false rest) ∙ sym (ap (λ b. (b || rest) && p r) k ∙ none)
    by false k = h ∙ sym (ap (λ b. (b || rest) && p r) k)

pub has-filter : (p : List Value → Bool) (xs : List (List Value)) (r : List Value) → has (filter p xs) r ≡ (has xs r && p r)
has-filter p [] r = refl
has-filter p (x ∷ xs) r = keeps_one p r x (has xs r) (λ k. ap p (sym ((row_eq-Decides r x).0 k))) (p x) refl (filter p xs) (has-filter p xs r)

pub has_itself : (r : List Value) → row_eq r r ≡ true
has_itself r = (row_eq-Decides r r).1 refl

-- a row of a mapped list comes from a row of the list
pub from_map : (f : List Value → List Value) (xs : List (List Value)) (r : List Value) → has (map f xs) r ≡ true → (x : List Value) × (has xs x ≡ true) × (r ≡ f x)
from_map f [] r h = absurd (true≢false (sym h))
from_map f (x ∷ xs) r h =
    elim (or_cases (row_eq r (f x)) (has (map f xs) r) h) [
      | inl k ↦ (x, or_left (row_eq x x) (has xs x) (has_itself x), (row_eq-Decides r (f x)).0 k)
      | inr k ↦ let m = from_map f xs r k in (m.0, or_right (row_eq m.0 x) (has xs m.0) m.1, m.2)
    ]

pub into_map : (f : List Value → List Value) (xs : List (List Value)) (x : List Value) → has xs x ≡ true → has (map f xs) (f x) ≡ true
into_map f [] x h = h
into_map f (y ∷ xs) x h =
    elim (or_cases (row_eq x y) (has xs x) h) [
      | inl k ↦ or_left (row_eq (f x) (f y)) (has (map f xs) (f x)) ((row_eq-Decides (f x) (f y)).1 (ap f ((row_eq-Decides x y).0 k)))
      | inr k ↦ or_right (row_eq (f x) (f y)) (has (map f xs) (f x)) (into_map f xs x k)
    ]

-- a row of a flattened list comes from what one row gives
pub from_flat_map : (f : List Value → List (List Value)) (xs : List (List Value)) (r : List Value) → has (flat_map f xs) r ≡ true → (x : List Value) × (has xs x ≡ true) × (has (f x) r ≡ true)
from_flat_map f [] r h = absurd (true≢false (sym h))
from_flat_map f (x ∷ xs) r h =
    elim (or_cases (has (f x) r) (has (flat_map f xs) r) (sym (has-append (f x) (flat_map f xs) r) ∙ h)) [
      | inl k ↦ (x, or_left (row_eq x x) (has xs x) (has_itself x), k)
      | inr k ↦ let m = from_flat_map f xs r k in (m.0, or_right (row_eq m.0 x) (has xs m.0) m.1, m.2)
    ]

pub into_flat_map : (f : List Value → List (List Value)) (xs : List (List Value)) (x r : List Value) → has xs x ≡ true → has (f x) r ≡ true → has (flat_map f xs) r ≡ true
into_flat_map f [] x r h k = absurd (true≢false (sym h))
into_flat_map f (y ∷ xs) x r h k =
    has-append (f y) (flat_map f xs) r ∙
    elim (or_cases (row_eq x y) (has xs x) h) [
      | inl m ↦ or_left (has (f y) r) (has (flat_map f xs) r) (subst (λ z. has (f z) r ≡ true) ((row_eq-Decides x y).0 m) k)
      | inr m ↦ or_right (has (f y) r) (has (flat_map f xs) r) (into_flat_map f xs x r m k)
    ]

-- the ways to make a list respect the sets
pub SameRows-append : (xs ys us vs : List (List Value)) → SameRows xs us → SameRows ys vs → SameRows (xs ++ ys) (us ++ vs)
SameRows-append xs ys us vs h k r = has-append xs ys r ∙ (λ i. h r i || k r i) ∙ sym (has-append us vs r)

pub SameRows-filter : (p q : List Value → Bool) → ((r : List Value) → p r ≡ q r) → (xs ys : List (List Value)) → SameRows xs ys → SameRows (filter p xs) (filter q ys)
SameRows-filter p q e xs ys h r = has-filter p xs r ∙ (λ i. h r i && e r i) ∙ sym (has-filter q ys r)

map_within : (f : Row → Row) (xs ys : List Row) → SameRows xs ys → (r : Row) → has (map f xs) r ≡ true → has (map f ys) r ≡ true
map_within f xs ys h r k =
    let m = from_map f xs r k in
    subst (λ z. has (map f ys) z ≡ true) (sym m.2) (into_map f ys m.0 (sym (h m.0) ∙ m.1))

pub SameRows-map : (f : List Value → List Value) (xs ys : List (List Value)) → SameRows xs ys → SameRows (map f xs) (map f ys)
SameRows-map f xs ys h r = both_ways (has (map f xs) r) (has (map f ys) r) (map_within f xs ys h r) (map_within f ys xs (λ q. sym (h q)) r)

flat_map_within : (f g : Row → List Row) → ((x : Row) → SameRows (f x) (g x)) → (xs ys : List Row) → SameRows xs ys → (r : Row) → has (flat_map f xs) r ≡ true → has (flat_map g ys) r ≡ true
flat_map_within f g e xs ys h r k =
    let m = from_flat_map f xs r k in
    into_flat_map g ys m.0 r (sym (h m.0) ∙ m.1) (sym (e m.0 r) ∙ m.2)

pub SameRows-flat_map : (f g : List Value → List (List Value)) → ((x : List Value) → SameRows (f x) (g x)) → (xs ys : List (List Value)) → SameRows xs ys → SameRows (flat_map f xs) (flat_map g ys)
SameRows-flat_map f g e xs ys h r = both_ways (has (flat_map f xs) r) (has (flat_map g ys) r) (flat_map_within f g e xs ys h r) (flat_map_within g f (λ x q. sym (e x q)) ys xs (λ q. sym (h q)) r)

-- what is kept of distinct rows is distinct
all_kept : (P : Row → Type 0) (p : Row → Bool) (xs : List Row) → AllByRecursion P xs → AllByRecursion P (filter p xs)
all_kept P p [] h = h
all_kept P p (x ∷ xs) h = by (p x) (all_kept P p xs h.1)
  where
    by : (c : Bool) → AllByRecursion P (filter p xs) → AllByRecursion P (cond c (x ∷ filter p xs) (filter p xs))
    by true k = (h.0, k)
    by false k = k

pub IsDistinct-filter : (p : List Value → Bool) (xs : List (List Value)) → IsDistinct row_eq xs → IsDistinct row_eq (filter p xs)
IsDistinct-filter p [] h = h
IsDistinct-filter p (x ∷ xs) h = by (p x) (IsDistinct-filter p xs (IsDistinct-tail row_eq x xs h))
  where
    by : (c : Bool) → IsDistinct row_eq (filter p xs) → IsDistinct row_eq (cond c (x ∷ filter p xs) (filter p xs))
    by true k = IsDistinct-cons row_eq x (filter p xs) (all_kept (λ y. row_eq x y ≡ false) p xs (IsDistinct-head row_eq x xs h)) k
    by false k = k

-- a filter of a set of rows is the filter of what it stands for
pub IsSetOf-filter : (p q : List Value → Bool) → ((r : List Value) → p r ≡ q r) → (kept xs ys : List (List Value)) → kept ≡ filter p xs → IsSetOf xs ys → IsSetOf kept (filter q ys)
IsSetOf-filter p q e kept xs ys is h = record {
  distinct = subst (IsDistinct row_eq) (sym is) (IsDistinct-filter p xs h.distinct);
  same = λ r. ap (λ k. has k r) is ∙ SameRows-filter p q e xs ys h.same r;
}

pub IsSetOf-itself : (xs ys : List (List Value)) → xs ≡ ys → IsDistinct row_eq ys → IsSetOf xs ys
IsSetOf-itself xs ys is h = record { distinct = subst (IsDistinct row_eq) (sym is) h; same = λ r. ap (λ k. has k r) is }
