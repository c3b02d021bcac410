-- Values that come twice are those that different rows carry.
use Rattle.std.proofs.Common.{◌≡◌, ℕ, ◌+◌, ◌<◌, length, take, get_or, Bool, true, false, not, ◌&&◌, ◌||◌, List, [], ◌∷◌, ◌++◌, map, filter, refl, sym, ap, subst, ◌∙◌, true≢false, inl, inr, ◌⊎◌}
use Rattle.std.specs.Cmp.{both_ways}
use Rattle.std.specs.List.{list_any, AllByRecursion}
use Rattle.std.proofs.lemmas.List.{map-append, take_more}
use Rattle.std.proofs.lemmas.Map.Keys.{IsDistinct-head, IsDistinct-tail}
use Rattle.wh_base.specs.declared.value.Value.{Value}
use Rattle.wh_base.specs.RowSet.{has, AreDistinct}
use Rattle.wh_base.specs.Value.{row_eq}
use Rattle.wh_base.specs.ValueLaws.{row_eq-Decides, row_eq_equiv}
use Rattle.wh_base.proofs.RowSets.{has-append, has-filter, has_itself, from_map, into_map}
use Rattle.wh_load.specs.Repeats.{comes_twice}

abbrev Row : Type 0
Row = List Value

or_cases : (a b : Bool) → (a || b) ≡ true → (a ≡ true) ⊎ (b ≡ true)
or_cases true b h = inl refl
or_cases false b h = inr h

or_left : (a b : Bool) → a ≡ true → (a || b) ≡ true
or_left a b h = ap (λ c. c || b) h

or_right : (a b : Bool) → b ≡ true → (a || b) ≡ true
or_right true b h = refl
or_right false b h = h

and_left : (a b : Bool) → (a && b) ≡ true → a ≡ true
and_left true b h = refl
and_left false b h = h

and_right : (a b : Bool) → (a && b) ≡ true → b ≡ true
and_right true b h = h
and_right false b h = absurd (true≢false (sym h))

both : (a b : Bool) → a ≡ true → b ≡ true → (a && b) ≡ true
both a b h k = ap (λ c. c && b) h ∙ k

-- ---- one value more

swapped : (a b : Bool) → (a || b) ≡ (b || (a || false))
swapped true true = refl
swapped true false = refl
swapped false true = refl
swapped false false = refl

pub has_more : (ks : List (List Value)) (k q : List Value) → (row_eq k q || has ks q) ≡ has (ks ++ k ∷ []) q
has_more ks k q = ap (λ b. b || has ks q) (row_eq_equiv.symm k q) ∙ swapped (row_eq q k) (has ks q) ∙ sym (has-append ks (k ∷ []) q)

turned : (a h e t : Bool) → ((a && (h || e)) || (t || (h && e))) ≡ (((a && h) || t) || ((a || h) && e))
turned true true e t = refl
turned true false true true = refl
turned true false true false = refl
turned true false false true = refl
turned true false false false = refl
turned false h e t = refl

none : (a : Bool) → ((a && false) || false) ≡ false
none true = refl
none false = refl

or_false : (b : Bool) → (b || false) ≡ b
or_false true = refl
or_false false = refl

twice_more : (ks : List Row) (k q : Row) → comes_twice (ks ++ k ∷ []) q ≡ (comes_twice ks q || (has ks q && row_eq q k))
twice_more [] k q = none (row_eq q k)
twice_more (x ∷ ks) k q =
    (λ i. (row_eq q x && (has-append ks (k ∷ []) q ∙ ap (λ b. has ks q || b) (or_false (row_eq q k))) i) || twice_more ks k q i)
    ∙ turned (row_eq q x) (has ks q) (row_eq q k) (comes_twice ks q)

-- the value was there: it is listed once more
pub twice_held : (ks again : List (List Value)) (k q : List Value) → has ks k ≡ true → has again q ≡ comes_twice ks q → has (again ++ k ∷ []) q ≡ comes_twice (ks ++ k ∷ []) q
twice_held ks again k q held so_far = has-append again (k ∷ []) q ∙ (λ i. so_far i || by (row_eq q k) refl i) ∙ sym (twice_more ks k q)
  where
    by : (b : Bool) → row_eq q k ≡ b → (row_eq q k || false) ≡ (has ks q && row_eq q k)
    by true e = or_left (row_eq q k) false e ∙ sym (both (has ks q) (row_eq q k) (ap (has ks) ((row_eq-Decides q k).0 e) ∙ held) e)
    by false e = ap (λ b. b || false) e ∙ sym (ap (λ b. has ks q && b) e ∙ and_false (has ks q))
      where
        and_false : (b : Bool) → (b && false) ≡ false
        and_false true = refl
        and_false false = refl

-- it was not
pub twice_new : (ks again : List (List Value)) (k q : List Value) → has ks k ≡ false → has again q ≡ comes_twice ks q → has again q ≡ comes_twice (ks ++ k ∷ []) q
twice_new ks again k q held so_far = so_far ∙ sym (twice_more ks k q ∙ ap (λ b. comes_twice ks q || b) (by (row_eq q k) refl) ∙ or_false (comes_twice ks q))
  where
    and_false : (b : Bool) → (b && false) ≡ false
    and_false true = refl
    and_false false = refl

    by : (b : Bool) → row_eq q k ≡ b → (has ks q && row_eq q k) ≡ false
    by true e = ap (λ b. b && row_eq q k) (ap (has ks) ((row_eq-Decides q k).0 e) ∙ held)
    by false e = ap (λ b. has ks q && b) e ∙ and_false (has ks q)

pub values_more : (f : List Value → List Value) (rows : List (List Value)) (i : ℕ) (row value : List Value) → i < length rows → row ≡ get_or rows i row → value ≡ f row
    → map f (take i rows) ++ value ∷ [] ≡ map f (take (i + 1) rows)
values_more f rows i row value within at is =
    (λ j. map f (take i rows) ++ (is ∙ ap f at) j ∷ [])
    ∙ sym (map-append f (take i rows) (get_or rows i row ∷ []))
    ∙ ap (map f) (sym (take_more rows i row within))

-- ---- values of distinct rows

from_any : (p : Row → Bool) (xs : List Row) → list_any p xs ≡ true → (y : Row) × (has xs y ≡ true) × (p y ≡ true)
from_any p [] h = absurd (true≢false (sym h))
from_any p (x ∷ xs) h =
    elim (or_cases (p x) (list_any p xs) h) [
      | inl k ↦ (x, or_left (row_eq x x) (has xs x) (has_itself x), k)
      | inr k ↦ let m = from_any p xs k in (m.0, or_right (row_eq m.0 x) (has xs m.0) m.1, m.2)
    ]

into_any : (p : Row → Bool) (xs : List Row) (y : Row) → has xs y ≡ true → p y ≡ true → list_any p xs ≡ true
into_any p [] y h k = h
into_any p (x ∷ xs) y h k =
    elim (or_cases (row_eq y x) (has xs y) h) [
      | inl e ↦ or_left (p x) (list_any p xs) (ap p (sym ((row_eq-Decides y x).0 e)) ∙ k)
      | inr t ↦ or_right (p x) (list_any p xs) (into_any p xs y t k)
    ]

at_held : (P : Row → Type 0) (xs : List Row) (y : Row) → AllByRecursion P xs → has xs y ≡ true → P y
at_held P [] y a h = absurd (true≢false (sym h))
at_held P (x ∷ xs) y a h =
    elim (or_cases (row_eq y x) (has xs y) h) [
      | inl e ↦ subst P (sym ((row_eq-Decides y x).0 e)) a.0
      | inr t ↦ at_held P xs y a.1 t
    ]

-- two different rows with one value
record Sharing (f : Row → Row) (rows : List Row) (q : Row) : Type 0 where
  left : Row
  right : Row
  has_left : has rows left ≡ true
  has_right : has rows right ≡ true
  differ : row_eq left right ≡ false
  left_is : q ≡ f left
  right_is : q ≡ f right

sharing : (f : Row → Row) (rows : List Row) (q : Row) → AreDistinct rows → comes_twice (map f rows) q ≡ true → Sharing f rows q
sharing f [] q d h = absurd (true≢false (sym h))
sharing f (x ∷ xs) q d h =
    elim (or_cases (row_eq q (f x) && has (map f xs) q) (comes_twice (map f xs) q) h) [
      | inl k ↦
          let m = from_map f xs q (and_right (row_eq q (f x)) (has (map f xs) q) k) in
          record {
            left = x;
            right = m.0;
            has_left = or_left (row_eq x x) (has xs x) (has_itself x);
            has_right = or_right (row_eq m.0 x) (has xs m.0) m.1;
            differ = at_held (λ y. row_eq x y ≡ false) xs m.0 (IsDistinct-head row_eq x xs d) m.1;
            left_is = (row_eq-Decides q (f x)).0 (and_left (row_eq q (f x)) (has (map f xs) q) k);
            right_is = m.2;
          }
      | inr k ↦
          let m = sharing f xs q (IsDistinct-tail row_eq x xs d) k in
          record {
            left = m.left;
            right = m.right;
            has_left = or_right (row_eq m.left x) (has xs m.left) m.has_left;
            has_right = or_right (row_eq m.right x) (has xs m.right) m.has_right;
            differ = m.differ;
            left_is = m.left_is;
            right_is = m.right_is;
          }
    ]

-- a value at the head and in the tail
at_head : (f : Row → Row) (x : Row) (xs : List Row) (y q : Row) → q ≡ f x → has xs y ≡ true → q ≡ f y → comes_twice (map f (x ∷ xs)) q ≡ true
at_head f x xs y q here h there =
    or_left (row_eq q (f x) && has (map f xs) q) (comes_twice (map f xs) q)
    (both (row_eq q (f x)) (has (map f xs) q) ((row_eq-Decides q (f x)).1 here) (subst (λ z. has (map f xs) z ≡ true) (sym there) (into_map f xs y h)))

same_row : (x y z : Row) → row_eq x z ≡ true → row_eq y z ≡ true → row_eq x y ≡ true
same_row x y z h k = (row_eq-Decides x y).1 ((row_eq-Decides x z).0 h ∙ sym ((row_eq-Decides y z).0 k))

twice_of : (f : Row → Row) (rows : List Row) (q : Row) → Sharing f rows q → comes_twice (map f rows) q ≡ true
twice_of f [] q s = s.has_left
twice_of f (x ∷ xs) q s =
    elim (or_cases (row_eq s.left x) (has xs s.left) s.has_left) [
      | inl l ↦ elim (or_cases (row_eq s.right x) (has xs s.right) s.has_right) [
        | inl r ↦ absurd (true≢false (sym (same_row s.left s.right x l r) ∙ s.differ))
        | inr r ↦ at_head f x xs s.right q (s.left_is ∙ ap f ((row_eq-Decides s.left x).0 l)) r s.right_is
      ]
      | inr l ↦ elim (or_cases (row_eq s.right x) (has xs s.right) s.has_right) [
        | inl r ↦ at_head f x xs s.left q (s.right_is ∙ ap f ((row_eq-Decides s.right x).0 r)) l s.left_is
        | inr r ↦ or_right (row_eq q (f x) && has (map f xs) q) (comes_twice (map f xs) q)
            (twice_of f xs q (record { left = s.left; right = s.right; has_left = l; has_right = r; differ = s.differ; left_is = s.left_is; right_is = s.right_is }))
      ]
    ]

module _ (f : List Value → List Value) (rows : List (List Value)) where
  abbrev shares : List Value → Bool
  shares x = list_any (λ y. not (row_eq x y) && row_eq (f x) (f y)) rows

  into_sharing : (q : Row) → Sharing f rows q → has (map f (filter shares rows)) q ≡ true
  into_sharing q s =
      let other : list_any (λ y. not (row_eq s.left y) && row_eq (f s.left) (f y)) rows ≡ true =
      into_any (λ y. not (row_eq s.left y) && row_eq (f s.left) (f y)) rows s.right s.has_right
      (both (not (row_eq s.left s.right)) (row_eq (f s.left) (f s.right)) (ap not s.differ) ((row_eq-Decides (f s.left) (f s.right)).1 (sym s.left_is ∙ s.right_is))) in
      subst (λ z. has (map f (filter shares rows)) z ≡ true) (sym s.left_is)
      (into_map f (filter shares rows) s.left (has-filter shares rows s.left ∙ both (has rows s.left) (shares s.left) s.has_left other))

  not_true : (b : Bool) → not b ≡ true → b ≡ false
  not_true true h = sym h
  not_true false h = refl

  from_sharing : (q : Row) → has (map f (filter shares rows)) q ≡ true → Sharing f rows q
  from_sharing q h =
      let m = from_map f (filter shares rows) q h in
      let kept : (has rows m.0 && shares m.0) ≡ true = sym (has-filter shares rows m.0) ∙ m.1 in
      let n = from_any (λ y. not (row_eq m.0 y) && row_eq (f m.0) (f y)) rows (and_right (has rows m.0) (shares m.0) kept) in
      record {
        left = m.0;
        right = n.0;
        has_left = and_left (has rows m.0) (shares m.0) kept;
        has_right = n.1;
        differ = not_true (row_eq m.0 n.0) (and_left (not (row_eq m.0 n.0)) (row_eq (f m.0) (f n.0)) n.2);
        left_is = m.2;
        right_is = m.2 ∙ (row_eq-Decides (f m.0) (f n.0)).0 (and_right (not (row_eq m.0 n.0)) (row_eq (f m.0) (f n.0)) n.2);
      }

  -- of distinct rows, the values that come twice are those of rows that share theirs with another
  pub twice_shared : AreDistinct rows → (q : List Value) → comes_twice (map f rows) q ≡ has (map f (filter shares rows)) q
  twice_shared d q = both_ways (comes_twice (map f rows) q) (has (map f (filter shares rows)) q)
      (λ h. into_sharing q (sharing f rows q d h)) (λ h. twice_of f rows q (from_sharing q h))
