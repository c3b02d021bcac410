-- Names that stand beside others, as the left columns of an inclusion beside the right ones; names that are distinct.
use Rattle.std.proofs.Common.{◌≡◌, ℕ, suc, Bool, true, false, cond, not, ◌||◌, List, [], ◌∷◌, map, filter, length, refl, sym, ◌∙◌, ap, inl, inr, suc-ne-zero, unwrap_or, true≢false}
use Rattle.std.specs.Prelude.{slice_get}
use Rattle.std.specs.Cmp.{first_so, second_so}
use Rattle.std.specs.Cmp.Lexicographic.{bytes_decides}
use Rattle.std.specs.List.{IsDistinct, AllByRecursion}
use Rattle.std.proofs.lemmas.Map.Keys.{IsDistinct-head, IsDistinct-tail}
use Rattle.wh_base.specs.declared.value.Value.{Value}
use Rattle.wh_base.specs.Columns.{name_eq, place_of, value_at, value_of, is_in}
use Rattle.wh_expr.specs.Typing.{are_distinct}
use Rattle.wh_inverse.proofs.Tests.{or_cases, or_left, or_right, and_so}
use Rattle.wh_inverse.proofs.Assignments.{in-filter}

abbrev pub Name : Type 0
Name = List ℕ

-- ---- distinct names

not-from : (b : Bool) → b ≡ false → not b ≡ true
not-from true e = absurd (true≢false e)
not-from false e = refl

not-true : (b : Bool) → not b ≡ true → b ≡ false
not-true true e = absurd (true≢false (sym e))
not-true false e = refl

-- a test that cannot be true is false
pub is-false : (b : Bool) → (b ≡ true → ⊥) → b ≡ false
is-false true h = absurd (h refl)
is-false false h = refl

none_is : (n : Name) (ns : List Name) → AllByRecursion (λ m. name_eq n m ≡ false) ns → is_in ns n ≡ false
none_is n [] h = refl
none_is n (m ∷ ns) h = ap (λ b. b || is_in ns n) h.0 ∙ none_is n ns h.1

pub distinct-test : (ns : List Name) → IsDistinct name_eq ns → are_distinct ns ≡ true
distinct-test [] h = refl
distinct-test (n ∷ ns) h = and_so (not (is_in ns n)) (are_distinct ns) (not-from (is_in ns n) (none_is n ns (IsDistinct-head name_eq n ns h))) (distinct-test ns (IsDistinct-tail name_eq n ns h))

pub distinct-filter : (p : Name → Bool) (ns : List Name) → are_distinct ns ≡ true → are_distinct (filter p ns) ≡ true
distinct-filter p [] h = refl
distinct-filter p (n ∷ ns) h = by (p n) (distinct-filter p ns (second_so (not (is_in ns n)) (are_distinct ns) h))
  where
    by : (b : Bool) → are_distinct (filter p ns) ≡ true → are_distinct (cond b (n ∷ filter p ns) (filter p ns)) ≡ true
    by true k =
        and_so (not (is_in (filter p ns) n)) (are_distinct (filter p ns))
        (not-from (is_in (filter p ns) n) (is-false (is_in (filter p ns) n) (λ e. true≢false (sym (in-filter p ns n e).1 ∙ not-true (is_in ns n) (first_so (not (is_in ns n)) (are_distinct ns) h))))) k
    by false k = k

-- a name among those that others become
in-map : (f : Name → Name) (ns : List Name) (n : Name) → is_in (map f ns) n ≡ true → (m : Name) × (is_in ns m ≡ true) × (n ≡ f m)
in-map f [] n h = absurd (true≢false (sym h))
in-map f (m ∷ ns) n h =
    elim (or_cases (name_eq n (f m)) (is_in (map f ns) n) h) [
      | inl e ↦ (m, or_left (name_eq m m) (is_in ns m) ((bytes_decides m m).1 refl), (bytes_decides n (f m)).0 e)
      | inr k ↦ let r = in-map f ns n k in (r.0, or_right (name_eq r.0 m) (is_in ns r.0) r.1, r.2)
    ]

pub distinct-map : (f : Name → Name) (ns : List Name) → ((n m : Name) → is_in ns n ≡ true → is_in ns m ≡ true → f n ≡ f m → n ≡ m) → are_distinct ns ≡ true → are_distinct (map f ns) ≡ true
distinct-map f [] apart h = refl
distinct-map f (n ∷ ns) apart h =
    let own : is_in (n ∷ ns) n ≡ true = or_left (name_eq n n) (is_in ns n) ((bytes_decides n n).1 refl) in
    let fresh : is_in (map f ns) (f n) ≡ false = is-false (is_in (map f ns) (f n)) (λ e.
    let m = in-map f ns (f n) e in
    let same : n ≡ m.0 = apart n m.0 own (or_right (name_eq m.0 n) (is_in ns m.0) m.1) m.2 in
    true≢false (sym (ap (is_in ns) same ∙ m.1) ∙ not-true (is_in ns n) (first_so (not (is_in ns n)) (are_distinct ns) h))) in
    and_so (not (is_in (map f ns) (f n))) (are_distinct (map f ns)) (not-from (is_in (map f ns) (f n)) fresh)
    (distinct-map f ns (λ a b i k. apart a b (or_right (name_eq a n) (is_in ns a) i) (or_right (name_eq b n) (is_in ns b) k)) (second_so (not (is_in ns n)) (are_distinct ns) h))

-- ---- the name at the place of another name in a list beside it

abbrev pub beside : List Name → List Name → Name → Name
beside lefts rights n = unwrap_or (slice_get lefts (place_of rights n)) []

module _ (x : Name) (xs : List Name) (t : Name) (ts : List Name) (n : Name) where
  abbrev at_place : Bool → Name
  at_place b = unwrap_or (slice_get (x ∷ xs) (cond b 0 (suc (place_of ts n)))) []

  beside_first : name_eq n t ≡ true → beside (x ∷ xs) (t ∷ ts) n ≡ x
  beside_first e = ap at_place e

  beside_later : name_eq n t ≡ false → beside (x ∷ xs) (t ∷ ts) n ≡ beside xs ts n
  beside_later e = ap at_place e

  not_first : name_eq n t ≡ false → is_in (t ∷ ts) n ≡ true → is_in ts n ≡ true
  not_first e h = sym (ap (λ b. b || is_in ts n) e) ∙ h

pub beside_in : (lefts rights : List Name) → length lefts ≡ length rights → (n : Name) → is_in rights n ≡ true → is_in lefts (beside lefts rights n) ≡ true
beside_in [] [] l n h = absurd (true≢false (sym h))
beside_in [] (t ∷ ts) l n h = absurd (suc-ne-zero _ (sym l))
beside_in (x ∷ xs) [] l n h = absurd (true≢false (sym h))
beside_in (x ∷ xs) (t ∷ ts) l n h = by (name_eq n t) refl (beside_in xs ts (cc l) n)
  where
    by : (b : Bool) → name_eq n t ≡ b → (is_in ts n ≡ true → is_in xs (beside xs ts n) ≡ true) → is_in (x ∷ xs) (beside (x ∷ xs) (t ∷ ts) n) ≡ true
    by true e more = ap (is_in (x ∷ xs)) (beside_first x xs t ts n e) ∙ or_left (name_eq x x) (is_in xs x) ((bytes_decides x x).1 refl)
    by false e more = ap (is_in (x ∷ xs)) (beside_later x xs t ts n e) ∙ or_right (name_eq (beside xs ts n) x) (is_in xs (beside xs ts n)) (more (not_first x xs t ts n e h))

differs : (h : Name) (hs : List Name) → IsDistinct name_eq (h ∷ hs) → (n : Name) → is_in hs n ≡ true → h ≡ n → ⊥
differs h hs d n k e = true≢false (sym (ap (is_in hs) e ∙ k) ∙ none_is h hs (IsDistinct-head name_eq h hs d))

-- distinct left names tell the right ones apart
pub beside_apart : (lefts rights : List Name) → length lefts ≡ length rights → IsDistinct name_eq lefts → (n m : Name) → is_in rights n ≡ true → is_in rights m ≡ true
    → beside lefts rights n ≡ beside lefts rights m → n ≡ m
beside_apart [] [] l d n m h k e = absurd (true≢false (sym h))
beside_apart [] (t ∷ ts) l d n m h k e = absurd (suc-ne-zero _ (sym l))
beside_apart (x ∷ xs) [] l d n m h k e = absurd (true≢false (sym h))
beside_apart (x ∷ xs) (t ∷ ts) l d n m h k e = by (name_eq n t) (name_eq m t) refl refl (beside_apart xs ts (cc l) (IsDistinct-tail name_eq x xs d) n m)
  where
    by : (a b : Bool) → name_eq n t ≡ a → name_eq m t ≡ b → (is_in ts n ≡ true → is_in ts m ≡ true → beside xs ts n ≡ beside xs ts m → n ≡ m) → n ≡ m
    by true true p q more = (bytes_decides n t).0 p ∙ sym ((bytes_decides m t).0 q)
    by true false p q more =
        absurd (differs x xs d (beside xs ts m) (beside_in xs ts (cc l) m (not_first x xs t ts m q k)) (sym (beside_first x xs t ts n p) ∙ e ∙ beside_later x xs t ts m q))
    by false true p q more =
        absurd (differs x xs d (beside xs ts n) (beside_in xs ts (cc l) n (not_first x xs t ts n p h)) (sym (beside_first x xs t ts m q) ∙ sym e ∙ beside_later x xs t ts n p))
    by false false p q more = more (not_first x xs t ts n p h) (not_first x xs t ts m q k) (sym (beside_later x xs t ts n p) ∙ e ∙ beside_later x xs t ts m q)

-- values that stand beside names
pub value_beside : (f : List ℕ → Value) (lefts rights : List Name) → length lefts ≡ length rights → (n : Name) → is_in rights n ≡ true → value_of rights (map f lefts) n ≡ f (beside lefts rights n)
value_beside f [] [] l n h = absurd (true≢false (sym h))
value_beside f [] (t ∷ ts) l n h = absurd (suc-ne-zero _ (sym l))
value_beside f (x ∷ xs) [] l n h = absurd (true≢false (sym h))
value_beside f (x ∷ xs) (t ∷ ts) l n h = by (name_eq n t) refl (value_beside f xs ts (cc l) n)
  where
    by : (b : Bool) → name_eq n t ≡ b → (is_in ts n ≡ true → value_of ts (map f xs) n ≡ f (beside xs ts n)) → value_of (t ∷ ts) (map f (x ∷ xs)) n ≡ f (beside (x ∷ xs) (t ∷ ts) n)
    by true e more = ap (λ b. value_at (f x ∷ map f xs) (cond b 0 (suc (place_of ts n)))) e ∙ ap f (sym (beside_first x xs t ts n e))
    by false e more = ap (λ b. value_at (f x ∷ map f xs) (cond b 0 (suc (place_of ts n)))) e ∙ more (not_first x xs t ts n e h) ∙ ap f (sym (beside_later x xs t ts n e))
