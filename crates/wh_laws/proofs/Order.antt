-- Taking numbers one after another: the steps, and that the order for reconstruction takes every relation.
use Rattle.std.proofs.Common.{◌≡◌, ◌⊎◌, ℕ, suc, zero, ◌<◌, ◌≤◌, Bool, true, false, cond, not, nat_eq, ◌||◌, List, [], ◌∷◌, ◌++◌, filter, length, Option, Some, None, Contains, Decides, refl, sym, ◌∙◌, ap, subst, inl, inr, arith}
use Rattle.std.specs.List.{find, list_all}
use Rattle.std.proofs.lemmas.List.Elements.{Contains-append_left, Contains-append_right}
use Rattle.std.proofs.lemmas.List.FromFn.{length-range_with_len}
use Rattle.std.proofs.lemmas.Bool.{cases_Bool, true≢false, and_parts, and_from, eqb-true, eq-eqb, or_parts, not-false}
use Rattle.wh_schema.specs.declared.spec.Spec.{Spec}
use Rattle.wh_schema.specs.declared.spec.Inclusion.{Inclusion}
use Rattle.wh_schema.specs.Legality.{WellFormed}
use Rattle.wh_schema.specs.Reconstruction.{iterate, is_taken, take_next, is_ready, order}
use Rattle.wh_schema.specs.Warehouse.{numbers}
use Rattle.wh_laws.proofs.Lists.{Contains-nil, Contains-here, Contains-there, Contains-cases, Contains-is, any_from, any_in, every_from, all_fails}
use Rattle.wh_laws.proofs.Equality.{decided, is_not, is_not_in}
use Rattle.wh_laws.proofs.Acyclic.{Grounded, grounded, all_grounded}
use Rattle.wh_laws.proofs.Pieces.{numbers_from, numbers_in}

pub taken_decides : (taken : List ℕ) (r : ℕ) → Decides (is_taken taken r) (Contains taken r)
taken_decides taken r = (
  λ e. let k = any_from (nat_eq r) taken e in Contains-is k.0 r taken (sym (eqb-true r k.0 k.2)) k.1,
  λ h. any_in (nat_eq r) taken r h (eq-eqb r r refl),
)

pub number_is_in : (taken : List ℕ) (r : ℕ) → Contains taken r ⊎ (Contains taken r → ⊥)
number_is_in taken r = decided (is_taken taken r) (taken_decides taken r)

-- ---- the first that passes

abbrev FoundOrNot : {X : Type 0} → (X → Bool) → List X → Option X → Type 0
FoundOrNot {X} p xs None = (x : X) → Contains xs x → p x ≡ false
FoundOrNot p xs (Some x) = Contains xs x × (p x ≡ true)

found_more : {X : Type 0} (p : X → Bool) (x : X) (xs : List X) (b : Bool) → p x ≡ b → (o : Option X) → FoundOrNot p xs o → FoundOrNot p (x ∷ xs) (cond b (Some x) o)
found_more p x xs true e o h = (Contains-here x xs, e)
found_more p x xs false e (Some y) h = (Contains-there x y xs h.0, h.1)
found_more p x xs false e None h = λ y k. elim (Contains-cases x y xs k) [ inl q ↦ ap p (sym q) ∙ e | inr r ↦ h y r ]

found : {X : Type 0} (p : X → Bool) (xs : List X) → FoundOrNot p xs (find p xs)
found p [] = λ x k. absurd (Contains-nil x k)
found p (x ∷ xs) = found_more p x xs (p x) refl (find p xs) (found p xs)

-- one step takes nothing, where no candidate passes, or one candidate that passes
pub record Takes (test : List ℕ → ℕ → Bool) (candidates taken after : List ℕ) : Type 0 where
  pub number : ℕ
  pub is_candidate : Contains candidates number
  pub passes : test taken number ≡ true
  pub is : after ≡ taken ++ number ∷ []

pub record Stays (test : List ℕ → ℕ → Bool) (candidates taken after : List ℕ) : Type 0 where
  pub fail : (r : ℕ) → Contains candidates r → test taken r ≡ false
  pub is : after ≡ taken

step_at : (test : List ℕ → ℕ → Bool) (candidates taken : List ℕ) (o : Option ℕ) → FoundOrNot (test taken) candidates o
    → Takes test candidates taken (elim o [ None ↦ taken | Some r ↦ taken ++ r ∷ [] ]) ⊎ Stays test candidates taken (elim o [ None ↦ taken | Some r ↦ taken ++ r ∷ [] ])
step_at test candidates taken None h = inr (record { fail = h; is = refl })
step_at test candidates taken (Some r) h = inl (record { number = r; is_candidate = h.0; passes = h.1; is = refl })

pub step : (test : List ℕ → ℕ → Bool) (candidates taken : List ℕ)
    → Takes test candidates taken (take_next test candidates taken) ⊎ Stays test candidates taken (take_next test candidates taken)
step test candidates taken = step_at test candidates taken (find (test taken) candidates) (found (test taken) candidates)

-- what each step keeps holds in the end
pub iterate_keeps : {X : Type 0} (P : X → Type 0) (f : X → X) → ((x : X) → P x → P (f x)) → (n : ℕ) (x : X) → P x → P (iterate n f x)
iterate_keeps P f h zero x p = p
iterate_keeps P f h (suc n) x p = iterate_keeps P f h n (f x) (h x p)

-- what each step brings nearer holds after enough steps
pub iterate_reaches : {X : Type 0} (P : X → Type 0) (left : X → ℕ) (f : X → X) → ((x : X) → P x → P (f x)) → ((x : X) → P x ⊎ (left (f x) < left x)) → (n : ℕ) (x : X) → left x ≤ n → P (iterate n f x)
iterate_reaches P left f h k zero x l = elim (k x) [ inl p ↦ p | inr d ↦ absurd (omega arith) ]
iterate_reaches P left f h k (suc n) x l =
    elim (k x) [
      | inl p ↦ iterate_keeps P f h n (f x) (h x p)
      | inr d ↦ let less : left (f x) ≤ n = omega arith in iterate_reaches P left f h k n (f x) less
    ]

-- ---- a filter that keeps fewer

-- by cases on the two tests at the first element
fewer_at : (b c : Bool) (m n : ℕ) → (b ≡ true → c ≡ true) → m ≤ n → cond b (suc m) m ≤ cond c (suc n) n
fewer_at true true m n h l = omega arith
fewer_at true false m n h l = absurd (true≢false (sym (h refl)))
fewer_at false true m n h l = omega arith
fewer_at false false m n h l = l

strictly_at : (b c : Bool) (m n : ℕ) → (b ≡ true → c ≡ true) → m < n → cond b (suc m) m < cond c (suc n) n
strictly_at true true m n h l = omega arith
strictly_at true false m n h l = absurd (true≢false (sym (h refl)))
strictly_at false true m n h l = omega arith
strictly_at false false m n h l = l

gained_at : (b c : Bool) (m n : ℕ) → b ≡ false → c ≡ true → m ≤ n → cond b (suc m) m < cond c (suc n) n
gained_at true c m n e f l = absurd (true≢false e)
gained_at false true m n e f l = omega arith
gained_at false false m n e f l = absurd (true≢false (sym f))

module _ {X : Type 0} where
  length_filter_at : (x : X) (xs : List X) (b : Bool) → length (cond b (x ∷ xs) xs) ≡ cond b (suc (length xs)) (length xs)
  length_filter_at x xs true = refl
  length_filter_at x xs false = refl

  pub filter_fewer : (q p : X → Bool) → ((x : X) → q x ≡ true → p x ≡ true) → (xs : List X) → length (filter q xs) ≤ length (filter p xs)
  filter_fewer q p h [] = omega arith
  filter_fewer q p h (x ∷ xs) =
      rw (length_filter_at x (filter q xs) (q x), length_filter_at x (filter p xs) (p x)) (fewer_at (q x) (p x) _ _ (h x) (filter_fewer q p h xs))

  pub filter_less : (q p : X → Bool) → ((x : X) → q x ≡ true → p x ≡ true) → (xs : List X) (y : X) → Contains xs y → q y ≡ false → p y ≡ true → length (filter q xs) < length (filter p xs)
  filter_less q p h [] y k e f = absurd (Contains-nil y k)
  filter_less q p h (x ∷ xs) y k e f =
      rw (length_filter_at x (filter q xs) (q x), length_filter_at x (filter p xs) (p x))
      (elim (Contains-cases x y xs k) [
        | inl i ↦ gained_at (q x) (p x) _ _ (ap q i ∙ e) (ap p i ∙ f) (filter_fewer q p h xs)
        | inr r ↦ strictly_at (q x) (p x) _ _ (h x) (filter_less q p h xs y r e f)
      ])

  pub filter_at_most : (p : X → Bool) (xs : List X) → length (filter p xs) ≤ length xs
  filter_at_most p [] = omega arith
  filter_at_most p (x ∷ xs) = rw (length_filter_at x (filter p xs) (p x)) (at_most_at (p x) _ _ (filter_at_most p xs))
    where
      at_most_at : (b : Bool) (m n : ℕ) → m ≤ n → cond b (suc m) m ≤ suc n
      at_most_at true m n l = omega arith
      at_most_at false m n l = omega arith

-- ---- the order takes each relation

-- what a relation that is ready has
pub record Ready (spec : Spec) (taken : List ℕ) (r : ℕ) : Type 0 where
  pub is_new : Contains taken r → ⊥
  pub sources : (c : Inclusion) → Contains spec.inclusions c → c.to ≡ r → Contains taken c.from

or_right_from : (a b : Bool) → (not a || b) ≡ true → a ≡ true → b ≡ true
or_right_from true b e h = e
or_right_from false b e h = absurd (true≢false (sym h))

pub ready_from : (spec : Spec) (taken : List ℕ) (r : ℕ) → is_ready spec taken r ≡ true → Ready spec taken r
ready_from spec taken r e =
    let t = and_parts (not (is_taken taken r)) (list_all (λ c. not (nat_eq c.to r) || is_taken taken c.from) spec.inclusions) e in
    record {
      is_new = is_not (is_taken taken r) (taken_decides taken r) t.0;
      sources = λ c k q.
          (taken_decides taken c.from).0
          (or_right_from (nat_eq c.to r) (is_taken taken c.from) (every_from (λ d. not (nat_eq d.to r) || is_taken taken d.from) spec.inclusions t.1 c k) (eq-eqb c.to r q));
    }

abbrev pub IsWhole : Spec → List ℕ → Type 0
IsWhole spec taken = (r : ℕ) → r < length spec.relations → Contains taken r

-- how many relations are left
left_over : Spec → List ℕ → ℕ
left_over spec taken = length (filter (λ r. not (is_taken taken r)) (numbers (length spec.relations)))

module _ (spec : Spec) (wf : WellFormed spec) where
  some_ready : (taken : List ℕ) (r : ℕ) → Grounded spec.inclusions r → r < length spec.relations → (Contains taken r → ⊥)
      → (q : ℕ) × (q < length spec.relations) × (is_ready spec taken q ≡ true)
  some_ready taken r (grounded f) l n =
      elim (cases_Bool (list_all (λ c. not (nat_eq c.to r) || is_taken taken c.from) spec.inclusions)) [
        | inl e ↦ (r, l, and_from (not (is_taken taken r)) _ (is_not_in (is_taken taken r) (taken_decides taken r) n) e)
        | inr e ↦
            let a = all_fails (λ c. not (nat_eq c.to r) || is_taken taken c.from) spec.inclusions e in
            let t = or_parts (not (nat_eq a.0.to r)) (is_taken taken a.0.from) a.2 in
            let to : a.0.to ≡ r = eqb-true a.0.to r (not-false (nat_eq a.0.to r) t.0) in
            some_ready taken a.0.from (f a.0 a.1 to) (wf.inclusions a.0 a.1).left (λ h. true≢false (sym ((taken_decides taken a.0.from).1 h) ∙ t.1))
      ]

  whole_kept : (taken : List ℕ) → IsWhole spec taken → IsWhole spec (take_next (is_ready spec) (numbers (length spec.relations)) taken)
  whole_kept taken h r l =
      let P : List ℕ → Type 0 = λ t. Contains t r in
      elim (step (is_ready spec) (numbers (length spec.relations)) taken) [
        | inl a ↦ subst P (sym a.is) (Contains-append_left taken (a.number ∷ []) r (h r l))
        | inr a ↦ subst P (sym a.is) (h r l)
      ]

  fewer_left : (taken : List ℕ) (r : ℕ) → r < length spec.relations → (Contains taken r → ⊥) → left_over spec (taken ++ r ∷ []) < left_over spec taken
  unfolding left_over
  fewer_left taken r l n =
      filter_less (λ q. not (is_taken (taken ++ r ∷ []) q)) (λ q. not (is_taken taken q))
      (λ q e. is_not_in (is_taken taken q) (taken_decides taken q)
      (λ k. is_not (is_taken (taken ++ r ∷ []) q) (taken_decides (taken ++ r ∷ []) q) e (Contains-append_left taken (r ∷ []) q k)))
      (numbers (length spec.relations)) r (numbers_in (length spec.relations) r l)
      (ap not ((taken_decides (taken ++ r ∷ []) r).1 (Contains-append_right taken (r ∷ []) r (Contains-here r []))))
      (is_not_in (is_taken taken r) (taken_decides taken r) n)

  nearer : (taken : List ℕ) → IsWhole spec taken ⊎ (left_over spec (take_next (is_ready spec) (numbers (length spec.relations)) taken) < left_over spec taken)
  nearer taken =
      let P : List ℕ → Type 0 = λ t. left_over spec t < left_over spec taken in
      elim (step (is_ready spec) (numbers (length spec.relations)) taken) [
        | inl a ↦ inr (subst P (sym a.is) (fewer_left taken a.number (numbers_from (length spec.relations) a.number a.is_candidate) (ready_from spec taken a.number a.passes).is_new))
        | inr a ↦ inl (λ r l.
            elim (number_is_in taken r) [
              | inl k ↦ k
              | inr n ↦ let q = some_ready taken r (all_grounded spec.inclusions wf.acyclic r) l n in absurd (true≢false (sym q.2 ∙ a.fail q.0 (numbers_in (length spec.relations) q.0 q.1)))
            ])
      ]

  pub order_whole : IsWhole spec (order spec)
  unfolding left_over
  order_whole =
      let most : left_over spec [] ≤ length spec.relations =
      omega (arith, filter_at_most (λ r. not (is_taken [] r)) (numbers (length spec.relations)), length-range_with_len 0 (length spec.relations)) in
      iterate_reaches (IsWhole spec) (left_over spec) (take_next (is_ready spec) (numbers (length spec.relations))) whole_kept nearer (length spec.relations) [] most
