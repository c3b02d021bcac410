-- The search for a way back: where it finds none, no chain of inclusions leads back.
use Rattle.std.proofs.Common.{◌≡◌, ◌⊎◌, ℕ, zero, suc, ◌+◌, ◌<◌, ◌≤◌, Bool, true, false, cond, ◌&&◌, ◌||◌, List, [], ◌∷◌, length, get_or, slice_get, Option, Some, None, is_some, Contains, refl, sym, ◌∙◌, ap, subst, inl, inr, arith, zero-add, nat_eq}
use Rattle.std.specs.Prelude.{find, option_map, option_and_then}
use Rattle.std.specs.List.{list_any, filter_map, cons_option}
use Rattle.std.proofs.lemmas.Bool.{true≢false, and_parts, and_from, or_cases, cases_Bool, eqb-true, eq-eqb}
use Rattle.std.proofs.lemmas.List.FromFn.{length-range_with_len, get_or-range_with_len, get_or-map-range_with_len}
use Rattle.wh_schema.specs.declared.spec.Inclusion.{Inclusion}
use Rattle.wh_schema.specs.declared.spec.Spec.{Spec}
use Rattle.wh_schema.specs.Cycles.{leads, longer_path, paths_to, shortest_path, closed_cycle}
use Rattle.wh_schema.specs.Legality.{LeadsTo, here, along}
use Rattle.wh_schema.specs.Warehouse.{numbers}
use Rattle.wh_laws.proofs.Lists.{Contains-nil, Contains-here, Contains-there, Contains-cases, any_from, any_in}

-- ---- searches

-- a search finds an item that passes, where there is one
find_passes : {X : Type 0} (p : X → Bool) (xs : List X) (x : X) → Contains xs x → p x ≡ true → (y : X) × (find p xs ≡ Some y) × (p y ≡ true)
find_passes p [] x h t = absurd (Contains-nil x h)
find_passes p (a ∷ xs) x h t =
    elim (cases_Bool (p a)) [
      | inl e ↦ (a, ap (λ b. cond b (Some a) (find p xs)) e, e)
      | inr e ↦
          elim (Contains-cases a x xs h) [
            | inl q ↦ absurd (true≢false (sym t ∙ ap p (sym q) ∙ e))
            | inr k ↦ let r = find_passes p xs x k t in (r.0, ap (λ b. cond b (Some a) (find p xs)) e ∙ r.1, r.2)
          ]
    ]

-- a search for a first value finds one, where there is one
some_first : {Y : Type 0} (v : Option Y) (ys : List Y) → is_some v ≡ true → slice_get (cons_option v ys) 0 ≡ None → ⊥
some_first None ys t e = true≢false (sym t)
some_first (Some y) ys t e = cc

not_none : {Y : Type 0} (v : Option Y) (ys : List Y) → (slice_get ys 0 ≡ None → ⊥) → slice_get (cons_option v ys) 0 ≡ None → ⊥
not_none None ys n e = n e
not_none (Some y) ys n e = cc

value_found : {X Y : Type 0} (f : X → Option Y) (xs : List X) (x : X) → Contains xs x → is_some (f x) ≡ true → slice_get (filter_map f xs) 0 ≡ None → ⊥
value_found f [] x h t e = Contains-nil x h
value_found f (a ∷ xs) x h t e =
    elim (Contains-cases a x xs h) [
      | inl q ↦ some_first (f a) (filter_map f xs) (ap (λ z. is_some (f z)) q ∙ t) e
      | inr k ↦ not_none (f a) (filter_map f xs) (value_found f xs x k t) e
    ]

-- ---- numbers

-- the numbers below n are these
pub number_in : (n a : ℕ) → a < n → Contains (numbers n) a
number_in n a h = (a, subst (λ m. a < m) (sym (length-range_with_len 0 n)) h, get_or-range_with_len 0 n a a h ∙ zero-add a)

pub number_below : (n a : ℕ) → Contains (numbers n) a → a < n
number_below n a h =
    let below : h.0 < n = subst (λ m. h.0 < m) (length-range_with_len 0 n) h.1 in
    let is : 0 + h.0 ≡ a = sym (get_or-range_with_len 0 n h.0 a below) ∙ h.2 in
    omega arith

-- ---- counts

-- how many pass
count : (ℕ → Bool) → List ℕ → ℕ
count p [] = 0
count p (x ∷ xs) = cond (p x) (suc (count p xs)) (count p xs)

count_within : (p : ℕ → Bool) (xs : List ℕ) → count p xs ≤ length xs
unfolding count
count_within p [] = omega arith
count_within p (x ∷ xs) =
    let more = count_within p xs in
    elim (p x) as (λ b. cond b (suc (count p xs)) (count p xs) ≤ suc (length xs)) [ true ↦ omega arith | false ↦ omega arith ]

count_at : (b c : Bool) (m n : ℕ) → (b ≡ true → c ≡ true) → m ≤ n → cond b (suc m) m ≤ cond c (suc n) n
count_at true true m n h l = omega arith
count_at true false m n h l = absurd (true≢false (sym (h refl)))
count_at false true m n h l = omega arith
count_at false false m n h l = l

-- where all that pass the first test pass the second, the second count is no less
count_more : (p q : ℕ → Bool) (xs : List ℕ) → ((x : ℕ) → p x ≡ true → q x ≡ true) → count p xs ≤ count q xs
unfolding count
count_more p q [] h = omega arith
count_more p q (x ∷ xs) h = count_at (p x) (q x) (count p xs) (count q xs) (h x) (count_more p q xs h)

count_above : (b c : Bool) (m n : ℕ) → (b ≡ true → c ≡ true) → m < n → cond b (suc m) m < cond c (suc n) n
count_above true true m n h l = omega arith
count_above true false m n h l = absurd (true≢false (sym (h refl)))
count_above false true m n h l = omega arith
count_above false false m n h l = l

-- and greater, where some item passes the second alone
count_grows : (p q : ℕ → Bool) (xs : List ℕ) → ((x : ℕ) → p x ≡ true → q x ≡ true) → (x : ℕ) → Contains xs x → q x ≡ true → p x ≡ false → count p xs < count q xs
unfolding count
count_grows p q [] h x k t f = absurd (Contains-nil x k)
count_grows p q (a ∷ xs) h x k t f =
    elim (Contains-cases a x xs k) [
      | inl e ↦
          let no : p a ≡ false = ap p e ∙ f in
          let yes : q a ≡ true = ap q e ∙ t in
          let more = count_more p q xs h in
          rw (no, yes) (omega arith)
      | inr r ↦ count_above (p a) (q a) (count p xs) (count q xs) (h a) (count_grows p q xs h x r t f)
    ]

-- all that pass the second test pass the first, or some item passes the second alone
all_or_some : (p q : ℕ → Bool) (xs : List ℕ) → ((x : ℕ) → Contains xs x → q x ≡ true → p x ≡ true) ⊎ ((x : ℕ) × Contains xs x × (q x ≡ true) × (p x ≡ false))
all_or_some p q [] = inl (λ x k t. absurd (Contains-nil x k))
all_or_some p q (a ∷ xs) =
    elim (all_or_some p q xs) [
      | inr r ↦ inr (r.0, Contains-there a r.0 xs r.1, r.2, r.3)
      | inl h ↦
          elim (cases_Bool (p a)) [
            | inl e ↦ inl (λ x k t. elim (Contains-cases a x xs k) [ inl s ↦ ap p (sym s) ∙ e | inr r ↦ h x r t ])
            | inr e ↦
                elim (cases_Bool (q a)) [
                  | inl t ↦ inr (a, Contains-here a xs, t, e)
                  | inr f ↦ inl (λ x k t. elim (Contains-cases a x xs k) [ inl s ↦ absurd (true≢false (sym t ∙ ap q (sym s) ∙ f)) | inr r ↦ h x r t ])
                ]
          ]
    ]

-- ---- paths

-- the inclusions of the specification lead from and to its relations
module _ (spec : Spec) (b : ℕ) (fits : (c : Inclusion) → Contains spec.inclusions c → (c.from < length spec.relations) × (c.to < length spec.relations)) where
  abbrev n : ℕ
  n = length spec.relations

  -- a relation has a path of k inclusions to b
  abbrev pub has_path : ℕ → ℕ → Bool
  has_path k a = is_some (get_or (paths_to spec b k) a None)

  pub path_none : (a : ℕ) → a < n → a ≡ b → has_path 0 a ≡ true
  path_none a h e =
      let at = get_or-map-range_with_len (λ x. cond (nat_eq x b) (Some []) None) 0 n a a None h (omega arith) in
      ap is_some (at ∙ ap (λ t. cond t (Some []) None) (eq-eqb a b e))

  through : (a : ℕ) (paths : List (Option (List ℕ))) (j : ℕ) → is_some (get_or paths j None) ≡ true → is_some (option_map (λ path. a ∷ path) (get_or paths j None)) ≡ true
  through a paths j h =
      elim (get_or paths j None) as (λ o. is_some o ≡ true → is_some (option_map (λ path. a ∷ path) o) ≡ true) [ None ↦ λ e. e | Some x ↦ λ e. refl ] h

  pub path_more : (k : ℕ) (c : Inclusion) → Contains spec.inclusions c → has_path k c.to ≡ true → has_path (suc k) c.from ≡ true
  path_more k c m h =
      let paths = paths_to spec b k in
      let a = c.from in
      let within = fits c m in
      let at = get_or-map-range_with_len (longer_path spec paths) 0 n a a None within.0 (omega arith) in
      let led : leads spec.inclusions a c.to ≡ true =
      any_in (λ d. nat_eq d.from a && nat_eq d.to c.to) spec.inclusions c m (and_from (nat_eq c.from a) (nat_eq c.to c.to) (eq-eqb a a refl) (eq-eqb c.to c.to refl)) in
      let p : ℕ → Bool = λ j. leads spec.inclusions a j && is_some (get_or paths j None) in
      let found = find_passes p (numbers n) c.to (number_in n c.to within.1) (and_from _ _ led h) in
      let last = through a paths found.0 (and_parts _ _ found.2).1 in
      ap is_some (at ∙ ap (option_and_then (λ j. option_map (λ path. a ∷ path) (get_or paths j None))) found.1) ∙ last

  -- ---- relations that lead to b by fewer than k inclusions

  reach : ℕ → ℕ → Bool
  reach zero a = false
  reach (suc k) a = nat_eq a b || list_any (λ c. nat_eq c.from a && reach k c.to) spec.inclusions

  reach_here : (k a : ℕ) → a ≡ b → reach (suc k) a ≡ true
  unfolding reach
  reach_here k a e = ap (λ t. t || list_any (λ c. nat_eq c.from a && reach k c.to) spec.inclusions) (eq-eqb a b e)

  or_right : (x y : Bool) → y ≡ true → (x || y) ≡ true
  or_right true y e = refl
  or_right false y e = e

  reach_along : (k a : ℕ) (c : Inclusion) → Contains spec.inclusions c → c.from ≡ a → reach k c.to ≡ true → reach (suc k) a ≡ true
  unfolding reach
  reach_along k a c m e t =
      or_right (nat_eq a b) _ (any_in (λ d. nat_eq d.from a && reach k d.to) spec.inclusions c m (and_from (nat_eq c.from a) (reach k c.to) (eq-eqb c.from a e) t))

  reach_cases : (k a : ℕ) → reach (suc k) a ≡ true → (a ≡ b) ⊎ ((c : Inclusion) × Contains spec.inclusions c × (c.from ≡ a) × (reach k c.to ≡ true))
  unfolding reach
  reach_cases k a t =
      elim (or_cases (nat_eq a b) (list_any (λ c. nat_eq c.from a && reach k c.to) spec.inclusions) t) [
        | inl e ↦ inl (eqb-true a b e)
        | inr e ↦
            let r = any_from (λ c. nat_eq c.from a && reach k c.to) spec.inclusions e in
            let both = and_parts (nat_eq r.0.from a) (reach k r.0.to) r.2 in
            inr (r.0, r.1, eqb-true r.0.from a both.0, both.1)
      ]

  reach_none : (a : ℕ) → reach 0 a ≡ true → ⊥
  unfolding reach
  reach_none a t = true≢false (sym t)

  -- such a relation has a path of fewer than k inclusions
  reach_path : (k a : ℕ) → a < n → reach k a ≡ true → (j : ℕ) × (j < k) × (has_path j a ≡ true)
  reach_path zero a h t = absurd (reach_none a t)
  reach_path (suc k) a h t =
      elim (reach_cases k a t) [
        | inl e ↦ (0, omega arith, path_none a h e)
        | inr r ↦
            let c = r.0 in
            let rest = reach_path k c.to (fits c r.1).1 r.3 in
            (suc rest.0, omega arith, subst (λ x. has_path (suc rest.0) x ≡ true) r.2 (path_more rest.0 c r.1 rest.2))
      ]

  reach_more : (k a : ℕ) → reach k a ≡ true → reach (suc k) a ≡ true
  reach_more zero a t = absurd (reach_none a t)
  reach_more (suc k) a t =
      elim (reach_cases k a t) [ inl e ↦ reach_here (suc k) a e | inr r ↦ reach_along (suc k) a r.0 r.1 r.2 (reach_more k r.0.to r.3) ]

  -- one inclusion more reaches no further relation
  abbrev Closed : ℕ → Type 0
  Closed k = (a : ℕ) → a < n → reach (suc k) a ≡ true → reach k a ≡ true

  closed_more : (k : ℕ) → Closed k → Closed (suc k)
  closed_more k h a l t =
      elim (reach_cases (suc k) a t) [ inl e ↦ reach_here k a e | inr r ↦ reach_along k a r.0 r.1 r.2 (h r.0.to (fits r.0 r.1).1 r.3) ]

  grows : (k : ℕ) → Closed k ⊎ (count (reach k) (numbers n) < count (reach (suc k)) (numbers n))
  grows k =
      elim (all_or_some (reach k) (reach (suc k)) (numbers n)) [
        | inl h ↦ inl (λ a l t. h a (number_in n a l) t)
        | inr r ↦ inr (count_grows (reach k) (reach (suc k)) (numbers n) (reach_more k) r.0 r.1 r.2 r.3)
      ]

  closed_or_many : (k : ℕ) → Closed k ⊎ (k ≤ count (reach k) (numbers n))
  closed_or_many zero = inr (omega arith)
  closed_or_many (suc k) =
      elim (closed_or_many k) [
        | inl h ↦ inl (closed_more k h)
        | inr m ↦ elim (grows k) [ inl h ↦ inl (closed_more k h) | inr l ↦ inr (omega arith) ]
      ]

  -- as many inclusions as there are relations reach all that can be reached
  all_closed : Closed n
  all_closed =
      elim (closed_or_many n) [
        | inl h ↦ h
        | inr m ↦
            elim (grows n) [
              | inl h ↦ h
              | inr l ↦ absurd (omega (arith, count_within (reach (suc n)) (numbers n), length-range_with_len 0 n))
            ]
      ]

  chain_reached : (a d : ℕ) → LeadsTo spec.inclusions a d → d ≡ b → a < n → reach n a ≡ true
  chain_reached a d here q l = all_closed a l (reach_here n a q)
  chain_reached a d (along c m e rest) q l = all_closed a l (reach_along n a c m e (chain_reached c.to d rest q (fits c m).1))

  -- where no cycle is found, no chain leads back
  pub no_chain : (a : ℕ) → a < n → closed_cycle spec b a ≡ None → LeadsTo spec.inclusions a b → ⊥
  no_chain a l e chain =
      let found = reach_path n a l (chain_reached a b chain refl l) in
      let none : shortest_path spec a b ≡ None =
      elim (shortest_path spec a b) as (λ o. option_map (λ path. b ∷ path) o ≡ None → o ≡ None) [ None ↦ λ q. refl | Some p ↦ λ q. cc ] e in
      value_found (λ k. get_or (paths_to spec b k) a None) (numbers n) found.0 (number_in n found.0 found.1) found.2 none
