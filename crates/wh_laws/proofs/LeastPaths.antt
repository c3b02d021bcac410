-- The path that the search for a way back finds is the first of all.
use Rattle.std.proofs.Common.{◌≡◌, ◌≢◌, ℕ, zero, suc, ◌+◌, ◌<◌, ◌≤◌, Bool, true, false, cond, ◌&&◌, List, [], ◌∷◌, length, get_or, slice_get, Option, Some, None, is_some, Contains, MatchOption, refl, sym, ◌∙◌, ap, subst, inl, inr, arith, nat_eq}
use Rattle.std.specs.Prelude.{find, option_map, option_and_then}
use Rattle.std.specs.declared.cmp.Ordering.TheVariants.{Less, Equal, Greater}
use Rattle.std.specs.Ordering.{nat_cmp, ordering_then}
use Rattle.std.specs.Cmp.{nat_cmp_is}
use Rattle.std.specs.Cmp.Lexicographic.{slice_cmp}
use Rattle.std.specs.List.{filter_map, cons_option, range_with_len}
use Rattle.std.proofs.lemmas.Bool.{true≢false, and_parts, and_from, cases_Bool, cases_lt, eqb-true, eq-eqb}
use Rattle.std.proofs.lemmas.List.FromFn.{get_or-map-range_with_len}
use Rattle.wh_schema.specs.declared.spec.Inclusion.{Inclusion}
use Rattle.wh_schema.specs.declared.spec.Spec.{Spec}
use Rattle.wh_schema.specs.Cycles.{leads, next_relation, longer_path, paths_to, shortest_path, closed_cycle}
use Rattle.wh_schema.specs.Legality.{LeadsTo, here, along}
use Rattle.wh_schema.specs.Warehouse.{numbers}
use Rattle.wh_laws.specs.Acceptance.{IsPath, IsFirstOf}
use Rattle.wh_laws.proofs.Lists.{any_from, any_in}
use Rattle.wh_laws.proofs.Reach.{path_none, path_more, no_chain}

-- ---- searches in order

-- what a search finds passes
find_found : {X : Type 0} (p : X → Bool) (xs : List X) (x : X) → find p xs ≡ Some x → p x ≡ true
find_found p [] x e = cc
find_found p (a ∷ xs) x e =
    elim (cases_Bool (p a)) [
      | inl t ↦ let same : a ≡ x = let s : Some a ≡ Some x = sym (ap (λ b. cond b (Some a) (find p xs)) t) ∙ e in cc in ap p (sym same) ∙ t
      | inr f ↦ find_found p xs x (sym (ap (λ b. cond b (Some a) (find p xs)) f) ∙ e)
    ]

-- it is the least number that passes
find_least : (p : ℕ → Bool) (s m x y : ℕ) → find p (range_with_len s m) ≡ Some x → s ≤ y → p y ≡ true → x ≤ y
find_least p s zero x y e l t = cc
find_least p s (suc m) x y e l t =
    elim (cases_Bool (p s)) [
      | inl h ↦ let same : s ≡ x = let q : Some s ≡ Some x = sym (ap (λ b. cond b (Some s) (find p (range_with_len (s + 1) m))) h) ∙ e in cc in omega arith
      | inr f ↦
          let other : s ≢ y = λ q. true≢false (sym t ∙ ap p (sym q) ∙ f) in
          find_least p (s + 1) m x y (sym (ap (λ b. cond b (Some s) (find p (range_with_len (s + 1) m))) f) ∙ e) (omega arith) t
    ]

-- a first value of some numbers, and its place
record FirstValue {Y : Type 0} (f : ℕ → Option Y) (s m : ℕ) (y : Y) : Type 0 where
  place : ℕ
  from_start : s ≤ place
  below_end : place < s + m
  is : f place ≡ Some y
  none_before : (j : ℕ) → s ≤ j → j < place → f j ≡ None

first_value_at : {Y : Type 0} (f : ℕ → Option Y) (s m : ℕ) (y : Y) (o : Option Y) → f s ≡ o → (slice_get (filter_map f (range_with_len (s + 1) m)) 0 ≡ Some y → FirstValue f (s + 1) m y)
    → slice_get (cons_option o (filter_map f (range_with_len (s + 1) m))) 0 ≡ Some y → FirstValue f s (suc m) y
first_value_at f s m y (Some v) h ih e = record { place = s; from_start = omega arith; below_end = omega arith; is = h ∙ e; none_before = λ j l b. absurd (omega arith) }
first_value_at f s m y None h ih e =
    let later = ih e in
    record {
      place = later.place;
      from_start = omega arith;
      below_end = omega arith;
      is = later.is;
      none_before = λ j l b. elim (cases_lt s j) [ inl k ↦ later.none_before j (omega arith) b | inr k ↦ let q : s ≡ j = omega arith in ap f (sym q) ∙ h ];
    }

-- a search for the first value finds it
first_value : {Y : Type 0} (f : ℕ → Option Y) (s m : ℕ) (y : Y) → slice_get (filter_map f (range_with_len s m)) 0 ≡ Some y → FirstValue f s m y
first_value f s zero y e = cc
first_value f s (suc m) y e = first_value_at f s m y (f s) refl (first_value f (s + 1) m y) e

-- ---- paths

same_number : (a : ℕ) → nat_cmp a a ≡ Equal
same_number a = sym (nat_cmp_is a a Equal refl)

less_number : (a b : ℕ) → a < b → nat_cmp a b ≡ Less
less_number a b h = sym (nat_cmp_is a b Less h)

-- one step of a path that was found
both_steps : (a : ℕ) (g : ℕ → Option (List ℕ)) (o : Option ℕ) (p : List ℕ) → option_and_then (λ j. option_map (λ path. a ∷ path) (g j)) o ≡ Some p
    → (j : ℕ) × (rest : List ℕ) × (o ≡ Some j) × (g j ≡ Some rest) × (p ≡ a ∷ rest)
both_steps a g None p e = cc
both_steps a g (Some j) p e = with_rest (g j) refl e
  where
    with_rest : (r : Option (List ℕ)) → g j ≡ r → option_map (λ path. a ∷ path) r ≡ Some p → (i : ℕ) × (rest : List ℕ) × (Some j ≡ Some i) × (g i ≡ Some rest) × (p ≡ a ∷ rest)
    with_rest None h q = cc
    with_rest (Some rest) h q = (j, rest, refl, h, cc)

module _ (spec : Spec) (b : ℕ) (fits : (c : Inclusion) → Contains spec.inclusions c → (c.from < length spec.relations) × (c.to < length spec.relations)) where
  abbrev n : ℕ
  n = length spec.relations

  -- the path of k inclusions that is found from a
  abbrev found : ℕ → ℕ → Option (List ℕ)
  found k a = get_or (paths_to spec b k) a None

  none_left : (a : ℕ) (p : List ℕ) → a < n → found 0 a ≡ Some p → (p ≡ []) × (a ≡ b)
  none_left a p h e =
      let at = get_or-map-range_with_len (λ x. cond (nat_eq x b) (Some []) None) 0 n a a None h (omega arith) in
      by_test (nat_eq a b) refl (sym at ∙ e)
    where
      by_test : (t : Bool) → nat_eq a b ≡ t → cond t (Some []) None ≡ Some p → (p ≡ []) × (a ≡ b)
      by_test true q s = (cc, eqb-true a b q)
      by_test false q s = cc

  -- a found path goes on to the least relation that has one
  record Step (k a : ℕ) (p : List ℕ) : Type 0 where
    next : ℕ
    rest : List ℕ
    inclusion : Inclusion
    is_in : Contains spec.inclusions inclusion
    from : inclusion.from ≡ a
    to : inclusion.to ≡ next
    found_rest : found k next ≡ Some rest
    is : p ≡ a ∷ rest
    least : (c : Inclusion) → Contains spec.inclusions c → c.from ≡ a → is_some (found k c.to) ≡ true → next ≤ c.to

  step : (k a : ℕ) (p : List ℕ) → a < n → found (suc k) a ≡ Some p → Step k a p
  step k a p h e =
      let paths = paths_to spec b k in
      let at = get_or-map-range_with_len (longer_path spec paths) 0 n a a None h (omega arith) in
      let s = both_steps a (λ j. get_or paths j None) (next_relation spec paths a) p (sym at ∙ e) in
      let test : ℕ → Bool = λ j. leads spec.inclusions a j && is_some (get_or paths j None) in
      let passes = and_parts _ _ (find_found test (numbers n) s.0 s.2) in
      let c = any_from (λ d. nat_eq d.from a && nat_eq d.to s.0) spec.inclusions passes.0 in
      let ends = and_parts (nat_eq c.0.from a) (nat_eq c.0.to s.0) c.2 in
      record {
        next = s.0;
        rest = s.1;
        inclusion = c.0;
        is_in = c.1;
        from = eqb-true c.0.from a ends.0;
        to = eqb-true c.0.to s.0 ends.1;
        found_rest = s.3;
        is = s.4;
        least = λ d m q t.
            let led : leads spec.inclusions a d.to ≡ true =
            any_in (λ x. nat_eq x.from a && nat_eq x.to d.to) spec.inclusions d m (and_from _ _ (eq-eqb d.from a q) (eq-eqb d.to d.to refl)) in
            find_least test 0 n s.0 d.to s.2 (omega arith) (and_from _ _ led t);
      }

  found_is_path : (k a : ℕ) (p : List ℕ) → a < n → found k a ≡ Some p → IsPath spec.inclusions b p a × (length p ≡ k)
  found_is_path zero a p h e =
      let s = none_left a p h e in
      subst (λ q. IsPath spec.inclusions b q a × (length q ≡ 0)) (sym s.0) (s.1, refl)
  found_is_path (suc k) a p h e =
      let s = step k a p h e in
      let below : s.next < n = subst (λ x. x < n) s.to (fits s.inclusion s.is_in).1 in
      let rest = found_is_path k s.next s.rest below s.found_rest in
      let on : IsPath spec.inclusions b s.rest s.inclusion.to = subst (IsPath spec.inclusions b s.rest) (sym s.to) rest.0 in
      subst (λ q. IsPath spec.inclusions b q a × (length q ≡ suc k)) (sym s.is) ((refl, (s.inclusion, s.is_in, s.from, on)), ap suc rest.1)

  path_is_found : (p : List ℕ) (a : ℕ) → a < n → IsPath spec.inclusions b p a → is_some (found (length p) a) ≡ true
  path_is_found [] a h e = path_none spec b fits a h e
  path_is_found (x ∷ p) a h e =
      let c = e.1.0 in
      let rest = path_is_found p c.to (fits c e.1.1).1 e.1.3 in
      subst (λ y. is_some (found (suc (length p)) y) ≡ true) e.1.2 (path_more spec b fits (length p) c e.1.1 rest)

  not_greater : slice_cmp nat_cmp [] [] ≢ Greater
  not_greater g = cc

  -- the first relations of two paths decide, where they differ
  less_first : (x y : ℕ) (p q : List ℕ) → x < y → slice_cmp nat_cmp (x ∷ p) (y ∷ q) ≢ Greater
  less_first x y p q h g = let s : Less ≡ Greater = sym (ap (λ o. ordering_then o (slice_cmp nat_cmp p q)) (less_number x y h)) ∙ g in cc

  same_first : (x y : ℕ) (p q : List ℕ) → x ≡ y → slice_cmp nat_cmp p q ≢ Greater → slice_cmp nat_cmp (x ∷ p) (y ∷ q) ≢ Greater
  same_first x y p q h rest g =
      rest (sym (ap (λ z. ordering_then (nat_cmp x z) (slice_cmp nat_cmp p q)) (sym h) ∙ ap (λ o. ordering_then o (slice_cmp nat_cmp p q)) (same_number x)) ∙ g)

  -- a found path from a lesser relation is not greater
  less_start : (k i j : ℕ) (p q : List ℕ) → i < n → found k i ≡ Some p → IsPath spec.inclusions b q j → length q ≡ k → i < j → slice_cmp nat_cmp p q ≢ Greater
  less_start zero i j p [] h e path l less = subst (λ r. slice_cmp nat_cmp r [] ≢ Greater) (sym (none_left i p h e).0) not_greater
  less_start zero i j p (y ∷ q) h e path l less = absurd (omega arith)
  less_start (suc k) i j p [] h e path l less = absurd (omega arith)
  less_start (suc k) i j p (y ∷ q) h e path l less =
      let s = step k i p h e in
      let first = path.0 in
      subst (λ r. slice_cmp nat_cmp r (y ∷ q) ≢ Greater) (sym s.is) (less_first i y s.rest q (omega arith))

  -- a found path is not greater than another of its length
  found_is_least : (k a : ℕ) (p q : List ℕ) → a < n → found k a ≡ Some p → IsPath spec.inclusions b q a → length q ≡ k → slice_cmp nat_cmp p q ≢ Greater
  found_is_least zero a p [] h e path l = subst (λ r. slice_cmp nat_cmp r [] ≢ Greater) (sym (none_left a p h e).0) not_greater
  found_is_least zero a p (y ∷ q) h e path l = absurd (omega arith)
  found_is_least (suc k) a p [] h e path l = absurd (omega arith)
  found_is_least (suc k) a p (y ∷ q) h e path l =
      let s = step k a p h e in
      let c = path.1.0 in
      let on = path.1.3 in
      let long : length q ≡ k = omega arith in
      let below : s.next < n = subst (λ x. x < n) s.to (fits s.inclusion s.is_in).1 in
      let least : s.next ≤ c.to = s.least c path.1.1 path.1.2 (subst (λ m. is_some (found m c.to) ≡ true) long (path_is_found q c.to (fits c path.1.1).1 on)) in
      let rest : slice_cmp nat_cmp s.rest q ≢ Greater =
      elim (cases_lt s.next c.to) [
        | inl less ↦ less_start k s.next c.to s.rest q below s.found_rest on long less
        | inr more ↦ let same : c.to ≡ s.next = omega arith in found_is_least k s.next s.rest q below s.found_rest (subst (IsPath spec.inclusions b q) same on) long
      ]
      in
      subst (λ r. slice_cmp nat_cmp r (y ∷ q) ≢ Greater) (sym s.is) (same_first a y s.rest q (sym path.0) rest)

  -- a path is a chain
  path_chain : (p : List ℕ) (a : ℕ) → IsPath spec.inclusions b p a → LeadsTo spec.inclusions a b
  path_chain [] a e = subst (LeadsTo spec.inclusions a) e here
  path_chain (x ∷ p) a e = along e.1.0 e.1.1 e.1.2 (path_chain p e.1.0.to e.1.3)

  -- the path that the search finds is the first of all
  first_path : (a : ℕ) (p : List ℕ) → a < n → shortest_path spec a b ≡ Some p → IsPath spec.inclusions b p a × ((q : List ℕ) → IsPath spec.inclusions b q a → IsFirstOf p q)
  first_path a p h e =
      let v = first_value (λ k. found k a) 0 n p e in
      let path = found_is_path v.place a p h v.is in (
        path.0,
        λ q other.
            elim (cases_lt v.place (length q)) [
              | inl l ↦ inl (let long = path.1 in omega arith)
              | inr l ↦
                  elim (cases_lt (length q) v.place) [
                    | inl less ↦
                        let some = path_is_found q a h other in
                        absurd (true≢false (sym some ∙ ap is_some (v.none_before (length q) (omega arith) less)))
                    | inr more ↦
                        let same : length q ≡ v.place = omega arith in
                        inr (path.1 ∙ sym same, found_is_least v.place a p q h v.is other same)
                  ]
            ],
      )

  pub first_cycle : (a : ℕ) → a < n
      → MatchOption (closed_cycle spec b a) ((p : List ℕ) → IsPath spec.inclusions b p a → ⊥)
      (λ cycle. (p : List ℕ) × (cycle ≡ b ∷ p) × IsPath spec.inclusions b p a × ((q : List ℕ) → IsPath spec.inclusions b q a → IsFirstOf p q))
  first_cycle a h = by_path (shortest_path spec a b) refl
    where
      by_path : (o : Option (List ℕ)) → shortest_path spec a b ≡ o
          → MatchOption (option_map (λ path. b ∷ path) o) ((p : List ℕ) → IsPath spec.inclusions b p a → ⊥)
          (λ cycle. (p : List ℕ) × (cycle ≡ b ∷ p) × IsPath spec.inclusions b p a × ((q : List ℕ) → IsPath spec.inclusions b q a → IsFirstOf p q))
      by_path None e = λ p path. no_chain spec b fits a h (ap (option_map (λ rest. b ∷ rest)) e) (path_chain p a path)
      by_path (Some p) e = let f = first_path a p h e in (p, refl, f.0, f.1)
