-- Membership in lists, through the functions that the definitions are made of.
use Rattle.std.proofs.Common.{◌≡◌, ◌⊎◌, ℕ, zero, suc, ◌<◌, Bool, true, false, cond, ◌&&◌, ◌||◌, List, [], ◌∷◌, map, filter, length, get_or, Contains, refl, sym, ◌∙◌, ap, subst, inl, inr, le_of_suc-le-suc, suc-le-suc, zero-lt-suc, not-suc-le-zero}
use Rattle.std.specs.List.{flat_map, list_any, list_all}
use Rattle.std.proofs.lemmas.List.Elements.{Contains-append_left, Contains-append_right, Contains-append_cases}
use Rattle.std.proofs.lemmas.Bool.{true≢false, and_parts, and_from}

or_true : (a : Bool) → (a || true) ≡ true
or_true true = refl
or_true false = refl

module _ {X : Type 0} where
  pub Contains-nil : (x : X) → Contains [] x → ⊥
  Contains-nil x h = not-suc-le-zero h.1

  pub Contains-here : (x : X) (xs : List X) → Contains (x ∷ xs) x
  Contains-here x xs = (0, zero-lt-suc (length xs), refl)

  pub Contains-there : (x y : X) (xs : List X) → Contains xs y → Contains (x ∷ xs) y
  Contains-there x y xs h = (suc h.0, suc-le-suc h.1, h.2)

  cases_at : (x y : X) (xs : List X) (k : ℕ) → k < length (x ∷ xs) → get_or (x ∷ xs) k y ≡ y → (x ≡ y) ⊎ Contains xs y
  cases_at x y xs zero l e = inl e
  cases_at x y xs (suc k) l e = inr (k, le_of_suc-le-suc l, e)

  pub Contains-cases : (x y : X) (xs : List X) → Contains (x ∷ xs) y → (x ≡ y) ⊎ Contains xs y
  Contains-cases x y xs h = cases_at x y xs h.0 h.1 h.2

  pub Contains-is : (x y : X) (xs : List X) → x ≡ y → Contains xs x → Contains xs y
  Contains-is x y xs e h = let P : X → Type 0 = Contains xs in subst P e h

  -- ---- filter

  filter_in_at : (p : X → Bool) (x y : X) (xs ys : List X) → p y ≡ true → (b : Bool) → p x ≡ b → (x ≡ y) ⊎ Contains ys y → Contains (cond b (x ∷ ys) ys) y
  filter_in_at p x y xs ys t true e (inl q) = let P : X → Type 0 = Contains (x ∷ ys) in subst P q (Contains-here x ys)
  filter_in_at p x y xs ys t true e (inr h) = Contains-there x y ys h
  filter_in_at p x y xs ys t false e (inl q) = absurd (true≢false (sym t ∙ ap p (sym q) ∙ e))
  filter_in_at p x y xs ys t false e (inr h) = h

  pub filter_in : (p : X → Bool) (xs : List X) (y : X) → Contains xs y → p y ≡ true → Contains (filter p xs) y
  filter_in p [] y h t = absurd (Contains-nil y h)
  filter_in p (x ∷ xs) y h t =
      filter_in_at p x y xs (filter p xs) t (p x) refl
      (elim (Contains-cases x y xs h) [ inl e ↦ inl e | inr k ↦ inr (filter_in p xs y k t) ])

  filter_from_at : (p : X → Bool) (x y : X) (xs ys : List X) → (Contains ys y → Contains xs y × (p y ≡ true)) → (b : Bool) → p x ≡ b → Contains (cond b (x ∷ ys) ys) y → Contains (x ∷ xs) y × (p y ≡ true)
  filter_from_at p x y xs ys ih true e h =
      elim (Contains-cases x y ys h) [
        | inl q ↦ (Contains-is x y (x ∷ xs) q (Contains-here x xs), ap p (sym q) ∙ e)
        | inr k ↦ (Contains-there x y xs (ih k).0, (ih k).1)
      ]
  filter_from_at p x y xs ys ih false e h = (Contains-there x y xs (ih h).0, (ih h).1)

  pub filter_from : (p : X → Bool) (xs : List X) (y : X) → Contains (filter p xs) y → Contains xs y × (p y ≡ true)
  filter_from p [] y h = absurd (Contains-nil y h)
  filter_from p (x ∷ xs) y h = filter_from_at p x y xs (filter p xs) (filter_from p xs y) (p x) refl h

  -- ---- tests on all and on some elements

  any_at : (p : X → Bool) (x : X) (xs : List X) → ((list_any p xs ≡ true) → (y : X) × Contains xs y × (p y ≡ true)) → (b : Bool) → p x ≡ b → (b || list_any p xs) ≡ true → (y : X) × Contains (x ∷ xs) y × (p y ≡ true)
  any_at p x xs ih true e h = (x, Contains-here x xs, e)
  any_at p x xs ih false e h = let r = ih h in (r.0, Contains-there x r.0 xs r.1, r.2)

  pub any_from : (p : X → Bool) (xs : List X) → list_any p xs ≡ true → (y : X) × Contains xs y × (p y ≡ true)
  any_from p [] h = absurd (true≢false (sym h))
  any_from p (x ∷ xs) h = any_at p x xs (any_from p xs) (p x) refl h

  pub any_in : (p : X → Bool) (xs : List X) (y : X) → Contains xs y → p y ≡ true → list_any p xs ≡ true
  any_in p [] y h t = absurd (Contains-nil y h)
  any_in p (x ∷ xs) y h t =
      elim (Contains-cases x y xs h) [
        | inl e ↦ ap (λ b. b || list_any p xs) (ap p e ∙ t)
        | inr k ↦ ap (λ b. p x || b) (any_in p xs y k t) ∙ or_true (p x)
      ]

  pub every_from : (p : X → Bool) (xs : List X) → list_all p xs ≡ true → (y : X) → Contains xs y → p y ≡ true
  every_from p [] h y k = absurd (Contains-nil y k)
  every_from p (x ∷ xs) h y k =
      let parts = and_parts (p x) (list_all p xs) h in
      elim (Contains-cases x y xs k) [ inl e ↦ ap p (sym e) ∙ parts.0 | inr r ↦ every_from p xs parts.1 y r ]

  pub every_in : (p : X → Bool) (xs : List X) → ((y : X) → Contains xs y → p y ≡ true) → list_all p xs ≡ true
  every_in p [] h = refl
  every_in p (x ∷ xs) h = and_from (p x) (list_all p xs) (h x (Contains-here x xs)) (every_in p xs (λ y k. h y (Contains-there x y xs k)))

  -- a test on all elements fails at some element
  all_fails_at : (p : X → Bool) (x : X) (xs : List X) → (list_all p xs ≡ false → (y : X) × Contains xs y × (p y ≡ false)) → (b : Bool) → p x ≡ b → (b && list_all p xs) ≡ false → (y : X) × Contains (x ∷ xs) y × (p y ≡ false)
  all_fails_at p x xs ih true e h = let r = ih h in (r.0, Contains-there x r.0 xs r.1, r.2)
  all_fails_at p x xs ih false e h = (x, Contains-here x xs, e)

  pub all_fails : (p : X → Bool) (xs : List X) → list_all p xs ≡ false → (y : X) × Contains xs y × (p y ≡ false)
  all_fails p [] h = absurd (true≢false h)
  all_fails p (x ∷ xs) h = all_fails_at p x xs (all_fails p xs) (p x) refl h

-- ---- map and flat_map

module _ {X Y : Type 0} where
  pub map_in : (f : X → Y) (xs : List X) (x : X) → Contains xs x → Contains (map f xs) (f x)
  map_in f [] x h = absurd (Contains-nil x h)
  map_in f (a ∷ xs) x h =
      elim (Contains-cases a x xs h) [
        | inl e ↦ Contains-is (f a) (f x) (map f (a ∷ xs)) (ap f e) (Contains-here (f a) (map f xs))
        | inr k ↦ Contains-there (f a) (f x) (map f xs) (map_in f xs x k)
      ]

  pub map_from : (f : X → Y) (xs : List X) (y : Y) → Contains (map f xs) y → (x : X) × Contains xs x × (f x ≡ y)
  map_from f [] y h = absurd (Contains-nil y h)
  map_from f (a ∷ xs) y h =
      elim (Contains-cases (f a) y (map f xs) h) [
        | inl e ↦ (a, Contains-here a xs, e)
        | inr k ↦ let r = map_from f xs y k in (r.0, Contains-there a r.0 xs r.1, r.2)
      ]

  pub flat_in : (f : X → List Y) (xs : List X) (x : X) (y : Y) → Contains xs x → Contains (f x) y → Contains (flat_map f xs) y
  flat_in f [] x y h k = absurd (Contains-nil x h)
  flat_in f (a ∷ xs) x y h k =
      elim (Contains-cases a x xs h) [
        | inl e ↦ Contains-append_left (f a) (flat_map f xs) y (let P : X → Type 0 = λ z. Contains (f z) y in subst P (sym e) k)
        | inr r ↦ Contains-append_right (f a) (flat_map f xs) y (flat_in f xs x y r k)
      ]

  pub flat_from : (f : X → List Y) (xs : List X) (y : Y) → Contains (flat_map f xs) y → (x : X) × Contains xs x × Contains (f x) y
  flat_from f [] y h = absurd (Contains-nil y h)
  flat_from f (a ∷ xs) y h =
      elim (Contains-append_cases (f a) (flat_map f xs) y h) [
        | inl e ↦ (a, Contains-here a xs, e)
        | inr k ↦ let r = flat_from f xs y k in (r.0, Contains-there a r.0 xs r.1, r.2)
      ]

  -- two functions that agree on the elements give one list, and the other way round
  pub map_same : (f g : X → Y) (xs : List X) → ((x : X) → Contains xs x → f x ≡ g x) → map f xs ≡ map g xs
  map_same f g [] h = refl
  map_same f g (a ∷ xs) h =
      ap (λ y. y ∷ map f xs) (h a (Contains-here a xs)) ∙ ap (λ ys. g a ∷ ys) (map_same f g xs (λ x k. h x (Contains-there a x xs k)))

  pub map_agree : (f g : X → Y) (xs : List X) → map f xs ≡ map g xs → (x : X) → Contains xs x → f x ≡ g x
  map_agree f g [] e x h = absurd (Contains-nil x h)
  map_agree f g (a ∷ xs) e x h =
      let heads : f a ≡ g a = cc e in
      let tails : map f xs ≡ map g xs = cc e in
      elim (Contains-cases a x xs h) [ inl q ↦ ap f (sym q) ∙ heads ∙ ap g q | inr k ↦ map_agree f g xs tails x k ]

pub map_map : {X Y Z : Type 0} (g : Y → Z) (f : X → Y) (xs : List X) → map g (map f xs) ≡ map (λ x. g (f x)) xs
map_map g f [] = refl
map_map g f (x ∷ xs) = ap (λ ys. g (f x) ∷ ys) (map_map g f xs)

pub empty_list : {X : Type 0} (xs : List X) → ((x : X) → Contains xs x → ⊥) → xs ≡ []
empty_list [] h = refl
empty_list (x ∷ xs) h = absurd (h x (Contains-here x xs))
