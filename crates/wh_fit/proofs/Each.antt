-- What holds of each element, by membership and by recursion on the list.
use Rattle.std.proofs.Common.{◌≡◌, ℕ, zero, suc, ◌<◌, Bool, true, false, not, cond, List, [], ◌∷◌, filter, length, get_or, Some, None, Contains, sym, ◌∙◌, ap, subst, inl, inr, arith}
use Rattle.std.specs.List.{AllByRecursion, list_any, position, position_or_len}
use Rattle.std.proofs.lemmas.Bool.{cases_Bool, true≢false, lt-ltb}
use Rattle.wh_base.specs.RowSet.{first_seen_by}
use Rattle.wh_laws.proofs.Lists.{Contains-nil, Contains-here, Contains-there, Contains-cases, Contains-is, any_in, filter_from}

module _ {X : Type 0} where
  pub each_in : (P : X → Type 0) (xs : List X) → ((x : X) → Contains xs x → P x) → AllByRecursion P xs
  each_in P [] h = tt
  each_in P (x ∷ xs) h = (h x (Contains-here x xs), each_in P xs (λ y k. h y (Contains-there x y xs k)))

  pub each_from : (P : X → Type 0) (xs : List X) → AllByRecursion P xs → (x : X) → Contains xs x → P x
  each_from P [] h x k = absurd (Contains-nil x k)
  each_from P (y ∷ xs) h x k = elim (Contains-cases y x xs k) [ inl e ↦ subst P e h.0 | inr m ↦ each_from P xs h.1 x m ]

  pub each_at : (P : X → Type 0) (d : X) → P d → (xs : List X) → AllByRecursion P xs → (k : ℕ) → P (get_or xs k d)
  each_at P d e [] h k = e
  each_at P d e (x ∷ xs) h zero = h.0
  each_at P d e (x ∷ xs) h (suc k) = each_at P d e xs h.1 k

  pub only : (x y : X) → Contains (x ∷ []) y → x ≡ y
  only x y k = elim (Contains-cases x y [] k) [ inl e ↦ e | inr m ↦ absurd (Contains-nil y m) ]

  -- a test that no element passes
  pub none_of : (p : X → Bool) (xs : List X) → list_any p xs ≡ false → (x : X) → Contains xs x → p x ≡ false
  none_of p xs e x k = elim (cases_Bool (p x)) [ inl t ↦ absurd (true≢false (sym (any_in p xs x k t) ∙ e)) | inr f ↦ f ]

  placed : (p : X → Bool) (xs : List X) (x : X) → Contains xs x → p x ≡ true → position_or_len p xs < length xs
  placed p [] x k t = absurd (Contains-nil x k)
  placed p (y ∷ xs) x k t =
      elim (cases_Bool (p y)) [
        | inl a ↦ rw a (omega arith)
        | inr b ↦
            elim (Contains-cases y x xs k) [
              | inl e ↦ absurd (true≢false (sym t ∙ ap p (sym e) ∙ b))
              | inr m ↦ let l = placed p xs x m t in rw b (omega (arith, l))
            ]
      ]

  -- a search for a place that found none passed no element
  pub not_placed : (p : X → Bool) (xs : List X) → position p xs ≡ None → (x : X) → Contains xs x → p x ≡ false
  not_placed p xs e x k =
      elim (cases_Bool (p x)) [
        | inl t ↦
            let l = lt-ltb (position_or_len p xs) (length xs) (placed p xs x k t) in
            let is : Some (position_or_len p xs) ≡ None = sym (ap (λ b. cond b (Some (position_or_len p xs)) None) l) ∙ e in
            absurd cc
        | inr f ↦ f
      ]

  -- an element that is seen first is an element
  pub seen_from : (E : X → X → Bool) (xs : List X) (x : X) → Contains (first_seen_by E xs) x → Contains xs x
  seen_from E [] x k = k
  seen_from E (y ∷ xs) x k =
      elim (Contains-cases y x (filter (λ z. not (E y z)) (first_seen_by E xs)) k) [
        | inl e ↦ Contains-is y x (y ∷ xs) e (Contains-here y xs)
        | inr m ↦ Contains-there y x xs (seen_from E xs x (filter_from (λ z. not (E y z)) (first_seen_by E xs) x m).0)
      ]
