-- The sublists of a list.
use Rattle.std.proofs.Common.{◌≡◌, ◌⊎◌, suc, ◌≤◌, List, [], ◌∷◌, length, Contains, sym, ap, subst, inl, inr, arith}
use Rattle.wh_schema.specs.Warehouse.{subsets}
use Rattle.wh_laws.proofs.Lists.{Contains-nil, Contains-here, Contains-there, Contains-cases, Contains-is, flat_in, flat_from}

module _ {X : Type 0} where
  -- a sublist of x ∷ xs is one of xs, or x before one
  pub record Split (x : X) (xs c : List X) : Type 0 where
    pub rest : List X
    pub is_in : Contains (subsets xs) rest
    pub is : (c ≡ rest) ⊎ (c ≡ x ∷ rest)

  pub subsets_nil : (c : List X) → Contains (subsets []) c → c ≡ []
  subsets_nil c h = elim (Contains-cases [] c [] h) [ inl e ↦ sym e | inr k ↦ absurd (Contains-nil c k) ]

  pub subsets_from : (x : X) (xs c : List X) → Contains (subsets (x ∷ xs)) c → Split x xs c
  subsets_from x xs c h =
      let a = flat_from (λ s. s ∷ (x ∷ s) ∷ []) (subsets xs) c h in
      record {
        rest = a.0;
        is_in = a.1;
        is = elim (Contains-cases a.0 c ((x ∷ a.0) ∷ []) a.2) [
          | inl e ↦ inl (sym e)
          | inr k ↦ elim (Contains-cases (x ∷ a.0) c [] k) [ inl e ↦ inr (sym e) | inr z ↦ absurd (Contains-nil c z) ]
        ];
      }

  pub subsets_skip : (x : X) (xs c : List X) → Contains (subsets xs) c → Contains (subsets (x ∷ xs)) c
  subsets_skip x xs c h = flat_in (λ s. s ∷ (x ∷ s) ∷ []) (subsets xs) c c h (Contains-here c ((x ∷ c) ∷ []))

  pub subsets_take : (x : X) (xs c : List X) → Contains (subsets xs) c → Contains (subsets (x ∷ xs)) (x ∷ c)
  subsets_take x xs c h = flat_in (λ s. s ∷ (x ∷ s) ∷ []) (subsets xs) c (x ∷ c) h (Contains-there c (x ∷ c) ((x ∷ c) ∷ []) (Contains-here (x ∷ c) []))

  pub subsets_none : (xs : List X) → Contains (subsets xs) []
  subsets_none [] = Contains-here [] []
  subsets_none (x ∷ xs) = subsets_skip x xs [] (subsets_none xs)

  pub subsets_one : (xs : List X) (x : X) → Contains xs x → Contains (subsets xs) (x ∷ [])
  subsets_one [] x h = absurd (Contains-nil x h)
  subsets_one (y ∷ xs) x h =
      elim (Contains-cases y x xs h) [
        | inl e ↦ Contains-is (y ∷ []) (x ∷ []) (subsets (y ∷ xs)) (ap (λ z. z ∷ []) e) (subsets_take y xs [] (subsets_none xs))
        | inr k ↦ subsets_skip y xs (x ∷ []) (subsets_one xs x k)
      ]

  pub subsets_members : (xs c : List X) → Contains (subsets xs) c → (x : X) → Contains c x → Contains xs x
  subsets_members [] c h x k = let P : List X → Type 0 = λ l. Contains l x in subst P (subsets_nil c h) k
  subsets_members (y ∷ xs) c h x k =
      let a = subsets_from y xs c h in
      let P : List X → Type 0 = λ l. Contains l x in
      elim a.is [
        | inl e ↦ Contains-there y x xs (subsets_members xs a.rest a.is_in x (subst P e k))
        | inr e ↦
            elim (Contains-cases y x a.rest (subst P e k)) [
              | inl q ↦ Contains-is y x (y ∷ xs) q (Contains-here y xs)
              | inr m ↦ Contains-there y x xs (subsets_members xs a.rest a.is_in x m)
            ]
      ]

  pub subsets_length : (xs c : List X) → Contains (subsets xs) c → length c ≤ length xs
  subsets_length [] c h = let e : length c ≡ 0 = ap length (subsets_nil c h) in omega arith
  subsets_length (y ∷ xs) c h =
      let a = subsets_from y xs c h in
      let below : length a.rest ≤ length xs = subsets_length xs a.rest a.is_in in
      elim a.is [
        | inl e ↦ let q : length c ≡ length a.rest = ap length e in omega arith
        | inr e ↦ let q : length c ≡ suc (length a.rest) = ap length e in omega arith
      ]

  trans_take : (xs c d : List X) (y : X) → (a : Split y c d) → ((e : List X) → Contains (subsets c) e → Contains (subsets xs) e) → Contains (subsets (y ∷ xs)) d
  trans_take xs c d y a below =
      let P : List X → Type 0 = Contains (subsets (y ∷ xs)) in
      elim a.is [
        | inl e ↦ subst P (sym e) (subsets_skip y xs a.rest (below a.rest a.is_in))
        | inr e ↦ subst P (sym e) (subsets_take y xs a.rest (below a.rest a.is_in))
      ]

  pub subsets_trans : (xs c d : List X) → Contains (subsets xs) c → Contains (subsets c) d → Contains (subsets xs) d
  subsets_trans [] c d h k =
      let e = subsets_nil c h in
      let P : List X → Type 0 = λ l. Contains (subsets l) d in
      subst P e k
  subsets_trans (y ∷ xs) c d h k =
      let a = subsets_from y xs c h in
      let P : List X → Type 0 = λ l. Contains (subsets l) d in
      elim a.is [
        | inl e ↦ subsets_skip y xs d (subsets_trans xs a.rest d a.is_in (subst P e k))
        | inr e ↦ trans_take xs a.rest d y (subsets_from y a.rest d (subst P e k)) (λ z m. subsets_trans xs a.rest z a.is_in m)
      ]

  pub subsets_self : (xs : List X) → Contains (subsets xs) xs
  subsets_self [] = Contains-here [] []
  subsets_self (x ∷ xs) = subsets_take x xs xs (subsets_self xs)
