-- One number more.
use Rattle.std.proofs.Common.{◌≡◌, ℕ, zero, suc, ◌+◌, Bool, true, false, cond, List, [], ◌∷◌, ◌++◌, map, filter, refl, sym, ap, ◌∙◌, zero-add, add-one}
use Rattle.std.specs.List.{range_with_len}
use Rattle.std.proofs.lemmas.List.{append-nil, map-append, map-id}
use Rattle.std.proofs.lemmas.List.Elements.{filter-append}
use Rattle.std.proofs.lemmas.List.FromFn.{map-range_with_len_more}
use Rattle.wh_schema.specs.Warehouse.{numbers}

pub numbers_more : (n : ℕ) → numbers (n + 1) ≡ numbers n ++ n ∷ []
numbers_more n = sym (map-id (numbers (n + 1))) ∙ map-range_with_len_more (λ (x : ℕ). x) 0 n n (zero-add n) ∙ ap (λ (l : List ℕ). l ++ n ∷ []) (map-id (numbers n))

module _ {X : Type 0} (f : ℕ → X) (p : ℕ → Bool) (n : ℕ) where
  more : map f (filter p (numbers (n + 1))) ≡ map f (filter p (numbers n)) ++ map f (cond (p n) (n ∷ []) [])
  more = ap (λ l. map f (filter p l)) (numbers_more n) ∙ ap (map f) (filter-append p (numbers n) (n ∷ [])) ∙ map-append f (filter p (numbers n)) (cond (p n) (n ∷ []) [])

  -- the number passes the test, or not
  pub kept_more : p n ≡ true → map f (filter p (numbers (n + 1))) ≡ map f (filter p (numbers n)) ++ f n ∷ []
  kept_more h = more ∙ ap (λ b. map f (filter p (numbers n)) ++ map f (cond b (n ∷ []) [])) h

  pub dropped_more : p n ≡ false → map f (filter p (numbers (n + 1))) ≡ map f (filter p (numbers n))
  dropped_more h = more ∙ ap (λ b. map f (filter p (numbers n)) ++ map f (cond b (n ∷ []) [])) h ∙ append-nil (map f (filter p (numbers n)))

pub map_suc-range_with_len : (a n : ℕ) → map suc (range_with_len a n) ≡ range_with_len (a + 1) n
map_suc-range_with_len a zero = refl
map_suc-range_with_len a (suc n) = λ i. sym (add-one a) i ∷ map_suc-range_with_len (a + 1) n i
