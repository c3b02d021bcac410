-- Numbers taken one after another.
use Rattle.std.proofs.Common.{◌≡◌, ℕ, zero, suc, ◌+◌, ◌-◌, ◌<◌, Bool, true, false, cond, List, [], ◌∷◌, ◌++◌, map, fold, refl, sym, ap, ◌∙◌, arith, add-one, zero-add, append_assoc, Some}
use Rattle.std.specs.Prelude.{Option}
use Rattle.std.specs.List.{find, flat_map, range_with_len}
use Rattle.std.proofs.lemmas.List.{append-nil}
use Rattle.wh_schema.specs.Reconstruction.{iterate}
use Rattle.wh_schema.specs.Warehouse.{numbers}

pub iterate_more : {X : Type 0} (n : ℕ) (f : X → X) (x : X) → iterate (suc n) f x ≡ f (iterate n f x)
iterate_more zero f x = refl
iterate_more (suc n) f x = iterate_more n f (f x)

-- the numbers from i up to n begin with i
module _ (test : ℕ → Bool) (n i : ℕ) (within : i < n) where
  begins : range_with_len i (n - i) ≡ i ∷ range_with_len (i + 1) (n - (i + 1))
  begins =
      let is : n - i ≡ suc (n - (i + 1)) = omega arith in
      ap (range_with_len i) is

  abbrev by_test : Bool → Option ℕ
  by_test b = cond b (Some i) (find test (range_with_len (i + 1) (n - (i + 1))))

  pub found_here : test i ≡ true → find test (range_with_len i (n - i)) ≡ Some i
  found_here h = ap (find test) begins ∙ ap by_test h

  pub found_later : test i ≡ false → find test (range_with_len i (n - i)) ≡ find test (range_with_len (i + 1) (n - (i + 1)))
  found_later h = ap (find test) begins ∙ ap by_test h

-- a fold over items that are mapped
pub fold-map : {X Y B : Type 0} (f : B → Y → B) (g : X → Y) (b : B) (xs : List X) → fold (λ a x. f a (g x)) b xs ≡ fold f b (map g xs)
fold-map f g b [] = refl
fold-map f g b (x ∷ xs) = fold-map f g (f b (g x)) xs

-- texts for the numbers up to n, and for one more
flat_more : {X : Type 0} (f : ℕ → List X) (a n j : ℕ) → a + n ≡ j → flat_map f (range_with_len a (suc n)) ≡ flat_map f (range_with_len a n) ++ f j
flat_more f a zero j e =
    let is : a ≡ j = omega arith in
    append-nil (f a) ∙ ap f is
flat_more f a (suc n) j e =
    let is : (a + 1) + n ≡ j = omega arith in
    ap (λ l. f a ++ l) (flat_more f (a + 1) n j is) ∙ sym (append_assoc (f a) (flat_map f (range_with_len (a + 1) n)) (f j))

pub flat_numbers_more : {X : Type 0} (f : ℕ → List X) (n : ℕ) → flat_map f (numbers (n + 1)) ≡ flat_map f (numbers n) ++ f n
flat_numbers_more f n = ap (λ k. flat_map f (numbers k)) (add-one n) ∙ flat_more f 0 n n (zero-add n)
