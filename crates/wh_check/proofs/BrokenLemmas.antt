-- What is broken first depends on the rows as sets alone.
use Rattle.std.proofs.Common.{◌≡◌, ℕ, ◌+◌, List, [], ◌∷◌, ◌++◌, map, length, get_or, not, Contains, refl, sym, ap, ◌∙◌}
use Rattle.wh_base.specs.RowSet.{SameRows, has, in_order}
use Rattle.wh_base.proofs.InOrder.{SameMembers-from, SameRows-from, in_order-same}
use Rattle.wh_base.proofs.RowSets.{SameRows-filter, SameRows-map}
use Rattle.wh_laws.proofs.Changes.{repeated_from, repeated_in}
use Rattle.wh_laws.proofs.Lists.{Contains-here, Contains-is, Contains-there}
use Rattle.wh_laws.proofs.Pieces.{numbers_from}
use Rattle.wh_laws.proofs.Reconstruction.{same_rows_sym}
use Rattle.wh_schema.specs.declared.spec.Inclusion.{Inclusion}
use Rattle.wh_schema.specs.declared.spec.Spec.{Spec}
use Rattle.wh_schema.specs.Constraints.{broken, first_break, least_or, missing_values, repeated_keys}
use Rattle.wh_schema.specs.Legality.{WellFormed}
use Rattle.wh_schema.specs.Warehouse.{Row, SameState, State, key_value, left_value, numbers, right_value}

-- ---- the first list with a row

module _ {X : Type 0} (f g : X → List Row) (rest others : List (List Row)) (later : (n : ℕ) → first_break n rest ≡ first_break n others) where
  first_same : (n : ℕ) (xs : List X) → ((x : X) → Contains xs x → SameRows (f x) (g x)) → first_break n (map f xs ++ rest) ≡ first_break n (map g xs ++ others)
  first_same n [] h = later n
  first_same n (x ∷ xs) h =
      ap (λ rows. least_or n rows (first_break (n + 1) (map f xs ++ rest))) (in_order-same (f x) (g x) (h x (Contains-here x xs)))
      ∙ ap (least_or n (in_order (g x))) (first_same (n + 1) xs (λ y k. h y (Contains-there x y xs k)))

-- ---- the values that break a constraint

module _ (spec : Spec) where
  repeated_into : (s t : State) (i : ℕ) → SameRows (get_or s i []) (get_or t i []) → (v : Row) → Contains (repeated_keys spec s i) v → Contains (repeated_keys spec t i) v
  repeated_into s t i same v h =
      let a = repeated_from spec s i v h in
      let to : (x : Row) → Contains (get_or s i []) x → Contains (get_or t i []) x = λ x k. (SameMembers-from (get_or s i []) (get_or t i []) same x).0 k in
      Contains-is (key_value spec i a.one) v (repeated_keys spec t i) a.one_key
      (repeated_in spec t i a.one a.other (to a.one a.one_in) (to a.other a.other_in) a.differ (a.one_key ∙ sym a.other_key))

  repeated_same : (s t : State) (i : ℕ) → SameRows (get_or s i []) (get_or t i []) → SameRows (repeated_keys spec s i) (repeated_keys spec t i)
  repeated_same s t i same =
      SameRows-from (repeated_keys spec s i) (repeated_keys spec t i)
      (λ v. (repeated_into s t i same v, repeated_into t s i (same_rows_sym (get_or s i []) (get_or t i []) same) v))

  missing_same : (s t : State) (c : Inclusion) → SameRows (get_or s c.from []) (get_or t c.from []) → SameRows (get_or s c.to []) (get_or t c.to []) → SameRows (missing_values spec s c) (missing_values spec t c)
  missing_same s t c left right =
      let a = map (right_value spec c) (get_or s c.to []) in
      let b = map (right_value spec c) (get_or t c.to []) in
      let rights : SameRows a b = SameRows-map (right_value spec c) (get_or s c.to []) (get_or t c.to []) right in
      SameRows-filter (λ r. not (has a r)) (λ r. not (has b r)) (λ r. ap not (rights r))
      (map (left_value spec c) (get_or s c.from [])) (map (left_value spec c) (get_or t c.from []))
      (SameRows-map (left_value spec c) (get_or s c.from []) (get_or t c.from []) left)

nothing_more : (xs : List (List Row)) (n : ℕ) → first_break n (xs ++ []) ≡ first_break n xs
nothing_more [] n = refl
nothing_more (x ∷ xs) n = ap (least_or n (in_order x)) (nothing_more xs (n + 1))

pub broken_goes_by_sets : (spec : Spec) → WellFormed spec → (s t : State) → SameState spec s t → broken spec s ≡ broken spec t
broken_goes_by_sets spec wf s t same =
    let inclusions : (n : ℕ) → first_break n (map (missing_values spec s) spec.inclusions) ≡ first_break n (map (missing_values spec t) spec.inclusions) = λ n.
    sym (nothing_more (map (missing_values spec s) spec.inclusions) n)
    ∙ first_same (missing_values spec s) (missing_values spec t) [] [] (λ m. refl) n spec.inclusions
    (λ c k. let fits = wf.inclusions c k in missing_same spec s t c (same c.from fits.left) (same c.to fits.right))
    ∙ nothing_more (map (missing_values spec t) spec.inclusions) n in
    first_same (repeated_keys spec s) (repeated_keys spec t) (map (missing_values spec s) spec.inclusions) (map (missing_values spec t) spec.inclusions) inclusions 1 (numbers (length spec.relations))
    (λ i k. repeated_same spec s t i (same i (numbers_from (length spec.relations) i k)))
