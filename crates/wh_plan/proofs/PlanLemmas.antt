-- The search for a relation with too many pieces, and how many pieces there can be.
use Rattle.std.proofs.Common.{◌≡◌, ℕ, suc, ◌+◌, ◌<◌, ◌≤◌, ◌^◌, Bool, true, false, cond, List, [], ◌∷◌, map, filter, length, get_or, drop, sym, ap, ◌∙◌, arith, zero-add, add-one, length-append, Some}
use Rattle.std.specs.Prelude.{Option, None}
use Rattle.std.proofs.Math.Seq.{drop-cons, drop-length}
use Rattle.std.proofs.lemmas.Bool.{lt-ltb, le-ltb}
use Rattle.std.proofs.lemmas.List.{length-map}
use Rattle.std.proofs.lemmas.List.FromFn.{length-range_with_len, get_or-map-range_with_len, length-map-range_with_len}
use Rattle.wh_covers.specs.Covers.{IsNumbered}
use Rattle.wh_plan.specs.declared.plan.PlanFault.{PlanFault}
use Rattle.wh_plan.specs.declared.plan.PlanFault.TheVariants.{TooManyPieces, NoMemory}
use Rattle.wh_plan.specs.Plan.{all_pieces, first_too_many, too_many, IsFaultAt, IsPlanFault}
use Rattle.wh_schema.specs.declared.spec.Spec.{Spec}
use Rattle.wh_schema.specs.Warehouse.{numbers, pieces, is_usable_view, is_usable_inclusion, view_piece, inclusion_piece}

length_kept : {X : Type 0} (p : X → Bool) (xs : List X) → length (filter p xs) ≤ length xs
length_kept p [] = omega arith
length_kept p (x ∷ xs) = by (p x) (length_kept p xs)
  where
    by : (b : Bool) → length (filter p xs) ≤ length xs → length (cond b (x ∷ filter p xs) (filter p xs)) ≤ suc (length xs)
    by true h = omega arith
    by false h = omega arith

-- a piece for each view and each inclusion at most
pub few_pieces : (spec : Spec) (r : ℕ) → IsNumbered spec → length (pieces spec r) < 2 ^ 32
few_pieces spec r h =
    let vs = filter (is_usable_view spec r) (numbers (length spec.views)) in
    let is = filter (is_usable_inclusion spec r) (numbers (length spec.inclusions)) in
    let views : length vs ≤ length spec.views = omega (arith, length_kept (is_usable_view spec r) (numbers (length spec.views)), length-range_with_len 0 (length spec.views)) in
    let inclusions : length is ≤ length spec.inclusions = omega (arith, length_kept (is_usable_inclusion spec r) (numbers (length spec.inclusions)), length-range_with_len 0 (length spec.inclusions)) in
    omega (arith, h, views, inclusions, length-append (map (view_piece spec r) vs) (map (inclusion_piece spec r) is), length-map vs (view_piece spec r), length-map is (inclusion_piece spec r))

module _ (spec : Spec) (i : ℕ) (within : i < length spec.relations) where
  at_relation : first_too_many i (drop i (all_pieces spec)) ≡ first_too_many i (pieces spec i ∷ drop (i + 1) (all_pieces spec))
  at_relation =
      let inside : i < length (all_pieces spec) = omega (arith, length-map-range_with_len (pieces spec) 0 (length spec.relations)) in
      let here = get_or-map-range_with_len (pieces spec) 0 (length spec.relations) i i [] within (zero-add i) in
      ap (first_too_many i) (drop-cons (all_pieces spec) i [] inside ∙ (λ j. here j ∷ drop (sym (add-one i) j) (all_pieces spec)))

  abbrev by_test : Bool → Option PlanFault
  by_test b = cond b (Some (TooManyPieces i (length (pieces spec i)))) (first_too_many (i + 1) (drop (i + 1) (all_pieces spec)))

  -- no more than 12 pieces: the search goes on
  pub goes_on : length (pieces spec i) ≤ 12 → first_too_many i (drop i (all_pieces spec)) ≡ first_too_many (i + 1) (drop (i + 1) (all_pieces spec))
  goes_on few = at_relation ∙ ap by_test (le-ltb 12 (length (pieces spec i)) few)

  pub ends_here : (fault : PlanFault) → too_many spec ≡ first_too_many i (drop i (all_pieces spec)) → IsFaultAt i (length (pieces spec i)) fault → IsPlanFault spec fault
  ends_here (TooManyPieces n count) so_far is = so_far ∙ at_relation ∙ ap by_test (lt-ltb 12 (length (pieces spec i)) is.1) ∙ (λ j. Some (TooManyPieces (sym is.0 j) (sym is.2 j)))
  ends_here NoMemory so_far is = tt

pub none_left : (spec : Spec) → first_too_many (length spec.relations) (drop (length spec.relations) (all_pieces spec)) ≡ None
none_left spec =
    let all : length (all_pieces spec) ≡ length spec.relations = length-map-range_with_len (pieces spec) 0 (length spec.relations) in
    ap (λ n. first_too_many (length spec.relations) (drop n (all_pieces spec))) (sym all) ∙ ap (first_too_many (length spec.relations)) (drop-length (all_pieces spec))

-- a list with an item for each number
module _ {X : Type 0} (f : ℕ → X) (n i : ℕ) (xs : List X) (within : i < n) (are : xs ≡ map f (numbers n)) where
  pub place_within : i < length xs
  place_within = omega (arith, ap length are, length-map-range_with_len f 0 n)

  pub item_is : (x : X) → x ≡ get_or xs i x → x ≡ f i
  item_is x at = at ∙ ap (λ l. get_or l i x) are ∙ get_or-map-range_with_len f 0 n i i x within (zero-add i)

  pub item_or : (d : X) → get_or xs i d ≡ f i
  item_or d = ap (λ l. get_or l i d) are ∙ get_or-map-range_with_len f 0 n i i d within (zero-add i)
