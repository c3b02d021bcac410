-- The stored tables at their places, each in row order.
use Rattle.std.proofs.Common.{◌≡◌, ℕ, ◌<◌, ◌+◌, List, [], ◌++◌, map, length, get_or, Contains, sym, ◌∙◌, ap, subst, inl, inr, arith, zero-add}
use Rattle.std.proofs.lemmas.List.{get_or_append_left, get_or-append-add, get_or-map, length-map}
use Rattle.std.proofs.lemmas.List.Elements.{Contains-append_cases}
use Rattle.std.proofs.lemmas.List.FromFn.{length-range_with_len, get_or-range_with_len}
use Rattle.wh_base.specs.RowSet.{IsAscending, in_order}
use Rattle.wh_base.proofs.InOrder.{IsAscending-in_order}
use Rattle.wh_schema.specs.declared.spec.Spec.{Spec}
use Rattle.wh_schema.specs.Warehouse.{Row, State, numbers, view_table, complement, sources_of, stored}
use Rattle.wh_laws.proofs.Lists.{map_from}

-- ---- the places of the tables

pub length_numbers_map : {X : Type 0} (f : ℕ → X) (n : ℕ) → length (map f (numbers n)) ≡ n
length_numbers_map f n = length-map (numbers n) f ∙ length-range_with_len 0 n

pub numbers_map_at : {X : Type 0} (f : ℕ → X) (n i : ℕ) (d : X) → i < n → get_or (map f (numbers n)) i d ≡ f i
numbers_map_at f n i d l =
    let m : i < length (numbers n) = omega (arith, length-range_with_len 0 n) in
    get_or-map f (numbers n) i 0 d m ∙ ap f (get_or-range_with_len 0 n i 0 l ∙ zero-add i)

module _ (spec : Spec) (s : State) where
  views_part : List (List Row)
  views_part = map (λ j. in_order (view_table spec s j).rows) (numbers (length spec.views))

  rest_part : List (List Row)
  rest_part = map (λ r. in_order (complement spec (sources_of spec s) r)) (numbers (length spec.relations))

  pub stored_view : (j : ℕ) → j < length spec.views → get_or (stored spec s) j [] ≡ in_order (view_table spec s j).rows
  unfolding views_part rest_part
  stored_view j l =
      let m : j < length views_part = omega (arith, length_numbers_map (λ k. in_order (view_table spec s k).rows) (length spec.views)) in
      get_or_append_left views_part rest_part [] j m ∙ numbers_map_at (λ k. in_order (view_table spec s k).rows) (length spec.views) j [] l

  pub stored_complement : (r : ℕ) → r < length spec.relations → get_or (stored spec s) (length spec.views + r) [] ≡ in_order (complement spec (sources_of spec s) r)
  unfolding views_part rest_part
  stored_complement r l =
      let e : length views_part ≡ length spec.views = length_numbers_map (λ k. in_order (view_table spec s k).rows) (length spec.views) in
      ap (λ n. get_or (views_part ++ rest_part) (n + r) []) (sym e) ∙ get_or-append-add views_part rest_part r []
      ∙ numbers_map_at (λ k. in_order (complement spec (sources_of spec s) k)) (length spec.relations) r [] l

pub stored_ascending : (spec : Spec) (s : State) (rows : List Row) → Contains (stored spec s) rows → IsAscending rows
stored_ascending spec s rows h =
    let P : List Row → Type 0 = IsAscending in
    elim (Contains-append_cases (map (λ j. in_order (view_table spec s j).rows) (numbers (length spec.views))) _ rows h) [
      | inl a ↦ let b = map_from (λ j. in_order (view_table spec s j).rows) (numbers (length spec.views)) rows a in subst P b.2 (IsAscending-in_order (view_table spec s b.0).rows)
      | inr a ↦
          let b = map_from (λ r. in_order (complement spec (sources_of spec s) r)) (numbers (length spec.relations)) rows a in
          subst P b.2 (IsAscending-in_order (complement spec (sources_of spec s) b.0))
    ]
