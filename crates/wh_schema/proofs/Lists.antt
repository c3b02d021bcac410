-- Searches in lists of names.
use Rattle.std.proofs.Common.{◌≡◌, ℕ, ◌+◌, ◌<◌, Bool, true, false, List, [], ◌∷◌, ◌++◌, length, get_or, take, drop, map, Some, sym, ap, ◌∙◌, if◌then◌else◌}
use Rattle.std.proofs.lemmas.List.{take_more, drop_more, get_or-map, length-map, take-map}
use Rattle.wh_base.specs.Columns.{is_in}
use Rattle.wh_schema.specs.Rules.{first_again, first_repeat}

-- the search for a name that comes again, at the item i with the name n
module _ {X : Type 0} (h : X → List ℕ) (items : List X) (i : ℕ) (x : X) (n : List ℕ) (found : Bool) (within : i < length items) (is : x ≡ get_or items i x)
    (named : n ≡ h x) (tested : found ≡ is_in (map h (take i items)) n)
    (so_far : first_repeat (map h items) ≡ first_again (take i (map h items)) (drop i (map h items))) where
  first_again_at : first_repeat (map h items) ≡ (if found then Some n else first_again (take (i + 1) (map h items)) (drop (i + 1) (map h items)))
  first_again_at =
      let names = map h items in
      let inside : i < length names = rw length-map within in
      let here : get_or names i n ≡ n = get_or-map h items i x n within ∙ ap h (sym is) ∙ sym named in
      let rest : drop i names ≡ n ∷ drop (i + 1) names = drop_more names i n inside ∙ ap (λ m. m ∷ drop (i + 1) names) here in
      let front : take (i + 1) names ≡ take i names ++ n ∷ [] = take_more names i n inside ∙ ap (λ m. take i names ++ m ∷ []) here in
      let start : map h (take i items) ≡ take i names = sym (take-map h i items) in
      so_far ∙ rw (rest, front, tested, start)

  pub first_repeat_here : found ≡ true → first_repeat (map h items) ≡ Some n
  first_repeat_here e = first_again_at ∙ ap (λ b. if b then Some n else first_again (take (i + 1) (map h items)) (drop (i + 1) (map h items))) e

  pub first_repeat_later : found ≡ false → first_repeat (map h items) ≡ first_again (take (i + 1) (map h items)) (drop (i + 1) (map h items))
  first_repeat_later e = first_again_at ∙ ap (λ b. if b then Some n else first_again (take (i + 1) (map h items)) (drop (i + 1) (map h items))) e
