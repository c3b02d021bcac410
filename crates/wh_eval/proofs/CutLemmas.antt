-- Rows that are picked whole.
use Rattle.std.proofs.Common.{◌≡◌, ℕ, ◌<◌, List, [], ◌∷◌, map, length, get_or, ◌∙◌, ap, sym, refl, arith}
use Rattle.std.specs.Prelude.{EachIndex, All, pos}
use Rattle.std.proofs.lemmas.List.{same_lists, length-map, get_or-map, get_or_default}
use Rattle.std.proofs.lemmas.List.Elements.{All-head, All-tail}
use Rattle.std.proofs.lemmas.Option.{unwrap_or-slice_get}
use Rattle.wh_base.specs.declared.value.Value.{Value}
use Rattle.wh_base.specs.declared.value.Value.TheVariants.{Int}
use Rattle.wh_base.specs.Columns.{picked, value_at}

value_there : (row : List Value) (k : ℕ) (d : Value) → k < length row → value_at row k ≡ get_or row k d
value_there row k d h = unwrap_or-slice_get row k (Int (pos 0)) ∙ get_or_default row k (Int (pos 0)) d h

pub picked_whole : (places : List ℕ) (row : List Value) → EachIndex places (λ k. get_or places k 0 ≡ k) → length row ≡ length places → picked places row ≡ row
picked_whole places row turn width =
    let same : length (picked places row) ≡ length row = length-map places (value_at row) ∙ sym width in
    same_lists (picked places row) row same
    (λ k d h.
    let below : k < length places = omega (arith, same) in
    let inside : k < length row = omega (arith, same) in
    get_or-map (value_at row) places k 0 d below ∙ ap (value_at row) (turn k below) ∙ value_there row k d inside)

pub all_whole : (places : List ℕ) (rows : List (List Value)) → EachIndex places (λ k. get_or places k 0 ≡ k) → All (λ row. length row ≡ length places) rows → rows ≡ map (picked places) rows
all_whole places [] turn width = refl
all_whole places (row ∷ rows) turn width =
    let one = picked_whole places row turn (All-head (λ r. length r ≡ length places) row rows width) in
    let more = all_whole places rows turn (All-tail (λ r. length r ≡ length places) row rows width) in
    λ i. sym one i ∷ more i
