-- The covers as numbers of pieces are the covers.
use Rattle.std.proofs.Common.{◌≡◌, ℕ, suc, ◌-◌, ◌<◌, Bool, true, false, cond, List, [], ◌∷◌, map, filter, length, get_or, refl, sym, ◌∙◌, ap, arith, zero-add}
use Rattle.std.specs.List.{flat_map}
use Rattle.std.proofs.lemmas.List.{same_lists, length-map, get_or-map, get_or_default}
use Rattle.std.proofs.lemmas.List.FromFn.{length-range_with_len, get_or-range_with_len}
use Rattle.wh_schema.specs.declared.piece.Piece.{Piece}
use Rattle.wh_schema.specs.Warehouse.{numbers, subsets, is_cover, covers, no_piece, pieces_at, cover_numbers}

module _ {X Y : Type 0} (f : X → Y) where
  subsets_more : (x : X) (ls : List (List X)) → flat_map (λ s. s ∷ (f x ∷ s) ∷ []) (map (map f) ls) ≡ map (map f) (flat_map (λ s. s ∷ (x ∷ s) ∷ []) ls)
  subsets_more x [] = refl
  subsets_more x (l ∷ ls) = ap (λ z. map f l ∷ (f x ∷ map f l) ∷ z) (subsets_more x ls)

  pub subsets-map : (xs : List X) → subsets (map f xs) ≡ map (map f) (subsets xs)
  subsets-map [] = refl
  subsets-map (x ∷ xs) = ap (flat_map (λ s. s ∷ (f x ∷ s) ∷ [])) (subsets-map xs) ∙ subsets_more x (subsets xs)

cond-map : {X Y : Type 0} (f : X → Y) (b : Bool) (x : X) (xs : List X) → cond b (f x ∷ map f xs) (map f xs) ≡ map f (cond b (x ∷ xs) xs)
cond-map f true x xs = refl
cond-map f false x xs = refl

pub filter-map : {X Y : Type 0} (p : Y → Bool) (f : X → Y) (xs : List X) → filter p (map f xs) ≡ map f (filter (λ x. p (f x)) xs)
filter-map p f [] = refl
filter-map p f (x ∷ xs) = ap (λ z. cond (p (f x)) (f x ∷ z) z) (filter-map p f xs) ∙ cond-map f (p (f x)) x (filter (λ y. p (f y)) xs)

abbrev nth : List Piece → ℕ → Piece
nth ps i = get_or ps (i - 1) no_piece

one_before : (k : ℕ) → suc k - 1 ≡ k
one_before k = omega arith

counted : (n k d : ℕ) → k < n → get_or (map suc (numbers n)) k d ≡ suc k
counted n k d h =
    let inside : k < length (numbers n) = omega (arith, length-range_with_len 0 n) in
    get_or-map suc (numbers n) k 0 d inside ∙ ap suc (get_or-range_with_len 0 n k 0 h ∙ zero-add k)

-- all numbers from 1 are all pieces
pub pieces_are : (ps : List Piece) → pieces_at ps (map suc (numbers (length ps))) ≡ ps
pieces_are ps =
    let from_one : length (map suc (numbers (length ps))) ≡ length ps = length-map (numbers (length ps)) suc ∙ length-range_with_len 0 (length ps) in
    let same : length (pieces_at ps (map suc (numbers (length ps)))) ≡ length ps = length-map (map suc (numbers (length ps))) (nth ps) ∙ from_one in
    same_lists (pieces_at ps (map suc (numbers (length ps)))) ps same
    (λ k d h.
    let below : k < length ps = omega (arith, same) in
    let inside : k < length (map suc (numbers (length ps))) = omega (arith, from_one) in
    get_or-map (nth ps) (map suc (numbers (length ps))) k 0 d inside
    ∙ ap (nth ps) (counted (length ps) k 0 below)
    ∙ ap (λ i. get_or ps i no_piece) (one_before k)
    ∙ get_or_default ps k no_piece d below)

pub cover_numbers_are : (names : List (List ℕ)) (ps : List Piece) → map (pieces_at ps) (cover_numbers names ps) ≡ covers names ps
cover_numbers_are names ps =
    sym (filter-map (is_cover names) (pieces_at ps) (subsets (map suc (numbers (length ps)))))
    ∙ ap (filter (is_cover names)) (sym (subsets-map (nth ps) (map suc (numbers (length ps)))) ∙ ap subsets (pieces_are ps))
