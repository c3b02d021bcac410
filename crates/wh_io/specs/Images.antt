-- The content of a disk in memory, and what a torn crash leaves of it, are among what a crash may leave.
use Rattle.std.specs.Prelude.{◌≡◌, ℕ, ◌+◌, ◌-◌, ◌≤◌, Bool, true, false, nat_le, if◌then◌else◌, List, [], ◌∷◌, ◌++◌, length, take, drop, replicate}
use Rattle.std.proofs.Common.{inl, inr, refl, ◌∙◌, ap, arith, append_assoc, length-append, length-drop, subst}
use Rattle.std.proofs.lemmas.Bool.{leb-true}
use Rattle.std.proofs.lemmas.List.{length-take, length-take-le, length-replicate, take_at, drop_at, take-take}
use Rattle.wh_io.specs.Disk.{written, Torn, PartlyCut}
use Rattle.wh_io.specs.Recorded.{Recorded, wrote, cut_off, synced, placed, filled, played, Left, LeftSince, torn}

pub torn_same : (at n : ℕ) (content : List ℕ) → Torn at n content content
torn_same at n content = record { before = refl; after = refl; no_shorter = omega arith; no_longer = omega arith }

pub cut_same : (to : ℕ) (content : List ℕ) → PartlyCut to content content
cut_same to content = record { before = refl; no_shorter = omega arith; no_longer = omega arith }

-- any bytes of the right number in the range
pub torn_range : (at n : ℕ) (bytes content : List ℕ) → length bytes ≡ n → at ≤ length content → Torn at n content (take at content ++ bytes ++ drop (at + n) content)
torn_range at n bytes content is inside =
    let front : length (take at content) ≡ at = length-take-le at content inside in
    let both : length (take at content ++ bytes) ≡ at + n = omega (arith, front, is, length-append (take at content) bytes) in
    let whole = length-append (take at content ++ bytes) (drop (at + n) content) in
    let rest = length-drop (at + n) content in
    record {
      before = ap (λ (l : List ℕ). take at l) (append_assoc (take at content) bytes (drop (at + n) content)) ∙ take_at (take at content) (bytes ++ drop (at + n) content) at front;
      after = drop_at (take at content ++ bytes) (drop (at + n) content) (at + n) both;
      no_shorter = omega (arith, both, whole, rest);
      no_longer = omega (arith, both, whole, rest);
    }

-- a choice between two contents that both have P
chosen : (P : List ℕ → Type 0) (test : Bool) (x y : List ℕ) → (test ≡ true → P x) → P y → P (if test then x else y)
chosen P true x y held other = held refl
chosen P false x y held other = other

torn_placed : (at : ℕ) (bytes content : List ℕ) → Torn at (length bytes) content (placed content at bytes)
torn_placed at bytes content =
    chosen (Torn at (length bytes) content) (nat_le at (length content)) _ _ (λ is. torn_range at (length bytes) bytes content refl (leb-true at (length content) is)) (torn_same at (length bytes) content)

torn_filled : (fill at n : ℕ) (content : List ℕ) → Torn at n content (filled fill content at n)
torn_filled fill at n content =
    subst (λ (m : ℕ). Torn at m content (filled fill content at n)) (length-replicate n fill) (torn_placed at (replicate n fill) content)

pub cut_taken : (to : ℕ) (content : List ℕ) → PartlyCut to content (take to content)
cut_taken to content = record {
  before = take-take to to content (omega arith);
  no_shorter = omega (arith, length-take to content);
  no_longer = omega (arith, length-take to content);
}

-- a torn range that reaches to the end
cut_torn : (to : ℕ) (old new : List ℕ) → to ≤ length old → Torn to (length old - to) old new → PartlyCut to old new
cut_torn to old new inside torn = record {
  before = torn.before;
  no_shorter = omega (arith, torn.no_shorter);
  no_longer = omega (arith, torn.no_longer);
}

cut_filled : (fill to : ℕ) (content : List ℕ) → PartlyCut to content (filled fill content to (length content - to))
cut_filled fill to content =
    let n = length content - to in
    chosen (PartlyCut to content) (nat_le to (length content)) _ _
    (λ is.
    let inside = leb-true to (length content) is in
    let whole = torn_range to (length (replicate n fill)) (replicate n fill) content refl inside in
    cut_torn to content _ inside (subst (λ (m : ℕ). Torn to m content (written content to (replicate n fill))) (length-replicate n fill) whole))
    (cut_same to content)

-- the content is one of them
pub played_is_left : (start : List ℕ) (calls : List Recorded) → Left start calls (played start calls)
played_is_left start [] = refl
played_is_left start (wrote at bytes true ∷ older) = (played start older, played_is_left start older, torn_placed at bytes (played start older))
played_is_left start (wrote at bytes false ∷ older) = (played start older, played_is_left start older, torn_same at (length bytes) (played start older))
played_is_left start (cut_off to true ∷ older) = (played start older, played_is_left start older, cut_taken to (played start older))
played_is_left start (cut_off to false ∷ older) = (played start older, played_is_left start older, cut_same to (played start older))
played_is_left start (synced true ∷ older) = refl
played_is_left start (synced false ∷ older) = played_is_left start older

-- so is the content with each pending place filled
pub torn_is_left : (fill : ℕ) (start : List ℕ) (calls : List Recorded) → Left start calls (torn fill start calls)
torn_is_left fill start [] = refl
torn_is_left fill start (wrote at bytes done ∷ older) = (torn fill start older, torn_is_left fill start older, torn_filled fill at (length bytes) (torn fill start older))
torn_is_left fill start (cut_off to done ∷ older) = (torn fill start older, torn_is_left fill start older, cut_filled fill to (torn fill start older))
torn_is_left fill start (synced true ∷ older) = refl
torn_is_left fill start (synced false ∷ older) = torn_is_left fill start older

-- this moment is one of those since an earlier one
pub left_counts_now : (start : List ℕ) (calls : List Recorded) (t : ℕ) (c : List ℕ) → Left start calls c → LeftSince start calls t c
left_counts_now start [] t c left = left
left_counts_now start (call ∷ older) t c left = inl left

-- since this moment there is no other
pub left_only_now : (start : List ℕ) (calls : List Recorded) (c : List ℕ) → LeftSince start calls (length calls) c → Left start calls c
left_only_now start [] c left = left
left_only_now start (call ∷ older) c (inl left) = left
left_only_now start (call ∷ older) c (inr earlier) = absurd (omega (arith, earlier.0))
