-- A set of pieces is a cover where it has all names and needs each piece for it.
use Rattle.std.proofs.Common.{◌≡◌, ℕ, zero, suc, ◌+◌, ◌-◌, ◌<◌, Bool, true, false, not, ◌&&◌, ◌||◌, List, [], ◌∷◌, ◌++◌, map, filter, length, get_or, take, drop, add-one, refl, sym, ap, ◌∙◌, arith, true≢false}
use Rattle.std.specs.Prelude.{nat_eq}
use Rattle.std.specs.List.{list_any, list_all, flat_map}
use Rattle.std.proofs.Math.Dec.{eqb-zero-suc, eqb-suc-suc}
use Rattle.std.proofs.lemmas.List.Elements.{filter_agree}
use Rattle.std.proofs.lemmas.List.Folds.{list_any-append}
use Rattle.wh_base.specs.Columns.{is_in}
use Rattle.wh_covers.specs.Covers.{holders_of, has_flag, has_all, needs_each, is_least}
use Rattle.wh_schema.specs.declared.piece.Piece.{Piece}
use Rattle.wh_schema.specs.Warehouse.{numbers, subsets, holds_all, is_cover, no_piece, pieces_at, cover_numbers}

-- ---- tests into Bool

and_moves : (a b c d : Bool) → (a && (b && (c && d))) ≡ ((a && c) && (b && d))
and_moves true true c d = refl
and_moves true false true d = refl
and_moves true false false d = refl
and_moves false b c d = refl

or_true : (b : Bool) → (b || true) ≡ true
or_true true = refl
or_true false = refl

or_false : (b : Bool) → (b || false) ≡ b
or_false true = refl
or_false false = refl

-- a test that passes wherever another does decides both
not_both : (a b : Bool) → (a ≡ true → b ≡ true) → (not a && not b) ≡ not b
not_both true b h = sym (ap not (h refl))
not_both false b h = refl

or_grows : (a b c : Bool) → (a || b) ≡ true → (a || (c || b)) ≡ true
or_grows true b c h = refl
or_grows false b true h = refl
or_grows false b false h = h

and_left : (a b : Bool) → (a && b) ≡ true → a ≡ true
and_left true b h = refl
and_left false b h = h

and_right : (a b : Bool) → (a && b) ≡ true → b ≡ true
and_right true b h = h
and_right false b h = absurd (true≢false (sym h))

both : (a b : Bool) → a ≡ true → b ≡ true → (a && b) ≡ true
both a b h k = ap (λ c. c && b) h ∙ k

module _ {X : Type 0} where
  list_all-weaker : (p q : X → Bool) → ((x : X) → p x ≡ true → q x ≡ true) → (xs : List X) → list_all p xs ≡ true → list_all q xs ≡ true
  list_all-weaker p q w [] h = h
  list_all-weaker p q w (x ∷ xs) h = both (q x) (list_all q xs) (w x (and_left (p x) (list_all p xs) h)) (list_all-weaker p q w xs (and_right (p x) (list_all p xs) h))

  -- ---- the subsets of a list with one item more

  with_and_without : (q : List X → Bool) (x : X) (ss : List (List X)) → list_all q (flat_map (λ s. s ∷ (x ∷ s) ∷ []) ss) ≡ (list_all q ss && list_all (λ s. q (x ∷ s)) ss)
  with_and_without q x [] = refl
  with_and_without q x (s ∷ ss) = ap (λ b. q s && (q (x ∷ s) && b)) (with_and_without q x ss) ∙ and_moves (q s) (q (x ∷ s)) (list_all q ss) (list_all (λ t. q (x ∷ t)) ss)

  -- a test that a list passes still when it gets an item
  abbrev pub Grows : (List X → Bool) → Type 0
  Grows H = (before : List X) (x : X) (after : List X) → H (before ++ after) ≡ true → H (before ++ x ∷ after) ≡ true

  Grows-cons : (H : List X → Bool) → Grows H → (x : X) → Grows (λ s. H (x ∷ s))
  Grows-cons H g x before = g (x ∷ before)

  abbrev fails : (List X → Bool) → ℕ → List X → Bool
  fails H n d = not (H d) || nat_eq (length d) n

  fails_more : (H : List X → Bool) (n : ℕ) (x : X) (ss : List (List X)) → list_all (λ s. fails H (suc n) (x ∷ s)) ss ≡ list_all (fails (λ s. H (x ∷ s)) n) ss
  fails_more H n x ss = ap (λ q. list_all q ss) (λ i s. not (H (x ∷ s)) || eqb-suc-suc (length s) n i)

  -- no shorter subset passes where the whole list does not
  all_fail : (H : List X → Bool) → Grows H → (n : ℕ) (xs : List X) → length xs < n → list_all (fails H n) (subsets xs) ≡ not (H xs)
  all_fail H g zero xs h = absurd (omega arith)
  all_fail H g (suc n) [] h = ap (λ b. (not (H []) || b) && true) (eqb-zero-suc n) ∙ trimmed (not (H []))
    where
      trimmed : (b : Bool) → ((b || false) && true) ≡ b
      trimmed true = refl
      trimmed false = refl
  all_fail H g (suc n) (x ∷ xs) h =
      with_and_without (fails H (suc n)) x (subsets xs)
      ∙ (λ i. all_fail H g (suc n) xs (omega arith) i && (fails_more H n x (subsets xs) ∙ all_fail (λ s. H (x ∷ s)) (Grows-cons H g x) n xs (omega arith)) i)
      ∙ not_both (H xs) (H (x ∷ xs)) (g [] x xs)

  pub each_needed : (H : List X → Bool) → Grows H → (c : List X) → list_all (fails H (length c)) (subsets c) ≡ needs_each H c
  each_needed H g [] = ap (λ b. b && true) (or_true (not (H [])))
  each_needed H g (x ∷ xs) =
      with_and_without (fails H (suc (length xs))) x (subsets xs)
      ∙ (λ i. all_fail H g (suc (length xs)) xs (omega arith) i && (fails_more H (length xs) x (subsets xs) ∙ each_needed (λ s. H (x ∷ s)) (Grows-cons H g x) xs) i)

  turn : (H : List X → Bool) (c : List X) (i : ℕ) → i < length c
      → needs_each (λ s. H (take i c ++ s)) (drop i c) ≡ (not (H (take i c ++ drop (suc i) c)) && needs_each (λ s. H (take (suc i) c ++ s)) (drop (suc i) c))
  turn H [] i h = absurd (omega arith)
  turn H (x ∷ xs) zero h = refl
  turn H (x ∷ xs) (suc i) h = turn (λ s. H (x ∷ s)) xs i (omega arith)

  -- one turn of a loop that leaves each item out once
  pub needs_each_more : (H : List X → Bool) (c : List X) (i : ℕ) → i < length c
      → needs_each (λ s. H (take i c ++ s)) (drop i c) ≡ (not (H (take i c ++ drop (i + 1) c)) && needs_each (λ s. H (take (i + 1) c ++ s)) (drop (i + 1) c))
  needs_each_more H c i h = rw add-one (turn H c i h)

needs_each-map : {X Y : Type 0} (H : List Y → Bool) (f : X → Y) (c : List X) → needs_each H (map f c) ≡ needs_each (λ s. H (map f s)) c
needs_each-map H f [] = refl
needs_each-map H f (x ∷ xs) = ap (λ b. not (H (map f xs)) && b) (needs_each-map (λ s. H (f x ∷ s)) f xs)

-- ---- the flags of the pieces

flag_at : (ps : List Piece) (name : List ℕ) (k : ℕ) → get_or (holders_of ps name) k false ≡ is_in (get_or ps k no_piece).attrs name
flag_at [] name k = refl
flag_at (p ∷ ps) name zero = refl
flag_at (p ∷ ps) name (suc k) = flag_at ps name k

has_flag_is : (ps : List Piece) (name : List ℕ) (c : List ℕ) → has_flag (holders_of ps name) c ≡ list_any (λ p. is_in p.attrs name) (pieces_at ps c)
has_flag_is ps name [] = refl
has_flag_is ps name (k ∷ c) = λ i. flag_at ps name (k - 1) i || has_flag_is ps name c i

has_all_is : (ps : List Piece) (names : List (List ℕ)) (c : List ℕ) → has_all (map (holders_of ps) names) c ≡ holds_all names (pieces_at ps c)
has_all_is ps [] c = refl
has_all_is ps (name ∷ names) c = λ i. has_flag_is ps name c i && has_all_is ps names c i

holds_all-grows : (names : List (List ℕ)) → Grows (holds_all names)
holds_all-grows names before p after =
    list_all-weaker (λ n. list_any (λ q. is_in q.attrs n) (before ++ after)) (λ n. list_any (λ q. is_in q.attrs n) (before ++ p ∷ after))
    (λ n h.
    let test = λ (q : Piece). is_in q.attrs n in
    list_any-append test before (p ∷ after) ∙ or_grows (list_any test before) (list_any test after) (test p) (sym (list_any-append test before after) ∙ h))
    names

is_least_is : (ps : List Piece) (names : List (List ℕ)) (c : List ℕ) → is_least (map (holders_of ps) names) c ≡ is_cover names (pieces_at ps c)
is_least_is ps names c =
    let same : has_all (map (holders_of ps) names) ≡ (λ s. holds_all names (pieces_at ps s)) = λ i s. has_all_is ps names s i in
    (λ i. same i c && needs_each (same i) c)
    ∙ ap (λ b. holds_all names (pieces_at ps c) && b)
    (sym (needs_each-map (holds_all names) (λ i. get_or ps (i - 1) no_piece) c) ∙ sym (each_needed (holds_all names) (holds_all-grows names) (pieces_at ps c)))

pub least_covers : (ps : List Piece) (names : List (List ℕ)) (sets : List (List ℕ)) → sets ≡ subsets (map suc (numbers (length ps)))
    → filter (is_least (map (holders_of ps) names)) sets ≡ cover_numbers names ps
least_covers ps names sets are =
    filter_agree (is_least (map (holders_of ps) names)) (λ c. is_cover names (pieces_at ps c)) (is_least_is ps names) sets
    ∙ ap (filter (λ c. is_cover names (pieces_at ps c))) are
