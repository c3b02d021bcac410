-- A loop over the items of a list that is handed over.
use Rattle.std.proofs.Common.{◌≡◌, ◌+◌, ◌<◌, List, [], ◌∷◌, ◌++◌, length, get_or, refl, sym, ap, ◌∙◌, arith}
use Rattle.std.specs.Iterator.{Yields}
use Rattle.std.specs.Vec.Iter.{into_iter_items, into_iter_len, into_iter_steps}
use Rattle.std.specs.declared.option.Option.{Option}
use Rattle.std.specs.declared.option.Option.TheVariants.{None, Some}
use Rattle.std.specs.declared.vec.IntoIter.{IntoIter}
use Rattle.std.proofs.lemmas.List.{append-nil, get_or_at, length-append, nil_from_length}
use Rattle.std.proofs.lemmas.Option.{MatchOption-at_some, MatchOption-at_none}

-- what was yielded is a front of the items
taken_front : {X A : Type 0} (s : IntoIter X A) (xs : List X) (t : IntoIter X A) → Yields into_iter_steps s xs t → into_iter_items s ≡ xs ++ into_iter_items t
taken_front s [] t y = ap into_iter_items y
taken_front s (x ∷ xs) t y = y.1.0 ∙ ap (λ ys. x ∷ ys) (taken_front y.0 xs t y.2)

-- the item of this turn is the next one of the list
pub vec_turn : {X A : Type 0} (all : List X) (s t u : IntoIter X A) (yielded : List X) (r : Option X) (x : X) → into_iter_items s ≡ all → Yields into_iter_steps s yielded t → r ≡ Some x → into_iter_steps t r u
    → (length yielded < length all) × ((d : X) → x ≡ get_or all (length yielded) d)
vec_turn {X} {A} all s t u yielded r x is so_far some step =
    let now = MatchOption-at_some ((into_iter_len t ≡ 0) × (into_iter_len u ≡ 0)) (λ (z : X). (into_iter_items t ≡ z ∷ into_iter_items u) × (into_iter_len u + 1 ≡ into_iter_len t)) x some step in
    let whole : all ≡ yielded ++ x ∷ into_iter_items u = sym is ∙ taken_front s yielded t so_far ∙ ap (λ (l : List X). yielded ++ l) now.0 in (
      omega (arith, ap length whole, length-append yielded (x ∷ into_iter_items u)),
      λ d. sym (ap (λ (l : List X). get_or l (length yielded) d) whole ∙ get_or_at yielded x (into_iter_items u) d (length yielded) refl),
    )

-- when the loop ends, all were yielded
pub vec_end : {X A : Type 0} (all : List X) (s t u : IntoIter X A) (yielded : List X) (r : Option X) → into_iter_items s ≡ all → Yields into_iter_steps s yielded t → r ≡ None → into_iter_steps t r u → yielded ≡ all
vec_end {X} {A} all s t u yielded r is so_far none step =
    let now = MatchOption-at_none ((into_iter_len t ≡ 0) × (into_iter_len u ≡ 0)) (λ (z : X). (into_iter_items t ≡ z ∷ into_iter_items u) × (into_iter_len u + 1 ≡ into_iter_len t)) none step in
    let nothing : into_iter_items t ≡ [] = nil_from_length (into_iter_items t) (sym t.rest.ok.0 ∙ now.0) in
    sym (append-nil yielded) ∙ ap (λ (l : List X). yielded ++ l) (sym nothing) ∙ sym (taken_front s yielded t so_far) ∙ is
