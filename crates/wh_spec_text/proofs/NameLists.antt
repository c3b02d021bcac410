-- Names that are known, come once, or have a place, in longer lists too.
use Rattle.std.proofs.Common.{◌≡◌, ℕ, suc, Bool, true, false, cond, not, List, [], ◌∷◌, ◌++◌, map, filter, get_or, Option, Some, None, Contains, refl, sym, ap, inl, inr, append_assoc}
use Rattle.std.specs.Prelude.{find, fold}
use Rattle.std.specs.List.{list_any}
use Rattle.std.proofs.lemmas.Bool.{cases_Bool}
use Rattle.std.proofs.lemmas.List.{append-nil, map-append}
use Rattle.std.proofs.lemmas.List.Elements.{Contains-append_left, Contains-append_right, Contains-append_cases}
use Rattle.wh_base.specs.declared.value.Attr.{Attr}
use Rattle.wh_base.specs.Columns.{name_eq, is_in, names_of, place_of}
use Rattle.wh_schema.specs.declared.spec.Relation.{Relation}
use Rattle.wh_schema.specs.declared.spec.Spec.{Spec}
use Rattle.wh_schema.specs.Rules.{first_unknown, first_again, first_repeat, join_attrs, joined_attrs}
use Rattle.wh_schema.specs.Warehouse.{columns_of, relation_at, no_relation}
use Rattle.wh_laws.proofs.Equality.{Name, name_eq_decides, is_in_decides, is_false, when_false}
use Rattle.wh_laws.proofs.Lists.{Contains-nil, Contains-here, Contains-there, Contains-cases, Contains-is}

-- ---- searches

pub none_found : {X : Type 0} (p : X → Bool) (xs : List X) → ((x : X) → Contains xs x → p x ≡ false) → find p xs ≡ None
none_found p [] h = refl
none_found p (x ∷ xs) h = rw (h x (Contains-here x xs)) (none_found p xs (λ y k. h y (Contains-there x y xs k)))

-- names that are all among the known ones
pub none_unknown : (known names : List Name) → ((n : Name) → Contains names n → Contains known n) → first_unknown known names ≡ None
none_unknown known names h = none_found (λ n. not (is_in known n)) names (λ n k. ap not ((is_in_decides known n).1 (h n k)))

pub not_in : (names : List Name) (n : Name) → (Contains names n → ⊥) → is_in names n ≡ false
not_in names n h = is_false (is_in names n) (is_in_decides names n) h

pub none_pass : {X : Type 0} (p : X → Bool) (xs : List X) → ((x : X) → Contains xs x → p x ≡ false) → list_any p xs ≡ false
none_pass p [] h = refl
none_pass p (x ∷ xs) h = rw (h x (Contains-here x xs)) (none_pass p xs (λ y k. h y (Contains-there x y xs k)))

-- ---- places

pub place_stays : (names more : List Name) (n : Name) → Contains names n → place_of (names ++ more) n ≡ place_of names n
place_stays [] more n h = absurd (Contains-nil n h)
place_stays (m ∷ names) more n h =
    elim (cases_Bool (name_eq n m)) [
      | inl t ↦ rw t refl
      | inr f ↦
          elim (Contains-cases m n names h) [
            | inl q ↦ absurd (when_false (name_eq n m) (name_eq_decides n m) f (sym q))
            | inr k ↦ rw f (ap suc (place_stays names more n k))
          ]
    ]

-- the relation at the place of a name has that name
pub found_at : (rs : List Relation) (n : Name) → Contains (map (λ (r : Relation). r.name) rs) n → (get_or rs (place_of (map (λ (r : Relation). r.name) rs) n) no_relation).name ≡ n
found_at [] n h = absurd (Contains-nil n h)
found_at (r ∷ rs) n h =
    elim (cases_Bool (name_eq n r.name)) [
      | inl t ↦ rw t (sym ((name_eq_decides n r.name).0 t))
      | inr f ↦
          elim (Contains-cases r.name n (map (λ (r : Relation). r.name) rs) h) [
            | inl q ↦ absurd (when_false (name_eq n r.name) (name_eq_decides n r.name) f (sym q))
            | inr k ↦ rw f (found_at rs n k)
          ]
    ]

-- ---- names that come once

in_more : (a b : List Name) (m : Name) → ((n : Name) → Contains b n → Contains a n) → (n : Name) → Contains (b ++ m ∷ []) n → Contains (a ++ m ∷ []) n
in_more a b m h n k = elim (Contains-append_cases b (m ∷ []) n k) [ inl l ↦ Contains-append_left a (m ∷ []) n (h n l) | inr r ↦ Contains-append_right a (m ∷ []) n r ]

once_turn : (b : Bool) (n : Name) (rest : Option Name) → cond b (Some n) rest ≡ None → (b ≡ false) × (rest ≡ None)
once_turn true n rest e = absurd cc
once_turn false n rest e = (refl, e)

pub once_step : (before : List Name) (n : Name) (names : List Name) → first_again before (n ∷ names) ≡ None → (is_in before n ≡ false) × (first_again (before ++ n ∷ []) names ≡ None)
once_step before n names e = once_turn (is_in before n) n (first_again (before ++ n ∷ []) names) e

once_again : (before : List Name) (n : Name) (names : List Name) → is_in before n ≡ false → first_again (before ++ n ∷ []) names ≡ None → first_again before (n ∷ names) ≡ None
once_again before n names f e = rw f e

-- behind two lists
once_both : (before xs ys : List Name) → first_again before xs ≡ None → first_again (before ++ xs) ys ≡ None → first_again before (xs ++ ys) ≡ None
once_both before [] ys a b = rw (append-nil before) at b
once_both before (x ∷ xs) ys a b =
    let s = once_step before x xs a in
    once_again before x (xs ++ ys) s.0 (once_both (before ++ x ∷ []) xs ys s.1 (rw (← append_assoc before (x ∷ []) xs) at b))

-- what the left attributes lack, where no right name comes again
once_filtered : (left kept seen : List Name) (right : List Attr) → ((n : Name) → Contains kept n → Contains seen n) → first_again seen (names_of right) ≡ None
    → first_again (left ++ kept) (names_of (filter (λ (a : Attr). not (is_in left a.name)) right)) ≡ None
once_filtered left kept seen [] within e = refl
once_filtered left kept seen (a ∷ right) within e =
    let s = once_step seen a.name (names_of right) e in
    elim (cases_Bool (is_in left a.name)) [
      | inl t ↦ rw t (once_filtered left kept (seen ++ a.name ∷ []) right (λ n k. Contains-append_left seen (a.name ∷ []) n (within n k)) s.1)
      | inr f ↦
          let more = filter (λ (b : Attr). not (is_in left b.name)) right in
          let fresh : is_in (left ++ kept) a.name ≡ false = not_in (left ++ kept) a.name (λ h.
          elim (Contains-append_cases left kept a.name h) [
            | inl l ↦ when_false (is_in left a.name) (is_in_decides left a.name) f l
            | inr k ↦ when_false (is_in seen a.name) (is_in_decides seen a.name) s.0 (within a.name k)
          ]) in
          let rest = once_filtered left (kept ++ a.name ∷ []) (seen ++ a.name ∷ []) right (in_more seen kept a.name within) s.1 in
          let turn : first_again (left ++ kept) (a.name ∷ names_of more) ≡ None = once_again (left ++ kept) a.name (names_of more) fresh (rw (append_assoc left kept (a.name ∷ [])) rest) in
          rw f turn
    ]

once_joined : (left right : List Attr) → first_repeat (names_of left) ≡ None → first_repeat (names_of right) ≡ None → first_repeat (names_of (join_attrs left right)) ≡ None
once_joined left right a b =
    let more = filter (λ (c : Attr). not (is_in (names_of left) c.name)) right in
    let rest : first_again (names_of left ++ []) (names_of more) ≡ None = once_filtered (names_of left) [] [] right (λ n k. k) b in
    let whole : names_of (left ++ more) ≡ names_of left ++ names_of more = map-append (λ (c : Attr). c.name) left more in
    rw whole (once_both [] (names_of left) (names_of more) a (rw (append-nil (names_of left)) at rest))

once_folded : (t : Spec) (numbers : List ℕ) (left : List Attr) → ((i : ℕ) → Contains numbers i → first_repeat (columns_of t i) ≡ None) → first_repeat (names_of left) ≡ None
    → first_repeat (names_of (fold join_attrs left (map (λ i. (relation_at t i).attrs) numbers))) ≡ None
once_folded t [] left h e = e
once_folded t (i ∷ numbers) left h e = once_folded t numbers (join_attrs left (relation_at t i).attrs) (λ j k. h j (Contains-there i j numbers k)) (once_joined left (relation_at t i).attrs e (h i (Contains-here i numbers)))

-- no name of a join comes again, where none of a member does
pub once_in_join : (t : Spec) (numbers : List ℕ) → ((i : ℕ) → Contains numbers i → first_repeat (columns_of t i) ≡ None) → first_repeat (names_of (joined_attrs t numbers)) ≡ None
once_in_join t numbers h = once_folded t numbers [] h refl

-- ---- the names of a join

join_left : (left right : List Attr) (n : Name) → Contains (names_of left) n → Contains (names_of (join_attrs left right)) n
join_left left right n h =
    let more = filter (λ (c : Attr). not (is_in (names_of left) c.name)) right in
    rw (map-append (λ (c : Attr). c.name) left more) (Contains-append_left (names_of left) (names_of more) n h)

lacked : (left : List Name) (right : List Attr) (n : Name) → (Contains left n → ⊥) → Contains (names_of right) n → Contains (names_of (filter (λ (c : Attr). not (is_in left c.name)) right)) n
lacked left [] n apart h = absurd (Contains-nil n h)
lacked left (a ∷ right) n apart h =
    let more = names_of (filter (λ (c : Attr). not (is_in left c.name)) right) in
    elim (Contains-cases a.name n (names_of right) h) [
      | inl q ↦
          let f : is_in left a.name ≡ false = not_in left a.name (λ k. apart (Contains-is a.name n left q k)) in
          rw f (Contains-is a.name n (a.name ∷ more) q (Contains-here a.name more))
      | inr k ↦
          let rest = lacked left right n apart k in
          elim (cases_Bool (is_in left a.name)) [ inl t ↦ rw t rest | inr f ↦ rw f (Contains-there a.name n more rest) ]
    ]

join_right : (left right : List Attr) (n : Name) → Contains (names_of right) n → Contains (names_of (join_attrs left right)) n
join_right left right n h =
    let more = filter (λ (c : Attr). not (is_in (names_of left) c.name)) right in
    elim (cases_Bool (is_in (names_of left) n)) [
      | inl t ↦ join_left left right n ((is_in_decides (names_of left) n).0 t)
      | inr f ↦
          rw (map-append (λ (c : Attr). c.name) left more)
          (Contains-append_right (names_of left) (names_of more) n (lacked (names_of left) right n (when_false (is_in (names_of left) n) (is_in_decides (names_of left) n) f) h))
    ]

folded_left : (t : Spec) (numbers : List ℕ) (left : List Attr) (n : Name) → Contains (names_of left) n → Contains (names_of (fold join_attrs left (map (λ i. (relation_at t i).attrs) numbers))) n
folded_left t [] left n h = h
folded_left t (i ∷ numbers) left n h = folded_left t numbers (join_attrs left (relation_at t i).attrs) n (join_left left (relation_at t i).attrs n h)

-- the join of a first relation and further ones has the names of the first
pub first_in_join : (t : Spec) (i : ℕ) (numbers : List ℕ) (n : Name) → Contains (columns_of t i) n → Contains (names_of (joined_attrs t (i ∷ numbers))) n
first_in_join t i numbers n h = folded_left t numbers (join_attrs [] (relation_at t i).attrs) n (join_right [] (relation_at t i).attrs n h)
