-- Indexes of slots, and loops over them.
use Rattle.std.proofs.Common.{◌≡◌, ◌<◌, ◌≤◌, ◌+◌, ◌-◌, ℕ, zero, suc, List, [], ◌∷◌, ◌++◌, All, length, get_or, set, take, drop, map, refl, sym, ap, subst, ◌∙◌, arith, below_more, get_or-set_other, get_or-set_same, ◌≢◌}
use Rattle.std.proofs.lemmas.List.{append-nil, take_all, drop_all, map-append, get_or-map, length-map}
use Rattle.std.proofs.lemmas.List.Elements.{All-set, All-get_or, All-map}
use Rattle.wh_base.specs.declared.value.Value.{Value}
use Rattle.wh_chains.specs.Chains.{KeyedSlots}
use Rattle.wh_table.specs.declared.index.Index.{Index}
use Rattle.wh_table.specs.Hash.{key_at}
use Rattle.wh_table.specs.Slots.{IsIndexOf, AreIndexesOf, column_sets, linked, relinked, with_keys}

pub no_index : Index
no_index = record { places = []; chains = record { keys = []; spare = 0 } }

-- the set of columns of an index
pub set_at : (indexes : List Index) (k : ℕ) (set : List ℕ) → k < length (column_sets indexes) → get_or (column_sets indexes) k set ≡ set → (get_or indexes k no_index).places ≡ set
set_at indexes k set lt e = let long = length-map indexes (λ i. i.places) in sym (get_or-map (λ i. i.places) indexes k no_index set (omega (arith, long, lt))) ∙ e

-- what was written through a slice of a whole `Vec`
pub written_back : {X : Type 0} (old new : List X) (n : ℕ) → n ≡ length old → length new ≡ length old → take n (new ++ drop (length new) old) ≡ new
written_back old new n e same =
    ap (λ xs. take n (new ++ xs)) (drop_all (length new) old (omega (arith, same)))
    ∙ ap (take n) (append-nil new)
    ∙ take_all n new (omega (arith, e, same))

same_slots : (x y : KeyedSlots) → x.keys ≡ y.keys → x.spare ≡ y.spare → x ≡ y
same_slots x y p q = λ i. record { keys = p i; spare = q i }

pub is_linked : (row : List Value) (x : Index) (places : List ℕ) (chains : KeyedSlots) → places ≡ x.places → chains.keys ≡ x.chains.keys ++ key_at x.places row ∷ [] → chains.spare + 1 ≡ x.chains.spare → record { places = places; chains = chains } ≡ linked row x
is_linked row x places chains p keys spare =
    let less : chains.spare ≡ x.chains.spare - 1 = omega (arith, spare) in
    λ i. record { places = p i; chains = record { keys = keys i; spare = less i } }

pub is_relinked : (rows : List (List Value)) (x : Index) (places : List ℕ) (chains : KeyedSlots) → places ≡ x.places → chains ≡ with_keys x.chains (map (key_at x.places) rows) → record { places = places; chains = chains } ≡ relinked rows x
is_relinked rows x places chains p e = λ i. record { places = p i; chains = e i }

-- an index with more room
pub grown : (rows : List (List Value)) (spare : ℕ) (x y : Index) → y.places ≡ x.places → y.chains.keys ≡ x.chains.keys → x.chains.spare ≤ y.chains.spare → IsIndexOf rows spare x → IsIndexOf rows spare y
grown rows spare x y places keys more h =
    let room = h.room in
    record {
      keyed = keys ∙ h.keyed ∙ ap (λ ps. map (key_at ps) rows) (sym places);
      room = omega (arith, more, room);
    }

pub same_sets : (indexes : List Index) (i : ℕ) (x y : Index) → i < length indexes → y.places ≡ (get_or indexes i x).places → column_sets (set indexes i y) ≡ column_sets indexes
same_sets [] i x y lt e = refl
same_sets (z ∷ indexes) zero x y lt e = ap (λ p. p ∷ column_sets indexes) e
same_sets (z ∷ indexes) (suc i) x y lt e = ap (λ ps. z.places ∷ ps) (same_sets indexes i x y (omega arith) e)

pub all_grown : (rows : List (List Value)) (spare : ℕ) (indexes : List Index) (i : ℕ) (x y : Index) → i < length indexes → x ≡ get_or indexes i x → y.places ≡ x.places → y.chains.keys ≡ x.chains.keys → x.chains.spare ≤ y.chains.spare → AreIndexesOf rows spare indexes → AreIndexesOf rows spare (set indexes i y)
all_grown rows spare indexes i x y lt is places keys more all =
    All-set (IsIndexOf rows spare) indexes i y
    (grown rows spare x y places keys more (subst (IsIndexOf rows spare) (sym is) (All-get_or (IsIndexOf rows spare) indexes i x lt all)))
    all

-- the indexes after one more row, and after other rows
pub AreIndexesOf-linked : (rows : List (List Value)) (row : List Value) (spare : ℕ) (indexes : List Index) → 0 < spare → AreIndexesOf rows spare indexes → AreIndexesOf (rows ++ row ∷ []) (spare - 1) (map (linked row) indexes)
AreIndexesOf-linked rows row spare indexes some all =
    All-map (IsIndexOf (rows ++ row ∷ []) (spare - 1)) (linked row) indexes
    (λ k d lt.
    let h = all k d lt in
    let room = h.room in
    record {
      keyed = ap (λ ks. ks ++ key_at (get_or indexes k d).places row ∷ []) h.keyed ∙ sym (map-append (key_at (get_or indexes k d).places) rows (row ∷ []));
      room = omega (arith, room);
    })

pub AreIndexesOf-relinked : (before rows : List (List Value)) (spare : ℕ) (indexes : List Index) → length rows ≤ length before → AreIndexesOf before spare indexes → AreIndexesOf rows spare (map (relinked rows) indexes)
AreIndexesOf-relinked before rows spare indexes fewer all =
    All-map (IsIndexOf rows spare) (relinked rows) indexes
    (λ k d lt.
    let h = all k d lt in
    let room = h.room in
    let had : length (get_or indexes k d).chains.keys ≡ length before = ap (λ ks. length ks) h.keyed ∙ length-map before (key_at (get_or indexes k d).places) in
    let has : length (map (key_at (get_or indexes k d).places) rows) ≡ length rows = length-map rows (key_at (get_or indexes k d).places) in
    record { keyed = refl; room = omega (arith, room, had, has, fewer) })

pub sets-linked : (row : List Value) (indexes : List Index) → column_sets (map (linked row) indexes) ≡ column_sets indexes
sets-linked row [] = refl
sets-linked row (x ∷ indexes) = ap (λ ps. x.places ∷ ps) (sets-linked row indexes)

pub sets-relinked : (rows : List (List Value)) (indexes : List Index) → column_sets (map (relinked rows) indexes) ≡ column_sets indexes
sets-relinked rows [] = refl
sets-relinked rows (x ∷ indexes) = ap (λ ps. x.places ∷ ps) (sets-relinked rows indexes)

-- more room in all indexes
pub all_roomy : (rows : List (List Value)) (spare more : ℕ) (indexes : List Index) → All (λ index. more ≤ index.chains.spare) indexes → AreIndexesOf rows spare indexes → AreIndexesOf rows more indexes
all_roomy rows spare more indexes room all = λ k d lt. let h = all k d lt in record { keyed = h.keyed; room = room k d lt }

-- room in each index up to one that got it
pub roomy_more : (more : ℕ) (indexes : List Index) (i : ℕ) (y : Index) → i < length indexes → more ≤ y.chains.spare → ((k : ℕ) (d : Index) → k < i → more ≤ (get_or indexes k d).chains.spare) → (k : ℕ) (d : Index) → k < i + 1 → more ≤ (get_or (set indexes i y) k d).chains.spare
roomy_more more indexes i y lt here below k d le =
    below_more (λ j. (e : Index) → more ≤ (get_or (set indexes i y) j e).chains.spare) i
    (λ j lt' e. let other : j ≢ i = omega arith in subst (λ z. more ≤ z.chains.spare) (sym (get_or-set_other indexes i j y e other)) (below j e lt'))
    (λ e. subst (λ z. more ≤ z.chains.spare) (sym (get_or-set_same indexes i y e lt)) here)
    k le d

-- indexes by the same sets are as many
pub as_many : (xs ys : List Index) → column_sets xs ≡ column_sets ys → length xs ≡ length ys
as_many xs ys e = sym (length-map xs (λ i. i.places)) ∙ ap (λ ps. length ps) e ∙ length-map ys (λ i. i.places)
