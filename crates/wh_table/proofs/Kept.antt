-- Slots and their indexes before and after a change.
use Rattle.std.proofs.Common.{◌≡◌, ◌<◌, ◌≤◌, ◌+◌, ◌-◌, ℕ, true, List, [], ◌∷◌, ◌++◌, Contains, length, get_or, set, map, sym, ap, subst, ◌∙◌, arith}
use Rattle.std.specs.Prelude.{filter}
use Rattle.std.proofs.lemmas.List.{map-append, length-map, length_push}
use Rattle.std.proofs.lemmas.List.Elements.{All-contains}
use Rattle.std.proofs.lemmas.List.Sums.{length-filter, count_by-le-length}
use Rattle.wh_base.specs.declared.value.Value.{Value}
use Rattle.wh_base.specs.Columns.{picked}
use Rattle.wh_base.specs.ValueLaws.{row_eq-Decides}
use Rattle.wh_chains.specs.Chains.{KeyedSlots}
use Rattle.wh_table.specs.declared.index.Index.{Index}
use Rattle.wh_table.specs.declared.slot.Slot.{Slot}
use Rattle.wh_table.specs.Hash.{hash_of, key_at}
use Rattle.wh_table.specs.Slots.{is_live, is_row, has_at, rows_of, live_rows, AreKeyed, AreKept, AreIndexesOf, IsIndexOf, IsFound, linked, relinked, with_keys}
use Rattle.wh_table.proofs.Indexes.{AreIndexesOf-linked, AreIndexesOf-relinked}
use Rattle.wh_table.proofs.LiveRows.{live-more, live-kept, marked-count, marked-all, found-live}
use Rattle.wh_table.proofs.Walks.{keyed_by}

-- a row and an index find each other by their keys
pub keyed_whole : (row : List Value) (slots : List Slot) (keys : List ℕ) (key : ℕ) → keys ≡ map hash_of (rows_of slots) → key ≡ hash_of row → AreKeyed (is_row row) slots keys key
keyed_whole row slots keys key are is = keyed_by hash_of (is_row row) slots keys key are (λ other h. is ∙ ap hash_of ((row_eq-Decides row other).0 h))

pub keyed_index : (places : List ℕ) (values : List Value) (index : Index) (indexes : List Index) (slots : List Slot) (spare key : ℕ) → AreIndexesOf (rows_of slots) spare indexes → Contains indexes index → ((row : List Value) → picked places row ≡ values → key ≡ key_at index.places row) → AreKeyed (has_at places values) slots index.chains.keys key
keyed_index places values index indexes slots spare key all one same =
    keyed_by (key_at index.places) (has_at places values) slots index.chains.keys key
    (All-contains (IsIndexOf (rows_of slots) spare) indexes index all one).keyed
    (λ row h. same row ((row_eq-Decides (picked places row) values).0 h))

-- one more row
pub kept-more : (slots slots' : List Slot) (x : Slot) (live spare : ℕ) (whole whole' : KeyedSlots) (indexes indexes' : List Index) → is_live x ≡ true → slots' ≡ slots ++ x ∷ [] → 0 < spare → AreKept slots live spare whole indexes → whole'.keys ≡ whole.keys ++ hash_of x.row ∷ [] → whole'.spare + 1 ≡ whole.spare → indexes' ≡ map (linked x.row) indexes → AreKept slots' (live + 1) (spare - 1) whole' indexes'
kept-more slots slots' x live spare whole whole' indexes indexes' lives items some kept keys left are =
    let rows : rows_of slots' ≡ rows_of slots ++ x.row ∷ [] = ap rows_of items ∙ map-append (λ s. s.row) slots (x ∷ []) in
    let count : length (live_rows slots') ≡ length (live_rows slots) + 1 =
    ap (λ ss. length (live_rows ss)) items ∙ ap (λ rs. length rs) (live-more slots x lives) ∙ length_push (live_rows slots) x.row in
    let counted = kept.counted in
    let room = kept.whole_room in
    record {
      counted = ap (λ n. n + 1) counted ∙ sym count;
      whole_keys = keys ∙ ap (λ ks. ks ++ hash_of x.row ∷ []) kept.whole_keys ∙ sym (map-append hash_of (rows_of slots) (x.row ∷ [])) ∙ sym (ap (map hash_of) rows);
      whole_room = omega (arith, room, left);
      indexed =
          subst (AreIndexesOf (rows_of slots') (spare - 1)) (sym are)
          (subst (λ rs. AreIndexesOf rs (spare - 1) (map (linked x.row) indexes)) (sym rows) (AreIndexesOf-linked (rows_of slots) x.row spare indexes some kept.indexed));
    }

-- a row whose slot was marked dead
pub kept-marked : (row : List Value) (slots : List Slot) (s live spare : ℕ) (x y : Slot) (whole : KeyedSlots) (indexes : List Index) → x ≡ get_or slots s x → y.row ≡ x.row → y.dead ≡ true → IsFound (is_row row) slots s → AreKept slots live spare whole indexes → AreKept (set slots s y) (live - 1) spare whole indexes
kept-marked row slots s live spare x y whole indexes is same dead found kept =
    let count : length (live_rows (set slots s y)) + 1 ≡ length (live_rows slots) = marked-count slots s x y found.within (found-live (is_row row) x slots s found) dead in
    let rows : rows_of (set slots s y) ≡ rows_of slots = marked-all slots s x y found.within (same ∙ ap (λ z. z.row) is) in
    let counted = kept.counted in
    record {
      counted = omega (arith, count, counted);
      whole_keys = kept.whole_keys ∙ sym (ap (map hash_of) rows);
      whole_room = kept.whole_room;
      indexed = subst (λ rs. AreIndexesOf rs spare indexes) (sym rows) kept.indexed;
    }

-- the live slots alone
pub fewer : (slots left : List Slot) → left ≡ filter is_live slots → length left ≤ length slots
fewer slots left e =
    let same : length left ≡ length (filter is_live slots) = ap (λ ss. length ss) e in
    let kept = length-filter is_live slots in
    let counted = count_by-le-length is_live slots in
    omega (arith, same, kept, counted)

pub kept-renumbered : (slots left : List Slot) (live spare : ℕ) (whole whole' : KeyedSlots) (indexes indexes' : List Index) → left ≡ filter is_live slots → AreKept slots live spare whole indexes → whole' ≡ with_keys whole (map hash_of (rows_of left)) → indexes' ≡ map (relinked (rows_of left)) indexes → AreKept left live spare whole' indexes'
kept-renumbered slots left live spare whole whole' indexes indexes' e kept is are =
    let less : length left ≤ length slots = fewer slots left e in
    let had : length whole.keys ≡ length (rows_of slots) = ap (λ ks. length ks) kept.whole_keys ∙ length-map (rows_of slots) hash_of in
    let has : length (map hash_of (rows_of left)) ≡ length (rows_of left) = length-map (rows_of left) hash_of in
    let all : length (rows_of slots) ≡ length slots = length-map slots (λ s. s.row) in
    let some : length (rows_of left) ≡ length left = length-map left (λ s. s.row) in
    let spare' : whole'.spare ≡ (whole.spare + length whole.keys) - length (map hash_of (rows_of left)) = ap (λ c. c.spare) is in
    let room = kept.whole_room in
    record {
      counted = kept.counted ∙ sym (ap (λ rs. length rs) (live-kept slots left e));
      whole_keys = ap (λ c. c.keys) is;
      whole_room = omega (arith, spare', room, had, has, all, some, less);
      indexed = subst (AreIndexesOf (rows_of left) spare) (sym are) (AreIndexesOf-relinked (rows_of slots) (rows_of left) spare indexes (omega (arith, all, some, less)) kept.indexed);
    }

-- more room
pub kept-roomier : (slots : List Slot) (live spare more : ℕ) (whole whole' : KeyedSlots) (indexes indexes' : List Index) → AreKept slots live spare whole indexes → whole'.keys ≡ whole.keys → more ≤ whole'.spare → AreIndexesOf (rows_of slots) more indexes' → AreKept slots live more whole' indexes'
kept-roomier slots live spare more whole whole' indexes indexes' kept same room all = record {
  counted = kept.counted;
  whole_keys = same ∙ kept.whole_keys;
  whole_room = room;
  indexed = all;
}
