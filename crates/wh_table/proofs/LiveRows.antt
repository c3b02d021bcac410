-- The live rows of slots.
use Rattle.std.proofs.Common.{◌≡◌, ◌<◌, ◌≤◌, ◌+◌, ℕ, zero, suc, Bool, true, false, cond, not, ◌&&◌, ◌||◌, List, [], ◌∷◌, ◌++◌, length, get_or, set, refl, sym, ap, subst, ◌∙◌, arith, true≢false}
use Rattle.std.specs.Prelude.{filter, Option, None, Some, MatchOption, is_some}
use Rattle.std.specs.List.{AllByRecursion}
use Rattle.std.proofs.lemmas.List.{append-nil, map-append, length-map}
use Rattle.std.proofs.lemmas.List.Elements.{filter-append}
use Rattle.std.proofs.lemmas.List.Sums.{length-filter, count_by-le-length}
use Rattle.std.proofs.lemmas.Map.Keys.{IsDistinct-head, IsDistinct-tail}
use Rattle.wh_base.specs.declared.value.Value.{Value}
use Rattle.wh_base.specs.RowSet.{has, AreDistinct}
use Rattle.wh_base.specs.Tables.{without}
use Rattle.wh_base.specs.Value.{row_eq}
use Rattle.wh_base.specs.ValueLaws.{row_eq-Decides}
use Rattle.wh_base.proofs.RowSets.{has_itself, has-filter}
use Rattle.wh_table.specs.declared.slot.Slot.{Slot}
use Rattle.wh_table.proofs.Walks.{no_slot}
use Rattle.wh_table.specs.Slots.{is_live, is_live_with, rows_of, live_rows, is_row, IsFound}

left_and : (a b : Bool) → (a && b) ≡ true → a ≡ true
left_and true b h = refl
left_and false b h = h

right_and : (a b : Bool) → (a && b) ≡ true → b ≡ true
right_and true b h = h
right_and false b h = absurd (true≢false (sym h))

or_right : (a b : Bool) → b ≡ true → (a || b) ≡ true
or_right true b h = refl
or_right false b h = h

left_or : (a b : Bool) → (a || b) ≡ false → a ≡ false
left_or true b h = h
left_or false b h = refl

right_or : (a b : Bool) → (a || b) ≡ false → b ≡ false
right_or true b h = absurd (true≢false h)
right_or false b h = h

-- the live rows that pass are the rows of the live slots that pass
pub filter-live : (test : List Value → Bool) (slots : List Slot) → filter test (live_rows slots) ≡ rows_of (filter (is_live_with test) slots)
filter-live test [] = refl
filter-live test (s ∷ slots) = by (is_live s) (test s.row) refl (filter-live test slots)
  where
    by : (b t : Bool) → test s.row ≡ t → filter test (live_rows slots) ≡ rows_of (filter (is_live_with test) slots) → filter test (rows_of (cond b (s ∷ filter is_live slots) (filter is_live slots))) ≡ rows_of (cond (b && test s.row) (s ∷ filter (is_live_with test) slots) (filter (is_live_with test) slots))
    by true true e rest =
        ap (λ b. cond b (s.row ∷ filter test (live_rows slots)) (filter test (live_rows slots))) e
        ∙ ap (λ rs. s.row ∷ rs) rest
        ∙ sym (ap (λ b. rows_of (cond b (s ∷ filter (is_live_with test) slots) (filter (is_live_with test) slots))) e)
    by true false e rest =
        ap (λ b. cond b (s.row ∷ filter test (live_rows slots)) (filter test (live_rows slots))) e
        ∙ rest
        ∙ sym (ap (λ b. rows_of (cond b (s ∷ filter (is_live_with test) slots) (filter (is_live_with test) slots))) e)
    by false t e rest = rest

-- where no live slot passes, no live row does
pub none-live : (test : List Value → Bool) (slots : List Slot) → filter (is_live_with test) slots ≡ [] → filter test (live_rows slots) ≡ []
none-live test slots h = filter-live test slots ∙ ap rows_of h

none-has : (row : List Value) (rows : List (List Value)) → filter (row_eq row) rows ≡ [] → has rows row ≡ false
none-has row [] h = refl
none-has row (x ∷ rows) h = by (row_eq row x) refl h (none-has row rows)
  where
    by : (b : Bool) → row_eq row x ≡ b → cond b (x ∷ filter (row_eq row) rows) (filter (row_eq row) rows) ≡ [] → (filter (row_eq row) rows ≡ [] → has rows row ≡ false) → (row_eq row x || has rows row) ≡ false
    by true e none rest = absurd (cc)
    by false e none rest = ap (λ b. b || has rows row) e ∙ rest none

pub absent : (row : List Value) (slots : List Slot) → filter (is_live_with (is_row row)) slots ≡ [] → has (live_rows slots) row ≡ false
absent row slots h = none-has row (live_rows slots) (none-live (is_row row) slots h)

-- the row of a live slot is a live row
pub live-has : (d : Slot) (slots : List Slot) (s : ℕ) → s < length slots → is_live (get_or slots s d) ≡ true → has (live_rows slots) (get_or slots s d).row ≡ true
live-has d [] s lt h = absurd (omega arith)
live-has d (x ∷ slots) zero lt h =
    ap (λ b. has (rows_of (cond b (x ∷ filter is_live slots) (filter is_live slots))) x.row) h
    ∙ ap (λ b. b || has (live_rows slots) x.row) (has_itself x.row)
live-has d (x ∷ slots) (suc s) lt h = by (is_live x) (live-has d slots s (omega arith) h)
  where
    by : (b : Bool) → has (live_rows slots) (get_or slots s d).row ≡ true → has (rows_of (cond b (x ∷ filter is_live slots) (filter is_live slots))) (get_or slots s d).row ≡ true
    by true rest = or_right (row_eq (get_or slots s d).row x.row) (has (live_rows slots) (get_or slots s d).row) rest
    by false rest = rest

pub found-live : (test : List Value → Bool) (d : Slot) (slots : List Slot) (s : ℕ) → IsFound test slots s → is_live (get_or slots s d) ≡ true
found-live test d slots s found = left_and (is_live (get_or slots s d)) (test (get_or slots s d).row) (found.passes d)

pub found-passes : (test : List Value → Bool) (d : Slot) (slots : List Slot) (s : ℕ) → IsFound test slots s → test (get_or slots s d).row ≡ true
found-passes test d slots s found = right_and (is_live (get_or slots s d)) (test (get_or slots s d).row) (found.passes d)

pub found-is : (row : List Value) (d : Slot) (slots : List Slot) (s : ℕ) → IsFound (is_row row) slots s → row ≡ (get_or slots s d).row
found-is row d slots s found = (row_eq-Decides row (get_or slots s d).row).0 (found-passes (is_row row) d slots s found)

pub present : (row : List Value) (slots : List Slot) (s : ℕ) → IsFound (is_row row) slots s → has (live_rows slots) row ≡ true
present row slots s found =
    ap (has (live_rows slots)) (found-is row no_slot slots s found)
    ∙ live-has no_slot slots s found.within (found-live (is_row row) no_slot slots s found)

-- the row of a slot that was found is one of those that pass
pub found-has : (test : List Value → Bool) (slots : List Slot) (s : ℕ) (x : Slot) → x ≡ get_or slots s x → IsFound test slots s → has (filter test (live_rows slots)) x.row ≡ true
found-has test slots s x e found =
    ap (λ y. has (filter test (live_rows slots)) y.row) e
    ∙ has-filter test (live_rows slots) (get_or slots s x).row
    ∙ ap (λ b. b && test (get_or slots s x).row) (live-has x slots s found.within (found-live test x slots s found))
    ∙ found-passes test x slots s found

-- ---- a deletion

pub apart : (x row : List Value) (rows : List (List Value)) → AllByRecursion (λ y. row_eq x y ≡ false) rows → has rows row ≡ true → row_eq x row ≡ false
apart x row [] all h = absurd (true≢false (sym h))
apart x row (y ∷ rows) all h = by (row_eq row y) refl (apart x row rows all.1)
  where
    by : (b : Bool) → row_eq row y ≡ b → (has rows row ≡ true → row_eq x row ≡ false) → row_eq x row ≡ false
    by true e rest = ap (row_eq x) ((row_eq-Decides row y).0 e) ∙ all.0
    by false e rest = rest (sym (ap (λ b. b || has rows row) e) ∙ h)

not_among : (x : List Value) (rows : List (List Value)) → AllByRecursion (λ y. row_eq x y ≡ false) rows → has rows x ≡ false
not_among x rows all = by (has rows x) refl
  where
    by : (b : Bool) → has rows x ≡ b → b ≡ false
    by true h = absurd (true≢false (sym (has_itself x) ∙ apart x x rows all h))
    by false h = refl

pub other_way : (x y : List Value) → row_eq x y ≡ false → row_eq y x ≡ false
other_way x y h = by (row_eq y x) refl
  where
    by : (b : Bool) → row_eq y x ≡ b → b ≡ false
    by true e = absurd (true≢false (sym (has_itself x) ∙ ap (row_eq x) (sym ((row_eq-Decides y x).0 e)) ∙ h))
    by false e = refl

keeps : (row x : List Value) (rows : List (List Value)) → row_eq x row ≡ false → without (x ∷ rows) (row ∷ []) ≡ x ∷ without rows (row ∷ [])
keeps row x rows h = ap (λ b. cond (not (b || false)) (x ∷ without rows (row ∷ [])) (without rows (row ∷ []))) h

drops : (row x : List Value) (rows : List (List Value)) → row_eq x row ≡ true → without (x ∷ rows) (row ∷ []) ≡ without rows (row ∷ [])
drops row x rows h = ap (λ b. cond (not (b || false)) (x ∷ without rows (row ∷ [])) (without rows (row ∷ []))) h

pub without-absent : (row : List Value) (rows : List (List Value)) → has rows row ≡ false → without rows (row ∷ []) ≡ rows
without-absent row [] h = refl
without-absent row (x ∷ rows) h =
    keeps row x rows (other_way row x (left_or (row_eq row x) (has rows row) h))
    ∙ ap (λ rs. x ∷ rs) (without-absent row rows (right_or (row_eq row x) (has rows row) h))

-- the rows after the slot of one was marked dead
pub marked-rows : (slots : List Slot) (s : ℕ) (d y : Slot) (row : List Value) → s < length slots → is_live (get_or slots s d) ≡ true → row ≡ (get_or slots s d).row → y.dead ≡ true → AreDistinct (live_rows slots) → live_rows (set slots s y) ≡ without (live_rows slots) (row ∷ [])
marked-rows [] s d y row lt live is dead once = absurd (omega arith)
marked-rows (x ∷ slots) zero d y row lt live is dead once =
    let rows : live_rows (x ∷ slots) ≡ x.row ∷ live_rows slots = ap (λ b. rows_of (cond b (x ∷ filter is_live slots) (filter is_live slots))) live in
    let once' : AreDistinct (x.row ∷ live_rows slots) = subst AreDistinct rows once in
    ap (λ b. rows_of (cond (not b) (y ∷ filter is_live slots) (filter is_live slots))) dead
    ∙ sym (ap (λ rs. without rs (row ∷ [])) rows
    ∙ drops row x.row (live_rows slots) ((row_eq-Decides x.row row).1 (sym is))
    ∙ without-absent row (live_rows slots) (ap (has (live_rows slots)) is ∙ not_among x.row (live_rows slots) (IsDistinct-head row_eq x.row (live_rows slots) once')))
marked-rows (x ∷ slots) (suc s) d y row lt live is dead once = by (is_live x) once (marked-rows slots s d y row (omega arith) live is dead)
  where
    by : (b : Bool) → AreDistinct (rows_of (cond b (x ∷ filter is_live slots) (filter is_live slots))) → (AreDistinct (live_rows slots) → live_rows (set slots s y) ≡ without (live_rows slots) (row ∷ [])) → rows_of (cond b (x ∷ filter is_live (set slots s y)) (filter is_live (set slots s y))) ≡ without (rows_of (cond b (x ∷ filter is_live slots) (filter is_live slots))) (row ∷ [])
    by true once' rest =
        let there : has (live_rows slots) row ≡ true = ap (has (live_rows slots)) is ∙ live-has d slots s (omega arith) live in
        ap (λ rs. x.row ∷ rs) (rest (IsDistinct-tail row_eq x.row (live_rows slots) once'))
        ∙ sym (keeps row x.row (live_rows slots) (apart x.row row (live_rows slots) (IsDistinct-head row_eq x.row (live_rows slots) once') there))
    by false once' rest = rest once'

-- and their number
pub marked-count : (slots : List Slot) (s : ℕ) (d y : Slot) → s < length slots → is_live (get_or slots s d) ≡ true → y.dead ≡ true → length (live_rows (set slots s y)) + 1 ≡ length (live_rows slots)
marked-count [] s d y lt live dead = absurd (omega arith)
marked-count (x ∷ slots) zero d y lt live dead =
    let after : length (live_rows (y ∷ slots)) ≡ length (live_rows slots) = ap (λ b. length (rows_of (cond (not b) (y ∷ filter is_live slots) (filter is_live slots)))) dead in
    let before : length (live_rows (x ∷ slots)) ≡ suc (length (live_rows slots)) = ap (λ b. length (rows_of (cond b (x ∷ filter is_live slots) (filter is_live slots)))) live in
    omega (arith, after, before)
marked-count (x ∷ slots) (suc s) d y lt live dead = by (is_live x) (marked-count slots s d y (omega arith) live dead)
  where
    by : (b : Bool) → length (live_rows (set slots s y)) + 1 ≡ length (live_rows slots) → length (rows_of (cond b (x ∷ filter is_live (set slots s y)) (filter is_live (set slots s y)))) + 1 ≡ length (rows_of (cond b (x ∷ filter is_live slots) (filter is_live slots)))
    by true rest = omega (arith, rest)
    by false rest = rest

-- all rows stay in their slots
pub marked-all : (slots : List Slot) (s : ℕ) (d y : Slot) → s < length slots → y.row ≡ (get_or slots s d).row → rows_of (set slots s y) ≡ rows_of slots
marked-all [] s d y lt same = refl
marked-all (x ∷ slots) zero d y lt same = ap (λ r. r ∷ rows_of slots) same
marked-all (x ∷ slots) (suc s) d y lt same = ap (λ rs. x.row ∷ rs) (marked-all slots s d y (omega arith) same)

-- ---- an insertion

pub live-more : (slots : List Slot) (x : Slot) → is_live x ≡ true → live_rows (slots ++ x ∷ []) ≡ live_rows slots ++ x.row ∷ []
live-more slots x h =
    ap rows_of (filter-append is_live slots (x ∷ []) ∙ ap (λ b. filter is_live slots ++ cond b (x ∷ []) []) h)
    ∙ map-append (λ s. s.row) (filter is_live slots) (x ∷ [])

pub dead-more : (slots : List Slot) (x : Slot) → is_live x ≡ false → live_rows (slots ++ x ∷ []) ≡ live_rows slots
dead-more slots x h =
    ap rows_of (filter-append is_live slots (x ∷ []) ∙ ap (λ b. filter is_live slots ++ cond b (x ∷ []) []) h ∙ append-nil (filter is_live slots))

-- ---- slots numbered anew

kept-twice : (slots : List Slot) → filter is_live (filter is_live slots) ≡ filter is_live slots
kept-twice [] = refl
kept-twice (x ∷ slots) = by (is_live x) refl (kept-twice slots)
  where
    by : (b : Bool) → is_live x ≡ b → filter is_live (filter is_live slots) ≡ filter is_live slots → filter is_live (cond b (x ∷ filter is_live slots) (filter is_live slots)) ≡ cond b (x ∷ filter is_live slots) (filter is_live slots)
    by true e rest = ap (λ b. cond b (x ∷ filter is_live (filter is_live slots)) (filter is_live (filter is_live slots))) e ∙ ap (λ ss. x ∷ ss) rest
    by false e rest = rest

pub live-kept : (slots kept : List Slot) → kept ≡ filter is_live slots → live_rows kept ≡ live_rows slots
live-kept slots kept e = ap live_rows e ∙ ap rows_of (kept-twice slots)

-- ---- what a search tells

pub contains-is : (found : Option ℕ) (row : List Value) (slots : List Slot) → MatchOption found (filter (is_live_with (is_row row)) slots ≡ []) (λ s. IsFound (is_row row) slots s) → is_some found ≡ has (live_rows slots) row
contains-is None row slots h = sym (absent row slots h)
contains-is (Some s) row slots h = sym (present row slots s h)

pub live-le : (slots : List Slot) → length (live_rows slots) ≤ length slots
live-le slots = let fewer = length-filter is_live slots in let counted = count_by-le-length is_live slots in let same = length-map (filter is_live slots) (λ s. s.row) in omega (arith, fewer, counted, same)
