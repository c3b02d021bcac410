-- Tables of rows, each column of which can be looked up alone.
use Rattle.std.proofs.Common.{◌≡◌, ℕ, zero, suc, ◌<◌, true, false, eqb, List, [], ◌∷◌, ◌++◌, map, length, get_or, Some, Option, zero-add, refl, sym, ap, subst, ◌∙◌, arith}
use Rattle.std.specs.Prelude.{All, slice_get}
use Rattle.std.specs.List.{IsDistinct, list_all, list_any, range_with_len}
use Rattle.std.proofs.Math.ListN.{get_or-map}
use Rattle.std.proofs.lemmas.List.{append-nil}
use Rattle.std.proofs.lemmas.List.Elements.{All-from_recursion}
use Rattle.std.proofs.lemmas.List.FromFn.{length-map-range_with_len, get_or-map-range_with_len}
use Rattle.wh_base.specs.declared.value.Attr.{Attr}
use Rattle.wh_base.specs.declared.value.Delta.{Delta}
use Rattle.wh_base.specs.declared.value.Value.{Value}
use Rattle.wh_base.specs.RowSet.{has, AreDistinct, IsSetOf, SameRows}
use Rattle.wh_base.specs.Tables.{without}
use Rattle.wh_eval.specs.Stored.{fits}
use Rattle.wh_eval.proofs.StoredLemmas.{fits_begun}
use Rattle.wh_overlay.specs.Overlay.{no_delta, deleted_at, inserted_at, HaveRows}
use Rattle.wh_table.specs.Table.{CanApply, IndexedRows, IsColumnSet}

abbrev Row : Type 0
Row = List Value

-- ---- each column alone

one_alone : (i : ℕ) → IsDistinct eqb (i ∷ [])
unfolding IsDistinct
one_alone i = (tt, tt)

single_set : (w i : ℕ) → i < w → IsColumnSet w (i ∷ [])
single_set w i below = record {
  nonempty = omega arith;
  distinct = one_alone i;
  below = All-from_recursion (λ place. place < w) (i ∷ []) (below, tt);
}

pub singles_are_sets : (w : ℕ) (sets : List (List ℕ)) → sets ≡ map (λ i. i ∷ []) (range_with_len 0 w) → All (IsColumnSet w) sets
singles_are_sets w sets is =
    let single = λ (i : ℕ). i ∷ [] in
    subst (All (IsColumnSet w)) (sym is) (λ k d l.
    let below : k < w = omega (arith, l, length-map-range_with_len single 0 w) in
    subst (IsColumnSet w) (sym (get_or-map-range_with_len single 0 w k k d below (zero-add k))) (single_set w k below))

singles_fit : (attrs : List Attr) (t : IndexedRows) → t.width ≡ length attrs → t.indexes ≡ map (λ i. i ∷ []) (range_with_len 0 (length attrs)) → fits attrs (Some t) ≡ true
singles_fit attrs t width is =
    let singles = λ (w : ℕ). map (λ (i : ℕ). i ∷ []) (range_with_len 0 w) in
    fits_begun attrs t [] width (is ∙ ap singles (sym width) ∙ sym (append-nil (singles t.width)))

pub table_fits : (attrs : List Attr) (t : IndexedRows) (width : ℕ) → width ≡ length attrs → t.width ≡ width → t.indexes ≡ map (λ i. i ∷ []) (range_with_len 0 width) → fits attrs (Some t) ≡ true
table_fits attrs t width wide is sets = singles_fit attrs t (is ∙ wide) (sets ∙ ap (λ (w : ℕ). map (λ (i : ℕ). i ∷ []) (range_with_len 0 w)) wide)

-- ---- rows put into an empty table

nil_distinct : AreDistinct []
unfolding IsDistinct
nil_distinct = tt

none_held : (rows : List Row) → list_any (has []) rows ≡ false
none_held [] = refl
none_held (r ∷ rows) = none_held rows

pub fresh_applies : (held : List (List Value)) (p : Delta) → held ≡ [] → p.deleted ≡ [] → AreDistinct p.inserted → CanApply held p
fresh_applies held p none gone distinct = record {
  present = ap (λ (l : List Row). list_all (has held) l) gone;
  absent = (λ j. list_any (has (none j)) p.inserted) ∙ none_held p.inserted;
  deleted_once = subst AreDistinct (sym gone) nil_distinct;
  inserted_once = distinct;
}

pub fresh_rows : (held new rows : List (List Value)) (p : Delta) → held ≡ [] → SameRows p.inserted rows → SameRows new (without held p.deleted ++ p.inserted) → SameRows new rows
fresh_rows held new rows p none same h r = h r ∙ (λ j. has (without (none j) p.deleted ++ p.inserted) r) ∙ same r

-- ---- one more table

pub fit_push : (P : ℕ → Option IndexedRows → Type 0) (tables : List IndexedRows) (t : IndexedRows) → ((n : ℕ) → P n (slice_get tables n)) → P (length tables) (Some t) → (n : ℕ) → P n (slice_get (tables ++ t ∷ []) n)
fit_push P [] t h here zero = here
fit_push P [] t h here (suc n) = h (suc n)
fit_push P (u ∷ tables) t h here zero = h zero
fit_push P (u ∷ tables) t h here (suc n) = fit_push (λ k. P (suc k)) tables t (λ k. h (suc k)) here n

pub rows_push : (tables : List IndexedRows) (lists : List (List (List Value))) (t : IndexedRows) (rows : List (List Value)) → length tables ≡ length lists
    → HaveRows (λ (n : ℕ). get_or lists n []) tables → SameRows t.rows rows → HaveRows (λ (n : ℕ). get_or (lists ++ rows ∷ []) n []) (tables ++ t ∷ [])
rows_push [] [] t rows count h here zero = here
rows_push [] [] t rows count h here (suc n) = h (suc n)
rows_push [] (l ∷ lists) t rows count h here n = absurd (omega (arith, count))
rows_push (u ∷ tables) [] t rows count h here n = absurd (omega (arith, count))
rows_push (u ∷ tables) (l ∷ lists) t rows count h here zero = h zero
rows_push (u ∷ tables) (l ∷ lists) t rows count h here (suc n) = rows_push tables lists t rows (omega (arith, count)) (λ k. h (suc k)) here n

pub no_rows : (rows : List (List Value)) → rows ≡ [] → IsSetOf rows []
no_rows rows is = record { distinct = subst AreDistinct (sym is) nil_distinct; same = λ r. ap (λ l. has l r) is }

-- ---- the halves of deltas

pub rows_at_deleted : (deltas : List Delta) (lists : List (List (List Value))) (tables : List IndexedRows) → lists ≡ map (λ d. d.deleted) deltas → HaveRows (λ (n : ℕ). get_or lists n []) tables → HaveRows (deleted_at deltas) tables
rows_at_deleted deltas lists tables is h n r = h n r ∙ ap (λ l. has (get_or l n []) r) is ∙ ap (λ l. has l r) (get_or-map (λ (d : Delta). d.deleted) deltas n no_delta)

pub rows_at_inserted : (deltas : List Delta) (lists : List (List (List Value))) (tables : List IndexedRows) → lists ≡ map (λ d. d.inserted) deltas → HaveRows (λ (n : ℕ). get_or lists n []) tables → HaveRows (inserted_at deltas) tables
rows_at_inserted deltas lists tables is h n r = h n r ∙ ap (λ l. has (get_or l n []) r) is ∙ ap (λ l. has l r) (get_or-map (λ (d : Delta). d.inserted) deltas n no_delta)
