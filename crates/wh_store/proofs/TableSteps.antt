-- Tables before and after each step of a change of all of them.
use Rattle.std.proofs.Common.{◌≡◌, ◌⊎◌, inl, inr, ⊎_elim, ℕ, ◌+◌, ◌-◌, ◌<◌, ◌≤◌, ltb, Bool, not, List, [], ◌∷◌, ◌++◌, length, get_or, take, Some, refl, sym, ap, subst, ◌∙◌, arith}
use Rattle.std.specs.List.{position, position_or_len, enumerate_from, zip}
use Rattle.std.proofs.Math.ListN.{set, length-set}
use Rattle.std.proofs.lemmas.Bool.{cases_lt, cases_eq}
use Rattle.std.proofs.lemmas.List.{get_or-set_same, get_or-set_other, get_or_default, take_more}
use Rattle.std.proofs.lemmas.List.FromFn.{get_or-enumerate_from, length-enumerate_from, get_or-range_with_len, length-range_with_len}
use Rattle.std.proofs.lemmas.Slice.Zip.{length-zip, get_or-zip}
use Rattle.std.proofs.lemmas.List.Quantifiers.{position-Some}
use Rattle.std.proofs.lemmas.List.Sums.{prefix_len-le-length, position_or_len_is, fails_before_first, passes_at_first}
use Rattle.wh_base.specs.declared.value.Delta.{Delta}
use Rattle.wh_base.specs.RowSet.{AreDistinct, SameRows}
use Rattle.wh_base.specs.Tables.{without}
use Rattle.wh_table.specs.Table.{IndexedRows, CanApply}
use Rattle.wh_schema.specs.Warehouse.{Row, numbers}
use Rattle.wh_store.specs.Commit.{AreKept, AreChanged, CanApplyAll, HasRoom, first_over_after, rows_after}
use Rattle.wh_store.specs.Image.{no_delta, row_limit}
use Rattle.wh_store.specs.Warehouse.{no_table, table_at}

-- what a table has after its delta, each row once
pub record IsChanged (old : IndexedRows) (delta : Delta) (new : IndexedRows) : Type 0 where
  pub rows : SameRows new.rows (without old.rows delta.deleted ++ delta.inserted)
  pub distinct : AreDistinct new.rows
  pub width : new.width ≡ old.width
  pub indexes : new.indexes ≡ old.indexes

-- the first n tables are changed, and the others are as they were
pub record AreChangedTo (n : ℕ) (old : List IndexedRows) (deltas : List Delta) (new : List IndexedRows) : Type 0 where
  pub count : length new ≡ length old
  pub done : (k : ℕ) → k < n → IsChanged (table_at old k) (get_or deltas k no_delta) (table_at new k)
  pub rest : (k : ℕ) → n ≤ k → table_at new k ≡ table_at old k

pub changed_none : (old : List IndexedRows) (deltas : List Delta) → AreChangedTo 0 old deltas old
changed_none old deltas = record { count = refl; done = λ k below. absurd (omega arith); rest = λ k _. refl }

-- a table at a place after a write there or elsewhere
at_set : (tables : List IndexedRows) (n k : ℕ) (t : IndexedRows) → n < length tables → ((k ≡ n) × (table_at (set tables n t) k ≡ t)) ⊎ ((k ≡ n → ⊥) × (table_at (set tables n t) k ≡ table_at tables k))
at_set tables n k t within =
    ⊎_elim (λ same. inl (same, subst (λ (j : ℕ). table_at (set tables n t) j ≡ t) (sym same) (get_or-set_same tables n t no_table within)))
    (λ other. inr (other, get_or-set_other tables n k t no_table other)) (cases_eq k n)

pub changed_more : (n : ℕ) (old : List IndexedRows) (deltas : List Delta) (mid : List IndexedRows) (t : IndexedRows) → n < length old → AreChangedTo n old deltas mid
    → IsChanged (table_at mid n) (get_or deltas n no_delta) t → AreChangedTo (n + 1) old deltas (set mid n t)
changed_more n old deltas mid t within so_far step = record {
  count = length-set mid n t ∙ so_far.count;
  done = λ k below. ⊎_elim
      (λ here. subst (λ (j : ℕ). IsChanged (table_at old j) (get_or deltas j no_delta) (table_at (set mid n t) j)) (sym here.0)
      (subst (λ (x : IndexedRows). IsChanged (table_at old n) (get_or deltas n no_delta) x) (sym (get_or-set_same mid n t no_table (omega (arith, so_far.count, within))))
      (subst (λ (x : IndexedRows). IsChanged x (get_or deltas n no_delta) t) (so_far.rest n (omega arith)) step)))
      (λ there. subst (λ (x : IndexedRows). IsChanged (table_at old k) (get_or deltas k no_delta) x) (sym there.1) (so_far.done k (below_other k n below there.0)))
      (at_set mid n k t (omega (arith, so_far.count, within)));
  rest = λ k above. get_or-set_other mid n k t no_table (λ (same : k ≡ n). omega arith) ∙ so_far.rest k (omega arith);
}
  where
    below_other : (k n : ℕ) → k < n + 1 → (k ≡ n → ⊥) → k < n
    below_other k n below other = ⊎_elim (λ less. less) (λ more. absurd (other (omega arith))) (cases_lt k n)

pub changed_all : (old : List IndexedRows) (deltas : List Delta) (new : List IndexedRows) → AreChangedTo (length old) old deltas new → AreChanged old deltas new
changed_all old deltas new all = record {
  count = all.count;
  rows = λ k below. (all.done k below).rows;
  distinct = λ k below. (all.done k below).distinct;
  widths = λ k. ⊎_elim (λ below. (all.done k below).width) (λ above. ap (λ (t : IndexedRows). t.width) (all.rest k above)) (cases_lt k (length old));
  indexes = λ k. ⊎_elim (λ below. (all.done k below).indexes) (λ above. ap (λ (t : IndexedRows). t.indexes) (all.rest k above)) (cases_lt k (length old));
}

-- ---- tables that stay, with more room

pub kept_itself : (tables : List IndexedRows) → AreKept tables tables
kept_itself tables = record { count = refl; rows = λ k. refl; widths = λ k. refl; indexes = λ k. refl; room = λ k. omega arith }

-- what can be applied to them can still be
pub can_apply_kept : (old new : List IndexedRows) (deltas : List Delta) → AreKept old new → CanApplyAll old deltas → CanApplyAll new deltas
can_apply_kept old new deltas kept can = record {
  count = can.count ∙ sym kept.count;
  each = λ k below. subst (λ (rows : List Row). CanApply rows (get_or deltas k no_delta)) (sym (kept.rows k)) (can.each k (omega (arith, below, kept.count)));
}

-- a table as it was, with no less room
pub record IsKept (old new : IndexedRows) : Type 0 where
  pub rows : new.rows ≡ old.rows
  pub width : new.width ≡ old.width
  pub indexes : new.indexes ≡ old.indexes
  pub room : old.spare ≤ new.spare

kept_at : (mid : List IndexedRows) (n k : ℕ) (t : IndexedRows) → n < length mid → IsKept (table_at mid n) t → IsKept (table_at mid k) (table_at (set mid n t) k)
kept_at mid n k t within step =
    ⊎_elim (λ here. subst (λ (x : IndexedRows). IsKept (table_at mid k) x) (sym here.1) (subst (λ (j : ℕ). IsKept (table_at mid j) t) (sym here.0) step))
    (λ there. subst (λ (x : IndexedRows). IsKept (table_at mid k) x) (sym there.1) (record { rows = refl; width = refl; indexes = refl; room = omega arith }))
    (at_set mid n k t within)

pub kept_more : (n : ℕ) (old mid : List IndexedRows) (t : IndexedRows) → n < length mid → AreKept old mid → IsKept (table_at mid n) t → AreKept old (set mid n t)
kept_more n old mid t within so_far step =
    let each = λ (k : ℕ). kept_at mid n k t within step in
    record {
      count = length-set mid n t ∙ so_far.count;
      rows = λ k. (each k).rows ∙ so_far.rows k;
      widths = λ k. (each k).width ∙ so_far.widths k;
      indexes = λ k. (each k).indexes ∙ so_far.indexes k;
      room = λ k. omega (arith, (each k).room, so_far.room k);
    }

pub room_more : (n : ℕ) (mid : List IndexedRows) (deltas : List Delta) (t : IndexedRows) → n < length mid → IsKept (table_at mid n) t → length (get_or deltas n no_delta).inserted ≤ t.spare
    → ((k : ℕ) → k < n → length (get_or deltas k no_delta).inserted ≤ (table_at mid k).spare) → (k : ℕ) → k < n + 1 → length (get_or deltas k no_delta).inserted ≤ (table_at (set mid n t) k).spare
room_more n mid deltas t within step here before k below =
    ⊎_elim (λ less. omega (arith, before k less, (kept_at mid n k t within step).room))
    (λ more. let same : k ≡ n = omega arith in
    subst (λ (j : ℕ). length (get_or deltas j no_delta).inserted ≤ (table_at (set mid n t) j).spare) (sym same)
    (subst (λ (x : IndexedRows). length (get_or deltas n no_delta).inserted ≤ x.spare) (sym (get_or-set_same mid n t no_table within)) here))
    (cases_lt k n)

-- ---- the first place that passes

-- tests that agree place by place pass first at the same place
pub position_same : {X Y : Type 0} (p : X → Bool) (q : Y → Bool) (xs : List X) (ys : List Y) (d : X) (e : Y) → length ys ≡ length xs
    → ((k : ℕ) → k < length xs → q (get_or ys k e) ≡ p (get_or xs k d)) → position p xs ≡ position q ys
position_same p q xs ys d e long agree =
    let i : ℕ = position_or_len p xs in
    let within : i ≤ length xs = prefix_len-le-length (λ x. not (p x)) xs in
    let same : position_or_len q ys ≡ i = position_or_len_is q ys i e (omega (arith, long, within))
    (λ k below. agree k (omega (arith, within, below)) ∙ fails_before_first p xs k d below)
    (λ inside. agree i (omega (arith, long, inside)) ∙ passes_at_first p xs d (omega (arith, long, inside))) in
    rw (same, long) refl

-- whether a table would have too many rows after its delta
abbrev pub passes_limit : IndexedRows × Delta → Bool
passes_limit p = ltb row_limit (length p.0.rows - length p.1.deleted + length p.1.inserted)

pub first_over_zipped : (tables : List IndexedRows) (deltas : List Delta) → length deltas ≡ length tables → position passes_limit (zip tables deltas) ≡ first_over_after tables deltas
first_over_zipped tables deltas one_each =
    let long : length (zip tables deltas) ≡ length tables = omega (arith, length-zip tables deltas, one_each) in
    position_same passes_limit (λ k. ltb row_limit (rows_after tables deltas k)) (zip tables deltas) (numbers (length tables)) (no_table, no_delta) 0
    (length-range_with_len 0 (length tables) ∙ sym long)
    (λ k below. rw (get_or-range_with_len 0 (length tables) k 0 (omega (arith, long, below)), get_or-zip tables deltas k (no_table, no_delta) (omega (arith, long, below)) (omega (arith, long, below, one_each)))
    (ap (λ (n : ℕ). ltb row_limit (rows_after tables deltas n)) (omega arith)))

-- ---- a turn of a loop over numbered items

pub turned : {X : Type 0} (xs : List X) (n i : ℕ) (x d : X) → n < length (enumerate_from 0 xs) → ◌≡◌ {A = ℕ × X} (i, x) (get_or (enumerate_from 0 xs) n (i, x)) → (n < length xs) × (i ≡ n) × (x ≡ get_or xs n d)
turned {X} xs n i x d below is =
    let within : n < length xs = omega (arith, length-enumerate_from 0 xs, below) in
    let here : ◌≡◌ {A = ℕ × X} (i, x) (0 + n, get_or xs n x) = is ∙ get_or-enumerate_from 0 xs n (i, x) within in
    (within, omega (arith, ap (λ (p : ℕ × X). p.0) here), ap (λ (p : ℕ × X). p.1) here ∙ get_or_default xs n x d within)

-- what was read at a place is the table there
read_at : (mid : List IndexedRows) (i n : ℕ) (t : IndexedRows) → n < length mid → i ≡ n → t ≡ get_or mid i t → t ≡ table_at mid n
read_at mid i n t within at value = value ∙ ap (λ (k : ℕ). get_or mid k t) at ∙ get_or_default mid n t no_table within

-- ---- one turn of the changes, where the table and its delta are the next

pub may_change : (n : ℕ) (old : List IndexedRows) (deltas : List Delta) (mid : List IndexedRows) (i : ℕ) (d : Delta) (t : IndexedRows) → (n < length deltas) × (i ≡ n) × (d ≡ get_or deltas n no_delta) → t ≡ get_or mid i t
    → CanApplyAll old deltas → HasRoom old deltas → AreChangedTo n old deltas mid → record { fits : CanApply t.rows d; room : length d.inserted ≤ t.spare }
may_change n old deltas mid i d t here value fits room so_far =
    let same : t ≡ table_at old n = read_at mid i n t (omega (arith, here.0, fits.count, so_far.count)) here.1 value ∙ so_far.rest n (omega arith) in
    record {
      fits = subst (λ (x : Delta). CanApply t.rows x) (sym here.2) (subst (λ (x : IndexedRows). CanApply x.rows (get_or deltas n no_delta)) (sym same) (fits.each n (omega (arith, here.0, fits.count))));
      room = subst (λ (x : Delta). length x.inserted ≤ t.spare) (sym here.2) (subst (λ (x : IndexedRows). length (get_or deltas n no_delta).inserted ≤ x.spare) (sym same) (room n (omega (arith, here.0, fits.count))));
    }

pub may_change_now : (n : ℕ) (old : List IndexedRows) (deltas : List Delta) (mid : List IndexedRows) (i : ℕ) (d : Delta) (t : IndexedRows) → (n < length deltas) × (i ≡ n) × (d ≡ get_or deltas n no_delta) → t ≡ get_or mid i t
    → CanApplyAll old deltas → ((k : ℕ) → k < length old → AreDistinct (table_at old k).rows) → AreChangedTo n old deltas mid → record { fits : CanApply t.rows d; distinct : AreDistinct t.rows }
may_change_now n old deltas mid i d t here value fits once so_far =
    let same : t ≡ table_at old n = read_at mid i n t (omega (arith, here.0, fits.count, so_far.count)) here.1 value ∙ so_far.rest n (omega arith) in
    record {
      fits = subst (λ (x : Delta). CanApply t.rows x) (sym here.2) (subst (λ (x : IndexedRows). CanApply x.rows (get_or deltas n no_delta)) (sym same) (fits.each n (omega (arith, here.0, fits.count))));
      distinct = subst (λ (x : IndexedRows). AreDistinct x.rows) (sym same) (once n (omega (arith, here.0, fits.count)));
    }

pub changed_by : (n m : ℕ) (old : List IndexedRows) (deltas : List Delta) (mid : List IndexedRows) (i : ℕ) (d : Delta) (t u : IndexedRows) → (n < length deltas) × (i ≡ n) × (d ≡ get_or deltas n no_delta) → m ≡ n + 1 → t ≡ get_or mid i t
    → length deltas ≡ length old → AreChangedTo n old deltas mid → IsChanged t d u → AreChangedTo m old deltas (set mid i u)
changed_by n m old deltas mid i d t u here next value count so_far step =
    let same : t ≡ table_at mid n = read_at mid i n t (omega (arith, here.0, count, so_far.count)) here.1 value in
    subst (λ (k : ℕ). AreChangedTo k old deltas (set mid i u)) (sym next)
    (subst (λ (k : ℕ). AreChangedTo (n + 1) old deltas (set mid k u)) (sym here.1)
    (changed_more n old deltas mid u (omega (arith, here.0, count)) so_far (subst (λ (x : IndexedRows). IsChanged x (get_or deltas n no_delta) u) same (subst (λ (x : Delta). IsChanged t x u) here.2 step))))

pub kept_by : (n : ℕ) (old mid : List IndexedRows) (i : ℕ) (t u : IndexedRows) → n < length old → i ≡ n → t ≡ get_or mid i t → AreKept old mid → IsKept t u → AreKept old (set mid i u)
kept_by n old mid i t u within at value so_far step =
    let same : t ≡ table_at mid n = read_at mid i n t (omega (arith, within, so_far.count)) at value in
    subst (λ (k : ℕ). AreKept old (set mid k u)) (sym at) (kept_more n old mid u (omega (arith, within, so_far.count)) so_far (subst (λ (x : IndexedRows). IsKept x u) same step))

pub room_by : (n m : ℕ) (old mid : List IndexedRows) (deltas : List Delta) (i : ℕ) (d : Delta) (t u : IndexedRows) → (n < length deltas) × (i ≡ n) × (d ≡ get_or deltas n no_delta) → m ≡ n + 1 → t ≡ get_or mid i t → length deltas ≡ length old
    → AreKept old mid → IsKept t u → length d.inserted ≤ u.spare → ((k : ℕ) → k < n → length (get_or deltas k no_delta).inserted ≤ (table_at mid k).spare)
    → (k : ℕ) → k < m → length (get_or deltas k no_delta).inserted ≤ (table_at (set mid i u) k).spare
room_by n m old mid deltas i d t u here next value count so_far step has before k below =
    let same : t ≡ table_at mid n = read_at mid i n t (omega (arith, here.0, count, so_far.count)) here.1 value in
    subst (λ (j : ℕ). length (get_or deltas k no_delta).inserted ≤ (table_at (set mid j u) k).spare) (sym here.1)
    (room_more n mid deltas u (omega (arith, here.0, count, so_far.count)) (subst (λ (x : IndexedRows). IsKept x u) same step) (subst (λ (x : Delta). length x.inserted ≤ u.spare) here.2 has) before k (omega (arith, next, below)))

pub taken_by : (n m : ℕ) (deltas old new : List Delta) (i : ℕ) (d p : Delta) → (n < length deltas) × (i ≡ n) × (d ≡ get_or deltas n no_delta) → m ≡ n + 1 → old ≡ take n deltas → p ≡ d → new ≡ old ++ p ∷ [] → new ≡ take m deltas
taken_by n m deltas old new i d p here next so_far same push =
    push ∙ ap (λ (x : Delta). old ++ x ∷ []) (same ∙ here.2) ∙ ap (λ (xs : List Delta). xs ++ get_or deltas n no_delta ∷ []) so_far ∙ sym (take_more deltas n no_delta here.0) ∙ ap (λ (k : ℕ). take k deltas) (sym next)

-- the first table that passes is one of them
pub first_over_inside : (tables : List IndexedRows) (deltas : List Delta) (k : ℕ) → first_over_after tables deltas ≡ Some k → k < length tables
first_over_inside tables deltas k found =
    omega (arith, (position-Some (λ n. ltb row_limit (rows_after tables deltas n)) (numbers (length tables)) k 0 found).0, length-range_with_len 0 (length tables))
