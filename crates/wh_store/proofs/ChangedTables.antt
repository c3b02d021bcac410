-- Changes of stored tables.
use Rattle.std.proofs.Common.{◌≡◌, inl, inr, ℕ, ◌<◌, Bool, true, false, not, ◌&&◌, cond, List, [], ◌∷◌, ◌++◌, length, get_or, is_some, Contains, refl, sym, ap, subst, ◌∙◌, arith, nat_eq, eq-eqb, true≢false, zero-add, rules}
use Rattle.std.specs.Prelude.{◌↔◌, IsTrue, filter}
use Rattle.std.specs.Cmp.Lexicographic.{pointwise}
use Rattle.std.specs.List.{list_all, AllByRecursion}
use Rattle.std.proofs.lemmas.Bool.{eqb-true}
use Rattle.std.proofs.lemmas.List.Elements.{Contains-append_cases, Contains-append_right}
use Rattle.std.proofs.lemmas.List.Folds.{list_all_at}
use Rattle.std.proofs.lemmas.List.FromFn.{fill_by_all, get_or-map-range_with_len, length-map-range_with_len}
use Rattle.wh_base.specs.declared.value.Attr.{Attr}
use Rattle.wh_base.specs.declared.value.Delta.{Delta}
use Rattle.wh_base.specs.declared.value.Value.{Value}
use Rattle.wh_base.specs.Heads.{attrs_at}
use Rattle.wh_base.specs.RowSet.{has, IsAscending}
use Rattle.wh_base.specs.Tables.{without}
use Rattle.wh_base.specs.Value.{row_kinds, kinds}
use Rattle.wh_base.proofs.InOrder.{IsAscending-in_order, Contains-in_order, Contains-from_in_order}
use Rattle.wh_base.proofs.OrderedLists.{Contains-here, Contains-there, Contains-cons_cases}
use Rattle.wh_expr.specs.Typing.{kind_eq}
use Rattle.wh_schema.specs.declared.spec.Spec.{Spec}
use Rattle.wh_schema.specs.Warehouse.{numbers}
use Rattle.wh_store.specs.Image.{stored_count, stored_attrs, fit_attrs, fits_stored, fit_stored, first_over, are_stored_tables, no_delta, applies, changed_table, changed_tables, apply_to, are_stored_deltas}
use Rattle.wh_store.specs.Opening.{stored_heads, takes, all_take}
use Rattle.wh_store.proofs.StoredLemmas.{and_true, and_both, all_below, all_at, all_mapped, attrs_stored}

abbrev Row : Type 0
Row = List Value

pub holds_from : (b : Bool) (P : Type 0) → (IsTrue b ↔ P) → b ≡ true → P
holds_from true P h e = h.0 (search rules)
holds_from false P h e = absurd (true≢false (sym e))

-- ---- one table

pub keep_all : (rows : List Row) → without rows [] ≡ rows
keep_all [] = refl
keep_all (row ∷ rows) = ap (λ (l : List Row). row ∷ l) (keep_all rows)

contains_kept : (p : Row → Bool) (rows : List Row) (x : Row) → Contains (filter p rows) x → Contains rows x
contains_kept p [] x h = h
contains_kept p (row ∷ rows) x h = by (p row) (contains_kept p rows x) h
  where
    by : (b : Bool) → (Contains (filter p rows) x → Contains rows x) → Contains (cond b (row ∷ filter p rows) (filter p rows)) x → Contains (row ∷ rows) x
    by true ih k = elim (Contains-cons_cases row (filter p rows) x k) [
      | inl e ↦ subst (Contains (row ∷ rows)) e (Contains-here row rows)
      | inr t ↦ Contains-there row rows x (ih t)
    ]
    by false ih k = Contains-there row rows x (ih k)

passes_at : (p : Row → Bool) (rows : List Row) (x : Row) → list_all p rows ≡ true → Contains rows x → p x ≡ true
passes_at p rows x all h = by (p x) refl
  where
    by : (b : Bool) → p x ≡ b → p x ≡ true
    by true e = e
    by false e = let below = h.1 in absurd (true≢false (sym all ∙ list_all_at p rows h.0 x below (ap p h.2 ∙ e)))

all_pass : (p : Row → Bool) (rows : List Row) → ((x : Row) → Contains rows x → p x ≡ true) → list_all p rows ≡ true
all_pass p [] h = refl
all_pass p (row ∷ rows) h = and_both (p row) (list_all p rows) (h row (Contains-here row rows)) (all_pass p rows (λ x k. h x (Contains-there row rows x k)))

module _ (attrs : List Attr) (rows : List Row) (d : Delta) where
  abbrev suits : Row → Bool
  suits row = pointwise kind_eq (row_kinds row) (kinds attrs)

  after : List Row
  after = without rows d.deleted ++ d.inserted

  pub fits_changed : fit_attrs attrs rows ≡ true → fit_attrs attrs d.inserted ≡ true → fit_attrs attrs (changed_table rows d) ≡ true
  fits_changed old new = all_pass suits (changed_table rows d) (λ x h.
      elim (Contains-append_cases (without rows d.deleted) d.inserted x (Contains-from_in_order (without rows d.deleted ++ d.inserted) x h)) [
        | inl kept ↦ passes_at suits rows x old (contains_kept (λ r. not (has d.deleted r)) rows x kept)
        | inr come ↦ passes_at suits d.inserted x new come
      ])

  pub fits_inserted : fit_attrs attrs (changed_table rows d) ≡ true → fit_attrs attrs d.inserted ≡ true
  fits_inserted all = all_pass suits d.inserted (λ x h.
      passes_at suits (changed_table rows d) x all (Contains-in_order (without rows d.deleted ++ d.inserted) x (Contains-append_right (without rows d.deleted) d.inserted x h)))

-- ---- all tables

pub changed_all : (tables : List (List (List Value))) (deltas : List Delta) (changed : List (List (List Value))) → length changed ≡ length tables
    → ((k : ℕ) → k < length tables → get_or changed k [] ≡ changed_table (get_or tables k []) (get_or deltas k no_delta)) → changed ≡ changed_tables tables deltas
changed_all tables deltas changed count each = fill_by_all (λ k. changed_table (get_or tables k []) (get_or deltas k no_delta)) changed (length tables) [] count each

pub changed_ascend : (tables : List (List (List Value))) (deltas : List Delta) → AllByRecursion IsAscending (changed_tables tables deltas)
changed_ascend tables deltas = all_mapped IsAscending (λ k. changed_table (get_or tables k []) (get_or deltas k no_delta)) (numbers (length tables)) (λ k. IsAscending-in_order (without (get_or tables k []) (get_or deltas k no_delta).deleted ++ (get_or deltas k no_delta).inserted))

module _ (spec : Spec) (tables : List (List Row)) (deltas : List Delta) (fits : fit_stored spec tables ≡ true) where
  abbrev table : ℕ → List Row
  table k = get_or tables k []

  abbrev delta : ℕ → Delta
  delta k = get_or deltas k no_delta

  abbrev new : List (List Row)
  new = changed_tables tables deltas

  parts : (nat_eq (length tables) (stored_count spec) ≡ true) × (list_all (λ k. fits_stored spec k (table k)) (numbers (stored_count spec)) ≡ true)
  parts = and_true (nat_eq (length tables) (stored_count spec)) (list_all (λ k. fits_stored spec k (table k)) (numbers (stored_count spec))) fits

  count : length tables ≡ stored_count spec
  count = eqb-true (length tables) (stored_count spec) parts.0

  new_count : length new ≡ length tables
  new_count = length-map-range_with_len (λ k. changed_table (table k) (delta k)) 0 (length tables)

  new_at : (k : ℕ) → k < length tables → get_or new k [] ≡ changed_table (table k) (delta k)
  new_at k below = get_or-map-range_with_len (λ j. changed_table (table j) (delta j)) 0 (length tables) k k [] below (zero-add k)

  old_fits : (k : ℕ) → k < length tables → fit_attrs (stored_attrs spec k) (table k) ≡ true
  old_fits k below = all_at (λ j. fits_stored spec j (table j)) (stored_count spec) k parts.1 (omega (arith, count))

  -- what `takes` says of each table
  module _ (all : all_take (stored_heads spec) tables deltas ≡ true) where
    take_parts : (nat_eq (length deltas) (length tables) ≡ true) × (list_all (λ k. takes (attrs_at (stored_heads spec) k) (table k) (delta k)) (numbers (length tables)) ≡ true)
    take_parts = and_true (nat_eq (length deltas) (length tables)) (list_all (λ k. takes (attrs_at (stored_heads spec) k) (table k) (delta k)) (numbers (length tables))) all

    taken : (k : ℕ) → k < length tables → (applies (table k) (delta k) ≡ true) × (fit_attrs (stored_attrs spec k) (delta k).inserted ≡ true)
    taken k below =
        let both = and_true (applies (table k) (delta k)) (fit_attrs (attrs_at (stored_heads spec) k) (delta k).inserted) (all_at (λ j. takes (attrs_at (stored_heads spec) j) (table j) (delta j)) (length tables) k take_parts.1 below) in
        (both.0, sym (ap (λ (a : List Attr). fit_attrs a (delta k).inserted) (attrs_stored spec k)) ∙ both.1)

    all_apply : apply_to tables deltas ≡ true
    all_apply = and_both (nat_eq (length deltas) (length tables)) (list_all (λ k. applies (table k) (delta k)) (numbers (length tables))) take_parts.0 (all_below (λ k. applies (table k) (delta k)) (length tables) (λ k below. (taken k below).0))

    pub new_fits : fit_stored spec new ≡ true
    new_fits = and_both (nat_eq (length new) (stored_count spec)) (list_all (λ k. fits_stored spec k (get_or new k [])) (numbers (stored_count spec)))
        (eq-eqb (length new) (stored_count spec) (new_count ∙ count))
        (all_below (λ k. fits_stored spec k (get_or new k [])) (stored_count spec) (λ k below.
        let inside : k < length tables = omega (arith, count) in
        ap (λ (rows : List Row). fit_attrs (stored_attrs spec k) rows) (new_at k inside) ∙ fits_changed (stored_attrs spec k) (table k) (delta k) (old_fits k inside) (taken k inside).1))

    -- then only the number of rows is left
    pub stored_by_rows : are_stored_deltas spec tables deltas ≡ not (is_some (first_over new))
    stored_by_rows = λ i. all_apply i && (new_fits i && not (is_some (first_over new)))

  -- and the way back
  module _ (stored : are_stored_deltas spec tables deltas ≡ true) where
    outer : (apply_to tables deltas ≡ true) × (are_stored_tables spec new ≡ true)
    outer = and_true (apply_to tables deltas) (are_stored_tables spec new) stored

    apply_parts : (nat_eq (length deltas) (length tables) ≡ true) × (list_all (λ k. applies (table k) (delta k)) (numbers (length tables)) ≡ true)
    apply_parts = and_true (nat_eq (length deltas) (length tables)) (list_all (λ k. applies (table k) (delta k)) (numbers (length tables))) outer.0

    fit_parts : (nat_eq (length new) (stored_count spec) ≡ true) × (list_all (λ k. fits_stored spec k (get_or new k [])) (numbers (stored_count spec)) ≡ true)
    fit_parts = and_true (nat_eq (length new) (stored_count spec)) (list_all (λ k. fits_stored spec k (get_or new k [])) (numbers (stored_count spec))) (and_true (fit_stored spec new) (not (is_some (first_over new))) outer.1).0

    all_taken : all_take (stored_heads spec) tables deltas ≡ true
    all_taken = and_both (nat_eq (length deltas) (length tables)) (list_all (λ k. takes (attrs_at (stored_heads spec) k) (table k) (delta k)) (numbers (length tables))) apply_parts.0
        (all_below (λ k. takes (attrs_at (stored_heads spec) k) (table k) (delta k)) (length tables) (λ k below.
        and_both (applies (table k) (delta k)) (fit_attrs (attrs_at (stored_heads spec) k) (delta k).inserted)
        (all_at (λ j. applies (table j) (delta j)) (length tables) k apply_parts.1 below)
        (ap (λ (a : List Attr). fit_attrs a (delta k).inserted) (attrs_stored spec k)
        ∙ fits_inserted (stored_attrs spec k) (table k) (delta k)
        (sym (ap (λ (rows : List Row). fit_attrs (stored_attrs spec k) rows) (new_at k below)) ∙ all_at (λ j. fits_stored spec j (get_or new j [])) (stored_count spec) k fit_parts.1 (omega (arith, count))))))

  pub not_stored : all_take (stored_heads spec) tables deltas ≡ false → are_stored_deltas spec tables deltas ≡ false
  not_stored fails = by (are_stored_deltas spec tables deltas) refl
    where
      by : (b : Bool) → are_stored_deltas spec tables deltas ≡ b → are_stored_deltas spec tables deltas ≡ false
      by true e = absurd (true≢false (sym (all_taken e) ∙ fails))
      by false e = e
