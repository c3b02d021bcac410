-- Tables in memory.
use Rattle.std.proofs.Common.{◌≡◌, ℕ, ◌+◌, ◌<◌, true, false, List, [], ◌∷◌, ◌++◌, length, get_or, nat_eq, refl, sym, ap, subst, ◌∙◌, arith, below_more}
use Rattle.std.specs.List.{list_all, list_any}
use Rattle.std.specs.Ordering.{eq_by_cmp}
use Rattle.std.proofs.lemmas.Bool.{eqb-true}
use Rattle.std.proofs.lemmas.List.{get_or_append_left, get_or_at}
use Rattle.std.proofs.lemmas.Map.Keys.{IsDistinct-from_apart, IsDistinct-from_sorted, apart_from_distinct}
use Rattle.wh_base.specs.declared.head.Head.{Head}
use Rattle.wh_base.specs.declared.value.Delta.{Delta}
use Rattle.wh_base.specs.declared.value.Value.{Value}
use Rattle.wh_base.specs.Heads.{attrs_at}
use Rattle.wh_base.specs.RowSet.{has, AreDistinct, IsAscending}
use Rattle.wh_base.specs.Value.{row_cmp, row_eq}
use Rattle.wh_base.specs.ValueLaws.{row_ties}
use Rattle.wh_plan.specs.declared.plan.Plan.{Plan}
use Rattle.wh_plan.specs.Plan.{IsPlan}
use Rattle.wh_schema.specs.Warehouse.{numbers}
use Rattle.wh_spec_text.specs.Textual.{IsTextualSpec}
use Rattle.wh_store.specs.declared.warehouse.Warehouse.{Warehouse}
use Rattle.wh_store.specs.Image.{stored_count, fits_stored, fit_stored}
use Rattle.wh_store.specs.Opening.{stored_heads, IsTableOf, AreTablesOf}
use Rattle.wh_store.specs.Warehouse.{no_table, table_at, IsInForm, HasRows}
use Rattle.wh_store.proofs.StoredLemmas.{and_true, attrs_stored}
use Rattle.wh_table.specs.Table.{IndexedRows, CanApply}

abbrev Row : Type 0
Row = List Value

none_held : (rows : List Row) → list_any (has []) rows ≡ false
none_held [] = refl
none_held (row ∷ rows) = none_held rows

nil_distinct : AreDistinct []
nil_distinct = IsDistinct-from_apart row_eq [] (λ i j d before inside. absurd (omega arith))

pub fresh_applies : (held : List (List Value)) (p : Delta) (rows : List (List Value)) → held ≡ [] → p.deleted ≡ [] → p.inserted ≡ rows → AreDistinct rows → CanApply held p
fresh_applies held p rows none gone come distinct = record {
  present = ap (λ (l : List Row). list_all (has held) l) gone;
  absent = (λ i. list_any (has (none i)) p.inserted) ∙ none_held p.inserted;
  deleted_once = subst AreDistinct (sym gone) nil_distinct;
  inserted_once = subst AreDistinct (sym come) distinct;
}

pub ascending_distinct : (rows : List (List Value)) → IsAscending rows → AreDistinct rows
ascending_distinct rows up =
    IsDistinct-from_apart row_eq rows (λ i j d before inside.
    row_ties (get_or rows i d) (get_or rows j d) ∙ apart_from_distinct (eq_by_cmp row_cmp) rows i j d (IsDistinct-from_sorted row_cmp rows up) before inside)

-- one table more
module _ (plan : Plan) (stored : List Head) (rows : List (List Row)) where
  abbrev pub Each : List IndexedRows → ℕ → Type 0
  Each tables k = IsTableOf (length (attrs_at stored k)) (get_or plan.indexes k []) (get_or rows k []) (table_at tables k)

  pub each_more : (tables after : List IndexedRows) (t : IndexedRows) (n : ℕ) → length tables ≡ n → after ≡ tables ++ t ∷ [] → ((k : ℕ) → k < n → Each tables k)
      → IsTableOf (length (attrs_at stored n)) (get_or plan.indexes n []) (get_or rows n []) t → (k : ℕ) → k < n + 1 → Each after k
  each_more tables after t n count is so_far here =
      below_more (Each after) n
      (λ k below.
      subst (IsTableOf (length (attrs_at stored k)) (get_or plan.indexes k []) (get_or rows k [])) (sym (ap (λ (l : List IndexedRows). table_at l k) is ∙ get_or_append_left tables (t ∷ []) no_table k (omega arith))) (so_far k below))
      (subst (IsTableOf (length (attrs_at stored n)) (get_or plan.indexes n []) (get_or rows n [])) (sym (ap (λ (l : List IndexedRows). table_at l n) is ∙ get_or_at tables t [] no_table n count)) here)

-- the warehouse of such tables
module _ (w : Warehouse) (stored : List Head) (rows : List (List Row)) (is : stored ≡ stored_heads w.plan.spec) (fits : fit_stored w.plan.spec rows ≡ true) (are : AreTablesOf w.plan stored rows w.tables) where
  rows_count : length rows ≡ stored_count w.plan.spec
  rows_count = eqb-true (length rows) (stored_count w.plan.spec) (and_true (nat_eq (length rows) (stored_count w.plan.spec)) (list_all (λ k. fits_stored w.plan.spec k (get_or rows k [])) (numbers (stored_count w.plan.spec))) fits).0

  pub rows_held : HasRows w.plan.spec rows w
  rows_held k below = (are.each k (omega (arith, rows_count))).rows_same

  pub in_form : IsTextualSpec w.plan.spec → IsPlan w.plan → IsInForm w
  in_form textual plan = record {
    textual = textual;
    plan = plan;
    count = are.count ∙ rows_count;
    widths = λ k below. (are.each k (omega (arith, rows_count))).width_is ∙ ap length (ap (λ (hs : List Head). attrs_at hs k) is ∙ attrs_stored w.plan.spec k);
    indexes = λ k below. (are.each k (omega (arith, rows_count))).indexes_are;
  }
