-- The image of a warehouse itself: what its tables are known to be, and that it is the image that two files hold.
use Rattle.std.proofs.Common.{◌≡◌, ℕ, zero, suc, ◌+◌, ◌<◌, ◌≤◌, true, false, ltb, List, [], ◌∷◌, length, map, get_or, None, refl, sym, ap, subst, ◌∙◌, eq-eqb, arith, nat_eq}
use Rattle.std.proofs.lemmas.Bool.{le-ltb}
use Rattle.std.specs.Cmp.Lexicographic.{pointwise}
use Rattle.std.specs.List.{AllByRecursion, list_all}
use Rattle.std.proofs.lemmas.List.{length-map}
use Rattle.wh_base.specs.declared.value.Attr.{Attr}
use Rattle.wh_base.specs.declared.value.Value.{Value}
use Rattle.wh_base.specs.RowSet.{IsAscending, SameRows, in_order}
use Rattle.wh_base.specs.Value.{kinds, row_kinds}
use Rattle.wh_base.proofs.InOrder.{Contains-from_in_order, IsAscending-in_order, SameRows-in_order, in_order-same, in_order-unique}
use Rattle.wh_codec.specs.Body.{IsSpelledValue}
use Rattle.wh_csv.specs.declared.change.Line as csv
use Rattle.wh_expr.specs.Typing.{kind_eq}
use Rattle.wh_fit.specs.Fit.{AreSpelledRows, IsFittingLine, as_line}
use Rattle.wh_fit.proofs.Each.{each_from, each_in}
use Rattle.wh_laws.proofs.Lists.{every_from, every_in}
use Rattle.wh_schema.specs.declared.spec.Spec.{Spec}
use Rattle.wh_schema.specs.Warehouse.{Row, numbers}
use Rattle.wh_store.specs.declared.warehouse.Warehouse.{Warehouse}
use Rattle.wh_store.specs.Image.{Image, first_over, fit_attrs, fit_stored, fits_stored, row_limit, stored_attrs, stored_count}
use Rattle.wh_store.specs.Warehouse.{HoldsValues, IsInForm, IsWarehouseOf, no_table, table_at}
use Rattle.wh_store.proofs.StoredLemmas.{all_below, all_from, all_mapped, and_both, and_true, item_of}
use Rattle.wh_table.specs.Table.{IndexedRows}
use Rattle.wh_refresh.specs.Net.{own_image}
use Rattle.wh_refresh.proofs.Counting.{in_order_length, none_first}

pub no_rows : (rows : List Row) → length rows ≡ 0 → [] ≡ in_order rows
no_rows [] none = refl
no_rows (x ∷ rows) none = absurd (omega (arith, none))

-- ---- lists with the same items

pub same_items : {X : Type 0} (d : X) (xs ys : List X) → length xs ≡ length ys → ((k : ℕ) → k < length xs → get_or xs k d ≡ get_or ys k d) → xs ≡ ys
same_items d [] [] count same = refl
same_items d [] (y ∷ ys) count same = absurd (omega (arith, count))
same_items d (x ∷ xs) [] count same = absurd (omega (arith, count))
same_items d (x ∷ xs) (y ∷ ys) count same =
    let first : x ≡ y = same 0 (omega arith) in
    let rest : xs ≡ ys = same_items d xs ys (omega (arith, count)) (λ k below. same (suc k) (omega arith)) in
    λ i. first i ∷ rest i

pub tables_at : (ts : List IndexedRows) (k : ℕ) → get_or (map (λ (t : IndexedRows). in_order t.rows) ts) k [] ≡ in_order (table_at ts k).rows
tables_at [] k = refl
tables_at (t ∷ ts) zero = refl
tables_at (t ∷ ts) (suc k) = tables_at ts k

-- ---- the image

pub own_is : (w : Warehouse) → IsInForm w → IsWarehouseOf (own_image w) w
own_is w form = record {
  form = form;
  spec = refl;
  rows = λ k below. subst (SameRows (table_at w.tables k).rows) (sym (tables_at w.tables k)) (λ row. sym (SameRows-in_order (table_at w.tables k).rows row));
  seq = refl;
}

pub own_count : (w : Warehouse) → length (own_image w).tables ≡ length w.tables
own_count w = length-map w.tables (λ (t : IndexedRows). in_order t.rows)

pub own_ascending : (w : Warehouse) → AllByRecursion IsAscending (own_image w).tables
own_ascending w = all_mapped IsAscending (λ (t : IndexedRows). in_order t.rows) w.tables (λ t. IsAscending-in_order t.rows)

ordered_fits : (attrs : List Attr) (rows : List Row) → fit_attrs attrs rows ≡ true → fit_attrs attrs (in_order rows) ≡ true
ordered_fits attrs rows fits =
    let test : Row → _ = λ row. pointwise kind_eq (row_kinds row) (kinds attrs) in
    every_in test (in_order rows) (λ y there. every_from test rows fits y (Contains-from_in_order rows y there))

ordered_spelled : (rows : List Row) → AreSpelledRows rows → AreSpelledRows (in_order rows)
ordered_spelled rows spelled = each_in (AllByRecursion IsSpelledValue) (in_order rows) (λ y there. each_from (AllByRecursion IsSpelledValue) rows spelled y (Contains-from_in_order rows y there))

module _ (w : Warehouse) (form : IsInForm w) (values : HoldsValues w) where
  pub own_stored : length (own_image w).tables ≡ stored_count w.plan.spec
  own_stored = own_count w ∙ form.count

  pub own_fits : fit_stored w.plan.spec (own_image w).tables ≡ true
  own_fits =
      let test : ℕ → _ = λ k. fits_stored w.plan.spec k (get_or (own_image w).tables k []) in
      and_both (nat_eq (length (own_image w).tables) (stored_count w.plan.spec)) (list_all test (numbers (stored_count w.plan.spec)))
      (eq-eqb (length (own_image w).tables) (stored_count w.plan.spec) own_stored)
      (all_below test (stored_count w.plan.spec) (λ k below. subst (λ (rows : List Row). fits_stored w.plan.spec k rows ≡ true) (sym (tables_at w.tables k))
      (ordered_fits (stored_attrs w.plan.spec k) (table_at w.tables k).rows (values.fits k below))))

  pub own_spelled : AllByRecursion AreSpelledRows (own_image w).tables
  own_spelled =
      all_from AreSpelledRows (own_image w).tables [] (λ k below. subst AreSpelledRows (sym (tables_at w.tables k))
      (ordered_spelled (table_at w.tables k).rows (values.spelled k (omega (arith, below, own_stored)))))

  pub own_under : first_over (own_image w).tables ≡ None
  own_under =
      none_first (λ (rows : List Row). ltb row_limit (length rows)) (own_image w).tables [] (λ k below. subst (λ (rows : List Row). ltb row_limit (length rows) ≡ false) (sym (tables_at w.tables k))
      (le-ltb row_limit (length (in_order (table_at w.tables k).rows)) (omega (arith, in_order_length (table_at w.tables k).rows, values.under k (omega (arith, below, own_stored))))))

-- the tables of an image in row order are those of the warehouse's own
pub own_tables : (i : Image) (w : Warehouse) → IsWarehouseOf i w → length i.tables ≡ stored_count i.spec → AllByRecursion IsAscending i.tables → (own_image w).tables ≡ i.tables
own_tables i w is count up =
    let long : length (own_image w).tables ≡ stored_count i.spec = own_count w ∙ is.form.count ∙ ap stored_count is.spec in
    same_items [] (own_image w).tables i.tables (omega (arith, long, count)) (λ k below.
    let there = get_or i.tables k [] in
    tables_at w.tables k ∙ in_order-same (table_at w.tables k).rows there (is.rows k (omega (arith, below, long)))
    ∙ sym (in_order-unique there there (item_of IsAscending i.tables [] k up (omega (arith, below, long, count))) (λ q. (λ h. h, λ h. h))))

-- ---- lines

pub fitting_lines : (spec : Spec) (lines : List csv.Line) → AllByRecursion (λ (l : csv.Line). IsFittingLine spec (as_line l)) lines → AllByRecursion (IsFittingLine spec) (map as_line lines)
fitting_lines spec [] fit = tt
fitting_lines spec (l ∷ lines) fit = (fit.0, fitting_lines spec lines fit.1)

pub lines_within : (spec : Spec) (lines : List csv.Line) → AllByRecursion (λ (l : csv.Line). IsFittingLine spec (as_line l)) lines → AllByRecursion (λ (l : csv.Line). l.relation < length spec.relations) lines
lines_within spec [] fit = tt
lines_within spec (l ∷ lines) fit = (fit.0.relation, lines_within spec lines fit.1)
