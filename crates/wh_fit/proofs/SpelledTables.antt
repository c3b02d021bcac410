-- What is stored of values that have a spelling has one.
use Rattle.std.proofs.Common.{◌≡◌, ℕ, ◌<◌, ◌≤◌, ◌^◌, true, false, List, [], ◌∷◌, map, length, get_or, None, Contains, sym, ◌∙◌, ap, subst, inl, inr, arith}
use Rattle.std.specs.Prelude.{nat_lt}
use Rattle.std.specs.List.{AllByRecursion, IsDistinct}
use Rattle.std.specs.Ordering.{eq_by_cmp}
use Rattle.std.proofs.lemmas.Bool.Decides.{nat_tests}
use Rattle.std.proofs.lemmas.List.{length-map}
use Rattle.std.proofs.lemmas.List.Elements.{Contains-get_or, Contains-append_cases}
use Rattle.std.proofs.lemmas.Map.Keys.{IsDistinct-from_sorted}
use Rattle.std.proofs.lemmas.Map.Made.{length-le_from_is_member}
use Rattle.wh_base.specs.declared.value.Attr.{Attr}
use Rattle.wh_base.specs.RowSet.{IsAscending, has, in_order}
use Rattle.wh_base.specs.Value.{kinds, row_cmp, row_eq, row_kinds}
use Rattle.wh_base.specs.ValueLaws.{row_eq_equiv, row_ties}
use Rattle.wh_base.proofs.InOrder.{Contains-from_in_order}
use Rattle.wh_codec.specs.Body.{IsSpelledValue, IsSpelledRow, IsSpelledTable, AreAlike}
use Rattle.wh_schema.specs.declared.spec.Spec.{Spec}
use Rattle.wh_schema.specs.Heads.{typed_names}
use Rattle.wh_schema.specs.Legality.{WellFormed}
use Rattle.wh_schema.specs.Rules.{joined_attrs}
use Rattle.wh_schema.specs.Warehouse.{Row, State, no_relation, numbers, columns_of, relation_at, view_at, view_table, sources_of, complement, stored}
use Rattle.wh_store.specs.Image.{first_over, row_limit}
use Rattle.wh_laws.proofs.Equality.{Name, has_decides}
use Rattle.wh_laws.proofs.Lists.{Contains-nil, Contains-here, Contains-there, Contains-cases, map_in, map_from}
use Rattle.wh_laws.proofs.Pieces.{numbers_from}
use Rattle.wh_laws.proofs.Stored.{stored_ascending}
use Rattle.wh_laws.proofs.Views.{view_from}
use Rattle.wh_fit.specs.Fit.{IsFittingState, IsSpelledState}
use Rattle.wh_fit.proofs.AcceptedKinds.{IsKinded}
use Rattle.wh_fit.proofs.Carried.{complement_from, fitting_is_state}
use Rattle.wh_fit.proofs.Each.{each_in, each_from, not_placed}
use Rattle.wh_fit.proofs.KindLemmas.{fits_from, width_is}
use Rattle.wh_fit.proofs.StoredKinds.{view_row_fits}

-- rows of the same kinds are alike
pub alike_from : (attrs : List Attr) (rows : List Row) → ((x : Row) → Contains rows x → row_kinds x ≡ kinds attrs) → AreAlike rows
alike_from attrs [] h = tt
alike_from attrs (row ∷ rows) h =
    each_in (λ other. row_kinds other ≡ row_kinds row) rows (λ x k. h x (Contains-there row x rows k) ∙ sym (h row (Contains-here row rows)))

-- a table of rows in order, each of the same kinds and with a spelling
spelled_table : (attrs : List Attr) (rows : List Row) → IsAscending (in_order rows) → ((x : Row) → Contains rows x → row_kinds x ≡ kinds attrs) → ((x : Row) → Contains rows x → IsSpelledRow x)
    → length (in_order rows) < 2 ^ 32 → IsSpelledTable (in_order rows)
spelled_table attrs rows ascending fit spelled few = record {
  count = few;
  rows = each_in IsSpelledRow (in_order rows) (λ x k. spelled x (Contains-from_in_order rows x k));
  alike = alike_from attrs (in_order rows) (λ x k. fit x (Contains-from_in_order rows x k));
  ascending = ascending;
}

module _ (spec : Spec) (s : State) (wf : WellFormed spec) (kd : IsKinded spec) (fit : IsFittingState spec s) (spelled : IsSpelledState spec s) where
  source_values : (i : ℕ) → i < length spec.relations → (x : Row) → Contains (get_or s i []) x → AllByRecursion IsSpelledValue x
  source_values i l x h = each_from (AllByRecursion IsSpelledValue) (get_or s i []) (spelled i l) x h

  view_row_spelled : (j : ℕ) → j < length spec.views → (w : Row) → Contains (view_table spec s j).rows w → IsSpelledRow w
  view_row_spelled j l w h =
      let v = view_from spec s wf (fitting_is_state spec s fit) j l w h in
      let head = (view_at spec j).head in
      let vf = wf.views (view_at spec j) (Contains-get_or spec.views j _ l) in
      let at_name : (n : Name) → Contains head n → IsSpelledValue (v.at n) = λ n k.
      let i = vf.head n k in
      each_from IsSpelledValue (map v.at (columns_of spec i.0)) (source_values i.0 (vf.members i.0 i.1) (map v.at (columns_of spec i.0)) (v.parts i.0 i.1)) (v.at n) (map_in v.at (columns_of spec i.0) n i.2) in
      let all : AllByRecursion IsSpelledValue (map v.at head) = each_in IsSpelledValue (map v.at head) (λ y k.
      let n = map_from v.at head y k in
      subst IsSpelledValue n.2 (at_name n.0 n.1)) in
      let short = kd.heads (view_at spec j) (Contains-get_or spec.views j _ l) in
      let wide : length w ≡ length head = ap length v.row ∙ length-map head v.at in
      record { width = omega (arith, short, wide); values = subst (AllByRecursion IsSpelledValue) (sym v.row) all }

  complement_row_spelled : (r : ℕ) → r < length spec.relations → (x : Row) → Contains (complement spec (sources_of spec s) r) x → IsSpelledRow x
  complement_row_spelled r l x h =
      let attrs = (relation_at spec r).attrs in
      let k = complement_from spec s r x h in
      let wide = width_is attrs x (fits_from attrs (get_or s r []) (fit.rows r l) x k) in
      let short = kd.narrow (relation_at spec r) (Contains-get_or spec.relations r no_relation l) in
      record { width = omega (arith, short, wide); values = source_values r l x k }

  pub rows_spelled : AllByRecursion (AllByRecursion IsSpelledRow) (stored spec s)
  rows_spelled =
      let P : List Row → Type 0 = AllByRecursion IsSpelledRow in
      let view : ℕ → List Row = λ j. in_order (view_table spec s j).rows in
      let rest : ℕ → List Row = λ r. in_order (complement spec (sources_of spec s) r) in
      each_in P (stored spec s) (λ rows h.
      elim (Contains-append_cases (map view (numbers (length spec.views))) (map rest (numbers (length spec.relations))) rows h) [
        | inl a ↦
            let b = map_from view (numbers (length spec.views)) rows a in
            let l = numbers_from (length spec.views) b.0 b.1 in
            subst P b.2 (each_in IsSpelledRow (view b.0) (λ x k. view_row_spelled b.0 l x (Contains-from_in_order (view_table spec s b.0).rows x k)))
        | inr a ↦
            let b = map_from rest (numbers (length spec.relations)) rows a in
            let l = numbers_from (length spec.relations) b.0 b.1 in
            subst P b.2 (each_in IsSpelledRow (rest b.0) (λ x k. complement_row_spelled b.0 l x (Contains-from_in_order (complement spec (sources_of spec s) b.0) x k)))
      ])

  pub stored_spelled : AllByRecursion (λ rows. length rows < 2 ^ 32 → IsSpelledTable rows) (stored spec s)
  stored_spelled =
      let P : List Row → Type 0 = λ rows. length rows < 2 ^ 32 → IsSpelledTable rows in
      let view : ℕ → List Row = λ j. in_order (view_table spec s j).rows in
      let rest : ℕ → List Row = λ r. in_order (complement spec (sources_of spec s) r) in
      each_in P (stored spec s) (λ rows h.
      let up = stored_ascending spec s rows h in
      elim (Contains-append_cases (map view (numbers (length spec.views))) (map rest (numbers (length spec.relations))) rows h) [
        | inl a ↦
            let b = map_from view (numbers (length spec.views)) rows a in
            let l = numbers_from (length spec.views) b.0 b.1 in
            subst P b.2
            (spelled_table (typed spec b.0) (view_table spec s b.0).rows (subst IsAscending (sym b.2) up) (view_row_fits spec s wf kd fit b.0 l) (view_row_spelled b.0 l))
        | inr a ↦
            let b = map_from rest (numbers (length spec.relations)) rows a in
            let l = numbers_from (length spec.relations) b.0 b.1 in
            let attrs = (relation_at spec b.0).attrs in
            subst P b.2
            (spelled_table attrs (complement spec (sources_of spec s) b.0) (subst IsAscending (sym b.2) up)
            (λ x k. fits_from attrs (get_or s b.0 []) (fit.rows b.0 l) x (complement_from spec s b.0 x k)) (complement_row_spelled b.0 l))
      ])
    where
      typed : Spec → ℕ → List Attr
      typed u j = typed_names (joined_attrs u (view_at u j).relations) (view_at u j).head

-- ---- tables under the limit

pub none_over : (tables : List (List Row)) → first_over tables ≡ None → AllByRecursion (λ rows. length rows < 2 ^ 32) tables
none_over tables e = each_in (λ rows. length rows < 2 ^ 32) tables (λ rows h. few rows (not_placed (λ rows. nat_lt row_limit (length rows)) tables e rows h))
  where
    few : (rows : List Row) → nat_lt row_limit (length rows) ≡ false → length rows < 2 ^ 32
    few rows f = let h : length rows ≤ 4000000 = grind (arith, nat_tests) in omega (arith, h)

-- ---- parts of a table

-- rows out of rows that are alike are alike
part_alike : (table part : List Row) → AreAlike table → ((x : Row) → Contains part x → Contains table x) → AreAlike part
part_alike table [] alike h = tt
part_alike [] (x ∷ part) alike h = absurd (Contains-nil x (h x (Contains-here x part)))
part_alike (t ∷ table) (x ∷ part) alike h =
    let kinds_of_first : (y : Row) → Contains (t ∷ table) y → row_kinds y ≡ row_kinds t = λ y k.
    elim (Contains-cases t y table k) [ inl e ↦ ap row_kinds (sym e) | inr m ↦ each_from (λ other. row_kinds other ≡ row_kinds t) table alike y m ] in
    each_in (λ other. row_kinds other ≡ row_kinds x) part
    (λ y k. kinds_of_first y (h y (Contains-there x y part k)) ∙ sym (kinds_of_first x (h x (Contains-here x part))))

pub part_spelled : (table part : List Row) → IsSpelledTable table → IsAscending part → ((x : Row) → has part x ≡ true → has table x ≡ true) → IsSpelledTable part
part_spelled table part is ascending h =
    let inside : (x : Row) → Contains part x → Contains table x = λ x k. (has_decides table x).0 (h x ((has_decides part x).1 k)) in
    let same : row_eq ≡ eq_by_cmp row_cmp = λ i x y. row_ties x y i in
    let apart : IsDistinct row_eq part = subst (λ E. IsDistinct E part) (sym same) (IsDistinct-from_sorted row_cmp part ascending) in
    let fewer : length part ≤ length table = length-le_from_is_member row_eq_equiv part table apart h in
    let few = is.count in
    record {
      count = omega (arith, fewer, few);
      rows = each_in IsSpelledRow part (λ x k. each_from IsSpelledRow table is.rows x (inside x k));
      alike = part_alike table part is.alike inside;
      ascending = ascending;
    }
