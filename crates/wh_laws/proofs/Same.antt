-- What is stored depends on the rows of the state as sets alone.
use Rattle.std.proofs.Common.{◌≡◌, ℕ, ◌<◌, true, List, [], ◌∷◌, ◌++◌, map, fold, length, Contains, refl, sym, ◌∙◌, ap, subst}
use Rattle.std.proofs.lemmas.List.Elements.{Contains-get_or}
use Rattle.wh_schema.specs.declared.spec.Spec.{Spec}
use Rattle.wh_base.specs.Columns.{others}
use Rattle.wh_base.specs.Cond.{holds}
use Rattle.wh_base.specs.RowSet.{SameRows, in_order}
use Rattle.wh_base.specs.Tables.{Table, join, join_all}
use Rattle.wh_base.proofs.InOrder.{SameMembers-from, SameRows-from, in_order-same}
use Rattle.wh_schema.specs.Legality.{WellFormed, IsState}
use Rattle.wh_schema.specs.Warehouse.{Row, State, SameState, columns_of, view_at, table_of, view_table, sources_of, complement, stored, numbers}
use Rattle.wh_laws.proofs.Lists.{Contains-is, map_same}
use Rattle.wh_laws.proofs.Equality.{Name}
use Rattle.wh_laws.proofs.Views.{view_from, view_in}
use Rattle.wh_laws.proofs.Pieces.{numbers_from}
use Rattle.wh_laws.proofs.Covered.{complement_from, complement_in}
use Rattle.wh_laws.proofs.Reconstruction.{Agree, covered_into, same_rows_sym}

-- the columns of a join go by those of its tables
folded_columns : (spec : Spec) (s t : State) (a b : Table) → a.columns ≡ b.columns → (l : List ℕ) → (fold join a (map (table_of spec s) l)).columns ≡ (fold join b (map (table_of spec t) l)).columns
folded_columns spec s t a b e [] = e
folded_columns spec s t a b e (i ∷ is) =
    folded_columns spec s t (join a (table_of spec s i)) (join b (table_of spec t i)) (ap (λ h. h ++ others h (columns_of spec i)) e) is

join_columns : (spec : Spec) (s t : State) (l : List ℕ) → (join_all (map (table_of spec s) l)).columns ≡ (join_all (map (table_of spec t) l)).columns
join_columns spec s t [] = refl
join_columns spec s t (i ∷ is) = folded_columns spec s t (table_of spec s i) (table_of spec t i) refl is

module _ (spec : Spec) (wf : WellFormed spec) where
  view_into : (s t : State) → IsState spec s → SameState spec s t → (j : ℕ) → j < length spec.views → (w : Row) → Contains (view_table spec s j).rows w → Contains (view_table spec t j).rows w
  view_into s t st same j l w h =
      let v = view_at spec j in
      let f = view_from spec s wf st j l w h in
      let below = (wf.views v (Contains-get_or spec.views j _ l)).members in
      let P : List Name → Type 0 = λ columns. holds v.cond columns (map f.at columns) ≡ true in
      Contains-is (map f.at v.head) w (view_table spec t j).rows (sym f.row)
      (view_in spec t wf j l f.at (λ i k. (SameMembers-from _ _ (same i (below i k)) (map f.at (columns_of spec i))).0 (f.parts i k))
      (subst P (join_columns spec s t v.relations) f.passes))

  pub view_same : (s t : State) → IsState spec s → IsState spec t → SameState spec s t → (j : ℕ) → j < length spec.views → SameRows (view_table spec s j).rows (view_table spec t j).rows
  view_same s t ss st same j l = SameRows-from _ _ (λ w. (view_into s t ss same j l w, view_into t s st (λ i k. same_rows_sym _ _ (same i k)) j l w))

  pub sources_agree : (s t : State) → IsState spec s → IsState spec t → SameState spec s t → (r : ℕ) → Agree spec r (sources_of spec s) (sources_of spec t)
  sources_agree s t ss st same r = record {
    views = λ j l. record { columns = refl; rows = view_same s t ss st same j l };
    sources = λ c k e. record { columns = refl; rows = same c.from (wf.inclusions c k).left };
  }

  complement_into : (s t : State) → IsState spec s → IsState spec t → SameState spec s t → (r : ℕ) → r < length spec.relations → (x : Row) → Contains (complement spec (sources_of spec s) r) x → Contains (complement spec (sources_of spec t) r) x
  complement_into s t ss st same r l x h =
      let a = complement_from spec (sources_of spec s) r x h in
      let into = covered_into spec r (sources_of spec t) (sources_of spec s) (sources_agree t s st ss (λ i k. same_rows_sym _ _ (same i k)) r) x in
      complement_in spec (sources_of spec t) r x ((SameMembers-from _ _ (same r l) x).0 a.0) (λ m. a.1 (into m))

  pub stored_same : (s t : State) → IsState spec s → IsState spec t → SameState spec s t → stored spec s ≡ stored spec t
  stored_same s t ss st same =
      let views = map_same (λ j. in_order (view_table spec s j).rows) (λ j. in_order (view_table spec t j).rows) (numbers (length spec.views))
      (λ j k. in_order-same _ _ (view_same s t ss st same j (numbers_from (length spec.views) j k))) in
      let rest = map_same (λ r. in_order (complement spec (sources_of spec s) r)) (λ r. in_order (complement spec (sources_of spec t) r)) (numbers (length spec.relations))
      (λ r k.
      let l = numbers_from (length spec.relations) r k in
      in_order-same _ _ (SameRows-from _ _ (λ x. (complement_into s t ss st same r l x, complement_into t s st ss (λ i m. same_rows_sym _ _ (same i m)) r l x)))) in
      ap (λ z. z ++ map (λ r. in_order (complement spec (sources_of spec s) r)) (numbers (length spec.relations))) views
      ∙ ap (λ z. map (λ j. in_order (view_table spec t j).rows) (numbers (length spec.views)) ++ z) rest
