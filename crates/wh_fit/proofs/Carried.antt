-- The values of the rows of views and complements stand in rows of the sources.
use Rattle.std.proofs.Common.{◌≡◌, ℕ, zero, suc, ◌<◌, true, not, List, [], ◌∷◌, map, length, get_or, Contains, refl, sym, ◌∙◌, ap, le_of_suc-le-suc, arith}
use Rattle.std.proofs.lemmas.List.{length-map}
use Rattle.std.proofs.lemmas.List.Elements.{Contains-get_or}
use Rattle.wh_base.specs.declared.value.Attr.{Attr}
use Rattle.wh_base.specs.declared.value.Value.{Value}
use Rattle.wh_base.specs.Columns.{value_at}
use Rattle.wh_base.specs.RowSet.{has}
use Rattle.wh_schema.specs.declared.spec.Spec.{Spec}
use Rattle.wh_schema.specs.Legality.{WellFormed, IsState}
use Rattle.wh_schema.specs.Warehouse.{Row, State, columns_of, relation_at, view_at, view_table, sources_of, complement, covered}
use Rattle.wh_laws.proofs.Equality.{Name, has_decides}
use Rattle.wh_laws.proofs.Joins.{value_of-map}
use Rattle.wh_laws.proofs.Lists.{filter_from}
use Rattle.wh_laws.proofs.Views.{view_from}
use Rattle.wh_fit.specs.Fit.{IsCarried, IsFittingState}
use Rattle.wh_fit.proofs.KindLemmas.{fits_from, width_is}

pub value_at-map : (f : Name → Value) (names : List Name) (p : ℕ) → p < length names → value_at (map f names) p ≡ f (get_or names p [])
value_at-map f [] p l = absurd (omega arith)
value_at-map f (n ∷ names) zero l = refl
value_at-map f (n ∷ names) (suc p) l = value_at-map f names p (le_of_suc-le-suc l)

module _ (spec : Spec) (s : State) where
  pub carried : WellFormed spec → IsState spec s → (j : ℕ) → j < length spec.views → (w : Row) → has (view_table spec s j).rows w ≡ true
      → (length w ≡ length (view_at spec j).head)
      × ((p : ℕ) → p < length (view_at spec j).head → IsCarried spec s (view_at spec j).relations (get_or (view_at spec j).head p []) (value_at w p))
  carried wf st j l w h =
      let v = view_from spec s wf st j l w ((has_decides (view_table spec s j).rows w).0 h) in
      let head = (view_at spec j).head in (
        ap length v.row ∙ length-map head v.at,
        λ p m.
            let n = get_or head p [] in
            let k = (wf.views (view_at spec j) (Contains-get_or spec.views j _ l)).head n (Contains-get_or head p [] m) in
            record {
              relation = k.0;
              member = k.1;
              column = k.2;
              row = map v.at (columns_of spec k.0);
              is_row = (has_decides (get_or s k.0 []) (map v.at (columns_of spec k.0))).1 (v.parts k.0 k.1);
              is_value = value_of-map v.at (columns_of spec k.0) n k.2 ∙ sym (ap (λ r. value_at r p) v.row ∙ value_at-map v.at head p m);
            },
      )

  -- a row of a complement is a row of the relation
  pub complement_from : (r : ℕ) (x : Row) → Contains (complement spec (sources_of spec s) r) x → Contains (get_or s r []) x
  complement_from r x h = (filter_from (λ y. not (has (covered spec (sources_of spec s) r) y)) (get_or s r []) x h).0

  pub complement_has : (r : ℕ) (x : Row) → has (complement spec (sources_of spec s) r) x ≡ true → has (get_or s r []) x ≡ true
  complement_has r x h = (has_decides (get_or s r []) x).1 (complement_from r x ((has_decides (complement spec (sources_of spec s) r) x).0 h))

  pub fitting_is_state : IsFittingState spec s → IsState spec s
  fitting_is_state h = record {
    relations = h.relations;
    widths = λ i l x k.
        let attrs = (relation_at spec i).attrs in
        width_is attrs x (fits_from attrs (get_or s i []) (h.rows i l) x ((has_decides (get_or s i []) x).0 k)) ∙ sym (length-map attrs (λ (a : Attr). a.name));
  }
