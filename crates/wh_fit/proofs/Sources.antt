-- A state fits where what is stored of it fits.
use Rattle.std.proofs.Common.{◌≡◌, ℕ, ◌<◌, ◌+◌, true, [], map, length, get_or, Contains, sym, ◌∙◌, ap, subst}
use Rattle.std.specs.List.{AllByRecursion}
use Rattle.wh_base.specs.declared.value.Value.{Value}
use Rattle.wh_base.specs.Columns.{place_of, value_of}
use Rattle.wh_base.specs.Value.{row_kinds}
use Rattle.wh_base.proofs.InOrder.{Contains-in_order}
use Rattle.wh_codec.specs.Body.{IsSpelledValue}
use Rattle.wh_schema.specs.declared.spec.Spec.{Spec}
use Rattle.wh_schema.specs.Legality.{WellFormed, IsState}
use Rattle.wh_schema.specs.Warehouse.{Row, State, columns_of, complement, relation_at, sources_of, stored, view_table}
use Rattle.wh_store.specs.Image.{fit_stored}
use Rattle.wh_laws.proofs.Equality.{Name}
use Rattle.wh_laws.proofs.Joins.{fits-values}
use Rattle.wh_laws.proofs.Stored.{stored_view, stored_complement}
use Rattle.wh_laws.proofs.Views.{state_fits}
use Rattle.wh_fit.specs.Fit.{AreSpelledRows, IsFittingState, IsSpelledState}
use Rattle.wh_fit.proofs.AcceptedKinds.{IsKinded}
use Rattle.wh_fit.proofs.Each.{each_in}
use Rattle.wh_fit.proofs.KindLemmas.{fits_in}
use Rattle.wh_fit.proofs.PieceValues.{HoldsOfViews}
use Rattle.wh_fit.proofs.SourceValues.{HoldsOfStored, of_sources}
use Rattle.wh_fit.proofs.TableValues.{HasKind, IsSpelledAt, complement_row, kinds_in_row, kinds_of_row, kinds_of_views, row_spelled, spelling_of_views, value_spelled, values_at}

module _ (spec : Spec) (s : State) (wf : WellFormed spec) (st : IsState spec s) where
  -- a row by its values
  by_values : (r : ℕ) → r < length spec.relations → (x : Row) → Contains (get_or s r []) x → map (value_of (columns_of spec r) x) (columns_of spec r) ≡ x
  by_values r l x h = fits-values (columns_of spec r) x (state_fits spec s wf st r l x h)

  -- a row of a view, and of a complement, is one of the stored rows
  in_view : (j : ℕ) → j < length spec.views → (w : Row) → Contains (view_table spec s j).rows w → Contains (get_or (stored spec s) j []) w
  in_view j l w h = subst (λ z. Contains z w) (sym (stored_view spec s j l)) (Contains-in_order (view_table spec s j).rows w h)

  in_rest : (r : ℕ) → r < length spec.relations → (x : Row) → Contains (complement spec (sources_of spec s) r) x → Contains (get_or (stored spec s) (length spec.views + r) []) x
  in_rest r l x h = subst (λ z. Contains z x) (sym (stored_complement spec s r l)) (Contains-in_order (complement spec (sources_of spec s) r) x h)

  of_stored : (Q : ℕ → Name → Value → Type 0) → HoldsOfViews spec (λ j. get_or (stored spec s) j []) Q → HoldsOfViews spec (λ j. (view_table spec s j).rows) Q
  of_stored Q h = record { views = λ j l w k. h.views j l w (in_view j l w k); inclusions = h.inclusions }

  -- ---- kinds

  module _ (kd : IsKinded spec) (fit : fit_stored spec (stored spec s) ≡ true) where
    kinds_hold : HoldsOfStored spec s (HasKind spec)
    kinds_hold = record {
      parts = of_stored (HasKind spec) (kinds_of_views spec wf kd (stored spec s) fit);
      complements = λ r l x h. kinds_in_row spec wf r l x (complement_row spec wf kd (stored spec s) fit r l x (in_rest r l x h));
    }

    pub sources_fit : IsFittingState spec s
    sources_fit = record {
      relations = st.relations;
      rows = λ r l.
          fits_in (relation_at spec r).attrs (get_or s r []) (λ x h.
          ap row_kinds (sym (by_values r l x h)) ∙ kinds_of_row spec wf r l (value_of (columns_of spec r) x) (of_sources spec s wf (HasKind spec) kinds_hold r l x h));
    }

  -- ---- spelling

  module _ (spelled : AllByRecursion AreSpelledRows (stored spec s)) where
    spelling_holds : HoldsOfStored spec s IsSpelledAt
    spelling_holds = record {
      parts = of_stored IsSpelledAt (spelling_of_views spec (stored spec s) spelled);
      complements = λ r l x h n k. value_spelled x (place_of (columns_of spec r) n) (values_at spec (stored spec s) spelled (length spec.views + r) x (in_rest r l x h));
    }

    pub sources_spelled : IsSpelledState spec s
    sources_spelled = λ r l.
        each_in (AllByRecursion IsSpelledValue) (get_or s r []) (λ x h.
        subst (AllByRecursion IsSpelledValue) (by_values r l x h)
        (row_spelled (columns_of spec r) (value_of (columns_of spec r) x) (of_sources spec s wf IsSpelledAt spelling_holds r l x h)))
