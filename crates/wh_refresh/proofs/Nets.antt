-- What lines come to over a warehouse is what they come to over an image that it is of.
use Rattle.std.proofs.Common.{◌≡◌, ℕ, ◌+◌, ◌-◌, ◌<◌, ◌≤◌, ◌^◌, ◌==◌, ltb, Bool, true, false, List, [], length, get_or, Option, None, Some, Result, Ok, Err, if◌then◌else◌, Contains, inl, inr, refl, sym, ap, subst, ◌∙◌, not, nat_eq, ◌&&◌, eq-eqb, arith}
use Rattle.std.specs.List.{AllByRecursion, list_all}
use Rattle.std.proofs.lemmas.Bool.{lt-ltb, le-ltb, and_parts, eqb-true}
use Rattle.std.proofs.lemmas.Bool.Decides.{eqb_tells}
use Rattle.std.proofs.lemmas.List.Elements.{Contains-get_or}
use Rattle.std.proofs.lemmas.List.FromFn.{length-map-range_with_len}
use Rattle.std.specs.Cmp.Lexicographic.{pointwise}
use Rattle.wh_base.specs.declared.value.Delta.{Delta}
use Rattle.wh_base.specs.RowSet.{AreDistinct, IsAscending, SameRows, has, in_order}
use Rattle.wh_base.specs.Tables.{without}
use Rattle.wh_base.specs.Value.{kinds, row_kinds}
use Rattle.wh_base.proofs.InOrder.{Contains-from_in_order, any-Contains}
use Rattle.wh_base.proofs.RowSets.{has-filter}
use Rattle.wh_check.specs.Check.{source_deltas, sources_after, sources_with}
use Rattle.wh_codec.specs.Body.{IsSpelledDelta}
use Rattle.wh_expr.specs.Typing.{kind_eq}
use Rattle.wh_fit.specs.Differences.{difference, differences}
use Rattle.wh_fit.specs.Differences.{IsStoredRefresh}
use Rattle.wh_fit.specs.Fit.{IsFittingLine}
use Rattle.wh_fit.proofs.Each.{each_in}
use Rattle.wh_laws.proofs.Lists.{every_from, every_in}
use Rattle.wh_laws.proofs.Same.{stored_same}
use Rattle.wh_laws.proofs.Stored.{stored_ascending}
use Rattle.wh_load.specs.declared.fault.LoadFault.{LoadFault}
use Rattle.wh_load.specs.declared.fault.LoadFault.TheVariants as load
use Rattle.wh_load.specs.Load.{IsLoadFault}
use Rattle.wh_schema.specs.declared.broken.Broken.{Broken}
use Rattle.wh_schema.specs.declared.spec.Spec.{Spec}
use Rattle.wh_schema.specs.Changes.{Line, apply}
use Rattle.wh_schema.specs.Constraints.{broken}
use Rattle.wh_schema.specs.Legality.{IsState, WellFormed}
use Rattle.wh_schema.specs.Reconstruction.{reconstructed}
use Rattle.wh_schema.specs.Warehouse.{Row, SameState, State, columns_of, numbers, stored}
use Rattle.wh_store.specs.declared.warehouse.NetChange.{NetChange}
use Rattle.wh_store.specs.declared.warehouse.Place.{Place}
use Rattle.wh_store.specs.declared.warehouse.Warehouse.{Warehouse}
use Rattle.wh_store.specs.Commit.{CanApplyAll, MayFollow, change_body, first_over_after, is_past_limit}
use Rattle.wh_store.specs.Image.{Image, are_stored_deltas, changed_table, first_over, fit_stored, fits_stored, no_delta, stored_attrs, stored_count}
use Rattle.wh_store.specs.Warehouse.{HoldsValues, IsInForm, table_at}
use Rattle.wh_store.proofs.Loaded.{few_tables}
use Rattle.wh_store.proofs.StoredLemmas.{all_at, and_true}
use Rattle.wh_store.proofs.TextualLemmas.{textual_is_well_formed}
use Rattle.wh_refresh.specs.declared.fault.RefreshFault.{RefreshFault}
use Rattle.wh_refresh.specs.declared.fault.RefreshFault.TheVariants as fault
use Rattle.wh_refresh.specs.Net.{IsFull, IsNet, IsRefused, of_load, own_image}
use Rattle.wh_refresh.specs.Refresh.{IsRefreshed, checked, next_body, numbered, refreshed, sized, stored_changes}
use Rattle.wh_refresh.proofs.Counting.{can_apply_all, difference_at, differences_count, stays_under}
use Rattle.wh_refresh.proofs.Given.{broken_goes_by_sets, held_count, net_leads, refreshes_are_stored}
use Rattle.wh_refresh.proofs.OwnImage.{own_ascending, own_count, own_fits, own_spelled, own_stored, own_under, tables_at}

neq-eqb-false : (a b : ℕ) → (a ≡ b → ⊥) → (a == b) ≡ false
neq-eqb-false a b differ = elim (eqb_tells a b) [ inl same ↦ absurd (differ same.1) | inr other ↦ other.0 ]

-- ---- states with the same rows

pub same_is_state : (spec : Spec) (s t : State) → length s ≡ length spec.relations → SameState spec s t → IsState spec t → IsState spec s
same_is_state spec s t long same is = record {
  relations = long;
  widths = λ i below x there. is.widths i below x (sym (same i below x) ∙ there);
}

pub turned : (spec : Spec) (s t : State) → SameState spec s t → SameState spec t s
turned spec s t same = λ i below x. sym (same i below x)

pub fault_same : (spec : Spec) (s t : State) → broken spec s ≡ broken spec t → stored spec s ≡ stored spec t → (e : LoadFault) → IsLoadFault spec s e → IsLoadFault spec t e
fault_same spec s t b st (load.Broken x) h = sym b ∙ h
fault_same spec s t b st (load.RowLimit k) h = (sym b ∙ h.0, sym (ap first_over st) ∙ h.1)
fault_same spec s t b st load.NoMemory h = tt

pub refused_by : (i : Image) (lines : List Line) (s : State) → broken i.spec s ≡ broken i.spec (sources_after i lines) → stored i.spec s ≡ stored i.spec (sources_after i lines) → (e : LoadFault) (f : RefreshFault)
    → f ≡ of_load e → IsLoadFault i.spec s e → IsRefused i lines f
refused_by i lines s b st (load.Broken x) f is h = subst (IsRefused i lines) (sym is) (sym b ∙ h)
refused_by i lines s b st (load.RowLimit k) f is h = subst (IsRefused i lines) (sym is) (sym b ∙ h.0, sym (ap first_over st) ∙ h.1)
refused_by i lines s b st load.NoMemory f is h = subst (IsRefused i lines) (sym is) tt

pub stored_up : (spec : Spec) (s : State) → AllByRecursion IsAscending (stored spec s)
stored_up spec s = each_in IsAscending (stored spec s) (λ rows there. stored_ascending spec s rows there)

-- ---- what is stored after the lines

module _ (w : Warehouse) (form : IsInForm w) (values : HoldsValues w) (lines : List Line) (fit : AllByRecursion (IsFittingLine w.plan.spec) lines) where
  after : State
  after = sources_after (own_image w) lines

  refresh_is : IsStoredRefresh w.plan.spec (own_image w).tables (apply (reconstructed w.plan.spec (own_image w).tables) lines)
  refresh_is = refreshes_are_stored w.plan.spec (own_image w).tables lines form.textual (own_fits w form values) (own_spelled w form values) fit

  pub after_is_state : IsState w.plan.spec (sources_after (own_image w) lines)
  after_is_state = refresh_is.state

  pub after_count : length (stored w.plan.spec (sources_after (own_image w) lines)) ≡ length w.tables
  after_count = fit_count w.plan.spec (stored w.plan.spec (sources_after (own_image w) lines)) refresh_is.stored_fits ∙ sym form.count
    where
      fit_count : (spec : Spec) (tables : List (List Row)) → fit_stored spec tables ≡ true → length tables ≡ stored_count spec
      fit_count spec tables fits = eqb-true (length tables) (stored_count spec) (and_true (nat_eq (length tables) (stored_count spec)) (list_all (λ k. fits_stored spec k (get_or tables k [])) (numbers (stored_count spec))) fits).0

  -- by deltas that lead there
  pub with_is_state : (d : List Delta) → d ≡ source_deltas (own_image w) lines → IsState w.plan.spec (sources_with (own_image w) d)
  with_is_state d is =
      let held = reconstructed w.plan.spec (own_image w).tables in
      let long : length (sources_with (own_image w) d) ≡ length w.plan.spec.relations =
      length-map-range_with_len (λ k. changed_table (get_or held k []) (get_or d k no_delta)) 0 (length held) ∙ held_count w.plan.spec (own_image w).tables in
      same_is_state w.plan.spec (sources_with (own_image w) d) (sources_after (own_image w) lines) long
      (subst (λ (e : List Delta). SameState w.plan.spec (sources_with (own_image w) e) (sources_after (own_image w) lines)) (sym is) (net_leads (own_image w) lines)) after_is_state

  module _ (d : List Delta) (is : d ≡ source_deltas (own_image w) lines) (state : IsState w.plan.spec (sources_with (own_image w) d)) where
    led : SameState w.plan.spec (sources_with (own_image w) d) (sources_after (own_image w) lines)
    led = subst (λ (e : List Delta). SameState w.plan.spec (sources_with (own_image w) e) (sources_after (own_image w) lines)) (sym is) (net_leads (own_image w) lines)

    pub with_broken : broken w.plan.spec (sources_with (own_image w) d) ≡ broken w.plan.spec (sources_after (own_image w) lines)
    with_broken = broken_goes_by_sets w.plan.spec (textual_is_well_formed w.plan.spec form.textual) (sources_with (own_image w) d) (sources_after (own_image w) lines) led

    pub with_stored : stored w.plan.spec (sources_with (own_image w) d) ≡ stored w.plan.spec (sources_after (own_image w) lines)
    with_stored = stored_same w.plan.spec (textual_is_well_formed w.plan.spec form.textual) (sources_with (own_image w) d) (sources_after (own_image w) lines) state after_is_state led

  -- ---- the change of the stored tables

  module _ (net : NetChange) (is : IsNet (own_image w) lines net) (distinct : (k : ℕ) → k < length w.tables → AreDistinct (table_at w.tables k).rows) where
    tables_then : List (List Row)
    tables_then = stored w.plan.spec (sources_after (own_image w) lines)

    pub net_applies : CanApplyAll w.tables net.stored
    net_applies = subst (CanApplyAll w.tables) (sym is.stored_is) (can_apply_all w.tables (own_image w).tables (stored w.plan.spec (sources_after (own_image w) lines)) (own_count w) (tables_at w.tables))

    pub net_under : first_over_after w.tables net.stored ≡ None
    net_under = ap (first_over_after w.tables) is.stored_is ∙ stays_under w.tables (own_image w).tables (stored w.plan.spec (sources_after (own_image w) lines)) (own_count w) (tables_at w.tables) distinct after_count is.under

    pub net_spelled : AllByRecursion IsSpelledDelta net.stored
    net_spelled = subst (AllByRecursion IsSpelledDelta) (sym is.stored_is) (refresh_is.change (own_ascending w) (own_under w form values) is.under).0.spelled

    pub net_allowed : are_stored_deltas w.plan.spec (own_image w).tables net.stored ≡ true
    net_allowed = ap (are_stored_deltas w.plan.spec (own_image w).tables) is.stored_is ∙ (refresh_is.change (own_ascending w) (own_under w form values) is.under).1

    pub net_count : length net.stored < 2 ^ 32
    net_count =
        let few = few_tables w.plan.spec (own_image w).tables form.textual (own_fits w form values) in
        let long : length net.stored ≡ length (own_image w).tables = ap length is.stored_is ∙ differences_count (own_image w).tables (stored w.plan.spec (sources_after (own_image w) lines)) in
        omega (arith, few, long)

    pub net_fits : (k : ℕ) → k < stored_count w.plan.spec → fits_stored w.plan.spec k (get_or net.stored k no_delta).inserted ≡ true
    net_fits k below =
        let before = get_or (own_image w).tables k [] in
        let rest = get_or (stored w.plan.spec (sources_after (own_image w) lines)) k [] in
        let test : Row → Bool = λ row. pointwise kind_eq (row_kinds row) (kinds (stored_attrs w.plan.spec k)) in
        let all = and_true (nat_eq (length (stored w.plan.spec (sources_after (own_image w) lines))) (stored_count w.plan.spec)) (list_all (λ n. fits_stored w.plan.spec n (get_or (stored w.plan.spec (sources_after (own_image w) lines)) n [])) (numbers (stored_count w.plan.spec))) refresh_is.stored_fits in
        let old : fits_stored w.plan.spec k rest ≡ true = all_at (λ n. fits_stored w.plan.spec n (get_or (stored w.plan.spec (sources_after (own_image w) lines)) n [])) (stored_count w.plan.spec) k all.1 below in
        let at : get_or net.stored k no_delta ≡ difference before rest =
        ap (λ (ds : List Delta). get_or ds k no_delta) is.stored_is ∙ difference_at (own_image w).tables (stored w.plan.spec (sources_after (own_image w) lines)) k (omega (arith, below, own_stored w form values)) in
        subst (λ (d : Delta). fits_stored w.plan.spec k d.inserted ≡ true) (sym at)
        (every_in test (in_order (without rest before)) (λ y there. every_from test rest old y ((any-Contains rest y).0
        (and_parts (has rest y) (not (has before y)) (sym (has-filter (λ r. not (has before r)) rest y) ∙ (any-Contains (without rest before) y).1 (Contains-from_in_order (without rest before) y there))).0)))

-- ---- over an image with the same specification and tables

module _ (w : Warehouse) (i : Image) (spec_is : w.plan.spec ≡ i.spec) (tables_are : (own_image w).tables ≡ i.tables) (lines : List Line) where
  after_same : sources_after (own_image w) lines ≡ sources_after i lines
  after_same = λ j. apply (reconstructed (spec_is j) (tables_are j)) lines

  pub changes_same : stored_changes (own_image w) lines ≡ stored_changes i lines
  changes_same = λ j. differences (tables_are j) (stored (spec_is j) (after_same j))

  pub sources_same : source_deltas (own_image w) lines ≡ source_deltas i lines
  sources_same = λ j. differences (reconstructed (spec_is j) (tables_are j)) (after_same j)

  broken_same : broken w.plan.spec (sources_after (own_image w) lines) ≡ broken i.spec (sources_after i lines)
  broken_same = λ j. broken (spec_is j) (after_same j)

  over_same : first_over (stored w.plan.spec (sources_after (own_image w) lines)) ≡ first_over (stored i.spec (sources_after i lines))
  over_same = λ j. first_over (stored (spec_is j) (after_same j))

  pub refused_is : (f : RefreshFault) → IsRefused (own_image w) lines f → IsRefreshed i lines (Err f)
  refused_is (fault.Broken b) h = ap (checked i lines) (sym broken_same ∙ h)
  refused_is (fault.RowLimit k) h = ap (checked i lines) (sym broken_same ∙ h.0) ∙ ap (sized i lines) (sym over_same ∙ h.1)
  refused_is fault.SequenceLimit h = absurd h
  refused_is fault.FileLimit h = absurd h
  refused_is fault.DiskFault h = absurd h
  refused_is fault.NoMemory h = tt

  module _ (net : NetChange) (is : IsNet (own_image w) lines net) (seq : w.seq ≡ i.seq) where
    accepted : refreshed i lines ≡ numbered i lines
    accepted = ap (checked i lines) (sym broken_same ∙ is.legal) ∙ ap (sized i lines) (sym over_same ∙ is.under)

    body_same : change_body (w.seq + 1) net.stored ≡ next_body i lines
    body_same = λ j. change_body (seq j + 1) ((is.stored_is ∙ changes_same) j)

    numbered_by : (b c : Bool) → (i.seq == 2 ^ 64 - 1) ≡ b → is_past_limit i.end (next_body i lines) ≡ c
        → numbered i lines ≡ (if b then Err fault.SequenceLimit else if c then Err fault.FileLimit else Ok (stored_changes i lines))
    numbered_by b c e f = λ j. if e j then Err fault.SequenceLimit else if f j then Err fault.FileLimit else Ok (stored_changes i lines)

    pub made_is : w.seq < 2 ^ 64 - 1 → i.end + 10 + length (change_body (w.seq + 1) net.stored) ≤ 2 ^ 40 → refreshed i lines ≡ Ok (stored_changes i lines)
    made_is low short =
        accepted ∙ numbered_by false false (neq-eqb-false i.seq (2 ^ 64 - 1) (λ e. omega (arith, low, seq, e)))
        (le-ltb (2 ^ 40) (i.end + 10 + length (next_body i lines)) (subst (λ (body : List ℕ). i.end + 10 + length body ≤ 2 ^ 40) body_same short))

    pub full_is : (p : Place) → p.journal.end ≡ i.end → (f : RefreshFault) → IsFull w p net.stored f → IsRefreshed i lines (Err f)
    full_is p end (fault.Broken b) h = absurd h
    full_is p end (fault.RowLimit k) h = absurd h
    full_is p end fault.SequenceLimit h = accepted ∙ ap (λ (b : Bool). first_limit b) (eq-eqb i.seq (2 ^ 64 - 1) (sym seq ∙ h))
      where
        first_limit : Bool → Result (List Delta) RefreshFault
        first_limit b = if b then Err fault.SequenceLimit else if is_past_limit i.end (next_body i lines) then Err fault.FileLimit else Ok (stored_changes i lines)
    full_is p end fault.FileLimit h =
        accepted ∙ numbered_by false true (neq-eqb-false i.seq (2 ^ 64 - 1) (λ e. omega (arith, h.0, seq, e)))
        (lt-ltb (2 ^ 40) (i.end + 10 + length (next_body i lines)) (subst (λ (body : List ℕ). 2 ^ 40 < i.end + 10 + length body) body_same (omega (arith, h.1, end))))
    full_is p end fault.DiskFault h = absurd h
    full_is p end fault.NoMemory h = tt
