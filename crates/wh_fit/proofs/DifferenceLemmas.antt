-- Differences between tables are a change from the first to the second.
use Rattle.std.proofs.Common.{◌≡◌, ℕ, ◌<◌, ◌==◌, ◌^◌, true, false, not, List, [], ◌++◌, map, length, get_or, Contains, refl, sym, ◌∙◌, ap, subst, inl, inr, arith}
use Rattle.std.specs.Prelude.{is_some}
use Rattle.std.specs.List.{AllByRecursion, list_all, list_any}
use Rattle.std.proofs.lemmas.Bool.{and_from, cases_Bool, eq-eqb}
use Rattle.std.proofs.lemmas.List.Elements.{Contains-append_cases, Contains-append_left, Contains-append_right, Contains-get_or}
use Rattle.std.proofs.lemmas.List.FromFn.{fill_by_all}
use Rattle.wh_base.specs.declared.value.Delta.{Delta}
use Rattle.wh_base.specs.RowSet.{IsAscending, has, in_order}
use Rattle.wh_base.specs.Tables.{without}
use Rattle.wh_base.proofs.InOrder.{Contains-from_in_order, Contains-in_order, IsAscending-in_order, in_order-unique}
use Rattle.wh_codec.specs.Body.{IsSpelledDelta, IsSpelledTable}
use Rattle.wh_schema.specs.declared.spec.Spec.{Spec}
use Rattle.wh_schema.specs.Legality.{WellFormed}
use Rattle.wh_schema.specs.Warehouse.{Row, State, numbers, stored}
use Rattle.wh_store.specs.Image.{applies, apply_to, are_stored_deltas, are_stored_tables, changed_table, changed_tables, first_over, fit_stored, no_delta, stored_count}
use Rattle.wh_laws.proofs.Equality.{has_decides, is_not, is_not_in, row_is_in}
use Rattle.wh_laws.proofs.Lists.{any_from, every_in, filter_from, filter_in, map_from, map_same}
use Rattle.wh_laws.proofs.Pieces.{numbers_from}
use Rattle.wh_laws.proofs.Stored.{length_numbers_map, numbers_map_at}
use Rattle.wh_fit.specs.Differences.{AreChangeOf, IsStorable, difference, differences}
use Rattle.wh_fit.proofs.AcceptedKinds.{IsKinded}
use Rattle.wh_fit.proofs.Each.{each_from, each_in}
use Rattle.wh_fit.proofs.SpelledTables.{none_over, part_spelled, stored_spelled}
use Rattle.wh_fit.proofs.StoredKinds.{stored_count_is, stored_fits}

-- ---- rows that one list has and another lacks

pub lost_from : (before after : List Row) (x : Row) → Contains (in_order (without before after)) x → Contains before x × (Contains after x → ⊥)
lost_from before after x k =
    let f = filter_from (λ r. not (has after r)) before x (Contains-from_in_order (without before after) x k) in
    (f.0, is_not (has after x) (has_decides after x) f.1)

pub lost_in : (before after : List Row) (x : Row) → Contains before x → (Contains after x → ⊥) → Contains (in_order (without before after)) x
lost_in before after x k missing =
    Contains-in_order (without before after) x (filter_in (λ r. not (has after r)) before x k (is_not_in (has after x) (has_decides after x) missing))

none_has : (rows others : List Row) → ((x : Row) → Contains others x → Contains rows x → ⊥) → list_any (has rows) others ≡ false
none_has rows others h =
    elim (cases_Bool (list_any (has rows) others)) [
      | inl t ↦ let r = any_from (has rows) others t in absurd (h r.0 r.1 ((has_decides rows r.0).0 r.2))
      | inr f ↦ f
    ]

-- ---- one table

module _ (before after : List Row) where
  pub difference_applies : applies before (difference before after) ≡ true
  difference_applies =
      let d = difference before after in
      and_from (list_all (has before) d.deleted) (not (list_any (has before) d.inserted))
      (every_in (has before) d.deleted (λ x k. (has_decides before x).1 (lost_from before after x k).0))
      (ap not (none_has before d.inserted (λ x k m. (lost_from after before x k).1 m)))

  leads : IsAscending after → changed_table before (difference before after) ≡ after
  leads ascending =
      let d = difference before after in
      let kept = without before d.deleted in
      let to : (x : Row) → Contains (kept ++ d.inserted) x → Contains after x = λ x k.
      elim (Contains-append_cases kept d.inserted x k) [
        | inl a ↦
            let f = filter_from (λ r. not (has d.deleted r)) before x a in
            elim (row_is_in after x) [
              | inl there ↦ there
              | inr missing ↦ absurd (is_not (has d.deleted x) (has_decides d.deleted x) f.1 (lost_in before after x f.0 missing))
            ]
        | inr a ↦ (lost_from after before x a).0
      ] in
      let from : (x : Row) → Contains after x → Contains (kept ++ d.inserted) x = λ x k.
      elim (row_is_in before x) [
        | inl there ↦
            Contains-append_left kept d.inserted x
            (filter_in (λ r. not (has d.deleted r)) before x there (is_not_in (has d.deleted x) (has_decides d.deleted x) (λ m. (lost_from before after x m).1 k)))
        | inr missing ↦ Contains-append_right kept d.inserted x (lost_in after before x k missing)
      ] in
      sym (in_order-unique (kept ++ d.inserted) after ascending (λ x. (to x, from x)))

  difference_spelled : IsSpelledTable before → IsSpelledTable after → IsSpelledDelta (difference before after)
  difference_spelled old new = record {
    deleted =
        part_spelled before (in_order (without before after)) old (IsAscending-in_order (without before after))
        (λ x e. (has_decides before x).1 (lost_from before after x ((has_decides (in_order (without before after)) x).0 e)).0);
    inserted =
        part_spelled after (in_order (without after before)) new (IsAscending-in_order (without after before))
        (λ x e. (has_decides after x).1 (lost_from after before x ((has_decides (in_order (without after before)) x).0 e)).0);
  }

-- ---- tables place by place

pub by_places : (xs : List (List Row)) → map (λ k. get_or xs k []) (numbers (length xs)) ≡ xs
by_places xs = sym (fill_by_all (λ k. get_or xs k []) xs (length xs) [] refl (λ k l. refl))

module _ (before after : List (List Row)) (same : length before ≡ length after) (old : AllByRecursion IsSpelledTable before) (new : AllByRecursion IsSpelledTable after) where
  old_at : (k : ℕ) → k < length before → IsSpelledTable (get_or before k [])
  old_at k l = each_from IsSpelledTable before old (get_or before k []) (Contains-get_or before k [] l)

  new_at : (k : ℕ) → k < length before → IsSpelledTable (get_or after k [])
  new_at k l = each_from IsSpelledTable after new (get_or after k []) (Contains-get_or after k [] (omega (arith, same, l)))

  pub are_change : AreChangeOf before after
  are_change =
      let at : ℕ → Delta = λ k. difference (get_or before k []) (get_or after k []) in
      let n = length before in
      let deltas = differences before after in
      let is_at : (k : ℕ) → k < n → get_or deltas k no_delta ≡ at k = λ k l. numbers_map_at at n k no_delta l in
      record {
        spelled = each_in IsSpelledDelta deltas (λ d h.
            let k = map_from at (numbers n) d h in
            let l = numbers_from n k.0 k.1 in
            subst IsSpelledDelta k.2 (difference_spelled (get_or before k.0 []) (get_or after k.0 []) (old_at k.0 l) (new_at k.0 l)));
        apply =
            and_from (length deltas == length before) _ (eq-eqb (length deltas) (length before) (length_numbers_map at n))
            (every_in (λ k. applies (get_or before k []) (get_or deltas k no_delta)) (numbers n) (λ k h.
            subst (λ d. applies (get_or before k []) d ≡ true) (sym (is_at k (numbers_from n k h))) (difference_applies (get_or before k []) (get_or after k []))));
        lead =
            map_same (λ k. changed_table (get_or before k []) (get_or deltas k no_delta)) (λ k. get_or after k []) (numbers n) (λ k h.
            let l = numbers_from n k h in
            ap (changed_table (get_or before k [])) (is_at k l) ∙ leads (get_or before k []) (get_or after k []) (new_at k l).ascending)
            ∙ ap (λ m. map (λ k. get_or after k []) (numbers m)) same ∙ by_places after;
      }

-- ---- stored tables

module _ (spec : Spec) (wf : WellFormed spec) (kd : IsKinded spec) where
  spelled_tables : (u : State) → IsStorable spec u → AllByRecursion IsSpelledTable (stored spec u)
  spelled_tables u c =
      let few = none_over (stored spec u) c.under in
      let tables = stored_spelled spec u wf kd c.fits c.spelled in
      each_in IsSpelledTable (stored spec u) (λ rows h.
      each_from (λ rows. length rows < 2 ^ 32 → IsSpelledTable rows) (stored spec u) tables rows h (each_from (λ rows. length rows < 2 ^ 32) (stored spec u) few rows h))

  -- as many tables that have a spelling may be changed into what is stored of a state
  pub change_to : (before : List (List Row)) (t : State) → length before ≡ stored_count spec → AllByRecursion IsSpelledTable before → IsStorable spec t
      → AreChangeOf before (stored spec t) × (are_stored_deltas spec before (differences before (stored spec t)) ≡ true)
  change_to before t count spelled b =
      let after = stored spec t in
      let same : length before ≡ length after = count ∙ sym (stored_count_is spec t) in
      let change = are_change before after same spelled (spelled_tables t b) in
      let fits : are_stored_tables spec after ≡ true =
      and_from (fit_stored spec after) (not (is_some (first_over after))) (stored_fits spec t wf kd b.fits) (ap (λ o. not (is_some o)) b.under) in
      let deltas = differences before after in (
        change,
        and_from (apply_to before deltas) (are_stored_tables spec (changed_tables before deltas)) change.apply
            (subst (λ tables. are_stored_tables spec tables ≡ true) (sym change.lead) fits),
      )

  pub changes_stored : (s t : State) → IsStorable spec s → IsStorable spec t
      → AreChangeOf (stored spec s) (stored spec t) × (are_stored_deltas spec (stored spec s) (differences (stored spec s) (stored spec t)) ≡ true)
  changes_stored s t a b = change_to (stored spec s) t (stored_count_is spec s) (spelled_tables s a) b
