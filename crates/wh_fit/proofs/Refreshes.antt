-- What tables that fit give back fits, also after lines, and the tables may be changed into what is stored then.
use Rattle.std.proofs.Common.{◌≡◌, ℕ, ◌<◌, ◌≤◌, ◌+◌, ◌-◌, ◌==◌, ◌^◌, true, List, [], map, length, get_or, None, Contains, sym, subst, inl, inr, arith}
use Rattle.std.specs.List.{AllByRecursion, list_all}
use Rattle.std.proofs.lemmas.Bool.{and_parts, cases_lt, eqb-true}
use Rattle.std.proofs.lemmas.List.{length-map}
use Rattle.std.proofs.lemmas.List.Elements.{Contains-get_or}
use Rattle.wh_base.specs.declared.value.Attr.{Attr}
use Rattle.wh_base.specs.RowSet.{IsAscending}
use Rattle.wh_base.specs.Value.{kinds, row_kinds}
use Rattle.wh_codec.specs.Body.{IsSpelledRow, IsSpelledTable}
use Rattle.wh_schema.specs.declared.spec.Spec.{Spec}
use Rattle.wh_schema.specs.Changes.{Line, apply}
use Rattle.wh_schema.specs.Heads.{typed_names}
use Rattle.wh_schema.specs.Legality.{WellFormed}
use Rattle.wh_schema.specs.Reconstruction.{reconstructed}
use Rattle.wh_schema.specs.Rules.{joined_attrs, kind_in}
use Rattle.wh_schema.specs.Warehouse.{Row, no_relation, numbers, relation_at, view_at}
use Rattle.wh_store.specs.Image.{first_over, fit_stored, fits_stored, stored_attrs, stored_count}
use Rattle.wh_laws.proofs.Equality.{Name}
use Rattle.wh_laws.proofs.Lists.{map_from}
use Rattle.wh_laws.proofs.Pieces.{numbers_from}
use Rattle.wh_fit.specs.Differences.{IsStoredRefresh}
use Rattle.wh_fit.specs.Fit.{AreSpelledRows, IsFittingLine, IsFittingState, IsSpelledState}
use Rattle.wh_fit.proofs.AcceptedKinds.{IsKinded}
use Rattle.wh_fit.proofs.Carried.{fitting_is_state}
use Rattle.wh_fit.proofs.DifferenceLemmas.{by_places, change_to}
use Rattle.wh_fit.proofs.Each.{each_from, each_in}
use Rattle.wh_fit.proofs.GivenBack.{given_back, given_count}
use Rattle.wh_fit.proofs.KindLemmas.{fits_from, fits_in, width_is}
use Rattle.wh_fit.proofs.LineLemmas.{lines_keep_fit}
use Rattle.wh_fit.proofs.SpelledTables.{alike_from, none_over, rows_spelled}
use Rattle.wh_fit.proofs.StoredKinds.{complement_attrs, stored_fits, view_attrs}
use Rattle.wh_fit.proofs.TableValues.{AreSpelledAt, HasKind, HasKinds, IsSpelledAt, kinds_of_tables, spelling_of_tables, table_fits, values_at}

-- ---- heads of stored tables

module _ (spec : Spec) (kd : IsKinded spec) where
  few_attrs : (k : ℕ) → k < stored_count spec → length (stored_attrs spec k) ≤ 248
  few_attrs k l =
      let T : List Attr → Type 0 = λ attrs. length attrs ≤ 248 in
      elim (cases_lt k (length spec.views)) [
        | inl m ↦
            let attrs = joined_attrs spec (view_at spec k).relations in
            let head = (view_at spec k).head in
            let short = kd.heads (view_at spec k) (Contains-get_or spec.views k _ m) in
            let typed : Name → Attr = λ n. record { name = n; kind = kind_in attrs n } in
            let as_many : length (typed_names attrs head) ≡ length head = length-map head typed in
            subst T (sym (view_attrs spec k m)) (omega (arith, short, as_many))
        | inr m ↦
            let r : ℕ = k - length spec.views in
            let is : length spec.views + r ≡ k = omega arith in
            let below : r < length spec.relations = omega arith in
            let short = kd.narrow (relation_at spec r) (Contains-get_or spec.relations r no_relation below) in
            subst (λ n. T (stored_attrs spec n)) is (subst T (sym (complement_attrs spec r below)) (omega (arith, short)))
      ]

module _ (spec : Spec) (wf : WellFormed spec) (tables : List (List Row)) where
  pub spelled_back : AllByRecursion AreSpelledRows tables → IsSpelledState spec (reconstructed spec tables)
  spelled_back spelled = λ r l.
      each_in (AreSpelledAt r) (get_or (reconstructed spec tables) r []) (λ x k. given_back spec tables wf AreSpelledAt IsSpelledAt (spelling_of_tables spec tables spelled) r l x k)

  module _ (kd : IsKinded spec) (fit : fit_stored spec tables ≡ true) where
    pub fits_back : IsFittingState spec (reconstructed spec tables)
    fits_back = record {
      relations = given_count spec tables;
      rows = λ r l.
          fits_in (relation_at spec r).attrs (get_or (reconstructed spec tables) r [])
          (λ x k. given_back spec tables wf (HasKinds spec) (HasKind spec) (kinds_of_tables spec wf kd tables fit) r l x k);
    }

    count_is : length tables ≡ stored_count spec
    count_is = eqb-true (length tables) (stored_count spec) (and_parts (length tables == stored_count spec) (list_all (λ k. fits_stored spec k (get_or tables k [])) (numbers (stored_count spec))) fit).0

    module _ (spelled : AllByRecursion AreSpelledRows tables) where
      -- ---- tables that fit have a spelling

      table_spelled : (k : ℕ) → k < stored_count spec → IsAscending (get_or tables k []) → length (get_or tables k []) < 2 ^ 32 → IsSpelledTable (get_or tables k [])
      table_spelled k l ascending few =
          let rows = get_or tables k [] in
          let attrs = stored_attrs spec k in
          let fits : (x : Row) → Contains rows x → row_kinds x ≡ kinds attrs = fits_from attrs rows (table_fits spec wf kd tables fit k l) in
          let short = few_attrs spec kd k l in
          record {
            count = few;
            rows = each_in IsSpelledRow rows (λ x h.
                let wide = width_is attrs x (fits x h) in
                record { width = omega (arith, short, wide); values = values_at spec tables spelled k x h });
            alike = alike_from attrs rows fits;
            ascending = ascending;
          }

      tables_spelled : AllByRecursion IsAscending tables → first_over tables ≡ None → AllByRecursion IsSpelledTable tables
      tables_spelled up under =
          let at : ℕ → List Row = λ k. get_or tables k [] in
          let few = none_over tables under in
          subst (AllByRecursion IsSpelledTable) (by_places tables)
          (each_in IsSpelledTable (map at (numbers (length tables))) (λ rows h.
          let k = map_from at (numbers (length tables)) rows h in
          let below : k.0 < length tables = numbers_from (length tables) k.0 k.1 in
          let member = Contains-get_or tables k.0 [] below in
          let within : k.0 < stored_count spec = omega (arith, below, count_is) in
          subst IsSpelledTable k.2
          (table_spelled k.0 within (each_from IsAscending tables up (at k.0) member) (each_from (λ rows. length rows < 2 ^ 32) tables few (at k.0) member))))

      -- ---- after lines

      pub refreshed : (lines : List Line) → AllByRecursion (IsFittingLine spec) lines → IsStoredRefresh spec tables (apply (reconstructed spec tables) lines)
      refreshed lines fitting =
          let t = apply (reconstructed spec tables) lines in
          let after = lines_keep_fit spec lines (reconstructed spec tables) fitting fits_back in
          let fits : IsFittingState spec t = after.0 in
          let values : IsSpelledState spec t = after.1 (spelled_back spelled) in
          record {
            state = fitting_is_state spec t fits;
            fits = fits;
            spelled = values;
            stored_fits = stored_fits spec t wf kd fits;
            stored_spelled = rows_spelled spec t wf kd fits values;
            change = λ up under over. change_to spec wf kd tables t count_is (tables_spelled up under) (record { fits = fits; spelled = values; under = over });
          }
