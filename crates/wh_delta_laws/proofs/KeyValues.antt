-- Complements by key values: what a change carries, and the rows that have one value.
use Rattle.std.proofs.Common.{◌≡◌, ◌↔◌, ℕ, ◌<◌, Bool, true, not, nat_eq, ◌&&◌, List, [], ◌++◌, map, filter, length, get_or, Contains, refl, sym, ◌∙◌, ap, subst, inl, inr}
use Rattle.std.specs.List.{flat_map, list_any}
use Rattle.std.proofs.lemmas.Bool.{true≢false, and_parts, and_from, eq-eqb}
use Rattle.std.proofs.lemmas.List.{get_or_default}
use Rattle.std.proofs.lemmas.List.Elements.{Contains-append_left, Contains-append_right, Contains-append_cases}
use Rattle.wh_base.specs.Columns.{all_in, value_of, cut}
use Rattle.wh_base.specs.RowSet.{has, SameRows}
use Rattle.wh_base.specs.Tables.{Table, project, join_all, without, matching}
use Rattle.wh_base.specs.Value.{row_eq}
use Rattle.wh_base.specs.ValueLaws.{row_eq-Decides}
use Rattle.wh_base.proofs.InOrder.{SameRows-from}
use Rattle.wh_schema.specs.declared.piece.Piece.{Piece}
use Rattle.wh_schema.specs.declared.spec.Inclusion.{Inclusion}
use Rattle.wh_schema.specs.declared.spec.Spec.{Spec}
use Rattle.wh_schema.specs.Changes.{Changed, KeyIsQuiet}
use Rattle.wh_schema.specs.Legality.{WellFormed}
use Rattle.wh_schema.specs.Warehouse.{Row, State, Sources, numbers, columns_of, key_of, key_value, view_at, inclusion_at, view_table, sources_of, is_usable_view, is_usable_inclusion, pieces, piece_base, piece_table, subsets, holds_all, is_cover, covers, joined_pieces, covered, complement}
use Rattle.wh_laws.specs.Laws.{LegalState}
use Rattle.wh_laws.proofs.Lists.{Contains-nil, Contains-is, any_in, filter_in, filter_from, map_in, map_from, flat_in, flat_from, empty_list}
use Rattle.wh_laws.proofs.Equality.{Name, has_decides, row_is_in, is_false, is_not, is_not_in, when_false, all_in_when}
use Rattle.wh_laws.proofs.Joins.{AllFit, cut-values, cut-map, cut-is, fits-values, project-fits, joined_from, joined_in, column_in}
use Rattle.wh_laws.proofs.Views.{state_fits}
use Rattle.wh_laws.proofs.Pieces.{numbers_from, numbers_in, piece_key, piece_row}
use Rattle.wh_laws.proofs.Subsets.{subsets_members}
use Rattle.wh_laws.proofs.Covered.{holds_from, pieces_from, pieces_in, covered_sound, complement_from, complement_in}
use Rattle.wh_laws.proofs.Changes.{complement_same_at_key}
use Rattle.wh_delta_laws.proofs.Deltas.{without_in, without_from}
use Rattle.wh_delta_laws.specs.KeyValues.{changed_rows, view_key, inclusion_key, relation_carries, view_carries, inclusion_carries, carried_keys, RelationCarries, ViewCarries, InclusionCarries, IsCarried, rows_with_key, rows_of_others, rows_of_keys, at_values, piece_at, joined_at, covered_at, complement_at, CoverHasKey}

-- ---- rows that changed

changed_in : (before after : List Row) (x : Row) → Changed before after x → Contains (changed_rows before after) x
changed_in before after x (inl a) =
    Contains-append_left (without before after) (without after before) x
    (without_in before after x ((has_decides before x).0 a.0) (when_false (has after x) (has_decides after x) a.1))
changed_in before after x (inr a) =
    Contains-append_right (without before after) (without after before) x
    (without_in after before x ((has_decides after x).0 a.1) (when_false (has before x) (has_decides before x) a.0))

changed_from : (before after : List Row) (x : Row) → Contains (changed_rows before after) x → Changed before after x
changed_from before after x h =
    elim (Contains-append_cases (without before after) (without after before) x h) [
      | inl a ↦ let b = without_from before after x a in inl ((has_decides before x).1 b.0, is_false (has after x) (has_decides after x) b.1)
      | inr a ↦ let b = without_from after before x a in inr (is_false (has before x) (has_decides before x) b.1, (has_decides after x).1 b.0)
    ]

-- ---- the key values that a change carries

module _ (spec : Spec) (s t : State) (r : ℕ) (k : Row) where
  abbrev by_views : List Row
  by_views = flat_map (view_carries spec s t r) (filter (is_usable_view spec r) (numbers (length spec.views)))

  abbrev by_inclusions : List Row
  by_inclusions = flat_map (inclusion_carries spec s t r) (filter (is_usable_inclusion spec r) (numbers (length spec.inclusions)))

  abbrev by_relation : List Row
  by_relation = relation_carries spec s t r

  relation_from : Contains by_relation k → RelationCarries spec s t r k
  relation_from h =
      let a = map_from (key_value spec r) (changed_rows (get_or s r []) (get_or t r [])) k h in
      record { row = a.0; changed = changed_from (get_or s r []) (get_or t r []) a.0 a.1; key = a.2 }

  views_from : Contains by_views k → ViewCarries spec s t r k
  views_from h =
      let a = flat_from (view_carries spec s t r) (filter (is_usable_view spec r) (numbers (length spec.views))) k h in
      let b = filter_from (is_usable_view spec r) (numbers (length spec.views)) a.0 a.1 in
      let old = (view_table spec s a.0).rows in
      let new = (view_table spec t a.0).rows in
      let c = map_from (view_key spec r a.0) (changed_rows old new) k a.2 in
      record { view = a.0; within = numbers_from (length spec.views) a.0 b.0; usable = b.1; row = c.0; changed = changed_from old new c.0 c.1; key = c.2 }

  inclusions_from : Contains by_inclusions k → InclusionCarries spec s t r k
  inclusions_from h =
      let a = flat_from (inclusion_carries spec s t r) (filter (is_usable_inclusion spec r) (numbers (length spec.inclusions))) k h in
      let b = filter_from (is_usable_inclusion spec r) (numbers (length spec.inclusions)) a.0 a.1 in
      let i = inclusion_at spec a.0 in
      let old = get_or s i.from [] in
      let new = get_or t i.from [] in
      let c = map_from (inclusion_key spec r i) (changed_rows old new) k a.2 in
      record { inclusion = a.0; within = numbers_from (length spec.inclusions) a.0 b.0; usable = b.1; row = c.0; changed = changed_from old new c.0 c.1; key = c.2 }

  relation_in : RelationCarries spec s t r k → Contains by_relation k
  relation_in a =
      let rows = changed_rows (get_or s r []) (get_or t r []) in
      Contains-is (key_value spec r a.row) k by_relation a.key
      (map_in (key_value spec r) rows a.row (changed_in (get_or s r []) (get_or t r []) a.row a.changed))

  views_in : ViewCarries spec s t r k → Contains by_views k
  views_in a =
      let old = (view_table spec s a.view).rows in
      let new = (view_table spec t a.view).rows in
      let carries = view_carries spec s t r a.view in
      flat_in (view_carries spec s t r) (filter (is_usable_view spec r) (numbers (length spec.views))) a.view k
      (filter_in (is_usable_view spec r) (numbers (length spec.views)) a.view (numbers_in (length spec.views) a.view a.within) a.usable)
      (Contains-is (view_key spec r a.view a.row) k carries a.key (map_in (view_key spec r a.view) (changed_rows old new) a.row (changed_in old new a.row a.changed)))

  inclusions_in : InclusionCarries spec s t r k → Contains by_inclusions k
  inclusions_in a =
      let i = inclusion_at spec a.inclusion in
      let old = get_or s i.from [] in
      let new = get_or t i.from [] in
      let carries = inclusion_carries spec s t r a.inclusion in
      flat_in (inclusion_carries spec s t r) (filter (is_usable_inclusion spec r) (numbers (length spec.inclusions))) a.inclusion k
      (filter_in (is_usable_inclusion spec r) (numbers (length spec.inclusions)) a.inclusion (numbers_in (length spec.inclusions) a.inclusion a.within) a.usable)
      (Contains-is (inclusion_key spec r i a.row) k carries a.key (map_in (inclusion_key spec r i) (changed_rows old new) a.row (changed_in old new a.row a.changed)))

  carried_from : Contains (carried_keys spec s t r) k → IsCarried spec s t r k
  carried_from h =
      elim (Contains-append_cases (by_relation ++ by_views) by_inclusions k h) [
        | inr a ↦ inr (inr (inclusions_from a))
        | inl a ↦ elim (Contains-append_cases by_relation by_views k a) [ inl b ↦ inl (relation_from b) | inr b ↦ inr (inl (views_from b)) ]
      ]

  carried_in : IsCarried spec s t r k → Contains (carried_keys spec s t r) k
  carried_in (inl a) = Contains-append_left (by_relation ++ by_views) by_inclusions k (Contains-append_left by_relation by_views k (relation_in a))
  carried_in (inr (inl a)) = Contains-append_left (by_relation ++ by_views) by_inclusions k (Contains-append_right by_relation by_views k (views_in a))
  carried_in (inr (inr a)) = Contains-append_right (by_relation ++ by_views) by_inclusions k (inclusions_in a)

  pub carried_listed : (has (carried_keys spec s t r) k ≡ true) ↔ IsCarried spec s t r k
  carried_listed = (λ e. carried_from ((has_decides (carried_keys spec s t r) k).0 e), λ c. (has_decides (carried_keys spec s t r) k).1 (carried_in c))

  -- a key value that is not carried is quiet
  usable_view_in : (j : ℕ) → Contains (view_at spec j).relations r → ((n : Name) → Contains (key_of spec r) n → Contains (view_at spec j).head n) → is_usable_view spec r j ≡ true
  usable_view_in j m key =
      let v = view_at spec j in
      and_from (list_any (nat_eq r) v.relations) (all_in v.head (key_of spec r))
      (any_in (nat_eq r) v.relations r m (eq-eqb r r refl)) (all_in_when v.head (key_of spec r) key)

  inclusion_carried : (c : Inclusion) → Contains spec.inclusions c → c.to ≡ r → ((n : Name) → Contains (key_of spec r) n → Contains c.to_cols n)
      → (y : Row) → Changed (get_or s c.from []) (get_or t c.from []) y → inclusion_key spec r c y ≡ k → InclusionCarries spec s t r k
  inclusion_carried c h to key y changed carried =
      let is : inclusion_at spec h.0 ≡ c = get_or_default spec.inclusions h.0 _ c h.1 ∙ h.2 in
      let T : Inclusion → Type 0 = λ d. (nat_eq d.to r && all_in d.to_cols (key_of spec r)) ≡ true in
      let U : Inclusion → Type 0 = λ d. Changed (get_or s d.from []) (get_or t d.from []) y in
      let V : Inclusion → Type 0 = λ d. inclusion_key spec r d y ≡ k in
      record {
        inclusion = h.0;
        within = h.1;
        usable = subst T (sym is) (and_from (nat_eq c.to r) (all_in c.to_cols (key_of spec r)) (eq-eqb c.to r to) (all_in_when c.to_cols (key_of spec r) key));
        row = y;
        changed = subst U (sym is) changed;
        key = subst V (sym is) carried;
      }

  quiet_in : (IsCarried spec s t r k → ⊥) → KeyIsQuiet spec r s t k
  quiet_in none = record {
    relation = λ x changed carried. none (inl (record { row = x; changed = changed; key = carried }));
    views = λ j l m key w changed carried.
        none (inr (inl (record { view = j; within = l; usable = usable_view_in j m key; row = w; changed = changed; key = carried })));
    inclusions = λ c h to key y changed carried. none (inr (inr (inclusion_carried c h to key y changed carried)));
  }

changed_differs : (before after : List Row) (x : Row) → has before x ≡ has after x → Changed before after x → ⊥
changed_differs before after x e (inl a) = true≢false (sym a.0 ∙ e ∙ a.1)
changed_differs before after x e (inr a) = true≢false (sym a.1 ∙ sym e ∙ a.0)

pub complement_carried : (spec : Spec) → WellFormed spec → (r : ℕ) → r < length spec.relations → (s t : State)
    → (x : Row) → Changed (complement spec (sources_of spec s) r) (complement spec (sources_of spec t) r) x → IsCarried spec s t r (key_value spec r x)
complement_carried spec wf r l s t x changed =
    let k = key_value spec r x in
    elim (row_is_in (carried_keys spec s t r) k) [
      | inl h ↦ carried_from spec s t r k h
      | inr n ↦
          let quiet = quiet_in spec s t r k (λ c. n (carried_in spec s t r k c)) in
          absurd (changed_differs _ _ x (complement_same_at_key spec wf r l s t k quiet x refl) changed)
    ]

-- ---- rows with values

matching_in : (columns names : List Name) (values : Row) (rows : List Row) (x : Row) → Contains rows x → cut columns names x ≡ values → Contains (matching columns names values rows) x
matching_in columns names values rows x h e = filter_in (λ r. row_eq (cut columns names r) values) rows x h ((row_eq-Decides (cut columns names x) values).1 e)

matching_from : (columns names : List Name) (values : Row) (rows : List Row) (x : Row) → Contains (matching columns names values rows) x → Contains rows x × (cut columns names x ≡ values)
matching_from columns names values rows x h =
    let a = filter_from (λ r. row_eq (cut columns names r) values) rows x h in
    (a.0, (row_eq-Decides (cut columns names x) values).0 a.1)

-- cutting in two steps
cut_cut : (columns names fewer : List Name) (x : Row) → ((n : Name) → Contains fewer n → Contains names n) → cut names fewer (cut columns names x) ≡ cut columns fewer x
cut_cut columns names fewer x sub =
    cut-is (value_of columns x) names fewer (cut columns names x) (cut-values columns names x) sub ∙ sym (cut-values columns fewer x)

module _ (spec : Spec) (wf : WellFormed spec) (r : ℕ) (l : r < length spec.relations) (src : Sources) (k : Row) where
  piece_at_fits : (p : Piece) → AllFit (piece_at spec src r k p)
  piece_at_fits p w h = project-fits p.attrs (piece_base spec src p.source) w (matching_from p.attrs (key_of spec r) k (piece_table spec src p).rows w h).0

  -- a cover is made of pieces, and has all attributes
  cover_parts : (c : List Piece) → Contains (covers (columns_of spec r) (pieces spec r)) c → (holds_all (columns_of spec r) c ≡ true) × ((p : Piece) → Contains c p → Contains (pieces spec r) p)
  cover_parts c h =
      let a = filter_from (is_cover (columns_of spec r)) (subsets (pieces spec r)) c h in
      ((and_parts (holds_all (columns_of spec r) c) _ a.1).0, subsets_members (pieces spec r) c a.0)

  module _ (c : List Piece) (is_cover : Contains (covers (columns_of spec r) (pieces spec r)) c) where
    columns_joined : (n : Name) → Contains (columns_of spec r) n → Contains (join_all (map (piece_at spec src r k) c)).columns n
    columns_joined n h =
        let a = holds_from (columns_of spec r) c (cover_parts c is_cover).0 n h in
        column_in (map (piece_at spec src r k) c) (piece_at spec src r k a.0) n (map_in (piece_at spec src r k) c a.0 a.1) a.2

    joined_at_in : (x : Row) → key_value spec r x ≡ k → Contains (joined_pieces spec src r c) x → Contains (joined_at spec src r k c) x
    joined_at_in x e h =
        let parts = cover_parts c is_cover in
        let f = pieces_from spec src r c parts.0 x h in
        let key : map f.at (key_of spec r) ≡ k = sym (cut-map f.at (columns_of spec r) (key_of spec r) (wf.key r l)) ∙ ap (key_value spec r) (sym f.row) ∙ e in
        let ts = map (piece_at spec src r k) c in
        let columns = (join_all ts).columns in
        let P : Table → Type 0 = λ u. Contains u.rows (map f.at u.columns) in
        let each : (p : Piece) → Contains c p → P (piece_at spec src r k p) = λ p m.
        matching_in p.attrs (key_of spec r) k (piece_table spec src p).rows (map f.at p.attrs) (f.parts p m)
        (cut-map f.at p.attrs (key_of spec r) (piece_key spec r wf l p (parts.1 p m)) ∙ key) in
        let here : Contains (join_all ts).rows (map f.at columns) =
        joined_in ts f.at (λ u m. let q = map_from (piece_at spec src r k) c u m in subst P q.2 (each q.0 q.1)) in
        Contains-is (cut columns (columns_of spec r) (map f.at columns)) x (joined_at spec src r k c)
        (cut-map f.at columns (columns_of spec r) columns_joined ∙ sym f.row)
        (map_in (cut columns (columns_of spec r)) (join_all ts).rows (map f.at columns) here)

    joined_at_from : (x : Row) → Contains (joined_at spec src r k c) x → Contains (joined_pieces spec src r c) x × (key_value spec r x ≡ k)
    joined_at_from x h =
        let parts = cover_parts c is_cover in
        let ts = map (piece_at spec src r k) c in
        let columns = (join_all ts).columns in
        let a = map_from (cut columns (columns_of spec r)) (join_all ts).rows x h in
        let P : Table → Type 0 = AllFit in
        let fit : (u : Table) → Contains ts u → AllFit u = λ u m. let q = map_from (piece_at spec src r k) c u m in subst P q.2 (piece_at_fits q.0) in
        let f = joined_from ts fit a.0 a.1 in
        let each : (p : Piece) → Contains c p → Contains (piece_table spec src p).rows (map f.at p.attrs) × (cut p.attrs (key_of spec r) (map f.at p.attrs) ≡ k) = λ p m.
        matching_from p.attrs (key_of spec r) k (piece_table spec src p).rows (map f.at p.attrs)
        (f.parts (piece_at spec src r k p) (map_in (piece_at spec src r k) c p m)) in
        let row : map f.at (columns_of spec r) ≡ x = sym (cut-is f.at columns (columns_of spec r) a.0 f.row columns_joined) ∙ a.2 in
        let n = wf.some_attribute r l in
        let p = holds_from (columns_of spec r) c parts.0 n.0 n.1 in
        let key : map f.at (key_of spec r) ≡ k = sym (cut-map f.at p.0.attrs (key_of spec r) (piece_key spec r wf l p.0 (parts.1 p.0 p.1))) ∙ (each p.0 p.1).1 in (
          Contains-is (map f.at (columns_of spec r)) x (joined_pieces spec src r c) row (pieces_in spec src r c parts.0 f.at (λ q m. (each q m).0)),
          ap (key_value spec r) (sym row) ∙ cut-map f.at (columns_of spec r) (key_of spec r) (wf.key r l) ∙ key,
        )

  covered_at_in : (x : Row) → key_value spec r x ≡ k → Contains (covered spec src r) x → Contains (covered_at spec src r k) x
  covered_at_in x e h =
      let all = covers (columns_of spec r) (pieces spec r) in
      let a = flat_from (joined_pieces spec src r) all x h in
      flat_in (joined_at spec src r k) all a.0 x a.1 (joined_at_in a.0 a.1 x e a.2)

  covered_at_from : (x : Row) → Contains (covered_at spec src r k) x → Contains (covered spec src r) x × (key_value spec r x ≡ k)
  covered_at_from x h =
      let all = covers (columns_of spec r) (pieces spec r) in
      let a = flat_from (joined_at spec src r k) all x h in
      let b = joined_at_from a.0 a.1 x a.2 in
      (flat_in (joined_pieces spec src r) all a.0 x a.1 b.0, b.1)

  pub covered_by_key : SameRows (rows_with_key spec r k (covered spec src r)) (covered_at spec src r k)
  covered_by_key = SameRows-from _ _ (λ x. (
    λ h. let a = matching_from (columns_of spec r) (key_of spec r) k (covered spec src r) x h in covered_at_in x a.1 a.0,
    λ h. let a = covered_at_from x h in matching_in (columns_of spec r) (key_of spec r) k (covered spec src r) x a.0 a.1,
  ))

  complement_at_in : (x : Row) → key_value spec r x ≡ k → Contains (complement spec src r) x → Contains (complement_at spec src r k) x
  complement_at_in x e h =
      let rows = (src.relation r).rows in
      let a = complement_from spec src r x h in
      without_in (rows_with_key spec r k rows) (covered_at spec src r k) x
      (matching_in (columns_of spec r) (key_of spec r) k rows x a.0 e) (λ m. a.1 (covered_at_from x m).0)

  complement_at_from : (x : Row) → Contains (complement_at spec src r k) x → Contains (complement spec src r) x × (key_value spec r x ≡ k)
  complement_at_from x h =
      let rows = (src.relation r).rows in
      let a = without_from (rows_with_key spec r k rows) (covered_at spec src r k) x h in
      let b = matching_from (columns_of spec r) (key_of spec r) k rows x a.0 in
      (complement_in spec src r x b.0 (λ m. a.1 (covered_at_in x b.1 m)), b.1)

  pub complement_by_key : SameRows (rows_with_key spec r k (complement spec src r)) (complement_at spec src r k)
  complement_by_key = SameRows-from _ _ (λ x. (
    λ h. let a = matching_from (columns_of spec r) (key_of spec r) k (complement spec src r) x h in complement_at_in x a.1 a.0,
    λ h. let a = complement_at_from x h in matching_in (columns_of spec r) (key_of spec r) k (complement spec src r) x a.0 a.1,
  ))

  -- a piece's rows with the key value, from its source's
  pub piece_by_key : (p : Piece) → Contains (pieces spec r) p
      → SameRows (piece_at spec src r k p).rows (project p.attrs (at_values (key_of spec r) k (piece_base spec src p.source))).rows
  piece_by_key p m =
      let base = piece_base spec src p.source in
      let key = piece_key spec r wf l p m in
      let few = matching base.columns (key_of spec r) k base.rows in
      SameRows-from _ _ (λ w. (
        λ h.
            let a = matching_from p.attrs (key_of spec r) k (piece_table spec src p).rows w h in
            let b = map_from (cut base.columns p.attrs) base.rows w a.0 in
            let e : cut base.columns (key_of spec r) b.0 ≡ k =
            sym (cut_cut base.columns p.attrs (key_of spec r) b.0 key) ∙ ap (cut p.attrs (key_of spec r)) b.2 ∙ a.1 in
            Contains-is (cut base.columns p.attrs b.0) w (map (cut base.columns p.attrs) few) b.2
            (map_in (cut base.columns p.attrs) few b.0 (matching_in base.columns (key_of spec r) k base.rows b.0 b.1 e)),
        λ h.
            let a = map_from (cut base.columns p.attrs) few w h in
            let b = matching_from base.columns (key_of spec r) k base.rows a.0 a.1 in
            let e : cut p.attrs (key_of spec r) w ≡ k =
            ap (cut p.attrs (key_of spec r)) (sym a.2) ∙ cut_cut base.columns p.attrs (key_of spec r) a.0 key ∙ b.1 in
            matching_in p.attrs (key_of spec r) k (piece_table spec src p).rows w
            (Contains-is (cut base.columns p.attrs a.0) w (piece_table spec src p).rows a.2 (map_in (cut base.columns p.attrs) base.rows a.0 b.0)) e,
      ))

-- ---- the changed complement

module _ (spec : Spec) (wf : WellFormed spec) (r : ℕ) (l : r < length spec.relations) (s t : State) (keys : List Row) (all : (k : Row) → IsCarried spec s t r k → has keys k ≡ true) where
  abbrev old : List Row
  old = complement spec (sources_of spec s) r

  abbrev new : List Row
  new = complement spec (sources_of spec t) r

  abbrev others : List Row
  others = rows_of_others spec r keys old

  abbrev made : List Row
  made = flat_map (complement_at spec (sources_of spec t) r) keys

  -- a row whose key value is none of these is in both complements or in none
  quiet : (x : Row) → (Contains keys (key_value spec r x) → ⊥) → has old x ≡ has new x
  quiet x n =
      let k = key_value spec r x in
      complement_same_at_key spec wf r l s t k (quiet_in spec s t r k (λ c. n ((has_decides keys k).0 (all k c)))) x refl

  made_in : (x : Row) → Contains keys (key_value spec r x) → Contains new x → Contains made x
  made_in x m h =
      flat_in (complement_at spec (sources_of spec t) r) keys (key_value spec r x) x m
      (complement_at_in spec wf r l (sources_of spec t) (key_value spec r x) x refl h)

  made_from : (x : Row) → Contains made x → Contains new x
  made_from x h =
      let a = flat_from (complement_at spec (sources_of spec t) r) keys x h in
      (complement_at_from spec wf r l (sources_of spec t) a.0 x a.2).0

  pub complement_changed : SameRows new (others ++ made)
  complement_changed =
      let other : Row → Bool = λ x. not (has keys (key_value spec r x)) in
      SameRows-from _ _ (λ x. (
        λ h.
            let k = key_value spec r x in
            elim (row_is_in keys k) [
              | inl m ↦ Contains-append_right others made x (made_in x m h)
              | inr n ↦
                  let there : Contains old x = (has_decides old x).0 (quiet x n ∙ (has_decides new x).1 h) in
                  Contains-append_left others made x (filter_in other old x there (is_not_in (has keys k) (has_decides keys k) n))
            ],
        λ h.
            elim (Contains-append_cases others made x h) [
              | inl a ↦
                  let k = key_value spec r x in
                  let b = filter_from other old x a in
                  (has_decides new x).0 (sym (quiet x (is_not (has keys k) (has_decides keys k) b.1)) ∙ (has_decides old x).1 b.0)
              | inr a ↦ made_from x a
            ],
      ))

  -- a row that left or entered has one of these key values
  left_key : (x : Row) → Contains old x → (Contains new x → ⊥) → Contains keys (key_value spec r x)
  left_key x h n =
      elim (row_is_in keys (key_value spec r x)) [
        | inl m ↦ m
        | inr d ↦ absurd (n ((has_decides new x).0 (sym (quiet x d) ∙ (has_decides old x).1 h)))
      ]

  entered_key : (x : Row) → Contains new x → (Contains old x → ⊥) → Contains keys (key_value spec r x)
  entered_key x h n =
      elim (row_is_in keys (key_value spec r x)) [
        | inl m ↦ m
        | inr d ↦ absurd (n ((has_decides old x).0 (quiet x d ∙ (has_decides new x).1 h)))
      ]

  pub left_given : SameRows (without old new) (without (rows_of_keys spec r keys old) made)
  left_given =
      let mine : Row → Bool = λ x. has keys (key_value spec r x) in
      SameRows-from _ _ (λ x. (
        λ h.
            let a = without_from old new x h in
            let m = (has_decides keys (key_value spec r x)).1 (left_key x a.0 a.1) in
            without_in (rows_of_keys spec r keys old) made x (filter_in mine old x a.0 m) (λ k. a.1 (made_from x k)),
        λ h.
            let a = without_from (rows_of_keys spec r keys old) made x h in
            let b = filter_from mine old x a.0 in
            without_in old new x b.0 (λ k. a.1 (made_in x ((has_decides keys (key_value spec r x)).0 b.1) k)),
      ))

  pub entered_given : SameRows (without new old) (without made old)
  entered_given = SameRows-from _ _ (λ x. (
    λ h. let a = without_from new old x h in without_in made old x (made_in x (entered_key x a.0 a.1) a.0) a.1,
    λ h. let a = without_from made old x h in without_in new old x (made_from x a.0) a.1,
  ))

-- ---- legal states

module _ (spec : Spec) (s : State) (legal : LegalState spec s) (r : ℕ) (l : r < length spec.relations) (x : Row) (here : Contains (get_or s r []) x) where
  abbrev src : Sources
  src = sources_of spec s

  abbrev key : Row
  key = key_value spec r x

  -- a row with the key value of x is x
  same_row : (y : Row) → Contains (get_or s r []) y → key_value spec r y ≡ key → y ≡ x
  same_row y h e = legal.legal.keys r l y x ((has_decides (get_or s r []) y).1 h) ((has_decides (get_or s r []) x).1 here) e

  pub piece_row_is : (p : Piece) → Contains (pieces spec r) p → (w : Row) → Contains (piece_at spec src r key p).rows w → w ≡ cut (columns_of spec r) p.attrs x
  piece_row_is p m w h =
      let a = matching_from p.attrs (key_of spec r) key (piece_table spec src p).rows w h in
      let b = piece_row spec s legal.rules legal.state legal.legal r p m w a.0 in
      let e : key_value spec r b.whole ≡ key =
      sym (cut_cut (columns_of spec r) p.attrs (key_of spec r) b.whole (piece_key spec r legal.rules l p m)) ∙ ap (cut p.attrs (key_of spec r)) (sym b.row) ∙ a.1 in
      b.row ∙ ap (cut (columns_of spec r) p.attrs) (same_row b.whole b.is_in e)

  covered_from_cover : CoverHasKey spec src r key → Contains (covered spec src r) x
  covered_from_cover a =
      let parts = cover_parts spec legal.rules r l src key a.cover a.is_cover in
      let f = value_of (columns_of spec r) x in
      let row : map f (columns_of spec r) ≡ x = fits-values (columns_of spec r) x (state_fits spec s legal.rules legal.state r l x here) in
      flat_in (joined_pieces spec src r) (covers (columns_of spec r) (pieces spec r)) a.cover x a.is_cover
      (Contains-is (map f (columns_of spec r)) x (joined_pieces spec src r a.cover) row
      (pieces_in spec src r a.cover parts.0 f (λ p m.
      let w = a.rows p m in
      let there = (has_decides (piece_at spec src r key p).rows w.0).0 w.1 in
      let is : w.0 ≡ map f p.attrs = piece_row_is p (parts.1 p m) w.0 there ∙ cut-values (columns_of spec r) p.attrs x in
      Contains-is w.0 (map f p.attrs) (piece_table spec src p).rows is (matching_from p.attrs (key_of spec r) key (piece_table spec src p).rows w.0 there).0)))

  cover_from_covered : Contains (covered spec src r) x → CoverHasKey spec src r key
  cover_from_covered h =
      let all = covers (columns_of spec r) (pieces spec r) in
      let a = flat_from (joined_pieces spec src r) all x h in
      let parts = cover_parts spec legal.rules r l src key a.0 a.1 in
      let f = pieces_from spec src r a.0 parts.0 x a.2 in
      let keys : map f.at (key_of spec r) ≡ key =
      sym (cut-map f.at (columns_of spec r) (key_of spec r) (legal.rules.key r l)) ∙ ap (key_value spec r) (sym f.row) in
      record {
        cover = a.0;
        is_cover = a.1;
        rows = λ p m. (
          map f.at p.attrs,
          (has_decides (piece_at spec src r key p).rows (map f.at p.attrs)).1
              (matching_in p.attrs (key_of spec r) key (piece_table spec src p).rows (map f.at p.attrs) (f.parts p m)
              (cut-map f.at p.attrs (key_of spec r) (piece_key spec r legal.rules l p (parts.1 p m)) ∙ keys)),
        );
      }

  pub covered_where : (has (covered spec src r) x ≡ true) ↔ CoverHasKey spec src r key
  covered_where = (
    λ e. cover_from_covered ((has_decides (covered spec src r) x).0 e),
    λ a. (has_decides (covered spec src r) x).1 (covered_from_cover a),
  )

  -- whatever the covers give at the key value of x is x
  given_is : (y : Row) → Contains (covered_at spec src r key) y → Contains (covered spec src r) x
  given_is y h =
      let a = covered_at_from spec legal.rules r l src key y h in
      let there = covered_sound spec s legal.rules legal.state legal.legal r l y a.0 in
      Contains-is y x (covered spec src r) (same_row y there a.1) a.0

  pub complement_where : (has (complement spec src r) x ≡ true) ↔ (covered_at spec src r key ≡ [])
  complement_where = (
    λ e.
        let a = complement_from spec src r x ((has_decides (complement spec src r) x).0 e) in
        empty_list (covered_at spec src r key) (λ y h. a.1 (given_is y h)),
    λ e.
        let P : List Row → Type 0 = λ z. Contains z x in
        (has_decides (complement spec src r) x).1 (complement_in spec src r x here (λ h.
        Contains-nil x (subst P e (covered_at_in spec legal.rules r l src key x refl h)))),
  )
