-- What is stored of a fitting state has the kinds of the stored tables.
use Rattle.std.proofs.Common.{◌≡◌, ◌⊎◌, ℕ, zero, suc, ◌<◌, ◌+◌, ◌-◌, ◌==◌, true, List, [], ◌∷◌, ◌++◌, map, length, get_or, Option, Some, None, Contains, refl, sym, ◌∙◌, ap, subst, inl, inr, arith}
use Rattle.std.specs.Prelude.{slice_get, unwrap_or}
use Rattle.std.proofs.lemmas.Bool.{and_from, cases_lt, eq-eqb}
use Rattle.std.proofs.lemmas.List.{length-append, length-map}
use Rattle.std.proofs.lemmas.List.Elements.{Contains-get_or}
use Rattle.wh_base.specs.declared.head.Head.{Head}
use Rattle.wh_base.specs.declared.value.Attr.{Attr}
use Rattle.wh_base.specs.declared.value.Kind.{Kind}
use Rattle.wh_base.specs.declared.value.Kind.TheVariants as kind
use Rattle.wh_base.specs.declared.value.Value.{Value}
use Rattle.wh_base.specs.Columns.{names_of}
use Rattle.wh_base.specs.Cond.{kind_of}
use Rattle.wh_base.specs.Heads.{attrs_at}
use Rattle.wh_base.specs.RowSet.{in_order}
use Rattle.wh_base.specs.Value.{kinds, row_kinds, value_kind}
use Rattle.wh_base.proofs.InOrder.{Contains-from_in_order}
use Rattle.wh_schema.specs.declared.spec.Spec.{Spec}
use Rattle.wh_schema.specs.Heads.{relation_head, view_head, complement_head, heads_of, typed_names}
use Rattle.wh_schema.specs.Legality.{WellFormed}
use Rattle.wh_schema.specs.Rules.{kind_in, joined_attrs}
use Rattle.wh_schema.specs.Warehouse.{Row, State, no_relation, no_view, numbers, columns_of, relation_at, view_at, view_table, sources_of, complement, stored}
use Rattle.wh_store.specs.Image.{fit_attrs, fits_stored, fit_stored, stored_attrs, stored_count}
use Rattle.wh_laws.proofs.Equality.{Name, is_in_decides}
use Rattle.wh_laws.proofs.Lists.{every_in, map_same, map_agree, map_map}
use Rattle.wh_laws.proofs.Pieces.{numbers_from}
use Rattle.wh_laws.proofs.Stored.{length_numbers_map, stored_view, stored_complement}
use Rattle.wh_laws.proofs.Views.{ViewRow, view_from}
use Rattle.wh_fit.specs.Fit.{IsFittingState}
use Rattle.wh_fit.proofs.AcceptedKinds.{IsKinded}
use Rattle.wh_fit.proofs.Carried.{complement_from, fitting_is_state}
use Rattle.wh_fit.proofs.JoinedKinds.{joined_kind}
use Rattle.wh_fit.proofs.KindLemmas.{fits_from, fits_in, kind_from, kind_known}

-- ---- the attributes of stored tables

slice_right : {X : Type 0} (xs ys : List X) (k : ℕ) → slice_get (xs ++ ys) (length xs + k) ≡ slice_get ys k
slice_right [] ys k = ap (slice_get ys) (omega arith)
slice_right (x ∷ xs) ys k = ap (slice_get (x ∷ (xs ++ ys))) (let e : suc (length xs) + k ≡ suc (length xs + k) = omega arith in e) ∙ slice_right xs ys k

slice_left : {X : Type 0} (xs ys : List X) (k : ℕ) → k < length xs → slice_get (xs ++ ys) k ≡ slice_get xs k
slice_left [] ys k l = absurd (omega arith)
slice_left (x ∷ xs) ys zero l = refl
slice_left (x ∷ xs) ys (suc k) l = slice_left xs ys k (omega arith)

slice_map : {X Y : Type 0} (f : X → Y) (xs : List X) (k : ℕ) (d : X) → k < length xs → slice_get (map f xs) k ≡ Some (f (get_or xs k d))
slice_map f [] k d l = absurd (omega arith)
slice_map f (x ∷ xs) zero d l = refl
slice_map f (x ∷ xs) (suc k) d l = slice_map f xs k d (omega arith)

-- the attributes of the head at a place
attrs_are : (heads : List Head) (n : ℕ) (h : Head) → slice_get heads n ≡ Some h → attrs_at heads n ≡ h.attrs
attrs_are [] n h e = absurd cc
attrs_are (x ∷ heads) zero h e = let same : x ≡ h = cc in ap (λ (y : Head). y.attrs) same
attrs_are (x ∷ heads) (suc n) h e = attrs_are heads n h e

module _ (spec : Spec) where
  abbrev relations : List Head
  relations = map relation_head spec.relations

  abbrev views : List Head
  views = map (view_head spec) spec.views

  abbrev complements : List Head
  complements = map complement_head spec.relations

  pub view_attrs : (j : ℕ) → j < length spec.views → stored_attrs spec j ≡ typed_names (joined_attrs spec (view_at spec j).relations) (view_at spec j).head
  view_attrs j l =
      let first : length relations ≡ length spec.relations = length-map spec.relations relation_head in
      let second : length views ≡ length spec.views = length-map spec.views (view_head spec) in
      let within : length relations + j < length (relations ++ views) = omega (arith, l, second, length-append relations views) in
      let here : slice_get (heads_of spec) (length relations + j) ≡ Some (view_head spec (view_at spec j)) =
      slice_left (relations ++ views) complements (length relations + j) within ∙ slice_right relations views j ∙ slice_map (view_head spec) spec.views j no_view l in
      attrs_are (heads_of spec) (length spec.relations + j) (view_head spec (view_at spec j)) (ap (λ n. slice_get (heads_of spec) (n + j)) (sym first) ∙ here)

  pub complement_attrs : (r : ℕ) → r < length spec.relations → stored_attrs spec (length spec.views + r) ≡ (relation_at spec r).attrs
  complement_attrs r l =
      let first : length relations ≡ length spec.relations = length-map spec.relations relation_head in
      let second : length views ≡ length spec.views = length-map spec.views (view_head spec) in
      let place : length spec.relations + (length spec.views + r) ≡ length (relations ++ views) + r = omega (arith, first, second, length-append relations views) in
      let here : slice_get (heads_of spec) (length (relations ++ views) + r) ≡ Some (complement_head (relation_at spec r)) =
      slice_right (relations ++ views) complements r ∙ slice_map complement_head spec.relations r no_relation l in
      attrs_are (heads_of spec) (length spec.relations + (length spec.views + r)) (complement_head (relation_at spec r)) (ap (slice_get (heads_of spec)) place ∙ here)

pub stored_count_is : (spec : Spec) (s : State) → length (stored spec s) ≡ stored_count spec
stored_count_is spec s =
    let view : ℕ → List Row = λ j. in_order (view_table spec s j).rows in
    let rest : ℕ → List Row = λ r. in_order (complement spec (sources_of spec s) r) in
    omega (
      arith,
      length-append (map view (numbers (length spec.views))) (map rest (numbers (length spec.relations))),
      length_numbers_map view (length spec.views),
      length_numbers_map rest (length spec.relations),
    )

-- ---- the values of an assignment

-- the values of a row that fits have the kinds of their names
kind_at : (at : Name → Value) (attrs : List Attr) → row_kinds (map at (names_of attrs)) ≡ kinds attrs → (n : Name) (k : Kind) → kind_of n attrs ≡ Some k → value_kind (at n) ≡ k
kind_at at attrs e n k is =
    let same : map (λ (a : Attr). value_kind (at a.name)) attrs ≡ map (λ (a : Attr). a.kind) attrs =
    sym (ap (map value_kind) (map_map at (λ (a : Attr). a.name) attrs) ∙ map_map value_kind (λ (a : Attr). at a.name) attrs) ∙ e in
    let a = kind_from n attrs k is in
    ap (λ m. value_kind (at m)) (sym a.2) ∙ map_agree (λ (b : Attr). value_kind (at b.name)) (λ (b : Attr). b.kind) attrs same a.0 a.1 ∙ a.3

module _ (spec : Spec) (kd : IsKinded spec) where
  -- a name of a member has one kind in all members
  pub others_agree : (numbers : List ℕ) → ((i : ℕ) → Contains numbers i → i < length spec.relations) → (n : Name) (i : ℕ) (k : Kind) → Contains numbers i → kind_of n (relation_at spec i).attrs ≡ Some k
      → (j : ℕ) → Contains numbers j → (kind_of n (relation_at spec j).attrs ≡ None) ⊎ (kind_of n (relation_at spec j).attrs ≡ Some k)
  others_agree numbers below n i k h e j m = by (kind_of n (relation_at spec j).attrs) refl
    where
      by : (o : Option Kind) → kind_of n (relation_at spec j).attrs ≡ o → (kind_of n (relation_at spec j).attrs ≡ None) ⊎ (kind_of n (relation_at spec j).attrs ≡ Some k)
      by None is = inl is
      by (Some b) is =
          inr (is ∙ ap Some (kd.one_kind (relation_at spec j) (relation_at spec i) (Contains-get_or spec.relations j no_relation (below j m)) (Contains-get_or spec.relations i no_relation (below i h)) n b k is e))

module _ (spec : Spec) (s : State) (wf : WellFormed spec) (kd : IsKinded spec) (fit : IsFittingState spec s) where
  head_kind : (j : ℕ) → j < length spec.views → (w : Row) → (v : ViewRow spec s j w) → (n : Name) → Contains (view_at spec j).head n → value_kind (v.at n) ≡ kind_in (joined_attrs spec (view_at spec j).relations) n
  head_kind j l w v n h =
      let members = (view_at spec j).relations in
      let vf = wf.views (view_at spec j) (Contains-get_or spec.views j _ l) in
      let i = vf.head n h in
      let attrs = (relation_at spec i.0).attrs in
      let k = kind_known n attrs ((is_in_decides (names_of attrs) n).1 i.2) in
      let row = fits_from attrs (get_or s i.0 []) (fit.rows i.0 (vf.members i.0 i.1)) (map v.at (columns_of spec i.0)) (v.parts i.0 i.1) in
      let joined : kind_of n (joined_attrs spec members) ≡ Some k.0 = joined_kind n spec members k.0 i.0 i.1 k.1 (others_agree spec kd members vf.members n i.0 k.0 i.1 k.1) in
      kind_at v.at attrs row n k.0 k.1 ∙ sym (ap (λ o. unwrap_or o kind.Int) joined)

  pub view_row_fits : (j : ℕ) → j < length spec.views → (w : Row) → Contains (view_table spec s j).rows w → row_kinds w ≡ kinds (typed_names (joined_attrs spec (view_at spec j).relations) (view_at spec j).head)
  view_row_fits j l w h =
      let v = view_from spec s wf (fitting_is_state spec s fit) j l w h in
      let head = (view_at spec j).head in
      let attrs = joined_attrs spec (view_at spec j).relations in
      let typed : Name → Attr = λ n. record { name = n; kind = kind_in attrs n } in
      ap row_kinds v.row
      ∙ map_map value_kind v.at head
      ∙ map_same (λ n. value_kind (v.at n)) (kind_in attrs) head (head_kind j l w v)
      ∙ sym (map_map (λ (a : Attr). a.kind) typed head)

  view_fits : (j : ℕ) → j < length spec.views → fits_stored spec j (get_or (stored spec s) j []) ≡ true
  view_fits j l =
      let T : List Attr → List Row → Type 0 = λ attrs rows. fit_attrs attrs rows ≡ true in
      let attrs = typed_names (joined_attrs spec (view_at spec j).relations) (view_at spec j).head in
      let rows = in_order (view_table spec s j).rows in
      let one : T attrs rows = fits_in attrs rows (λ x k. view_row_fits j l x (Contains-from_in_order (view_table spec s j).rows x k)) in
      subst (λ a. T a (get_or (stored spec s) j [])) (sym (view_attrs spec j l)) (subst (T attrs) (sym (stored_view spec s j l)) one)

  complement_fits : (r : ℕ) → r < length spec.relations → fits_stored spec (length spec.views + r) (get_or (stored spec s) (length spec.views + r) []) ≡ true
  complement_fits r l =
      let T : List Attr → List Row → Type 0 = λ attrs rows. fit_attrs attrs rows ≡ true in
      let attrs = (relation_at spec r).attrs in
      let rest = complement spec (sources_of spec s) r in
      let one : T attrs (in_order rest) =
      fits_in attrs (in_order rest) (λ x k. fits_from attrs (get_or s r []) (fit.rows r l) x (complement_from spec s r x (Contains-from_in_order rest x k))) in
      subst (λ a. T a (get_or (stored spec s) (length spec.views + r) [])) (sym (complement_attrs spec r l)) (subst (T attrs) (sym (stored_complement spec s r l)) one)

  pub table_fits : (k : ℕ) → k < stored_count spec → fits_stored spec k (get_or (stored spec s) k []) ≡ true
  table_fits k l =
      elim (cases_lt k (length spec.views)) [
        | inl m ↦ view_fits k m
        | inr m ↦
            let r : ℕ = k - length spec.views in
            let is : length spec.views + r ≡ k = omega arith in
            let below : r < length spec.relations = omega arith in
            subst (λ n. fits_stored spec n (get_or (stored spec s) n []) ≡ true) is (complement_fits r below)
      ]

  pub stored_fits : fit_stored spec (stored spec s) ≡ true
  stored_fits =
      and_from (length (stored spec s) == stored_count spec) _ (eq-eqb _ _ (stored_count_is spec s))
      (every_in (λ k. fits_stored spec k (get_or (stored spec s) k [])) (numbers (stored_count spec)) (λ k h. table_fits k (numbers_from (stored_count spec) k h)))
