-- What breaks a constraint of a changed state was carried by a row that changed, a legal state breaks nothing, and a key that no changed row carries keeps its rows of the complement.
use Rattle.std.proofs.Common.{◌≡◌, ◌⊎◌, ◌↔◌, ℕ, ◌<◌, ◌+◌, not, ◌&&◌, List, [], ◌∷◌, map, filter, length, get_or, None, Contains, refl, sym, ◌∙◌, ap, subst, inl, inr, true}
use Rattle.std.proofs.lemmas.List.Elements.{Contains-get_or, Contains-append_left, Contains-append_right, Contains-append_cases}
use Rattle.std.proofs.lemmas.Bool.{and_parts, and_from}
use Rattle.std.specs.Cmp.{both_ways}
use Rattle.wh_base.specs.declared.value.Value.{Value}
use Rattle.wh_base.specs.Columns.{cut}
use Rattle.wh_base.specs.RowSet.{has, in_order}
use Rattle.wh_base.specs.Value.{row_eq}
use Rattle.wh_base.specs.ValueLaws.{row_eq-Decides}
use Rattle.wh_base.proofs.InOrder.{Contains-in_order}
use Rattle.wh_schema.specs.declared.piece.Piece.{Piece}
use Rattle.wh_schema.specs.declared.spec.Inclusion.{Inclusion}
use Rattle.wh_schema.specs.declared.spec.Spec.{Spec}
use Rattle.wh_schema.specs.Changes.{KeyIsQuiet, Changed}
use Rattle.wh_schema.specs.Constraints.{Legal, shares_key, repeated_keys, missing_values, breaks, least_or, first_break, broken}
use Rattle.wh_schema.specs.Legality.{WellFormed}
use Rattle.wh_schema.specs.Warehouse.{Row, State, left_value, right_value, columns_of, key_of, key_value, view_at, inclusion_at, view_table, sources_of, numbers, pieces, view_piece, inclusion_piece, piece_table, covers, is_cover, subsets, holds_all, joined_pieces, covered, complement}
use Rattle.wh_laws.proofs.Lists.{Contains-nil, Contains-here, Contains-there, Contains-cases, Contains-is, any_from, any_in, map_in, map_from, filter_in, filter_from, flat_in, flat_from, empty_list}
use Rattle.wh_laws.proofs.Equality.{Name, decided, has_decides, row_is_in, is_false, is_not, is_not_in, shared_in}
use Rattle.wh_laws.proofs.Joins.{cut-map, cut-same, cut-agree}
use Rattle.wh_laws.proofs.Pieces.{piece_from, numbers_from, numbers_in}
use Rattle.wh_laws.proofs.Subsets.{subsets_members}
use Rattle.wh_laws.proofs.Covered.{pieces_from, pieces_in, complement_from, complement_in}

-- ---- what breaks a constraint

pub record SharedKey (spec : Spec) (i : ℕ) (rows : List Row) (v : Row) : Type 0 where
  pub one : Row
  pub other : Row
  pub one_in : Contains rows one
  pub other_in : Contains rows other
  pub differ : one ≡ other → ⊥
  pub one_key : key_value spec i one ≡ v
  pub other_key : key_value spec i other ≡ v

pub record Missing (spec : Spec) (s : State) (c : Inclusion) (v : Row) : Type 0 where
  pub row : Row
  pub is_in : Contains (get_or s c.from []) row
  pub value : left_value spec c row ≡ v
  pub lacks : (y : Row) → Contains (get_or s c.to []) y → right_value spec c y ≡ v → ⊥

module _ (spec : Spec) (s : State) where
  pub repeated_from : (i : ℕ) (v : Row) → Contains (repeated_keys spec s i) v → SharedKey spec i (get_or s i []) v
  repeated_from i v h =
      let rows = get_or s i [] in
      let a = map_from (key_value spec i) (filter (shares_key spec i rows) rows) v h in
      let b = filter_from (shares_key spec i rows) rows a.0 a.1 in
      let c = any_from (λ y. not (row_eq a.0 y) && row_eq (key_value spec i a.0) (key_value spec i y)) rows b.1 in
      let t = and_parts (not (row_eq a.0 c.0)) (row_eq (key_value spec i a.0) (key_value spec i c.0)) c.2 in
      record {
        one = a.0;
        other = c.0;
        one_in = b.0;
        other_in = c.1;
        differ = is_not (row_eq a.0 c.0) (row_eq-Decides a.0 c.0) t.0;
        one_key = a.2;
        other_key = sym ((row_eq-Decides (key_value spec i a.0) (key_value spec i c.0)).0 t.1) ∙ a.2;
      }

  pub repeated_in : (i : ℕ) (x y : Row) → Contains (get_or s i []) x → Contains (get_or s i []) y → (x ≡ y → ⊥) → key_value spec i x ≡ key_value spec i y → Contains (repeated_keys spec s i) (key_value spec i x)
  repeated_in i x y hx hy d e =
      let rows = get_or s i [] in
      map_in (key_value spec i) (filter (shares_key spec i rows) rows) x
      (filter_in (shares_key spec i rows) rows x hx
      (any_in (λ z. not (row_eq x z) && row_eq (key_value spec i x) (key_value spec i z)) rows y hy
      (and_from (not (row_eq x y)) (row_eq (key_value spec i x) (key_value spec i y))
      (is_not_in (row_eq x y) (row_eq-Decides x y) d) ((row_eq-Decides (key_value spec i x) (key_value spec i y)).1 e))))

  pub missing_from : (c : Inclusion) (v : Row) → Contains (missing_values spec s c) v → Missing spec s c v
  missing_from c v h =
      let rights = map (right_value spec c) (get_or s c.to []) in
      let a = filter_from (λ u. not (has rights u)) (map (left_value spec c) (get_or s c.from [])) v h in
      let b = map_from (left_value spec c) (get_or s c.from []) v a.0 in
      record {
        row = b.0;
        is_in = b.1;
        value = b.2;
        lacks = λ y k e. is_not (has rights v) (has_decides rights v) a.1 (Contains-is (right_value spec c y) v rights e (map_in (right_value spec c) (get_or s c.to []) y k));
      }

  pub missing_in : (c : Inclusion) (x : Row) → Contains (get_or s c.from []) x → ((y : Row) → Contains (get_or s c.to []) y → right_value spec c y ≡ left_value spec c x → ⊥) → Contains (missing_values spec s c) (left_value spec c x)
  missing_in c x h lacks =
      let rights = map (right_value spec c) (get_or s c.to []) in
      filter_in (λ u. not (has rights u)) (map (left_value spec c) (get_or s c.from [])) (left_value spec c x)
      (map_in (left_value spec c) (get_or s c.from []) x h)
      (is_not_in (has rights (left_value spec c x)) (has_decides rights (left_value spec c x))
      (λ k. let b = map_from (right_value spec c) (get_or s c.to []) (left_value spec c x) k in lacks b.0 b.1 b.2))

-- ---- a broken constraint's values are carried by rows that changed

left_rows : (xs ys : List Row) (x : Row) → Contains xs x → (Contains ys x → ⊥) → Changed xs ys x
left_rows xs ys x h n = inl ((has_decides xs x).1 h, is_false (has ys x) (has_decides ys x) n)

entered : (xs ys : List Row) (x : Row) → (Contains xs x → ⊥) → Contains ys x → Changed xs ys x
entered xs ys x n h = inr (is_false (has xs x) (has_decides xs x) n, (has_decides ys x).1 h)

module _ (spec : Spec) (s t : State) (legal : Legal spec s) where
  pub key_carried : (i : ℕ) → i < length spec.relations → (v : Row) → has (repeated_keys spec t i) v ≡ true
      → (x : Row) × Changed (get_or s i []) (get_or t i []) x × (key_value spec i x ≡ v)
  key_carried i l v h =
      let old = get_or s i [] in
      let new = get_or t i [] in
      let a = repeated_from spec t i v ((has_decides (repeated_keys spec t i) v).0 h) in
      elim (row_is_in old a.one) [
        | inr n ↦ (a.one, entered old new a.one n a.one_in, a.one_key)
        | inl p ↦
            elim (row_is_in old a.other) [
              | inr n ↦ (a.other, entered old new a.other n a.other_in, a.other_key)
              | inl q ↦ absurd (a.differ (legal.keys i l a.one a.other ((has_decides old a.one).1 p) ((has_decides old a.other).1 q) (a.one_key ∙ sym a.other_key)))
            ]
      ]

  pub inclusion_carried : (c : Inclusion) → Contains spec.inclusions c → (v : Row) → has (missing_values spec t c) v ≡ true
      → ((x : Row) × Changed (get_or s c.from []) (get_or t c.from []) x × (left_value spec c x ≡ v))
      ⊎ ((y : Row) × Changed (get_or s c.to []) (get_or t c.to []) y × (right_value spec c y ≡ v))
  inclusion_carried c k v h =
      let old = get_or s c.from [] in
      let a = missing_from spec t c v ((has_decides (missing_values spec t c) v).0 h) in
      elim (row_is_in old a.row) [
        | inr n ↦ inl (a.row, entered old (get_or t c.from []) a.row n a.is_in, a.value)
        | inl p ↦
            let y = legal.inclusions c k a.row ((has_decides old a.row).1 p) in
            let e : right_value spec c y.0 ≡ v = sym y.2 ∙ a.value in
            inr (y.0, left_rows (get_or s c.to []) (get_or t c.to []) y.0 ((has_decides (get_or s c.to []) y.0).0 y.1) (λ m. a.lacks y.0 m e), e)
      ]

-- ---- a state is legal exactly where it breaks nothing

legal_breaks_none : (spec : Spec) (s : State) → Legal spec s → (rows : List Row) → Contains (breaks spec s) rows → rows ≡ []
legal_breaks_none spec s legal rows h =
    let P : List Row → Type 0 = λ z. z ≡ [] in
    elim (Contains-append_cases (map (repeated_keys spec s) (numbers (length spec.relations))) (map (missing_values spec s) spec.inclusions) rows h) [
      | inl a ↦
          let b = map_from (repeated_keys spec s) (numbers (length spec.relations)) rows a in
          subst P b.2 (empty_list _ (λ v k.
          let c = repeated_from spec s b.0 v k in
          let old = get_or s b.0 [] in
          c.differ (legal.keys b.0 (numbers_from (length spec.relations) b.0 b.1) c.one c.other ((has_decides old c.one).1 c.one_in) ((has_decides old c.other).1 c.other_in) (c.one_key ∙ sym c.other_key))))
      | inr a ↦
          let b = map_from (missing_values spec s) spec.inclusions rows a in
          subst P b.2 (empty_list _ (λ v k.
          let c = missing_from spec s b.0 v k in
          let y = legal.inclusions b.0 b.1 c.row ((has_decides (get_or s b.0.from []) c.row).1 c.is_in) in
          c.lacks y.0 ((has_decides (get_or s b.0.to []) y.0).0 y.1) (sym y.2 ∙ c.value)))
    ]

none_breaks_legal : (spec : Spec) (s : State) → ((rows : List Row) → Contains (breaks spec s) rows → rows ≡ []) → Legal spec s
none_breaks_legal spec s none = record {
  keys = λ i l x y hx hy e.
      let empty = none (repeated_keys spec s i)
      (Contains-append_left (map (repeated_keys spec s) (numbers (length spec.relations))) _ (repeated_keys spec s i) (map_in (repeated_keys spec s) (numbers (length spec.relations)) i (numbers_in (length spec.relations) i l))) in
      let P : List Row → Type 0 = λ z. Contains z (key_value spec i x) in
      elim (decided (row_eq x y) (row_eq-Decides x y)) [
        | inl q ↦ q
        | inr n ↦ absurd (Contains-nil (key_value spec i x) (subst P empty (repeated_in spec s i x y ((has_decides (get_or s i []) x).0 hx) ((has_decides (get_or s i []) y).0 hy) n e)))
      ];
  inclusions = λ c k x h.
      let rights = map (right_value spec c) (get_or s c.to []) in
      let empty = none (missing_values spec s c)
      (Contains-append_right (map (repeated_keys spec s) (numbers (length spec.relations))) _ (missing_values spec s c) (map_in (missing_values spec s) spec.inclusions c k)) in
      let P : List Row → Type 0 = λ z. Contains z (left_value spec c x) in
      elim (row_is_in rights (left_value spec c x)) [
        | inl a ↦ let b = map_from (right_value spec c) (get_or s c.to []) (left_value spec c x) a in (b.0, (has_decides (get_or s c.to []) b.0).1 b.1, sym b.2)
        | inr n ↦
            absurd (Contains-nil (left_value spec c x) (subst P empty (missing_in spec s c x ((has_decides (get_or s c.from []) x).0 h)
            (λ y m e. n (Contains-is (right_value spec c y) (left_value spec c x) rights e (map_in (right_value spec c) (get_or s c.to []) y m))))))
      ];
}

pub empty_in_order : (rows : List Row) → in_order rows ≡ [] → rows ≡ []
empty_in_order rows e = empty_list rows (λ x h. let P : List Row → Type 0 = λ z. Contains z x in Contains-nil x (subst P e (Contains-in_order rows x h)))

-- by cases on the rows in order
none_at : (n : ℕ) (rows : List Row) (more : List (List Row)) → ((u : List Row) → Contains more u → first_break (n + 1) more ≡ None → u ≡ []) → (o : List Row) → in_order rows ≡ o
    → least_or n o (first_break (n + 1) more) ≡ None → (u : List Row) → Contains (rows ∷ more) u → u ≡ []
none_at n rows more ih [] e f u h =
    elim (Contains-cases rows u more h) [ inl q ↦ sym q ∙ empty_in_order rows e | inr k ↦ ih u k f ]
none_at n rows more ih (v ∷ vs) e f u h = cc f

first_break_from : (n : ℕ) (ls : List (List Row)) → first_break n ls ≡ None → (u : List Row) → Contains ls u → u ≡ []
first_break_from n [] f u h = absurd (Contains-nil u h)
first_break_from n (rows ∷ more) f u h = none_at n rows more (λ w k g. first_break_from (n + 1) more g w k) (in_order rows) refl f u h

first_break_in : (n : ℕ) (ls : List (List Row)) → ((u : List Row) → Contains ls u → u ≡ []) → first_break n ls ≡ None
first_break_in n [] h = refl
first_break_in n (rows ∷ more) h =
    rw (h rows (Contains-here rows more)) (first_break_in (n + 1) more (λ u k. h u (Contains-there rows u more k)))

pub broken_none : (spec : Spec) (s : State) → (broken spec s ≡ None) ↔ Legal spec s
broken_none spec s = (
  λ e. none_breaks_legal spec s (λ u h. first_break_from 1 (breaks spec s) e u h),
  λ legal. first_break_in 1 (breaks spec s) (legal_breaks_none spec s legal),
)

-- ---- a key that no changed row carries

changed_back : (xs ys : List Row) (x : Row) → Changed ys xs x → Changed xs ys x
changed_back xs ys x h = elim h [ inl a ↦ inr (a.1, a.0) | inr a ↦ inl (a.1, a.0) ]

quiet_back : (spec : Spec) (r : ℕ) (s t : State) (k : Row) → KeyIsQuiet spec r s t k → KeyIsQuiet spec r t s k
quiet_back spec r s t k q = record {
  relation = λ x h. q.relation x (changed_back _ _ x h);
  views = λ j l m g w h. q.views j l m g w (changed_back _ _ w h);
  inclusions = λ c m e g y h. q.inclusions c m e g y (changed_back _ _ y h);
}

-- a row that is no changed one stays
stays : (xs ys : List Row) (x : Row) → (Changed xs ys x → ⊥) → Contains xs x → Contains ys x
stays xs ys x n h = elim (row_is_in ys x) [ inl k ↦ k | inr m ↦ absurd (n (left_rows xs ys x h m)) ]

module _ (spec : Spec) (wf : WellFormed spec) (r : ℕ) (l : r < length spec.relations) (s t : State) (k : Row) (quiet : KeyIsQuiet spec r s t k) where
  view_row_stays : (j : ℕ) → j < length spec.views → Contains (view_at spec j).relations r → ((n : Name) → Contains (key_of spec r) n → Contains (view_at spec j).head n)
      → (f : Name → Value) → map f (key_of spec r) ≡ k
      → Contains (piece_table spec (sources_of spec s) (view_piece spec r j)).rows (map f (view_piece spec r j).attrs)
      → Contains (piece_table spec (sources_of spec t) (view_piece spec r j)).rows (map f (view_piece spec r j).attrs)
  view_row_stays j m member key f e h =
      let head = (view_at spec j).head in
      let names = (view_piece spec r j).attrs in
      let a = map_from (cut head names) (view_table spec s j).rows (map f names) h in
      let same : map f (key_of spec r) ≡ cut head (key_of spec r) a.0 =
      cut-same f head (key_of spec r) a.0 (λ n i. cut-agree f head names a.0 (sym a.2) n (shared_in head (columns_of spec r) n (key n i) (wf.key r l n i))) in
      let there = stays (view_table spec s j).rows (view_table spec t j).rows a.0 (λ c. quiet.views j m member key a.0 c (sym same ∙ e)) a.1 in
      Contains-is (cut head names a.0) (map f names) (map (cut head names) (view_table spec t j).rows) a.2 (map_in (cut head names) (view_table spec t j).rows a.0 there)

  inclusion_row_stays : (i : ℕ) → i < length spec.inclusions → (inclusion_at spec i).to ≡ r → ((n : Name) → Contains (key_of spec r) n → Contains (inclusion_at spec i).to_cols n)
      → (f : Name → Value) → map f (key_of spec r) ≡ k
      → Contains (piece_table spec (sources_of spec s) (inclusion_piece spec r i)).rows (map f (inclusion_piece spec r i).attrs)
      → Contains (piece_table spec (sources_of spec t) (inclusion_piece spec r i)).rows (map f (inclusion_piece spec r i).attrs)
  inclusion_row_stays i m to key f e h =
      let c = inclusion_at spec i in
      let names = (inclusion_piece spec r i).attrs in
      let a = map_from (cut c.to_cols names) (map (left_value spec c) (get_or s c.from [])) (map f names) h in
      let b = map_from (left_value spec c) (get_or s c.from []) a.0 a.1 in
      let same : map f (key_of spec r) ≡ cut c.to_cols (key_of spec r) a.0 =
      cut-same f c.to_cols (key_of spec r) a.0 (λ n q. cut-agree f c.to_cols names a.0 (sym a.2) n (shared_in c.to_cols (columns_of spec r) n (key n q) (wf.key r l n q))) in
      let carried : cut c.to_cols (key_of spec r) (left_value spec c b.0) ≡ k = ap (cut c.to_cols (key_of spec r)) b.2 ∙ sym same ∙ e in
      let there = stays (get_or s c.from []) (get_or t c.from []) b.0 (λ q. quiet.inclusions c (Contains-get_or spec.inclusions i _ m) to key b.0 q carried) b.1 in
      let made : Contains (map (left_value spec c) (get_or t c.from [])) a.0 =
      Contains-is (left_value spec c b.0) a.0 (map (left_value spec c) (get_or t c.from [])) b.2 (map_in (left_value spec c) (get_or t c.from []) b.0 there) in
      Contains-is (cut c.to_cols names a.0) (map f names) (map (cut c.to_cols names) (map (left_value spec c) (get_or t c.from []))) a.2
      (map_in (cut c.to_cols names) (map (left_value spec c) (get_or t c.from [])) a.0 made)

  piece_row_stays : (p : Piece) → Contains (pieces spec r) p → (f : Name → Value) → map f (key_of spec r) ≡ k
      → Contains (piece_table spec (sources_of spec s) p).rows (map f p.attrs) → Contains (piece_table spec (sources_of spec t) p).rows (map f p.attrs)
  piece_row_stays p h f e =
      let P : Piece → Type 0 = λ q. Contains (piece_table spec (sources_of spec s) q).rows (map f q.attrs) → Contains (piece_table spec (sources_of spec t) q).rows (map f q.attrs) in
      elim (piece_from spec r p h) [
        | inl a ↦ subst P a.is (view_row_stays a.number a.within a.member a.key f e)
        | inr a ↦ subst P a.is (inclusion_row_stays a.number a.within a.target a.key f e)
      ]

  covered_row_stays : (x : Row) → key_value spec r x ≡ k → Contains (covered spec (sources_of spec s) r) x → Contains (covered spec (sources_of spec t) r) x
  covered_row_stays x e h =
      let c = flat_from (joined_pieces spec (sources_of spec s) r) (covers (columns_of spec r) (pieces spec r)) x h in
      let q = filter_from (is_cover (columns_of spec r)) (subsets (pieces spec r)) c.0 c.1 in
      let all = (and_parts (holds_all (columns_of spec r) c.0) _ q.1).0 in
      let f = pieces_from spec (sources_of spec s) r c.0 all x c.2 in
      let key : map f.at (key_of spec r) ≡ k = sym (cut-map f.at (columns_of spec r) (key_of spec r) (wf.key r l)) ∙ ap (key_value spec r) (sym f.row) ∙ e in
      flat_in (joined_pieces spec (sources_of spec t) r) (covers (columns_of spec r) (pieces spec r)) c.0 x c.1
      (Contains-is (map f.at (columns_of spec r)) x (joined_pieces spec (sources_of spec t) r c.0) (sym f.row)
      (pieces_in spec (sources_of spec t) r c.0 all f.at (λ p m. piece_row_stays p (subsets_members (pieces spec r) c.0 q.0 p m) f.at key (f.parts p m))))

complement_row_stays : (spec : Spec) → WellFormed spec → (r : ℕ) → r < length spec.relations → (s t : State) (k : Row) → KeyIsQuiet spec r s t k
    → (x : Row) → key_value spec r x ≡ k → Contains (complement spec (sources_of spec s) r) x → Contains (complement spec (sources_of spec t) r) x
complement_row_stays spec wf r l s t k quiet x e h =
    let a = complement_from spec (sources_of spec s) r x h in
    complement_in spec (sources_of spec t) r x (stays (get_or s r []) (get_or t r []) x (λ c. quiet.relation x c e) a.0)
    (λ m. a.1 (covered_row_stays spec wf r l t s k (quiet_back spec r s t k quiet) x e m))

pub complement_same_at_key : (spec : Spec) → WellFormed spec → (r : ℕ) → r < length spec.relations → (s t : State) (k : Row) → KeyIsQuiet spec r s t k
    → (x : Row) → key_value spec r x ≡ k → has (complement spec (sources_of spec s) r) x ≡ has (complement spec (sources_of spec t) r) x
complement_same_at_key spec wf r l s t k quiet x e =
    let old = complement spec (sources_of spec s) r in
    let new = complement spec (sources_of spec t) r in
    both_ways (has old x) (has new x)
    (λ h. (has_decides new x).1 (complement_row_stays spec wf r l s t k quiet x e ((has_decides old x).0 h)))
    (λ h. (has_decides old x).1 (complement_row_stays spec wf r l t s k (quiet_back spec r s t k quiet) x e ((has_decides new x).0 h)))
