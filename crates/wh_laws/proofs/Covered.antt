-- The joins of pieces, the covers, and the complement.
use Rattle.std.proofs.Common.{◌≡◌, ℕ, suc, zero, ◌<◌, ◌≤◌, true, false, not, nat_eq, ◌||◌, List, [], ◌++◌, map, length, get_or, Contains, sym, ◌∙◌, ap, subst, inl, inr, arith}
use Rattle.std.specs.List.{list_any, list_all}
use Rattle.std.proofs.lemmas.List.Elements.{Contains-append_left, Contains-append_right, Contains-append_cases}
use Rattle.std.proofs.lemmas.Bool.{cases_Bool, and_parts, and_from, eqb-false, or_parts, not-false}
use Rattle.wh_base.specs.declared.value.Value.{Value}
use Rattle.wh_schema.specs.declared.spec.Spec.{Spec}
use Rattle.wh_schema.specs.declared.piece.Piece.{Piece}
use Rattle.wh_base.specs.Columns.{is_in, value_of, cut}
use Rattle.wh_base.specs.RowSet.{has, SameRows}
use Rattle.wh_base.specs.Tables.{Table, join_all}
use Rattle.wh_base.proofs.InOrder.{SameRows-from}
use Rattle.wh_schema.specs.Constraints.{Legal}
use Rattle.wh_schema.specs.Legality.{WellFormed, IsState}
use Rattle.wh_schema.specs.Warehouse.{Row, State, Sources, sources_of, columns_of, key_of, key_value, pieces, piece_table, subsets, holds_all, is_cover, covers, joined_pieces, covered, complement}
use Rattle.wh_laws.proofs.Lists.{Contains-is, filter_in, filter_from, any_from, any_in, every_from, every_in, all_fails, map_in, map_from, map_same, flat_in, flat_from}
use Rattle.wh_laws.proofs.Equality.{Name, is_in_decides, has_decides, row_is_in, is_not, is_not_in}
use Rattle.wh_laws.proofs.Joins.{AllFit, cut-map, cut-is, cut-same, cut-agree, fits-values, project-fits, column_in, joined_from, joined_in}
use Rattle.wh_laws.proofs.Views.{state_fits}
use Rattle.wh_laws.proofs.Pieces.{piece_key, piece_row, IsProjection}
use Rattle.wh_laws.proofs.Subsets.{subsets_members, subsets_length, subsets_trans, subsets_self}

-- ---- sets of pieces that hold all names

pub holds_from : (names : List Name) (c : List Piece) → holds_all names c ≡ true → (n : Name) → Contains names n → (p : Piece) × Contains c p × Contains p.attrs n
holds_from names c e n h =
    let a = any_from (λ p. is_in p.attrs n) c (every_from (λ m. list_any (λ p. is_in p.attrs m) c) names e n h) in
    (a.0, a.1, (is_in_decides a.0.attrs n).0 a.2)

pub holds_in : (names : List Name) (c : List Piece) → ((n : Name) → Contains names n → (p : Piece) × Contains c p × Contains p.attrs n) → holds_all names c ≡ true
holds_in names c h =
    every_in (λ m. list_any (λ p. is_in p.attrs m) c) names
    (λ n k. let a = h n k in any_in (λ p. is_in p.attrs n) c a.0 a.1 ((is_in_decides a.0.attrs n).1 a.2))

-- the row x that an assignment gives, whose cuts are rows of the pieces
pub record FromPieces (spec : Spec) (src : Sources) (r : ℕ) (c : List Piece) (x : Row) : Type 0 where
  pub at : Name → Value
  pub row : x ≡ map at (columns_of spec r)
  pub parts : (p : Piece) → Contains c p → Contains (piece_table spec src p).rows (map at p.attrs)

module _ (spec : Spec) (src : Sources) (r : ℕ) (c : List Piece) (all : holds_all (columns_of spec r) c ≡ true) where
  column_in_pieces : (n : Name) → Contains (columns_of spec r) n → Contains (join_all (map (piece_table spec src) c)).columns n
  column_in_pieces n h =
      let a = holds_from (columns_of spec r) c all n h in
      column_in (map (piece_table spec src) c) (piece_table spec src a.0) n (map_in (piece_table spec src) c a.0 a.1) a.2

  pub pieces_from : (x : Row) → Contains (joined_pieces spec src r c) x → FromPieces spec src r c x
  pieces_from x h =
      let ts = map (piece_table spec src) c in
      let a = map_from (cut (join_all ts).columns (columns_of spec r)) (join_all ts).rows x h in
      let fit : (t : Table) → Contains ts t → AllFit t = λ t k.
      let q = map_from (piece_table spec src) c t k in
      let P : Table → Type 0 = AllFit in
      subst P q.2 (project-fits q.0.attrs _) in
      let f = joined_from ts fit a.0 a.1 in
      record {
        at = f.at;
        row = sym a.2 ∙ cut-is f.at (join_all ts).columns (columns_of spec r) a.0 f.row column_in_pieces;
        parts = λ p k. f.parts (piece_table spec src p) (map_in (piece_table spec src) c p k);
      }

  pub pieces_in : (f : Name → Value) → ((p : Piece) → Contains c p → Contains (piece_table spec src p).rows (map f p.attrs)) → Contains (joined_pieces spec src r c) (map f (columns_of spec r))
  pieces_in f parts =
      let ts = map (piece_table spec src) c in
      let P : Table → Type 0 = λ t. Contains t.rows (map f t.columns) in
      let here : Contains (join_all ts).rows (map f (join_all ts).columns) =
      joined_in ts f (λ t k. let q = map_from (piece_table spec src) c t k in subst P q.2 (parts q.0 q.1)) in
      Contains-is (cut (join_all ts).columns (columns_of spec r) (map f (join_all ts).columns)) (map f (columns_of spec r)) (joined_pieces spec src r c)
      (cut-map f (join_all ts).columns (columns_of spec r) column_in_pieces)
      (map_in (cut (join_all ts).columns (columns_of spec r)) (join_all ts).rows (map f (join_all ts).columns) here)

-- ---- in a legal state the join of pieces that hold all attributes has only rows of the relation

module _ (spec : Spec) (s : State) (wf : WellFormed spec) (st : IsState spec s) (legal : Legal spec s) (r : ℕ) (l : r < length spec.relations) where
  same_whole : (f : Name → Value) (p q : Piece) → Contains (pieces spec r) p → Contains (pieces spec r) q
      → (a : IsProjection spec s r p.attrs (map f p.attrs)) (b : IsProjection spec s r q.attrs (map f q.attrs)) → a.whole ≡ b.whole
  same_whole f p q hp hq a b =
      let key_is : (u : Piece) → Contains (pieces spec r) u → (c : IsProjection spec s r u.attrs (map f u.attrs)) → map f (key_of spec r) ≡ key_value spec r c.whole = λ u hu c.
      cut-same f (columns_of spec r) (key_of spec r) c.whole (λ n k. cut-agree f (columns_of spec r) u.attrs c.whole c.row n (piece_key spec r wf l u hu n k)) in
      let rows = get_or s r [] in
      legal.keys r l a.whole b.whole ((has_decides rows a.whole).1 a.is_in) ((has_decides rows b.whole).1 b.is_in) (sym (key_is p hp a) ∙ key_is q hq b)

  pub joined_sound : (c : List Piece) → ((p : Piece) → Contains c p → Contains (pieces spec r) p) → holds_all (columns_of spec r) c ≡ true
      → (x : Row) → Contains (joined_pieces spec (sources_of spec s) r c) x → Contains (get_or s r []) x
  joined_sound c sub all x h =
      let src = sources_of spec s in
      let f = pieces_from spec src r c all x h in
      let n0 = wf.some_attribute r l in
      let p0 = holds_from (columns_of spec r) c all n0.0 n0.1 in
      let a0 = piece_row spec s wf st legal r p0.0 (sub p0.0 p0.1) (map f.at p0.0.attrs) (f.parts p0.0 p0.1) in
      let each : (n : Name) → Contains (columns_of spec r) n → f.at n ≡ value_of (columns_of spec r) a0.whole n = λ n k.
      let p = holds_from (columns_of spec r) c all n k in
      let a = piece_row spec s wf st legal r p.0 (sub p.0 p.1) (map f.at p.0.attrs) (f.parts p.0 p.1) in
      let e = same_whole f.at p.0 p0.0 (sub p.0 p.1) (sub p0.0 p0.1) a a0 in
      cut-agree f.at (columns_of spec r) p.0.attrs a.whole a.row n p.2 ∙ ap (λ z. value_of (columns_of spec r) z n) e in
      let is : a0.whole ≡ x = sym (f.row ∙ map_same f.at (value_of (columns_of spec r) a0.whole) (columns_of spec r) each ∙ fits-values (columns_of spec r) a0.whole (state_fits spec s wf st r l a0.whole a0.is_in)) in
      Contains-is a0.whole x (get_or s r []) is a0.is_in

  pub covered_sound : (x : Row) → Contains (covered spec (sources_of spec s) r) x → Contains (get_or s r []) x
  covered_sound x h =
      let a = flat_from (joined_pieces spec (sources_of spec s) r) (covers (columns_of spec r) (pieces spec r)) x h in
      let b = filter_from (is_cover (columns_of spec r)) (subsets (pieces spec r)) a.0 a.1 in
      joined_sound a.0 (subsets_members (pieces spec r) a.0 b.0) (and_parts (holds_all (columns_of spec r) a.0) _ b.1).0 x a.2

-- ---- minimal covers are enough

-- a cover among the pieces of c
pub record CoverOf (names : List Name) (c : List Piece) : Type 0 where
  pub pieces : List Piece
  pub is_in : Contains (subsets c) pieces
  pub covers : is_cover names pieces ≡ true

module _ (names : List Name) where
  smaller : (c : List Piece) → list_all (λ d. not (holds_all names d) || nat_eq (length d) (length c)) (subsets c) ≡ false
      → (d : List Piece) × Contains (subsets c) d × (holds_all names d ≡ true) × (length d < length c)
  smaller c e =
      let a = all_fails (λ d. not (holds_all names d) || nat_eq (length d) (length c)) (subsets c) e in
      let t = or_parts (not (holds_all names a.0)) (nat_eq (length a.0) (length c)) a.2 in
      let short : length a.0 ≤ length c = subsets_length c a.0 a.1 in
      let other : length a.0 ≡ length c → ⊥ = eqb-false (length a.0) (length c) t.1 in
      (a.0, a.1, not-false (holds_all names a.0) t.0, omega arith)

  cover_of : (k : ℕ) (c : List Piece) → length c < k → holds_all names c ≡ true → CoverOf names c
  cover_of zero c l h = absurd (omega arith)
  cover_of (suc k) c l h =
      elim (cases_Bool (list_all (λ d. not (holds_all names d) || nat_eq (length d) (length c)) (subsets c))) [
        | inl e ↦ record { pieces = c; is_in = subsets_self c; covers = and_from (holds_all names c) _ h e }
        | inr e ↦
            let d = smaller c e in
            let less : length d.0 < k = omega (arith, d.3) in
            let a = cover_of k d.0 less d.2 in
            record { pieces = a.pieces; is_in = subsets_trans c d.0 a.pieces d.1 a.is_in; covers = a.covers }
      ]

  pub cover_in : (c : List Piece) → holds_all names c ≡ true → CoverOf names c
  cover_in c h = cover_of (suc (length c)) c (omega arith) h

pub joined_smaller : (spec : Spec) (src : Sources) (r : ℕ) (c d : List Piece) → holds_all (columns_of spec r) c ≡ true → holds_all (columns_of spec r) d ≡ true → ((p : Piece) → Contains d p → Contains c p)
    → (x : Row) → Contains (joined_pieces spec src r c) x → Contains (joined_pieces spec src r d) x
joined_smaller spec src r c d hc hd sub x h =
    let f = pieces_from spec src r c hc x h in
    Contains-is (map f.at (columns_of spec r)) x (joined_pieces spec src r d) (sym f.row) (pieces_in spec src r d hd f.at (λ p k. f.parts p (sub p k)))

-- the join of any set of pieces that holds all attributes gives covered rows alone, in every state
pub joined_is_covered : (spec : Spec) (src : Sources) (r : ℕ) (c : List Piece) → Contains (subsets (pieces spec r)) c → holds_all (columns_of spec r) c ≡ true
    → (x : Row) → Contains (joined_pieces spec src r c) x → Contains (covered spec src r) x
joined_is_covered spec src r c sub hc x h =
    let a = cover_in (columns_of spec r) c hc in
    let hd : holds_all (columns_of spec r) a.pieces ≡ true = (and_parts (holds_all (columns_of spec r) a.pieces) _ a.covers).0 in
    flat_in (joined_pieces spec src r) (covers (columns_of spec r) (pieces spec r)) a.pieces x
    (filter_in (is_cover (columns_of spec r)) (subsets (pieces spec r)) a.pieces (subsets_trans (pieces spec r) c a.pieces sub a.is_in) a.covers)
    (joined_smaller spec src r c a.pieces hc hd (subsets_members c a.pieces a.is_in) x h)

-- ---- the relation is its complement and its covered rows

pub complement_from : (spec : Spec) (src : Sources) (r : ℕ) (x : Row) → Contains (complement spec src r) x → Contains (src.relation r).rows x × (Contains (covered spec src r) x → ⊥)
complement_from spec src r x h =
    let a = filter_from (λ y. not (has (covered spec src r) y)) (src.relation r).rows x h in
    (a.0, is_not (has (covered spec src r) x) (has_decides (covered spec src r) x) a.1)

pub complement_in : (spec : Spec) (src : Sources) (r : ℕ) (x : Row) → Contains (src.relation r).rows x → (Contains (covered spec src r) x → ⊥) → Contains (complement spec src r) x
complement_in spec src r x h k = filter_in (λ y. not (has (covered spec src r) y)) (src.relation r).rows x h (is_not_in (has (covered spec src r) x) (has_decides (covered spec src r) x) k)

module _ (spec : Spec) (s : State) (wf : WellFormed spec) (st : IsState spec s) (legal : Legal spec s) (r : ℕ) (l : r < length spec.relations) where
  to_parts : (x : Row) → Contains (get_or s r []) x → Contains (complement spec (sources_of spec s) r ++ covered spec (sources_of spec s) r) x
  to_parts x h =
      elim (row_is_in (covered spec (sources_of spec s) r) x) [
        | inl a ↦ Contains-append_right (complement spec (sources_of spec s) r) (covered spec (sources_of spec s) r) x a
        | inr a ↦ Contains-append_left (complement spec (sources_of spec s) r) (covered spec (sources_of spec s) r) x (complement_in spec (sources_of spec s) r x h a)
      ]

  from_parts : (x : Row) → Contains (complement spec (sources_of spec s) r ++ covered spec (sources_of spec s) r) x → Contains (get_or s r []) x
  from_parts x h =
      elim (Contains-append_cases (complement spec (sources_of spec s) r) (covered spec (sources_of spec s) r) x h) [
        | inl a ↦ (complement_from spec (sources_of spec s) r x a).0
        | inr a ↦ covered_sound spec s wf st legal r l x a
      ]

  pub relation_is_parts : SameRows (get_or s r []) (complement spec (sources_of spec s) r ++ covered spec (sources_of spec s) r)
  relation_is_parts = SameRows-from _ _ (λ x. (to_parts x, from_parts x))
