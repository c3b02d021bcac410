-- What holds of each value of views, and along inclusions, holds of each value of the rows that covers give.
use Rattle.std.proofs.Common.{◌≡◌, ℕ, suc, ◌<◌, Bool, true, false, List, [], ◌∷◌, map, length, get_or, Contains, refl, sym, ◌∙◌, ap, subst, inl, inr, if◌then◌else◌, arith}
use Rattle.std.proofs.lemmas.Bool.{and_parts, true≢false}
use Rattle.std.proofs.lemmas.List.Elements.{Contains-get_or}
use Rattle.wh_base.specs.declared.value.Value.{Value}
use Rattle.wh_base.specs.Columns.{cut, name_eq, place_of, shared, value_at, value_of}
use Rattle.wh_schema.specs.declared.piece.Piece.{Piece}
use Rattle.wh_schema.specs.declared.spec.Inclusion.{Inclusion}
use Rattle.wh_schema.specs.declared.spec.Spec.{Spec}
use Rattle.wh_schema.specs.Legality.{WellFormed}
use Rattle.wh_schema.specs.Warehouse.{Row, Sources, columns_of, covered, covers, holds_all, inclusion_at, inclusion_piece, is_cover, joined_pieces, no_inclusion, piece_table, pieces, subsets, view_at, view_piece}
use Rattle.wh_laws.proofs.Acceptance.{place_below}
use Rattle.wh_laws.proofs.Covered.{holds_from, pieces_from}
use Rattle.wh_laws.proofs.Equality.{Name, name_eq_decides, shared_from}
use Rattle.wh_laws.proofs.Joins.{cut-agree, cut-values}
use Rattle.wh_laws.proofs.Lists.{Contains-nil, Contains-cases, filter_from, flat_from, map_from}
use Rattle.wh_laws.proofs.Pieces.{piece_from}
use Rattle.wh_laws.proofs.Subsets.{subsets_members}
use Rattle.wh_fit.proofs.Carried.{value_at-map}

-- the name at the place of a name
place_is : (names : List Name) (n : Name) → Contains names n → get_or names (place_of names n) [] ≡ n
place_is [] n k = absurd (Contains-nil n k)
place_is (m ∷ names) n k = by (name_eq n m) refl (place_is names n)
  where
    by : (b : Bool) → name_eq n m ≡ b → (Contains names n → get_or names (place_of names n) [] ≡ n) → get_or (m ∷ names) (if b then 0 else suc (place_of names n)) [] ≡ n
    by true e more = sym ((name_eq_decides n m).0 e)
    by false e more =
        more (elim (Contains-cases m n names k) [
          | inl same ↦ absurd (true≢false (sym ((name_eq_decides n m).1 (sym same)) ∙ e))
          | inr l ↦ l
        ])

-- the rows of relations and of views, as sources
abbrev pub of_rows : Spec → (ℕ → List Row) → (ℕ → List Row) → Sources
of_rows spec relation view = record {
  relation = λ i. record { columns = columns_of spec i; rows = relation i };
  view = λ j. record { columns = (view_at spec j).head; rows = view j };
}

-- a claim of values under the names of relations, which holds of the rows of views, and along inclusions
pub record HoldsOfViews (spec : Spec) (view : ℕ → List Row) (Q : ℕ → Name → Value → Type 0) : Type 0 where
  pub views : (j : ℕ) → j < length spec.views → (w : Row) → Contains (view j) w → (r : ℕ) → Contains (view_at spec j).relations r
      → (n : Name) → Contains (view_at spec j).head n → Contains (columns_of spec r) n → Q r n (value_of (view_at spec j).head w n)
  pub inclusions : (c : Inclusion) → Contains spec.inclusions c → (p : ℕ) → p < length c.to_cols → (v : Value) → Q c.from (get_or c.from_cols p []) v → Q c.to (get_or c.to_cols p []) v

module _ (spec : Spec) (wf : WellFormed spec) (Q : ℕ → Name → Value → Type 0) where
  -- the claim of the rows of a relation
  abbrev pub OfRows : (ℕ → List Row) → ℕ → Type 0
  OfRows relation r = (x : Row) → Contains (relation r) x → (n : Name) → Contains (columns_of spec r) n → Q r n (value_of (columns_of spec r) x n)

  -- the values of a row of a relation by their names, with the claim of each
  abbrev pub IsMade : ℕ → Row → Type 0
  IsMade r x = (f : Name → Value) × (x ≡ map f (columns_of spec r)) × ((n : Name) → Contains (columns_of spec r) n → Q r n (f n))

  module _ (relation view : ℕ → List Row) (holds : HoldsOfViews spec view Q) where
    of_view_piece : (r j : ℕ) → j < length spec.views → Contains (view_at spec j).relations r → (at : Name → Value) (n : Name)
        → Contains (shared (view_at spec j).head (columns_of spec r)) n
        → Contains (piece_table spec (of_rows spec relation view) (view_piece spec r j)).rows (map at (shared (view_at spec j).head (columns_of spec r))) → Q r n (at n)
    of_view_piece r j l m at n k h =
        let head = (view_at spec j).head in
        let names = shared head (columns_of spec r) in
        let w = map_from (cut head names) (view j) (map at names) h in
        let same : at n ≡ value_of head w.0 n = cut-agree at head names w.0 (sym w.2) n k in
        let both = shared_from head (columns_of spec r) n k in
        subst (Q r n) (sym same) (holds.views j l w.0 w.1 r m n both.0 both.1)

    of_inclusion_piece : (i : ℕ) → i < length spec.inclusions → OfRows relation (inclusion_at spec i).from → (at : Name → Value) (n : Name)
        → Contains (shared (inclusion_at spec i).to_cols (columns_of spec (inclusion_at spec i).to)) n
        → Contains (piece_table spec (of_rows spec relation view) (inclusion_piece spec (inclusion_at spec i).to i)).rows (map at (shared (inclusion_at spec i).to_cols (columns_of spec (inclusion_at spec i).to)))
        → Q (inclusion_at spec i).to n (at n)
    of_inclusion_piece i l left at n k h =
        let c = inclusion_at spec i in
        let f = wf.inclusions c (Contains-get_or spec.inclusions i no_inclusion l) in
        let columns = columns_of spec c.from in
        let names = shared c.to_cols (columns_of spec c.to) in
        let z = map_from (cut c.to_cols names) (map (cut columns c.from_cols) (relation c.from)) (map at names) h in
        let y = map_from (cut columns c.from_cols) (relation c.from) z.0 z.1 in
        let in_to : Contains c.to_cols n = (shared_from c.to_cols (columns_of spec c.to) n k).0 in
        let p = place_of c.to_cols n in
        let below : p < length c.to_cols = place_below c.to_cols n in_to in
        let left_below : p < length c.from_cols = omega (arith, below, f.width) in
        let m = get_or c.from_cols p [] in
        let value : at n ≡ value_of columns y.0 m =
        cut-agree at c.to_cols names z.0 (sym z.2) n k ∙ ap (λ row. value_at row p) (sym y.2 ∙ cut-values columns c.from_cols y.0) ∙ value_at-map (value_of columns y.0) c.from_cols p left_below in
        let there = left y.0 y.1 m (f.left_columns m (Contains-get_or c.from_cols p [] left_below)) in
        let here = holds.inclusions c (Contains-get_or spec.inclusions i no_inclusion l) p below (value_of columns y.0 m) there in
        let named : Q c.to n (value_of columns y.0 m) = subst (λ q. Q c.to q (value_of columns y.0 m)) (place_is c.to_cols n in_to) here in
        subst (Q c.to n) (sym value) named

    of_piece : (r : ℕ) → ((c : Inclusion) → Contains spec.inclusions c → c.to ≡ r → OfRows relation c.from) → (q : Piece) → Contains (pieces spec r) q → (at : Name → Value) (n : Name)
        → Contains q.attrs n → Contains (piece_table spec (of_rows spec relation view) q).rows (map at q.attrs) → Q r n (at n)
    of_piece r left q h at n k row =
        let src = of_rows spec relation view in
        let P : Piece → Type 0 = λ u. Contains u.attrs n → Contains (piece_table spec src u).rows (map at u.attrs) → Q r n (at n) in
        elim (piece_from spec r q h) [
          | inl a ↦ subst P a.is (of_view_piece r a.number a.within a.member at n) k row
          | inr a ↦
              let c = inclusion_at spec a.number in
              let R : ℕ → Type 0 = λ t. Contains (shared c.to_cols (columns_of spec t)) n → Contains (piece_table spec src (inclusion_piece spec t a.number)).rows (map at (shared c.to_cols (columns_of spec t))) → Q t n (at n) in
              let one : R r = subst R a.target (of_inclusion_piece a.number a.within (left c (Contains-get_or spec.inclusions a.number no_inclusion a.within) a.target) at n) in
              subst P a.is one k row
        ]

    -- a row that the covers of a relation give
    pub of_covered : (r : ℕ) → ((c : Inclusion) → Contains spec.inclusions c → c.to ≡ r → OfRows relation c.from) → (x : Row) → Contains (covered spec (of_rows spec relation view) r) x → IsMade r x
    of_covered r left x h =
        let src = of_rows spec relation view in
        let columns = columns_of spec r in
        let a = flat_from (joined_pieces spec src r) (covers columns (pieces spec r)) x h in
        let b = filter_from (is_cover columns) (subsets (pieces spec r)) a.0 a.1 in
        let all = (and_parts (holds_all columns a.0) _ b.1).0 in
        let f = pieces_from spec src r a.0 all x a.2 in (
          f.at,
          f.row,
          λ n k.
              let q = holds_from columns a.0 all n k in
              of_piece r left q.0 (subsets_members (pieces spec r) a.0 b.0 q.0 q.1) f.at n q.2 (f.parts q.0 q.1),
        )
