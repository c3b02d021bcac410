-- In a legal state the pieces of a relation are projections of its rows.
use Rattle.std.proofs.Common.{◌≡◌, ◌⊎◌, ℕ, ◌<◌, nat_eq, List, [], map, filter, length, get_or, Contains, refl, sym, ◌∙◌, subst, inl, inr, arith, zero-add}
use Rattle.std.specs.List.{list_any}
use Rattle.std.proofs.lemmas.List.Elements.{Contains-get_or, Contains-append_left, Contains-append_cases}
use Rattle.std.proofs.lemmas.List.FromFn.{length-range_with_len, get_or-range_with_len}
use Rattle.std.proofs.lemmas.Bool.{and_parts, and_from, eqb-true, eq-eqb}
use Rattle.wh_base.specs.Columns.{all_in, shared, value_of, cut}
use Rattle.wh_schema.specs.declared.piece.Piece.{Piece}
use Rattle.wh_schema.specs.declared.spec.Spec.{Spec}
use Rattle.wh_schema.specs.Constraints.{Legal}
use Rattle.wh_schema.specs.Legality.{WellFormed, IsState}
use Rattle.wh_schema.specs.Warehouse.{Row, State, sources_of, columns_of, key_of, view_at, inclusion_at, view_table, numbers, pieces, view_piece, inclusion_piece, is_usable_view, is_usable_inclusion, piece_table}
use Rattle.wh_laws.proofs.Lists.{Contains-is, filter_in, filter_from, any_from, any_in, map_in, map_from}
use Rattle.wh_laws.proofs.Equality.{Name, has_decides, shared_in, shared_from, all_in_from, all_in_when}
use Rattle.wh_laws.proofs.Joins.{cut-values, cut-map, cut-is}
use Rattle.wh_laws.proofs.Views.{view_from}

-- ---- numbers

pub numbers_from : (n i : ℕ) → Contains (numbers n) i → i < n
numbers_from n i h =
    let l : h.0 < n = omega (arith, h.1, length-range_with_len 0 n) in
    let e : h.0 ≡ i = sym (zero-add h.0) ∙ sym (get_or-range_with_len 0 n h.0 i l) ∙ h.2 in
    omega arith

pub numbers_in : (n i : ℕ) → i < n → Contains (numbers n) i
numbers_in n i l = (i, omega (arith, length-range_with_len 0 n), get_or-range_with_len 0 n i i l ∙ zero-add i)

-- ---- where a piece comes from

pub record FromView (spec : Spec) (r : ℕ) (p : Piece) : Type 0 where
  pub number : ℕ
  pub within : number < length spec.views
  pub member : Contains (view_at spec number).relations r
  pub key : (n : Name) → Contains (key_of spec r) n → Contains (view_at spec number).head n
  pub is : view_piece spec r number ≡ p

pub record FromInclusion (spec : Spec) (r : ℕ) (p : Piece) : Type 0 where
  pub number : ℕ
  pub within : number < length spec.inclusions
  pub target : (inclusion_at spec number).to ≡ r
  pub key : (n : Name) → Contains (key_of spec r) n → Contains (inclusion_at spec number).to_cols n
  pub is : inclusion_piece spec r number ≡ p

module _ (spec : Spec) (r : ℕ) where
  pub piece_from : (p : Piece) → Contains (pieces spec r) p → FromView spec r p ⊎ FromInclusion spec r p
  piece_from p h =
      elim (Contains-append_cases (map (view_piece spec r) (filter (is_usable_view spec r) (numbers (length spec.views)))) _ p h) [
        | inl a ↦
            let b = map_from (view_piece spec r) (filter (is_usable_view spec r) (numbers (length spec.views))) p a in
            let c = filter_from (is_usable_view spec r) (numbers (length spec.views)) b.0 b.1 in
            let t = and_parts (list_any (nat_eq r) (view_at spec b.0).relations) (all_in (view_at spec b.0).head (key_of spec r)) c.1 in
            let m = any_from (nat_eq r) (view_at spec b.0).relations t.0 in
            inl (record {
              number = b.0;
              within = numbers_from (length spec.views) b.0 c.0;
              member = Contains-is m.0 r (view_at spec b.0).relations (sym (eqb-true r m.0 m.2)) m.1;
              key = all_in_from (view_at spec b.0).head (key_of spec r) t.1;
              is = b.2;
            })
        | inr a ↦
            let b = map_from (inclusion_piece spec r) (filter (is_usable_inclusion spec r) (numbers (length spec.inclusions))) p a in
            let c = filter_from (is_usable_inclusion spec r) (numbers (length spec.inclusions)) b.0 b.1 in
            let t = and_parts (nat_eq (inclusion_at spec b.0).to r) (all_in (inclusion_at spec b.0).to_cols (key_of spec r)) c.1 in
            inr (record {
              number = b.0;
              within = numbers_from (length spec.inclusions) b.0 c.0;
              target = eqb-true (inclusion_at spec b.0).to r t.0;
              key = all_in_from (inclusion_at spec b.0).to_cols (key_of spec r) t.1;
              is = b.2;
            })
      ]

  pub view_piece_in : (j : ℕ) → j < length spec.views → Contains (view_at spec j).relations r → ((n : Name) → Contains (key_of spec r) n → Contains (view_at spec j).head n) → Contains (pieces spec r) (view_piece spec r j)
  view_piece_in j l m k =
      Contains-append_left (map (view_piece spec r) (filter (is_usable_view spec r) (numbers (length spec.views)))) _ (view_piece spec r j)
      (map_in (view_piece spec r) (filter (is_usable_view spec r) (numbers (length spec.views))) j
      (filter_in (is_usable_view spec r) (numbers (length spec.views)) j (numbers_in (length spec.views) j l)
      (and_from (list_any (nat_eq r) (view_at spec j).relations) (all_in (view_at spec j).head (key_of spec r))
      (any_in (nat_eq r) (view_at spec j).relations r m (eq-eqb r r refl))
      (all_in_when (view_at spec j).head (key_of spec r) k))))

  pub piece_key : WellFormed spec → r < length spec.relations → (p : Piece) → Contains (pieces spec r) p → (n : Name) → Contains (key_of spec r) n → Contains p.attrs n
  piece_key wf l p h n k =
      let P : Piece → Type 0 = λ q. Contains q.attrs n in
      elim (piece_from p h) [
        | inl a ↦ subst P a.is (shared_in (view_at spec a.number).head (columns_of spec r) n (a.key n k) (wf.key r l n k))
        | inr a ↦ subst P a.is (shared_in (inclusion_at spec a.number).to_cols (columns_of spec r) n (a.key n k) (wf.key r l n k))
      ]

-- ---- the rows of a piece

-- a row that is the projection of a row of the relation
pub record IsProjection (spec : Spec) (s : State) (r : ℕ) (names : List Name) (w : Row) : Type 0 where
  pub whole : Row
  pub is_in : Contains (get_or s r []) whole
  pub row : w ≡ cut (columns_of spec r) names whole

module _ (spec : Spec) (s : State) (wf : WellFormed spec) (st : IsState spec s) where
  view_piece_row : (r j : ℕ) → j < length spec.views → Contains (view_at spec j).relations r → (w : Row)
      → Contains (piece_table spec (sources_of spec s) (view_piece spec r j)).rows w → IsProjection spec s r (shared (view_at spec j).head (columns_of spec r)) w
  view_piece_row r j l m w h =
      let head = (view_at spec j).head in
      let names = shared head (columns_of spec r) in
      let a = map_from (cut head names) (view_table spec s j).rows w h in
      let b = view_from spec s wf st j l a.0 a.1 in
      record {
        whole = map b.at (columns_of spec r);
        is_in = b.parts r m;
        row = sym a.2 ∙ cut-is b.at head names a.0 b.row (λ n k. (shared_from head (columns_of spec r) n k).0)
            ∙ sym (cut-map b.at (columns_of spec r) names (λ n k. (shared_from head (columns_of spec r) n k).1));
      }

  inclusion_piece_row : Legal spec s → (r i : ℕ) → i < length spec.inclusions → (inclusion_at spec i).to ≡ r → (w : Row)
      → Contains (piece_table spec (sources_of spec s) (inclusion_piece spec r i)).rows w → IsProjection spec s r (shared (inclusion_at spec i).to_cols (columns_of spec r)) w
  inclusion_piece_row legal r i l e w h =
      let c = inclusion_at spec i in
      let names = shared c.to_cols (columns_of spec r) in
      let a = map_from (cut c.to_cols names) (map (cut (columns_of spec c.from) c.from_cols) (get_or s c.from [])) w h in
      let b = map_from (cut (columns_of spec c.from) c.from_cols) (get_or s c.from []) a.0 a.1 in
      let z = legal.inclusions c (Contains-get_or spec.inclusions i _ l) b.0 ((has_decides (get_or s c.from []) b.0).1 b.1) in
      let g = value_of (columns_of spec c.to) z.0 in
      let P : ℕ → Type 0 = λ t. IsProjection spec s t (shared c.to_cols (columns_of spec r)) w in
      let row : w ≡ cut (columns_of spec c.to) names z.0 =
      sym a.2 ∙ cut-is g c.to_cols names a.0 (sym b.2 ∙ z.2 ∙ cut-values (columns_of spec c.to) c.to_cols z.0) (λ n k. (shared_from c.to_cols (columns_of spec r) n k).0)
      ∙ sym (cut-values (columns_of spec c.to) names z.0) in
      subst P e (record { whole = z.0; is_in = (has_decides (get_or s c.to []) z.0).0 z.1; row = row })

  pub piece_row : Legal spec s → (r : ℕ) (p : Piece) → Contains (pieces spec r) p → (w : Row) → Contains (piece_table spec (sources_of spec s) p).rows w → IsProjection spec s r p.attrs w
  piece_row legal r p h w k =
      let P : Piece → Type 0 = λ q. Contains (piece_table spec (sources_of spec s) q).rows w → IsProjection spec s r q.attrs w in
      elim (piece_from spec r p h) [
        | inl a ↦ subst P a.is (view_piece_row r a.number a.within a.member w) k
        | inr a ↦ subst P a.is (inclusion_piece_row legal r a.number a.within a.target w) k
      ]
