-- Reconstruction gives the state back.
use Rattle.std.proofs.Common.{◌≡◌, ℕ, ◌<◌, ◌+◌, List, [], ◌∷◌, ◌++◌, map, length, get_or, set, replicate, fold, Contains, refl, sym, ◌∙◌, ap, subst, inl, inr, arith}
use Rattle.std.proofs.lemmas.List.{get_or-set_same, get_or-set_other, length-set, length-replicate}
use Rattle.std.proofs.lemmas.List.Elements.{Contains-get_or, Contains-append_cases}
use Rattle.std.proofs.lemmas.Bool.{and_parts, cases_eq}
use Rattle.wh_schema.specs.declared.spec.Spec.{Spec}
use Rattle.wh_schema.specs.declared.piece.Piece.{Piece}
use Rattle.wh_schema.specs.declared.spec.Inclusion.{Inclusion}
use Rattle.wh_base.specs.Columns.{cut}
use Rattle.wh_base.specs.RowSet.{has, SameRows}
use Rattle.wh_base.specs.Tables.{Table, project, with_columns}
use Rattle.wh_base.proofs.InOrder.{SameMembers-from, SameRows-from, SameRows-in_order}
use Rattle.wh_base.proofs.RowSets.{SameRows-append, SameRows-map}
use Rattle.wh_schema.specs.Constraints.{Legal}
use Rattle.wh_schema.specs.Legality.{WellFormed, IsState}
use Rattle.wh_schema.specs.Reconstruction.{take_next, is_ready, order, given, reconstructed_rows, reconstruct_next, reconstructed, SameTables}
use Rattle.wh_schema.specs.Warehouse.{Row, State, SameState, Sources, sources_of, columns_of, inclusion_at, view_table, pieces, view_piece, inclusion_piece, piece_base, piece_table, subsets, holds_all, is_cover, covers, joined_pieces, covered, complement, stored, numbers}
use Rattle.wh_laws.proofs.Lists.{Contains-nil, Contains-cases, Contains-is, filter_from, flat_in, flat_from}
use Rattle.wh_laws.proofs.Pieces.{piece_from, numbers_from}
use Rattle.wh_laws.proofs.Covered.{pieces_from, pieces_in, relation_is_parts}
use Rattle.wh_laws.proofs.Subsets.{subsets_members}
use Rattle.wh_laws.proofs.Stored.{stored_view, stored_complement}
use Rattle.wh_laws.proofs.Order.{step, iterate_keeps, Ready, ready_from, order_whole}

-- ---- lists with the same rows

pub same_rows_is : (xs ys : List Row) → xs ≡ ys → SameRows xs ys
same_rows_is xs ys e x = ap (λ rows. has rows x) e

pub same_rows_sym : (xs ys : List Row) → SameRows xs ys → SameRows ys xs
same_rows_sym xs ys h x = sym (h x)

pub same_rows_trans : (xs ys zs : List Row) → SameRows xs ys → SameRows ys zs → SameRows xs zs
same_rows_trans xs ys zs h k x = h x ∙ k x

-- ---- sources that agree on what the pieces of a relation are made of

pub record SameTable (t u : Table) : Type 0 where
  pub columns : t.columns ≡ u.columns
  pub rows : SameRows t.rows u.rows

pub record Agree (spec : Spec) (r : ℕ) (a b : Sources) : Type 0 where
  pub views : (j : ℕ) → j < length spec.views → SameTable (a.view j) (b.view j)
  pub sources : (c : Inclusion) → Contains spec.inclusions c → c.to ≡ r → SameTable (a.relation c.from) (b.relation c.from)

pub agree_sym : (spec : Spec) (r : ℕ) (a b : Sources) → Agree spec r a b → Agree spec r b a
agree_sym spec r a b h = record {
  views = λ j l. record { columns = sym (h.views j l).columns; rows = same_rows_sym _ _ (h.views j l).rows };
  sources = λ c k e. record { columns = sym (h.sources c k e).columns; rows = same_rows_sym _ _ (h.sources c k e).rows };
}

project_same : (names : List (List ℕ)) (t u : Table) → SameTable t u → SameRows (project names t).rows (project names u).rows
project_same names t u h =
    same_rows_trans _ _ _ (SameRows-map (cut t.columns names) t.rows u.rows h.rows)
    (same_rows_is _ _ (ap (λ k. map (cut k names) u.rows) h.columns))

module _ (spec : Spec) (r : ℕ) (a b : Sources) (agree : Agree spec r a b) where
  pub piece_same : (p : Piece) → Contains (pieces spec r) p → SameRows (piece_table spec a p).rows (piece_table spec b p).rows
  piece_same p h =
      let P : Piece → Type 0 = λ q. SameRows (project q.attrs (piece_base spec a q.source)).rows (project q.attrs (piece_base spec b q.source)).rows in
      elim (piece_from spec r p h) [
        | inl f ↦ subst P f.is (project_same (view_piece spec r f.number).attrs (a.view f.number) (b.view f.number) (agree.views f.number f.within))
        | inr f ↦
            let c = inclusion_at spec f.number in
            let same = agree.sources c (Contains-get_or spec.inclusions f.number _ f.within) f.target in
            subst P f.is (project_same (inclusion_piece spec r f.number).attrs
            (with_columns c.to_cols (project c.from_cols (a.relation c.from))) (with_columns c.to_cols (project c.from_cols (b.relation c.from)))
            (record { columns = refl; rows = project_same c.from_cols (a.relation c.from) (b.relation c.from) same }))
      ]

  pub covered_into : (x : Row) → Contains (covered spec a r) x → Contains (covered spec b r) x
  covered_into x h =
      let c = flat_from (joined_pieces spec a r) (covers (columns_of spec r) (pieces spec r)) x h in
      let t = filter_from (is_cover (columns_of spec r)) (subsets (pieces spec r)) c.0 c.1 in
      let all = (and_parts (holds_all (columns_of spec r) c.0) _ t.1).0 in
      let f = pieces_from spec a r c.0 all x c.2 in
      flat_in (joined_pieces spec b r) (covers (columns_of spec r) (pieces spec r)) c.0 x c.1
      (Contains-is (map f.at (columns_of spec r)) x (joined_pieces spec b r c.0) (sym f.row)
      (pieces_in spec b r c.0 all f.at (λ p k. (SameMembers-from _ _ (piece_same p (subsets_members (pieces spec r) c.0 t.0 p k)) (map f.at p.attrs)).0 (f.parts p k))))

pub covered_same : (spec : Spec) (r : ℕ) (a b : Sources) → Agree spec r a b → SameRows (covered spec a r) (covered spec b r)
covered_same spec r a b h = SameRows-from _ _ (λ x. (covered_into spec r a b h x, covered_into spec r b a (agree_sym spec r a b h) x))

-- ---- reconstruction

fold-append : {A B : Type 0} (f : B → A → B) (b : B) (xs ys : List A) → fold f b (xs ++ ys) ≡ fold f (fold f b xs) ys
fold-append f b [] ys = refl
fold-append f b (x ∷ xs) ys = fold-append f (f b x) xs ys

-- what has been given back so far
pub record GivenBack (spec : Spec) (s : State) (taken : List ℕ) (b : State) : Type 0 where
  pub width : length b ≡ length spec.relations
  pub below : (r : ℕ) → Contains taken r → r < length spec.relations
  pub right : (r : ℕ) → Contains taken r → SameRows (get_or b r []) (get_or s r [])

module _ (spec : Spec) (s : State) (wf : WellFormed spec) (st : IsState spec s) (legal : Legal spec s) (tables : List (List Row)) (same : SameTables tables (stored spec s)) where
  views_agree : (b : State) (j : ℕ) → j < length spec.views → SameTable ((given spec tables b).view j) ((sources_of spec s).view j)
  views_agree b j l = record {
    columns = refl;
    rows = same_rows_trans _ _ _ (same j)
        (same_rows_trans _ _ _ (same_rows_is _ _ (stored_view spec s j l)) (SameRows-in_order (view_table spec s j).rows));
  }

  given_agrees : (taken : List ℕ) (b : State) (r : ℕ) → GivenBack spec s taken b → Ready spec taken r → Agree spec r (given spec tables b) (sources_of spec s)
  given_agrees taken b r g ready = record {
    views = views_agree b;
    sources = λ c k e. record { columns = refl; rows = g.right c.from (ready.sources c k e) };
  }

  rows_given : (taken : List ℕ) (b : State) (r : ℕ) → r < length spec.relations → GivenBack spec s taken b → Ready spec taken r → SameRows (reconstructed_rows spec tables b r) (get_or s r [])
  rows_given taken b r l g ready =
      let kept : SameRows (get_or tables (length spec.views + r) []) (complement spec (sources_of spec s) r) =
      same_rows_trans _ _ _ (same (length spec.views + r))
      (same_rows_trans _ _ _ (same_rows_is _ _ (stored_complement spec s r l)) (SameRows-in_order (complement spec (sources_of spec s) r))) in
      same_rows_trans _ _ _
      (SameRows-append _ _ _ _ kept (covered_same spec r (given spec tables b) (sources_of spec s) (given_agrees taken b r g ready)))
      (same_rows_sym _ _ (relation_is_parts spec s wf st legal r l))

  more_given : (taken : List ℕ) (b : State) (r : ℕ) → r < length spec.relations → GivenBack spec s taken b → Ready spec taken r → GivenBack spec s (taken ++ r ∷ []) (reconstruct_next spec tables b r)
  more_given taken b r l g ready = record {
    width = length-set b r (reconstructed_rows spec tables b r) ∙ g.width;
    below = λ q k. elim (Contains-append_cases taken (r ∷ []) q k) [
      | inl h ↦ g.below q h
      | inr h ↦ elim (Contains-cases r q [] h) [ inl e ↦ let P : ℕ → Type 0 = λ n. n < length spec.relations in subst P e l | inr z ↦ absurd (Contains-nil q z) ]
    ];
    right = λ q k.
        let at_r : get_or (set b r (reconstructed_rows spec tables b r)) r [] ≡ reconstructed_rows spec tables b r =
        get_or-set_same b r (reconstructed_rows spec tables b r) [] (omega (arith, g.width)) in
        elim (cases_eq q r) [
          | inl e ↦
              let P : ℕ → Type 0 = λ n. SameRows (get_or (set b r (reconstructed_rows spec tables b r)) n []) (get_or s n []) in
              subst P (sym e) (same_rows_trans _ _ _ (same_rows_is _ _ at_r) (rows_given taken b r l g ready))
          | inr n ↦
              elim (Contains-append_cases taken (r ∷ []) q k) [
                | inl h ↦ same_rows_trans _ _ _ (same_rows_is _ _ (get_or-set_other b r q (reconstructed_rows spec tables b r) [] n)) (g.right q h)
                | inr h ↦ elim (Contains-cases r q [] h) [ inl e ↦ absurd (n (sym e)) | inr z ↦ absurd (Contains-nil q z) ]
              ]
        ];
  }

  so_far : List ℕ → State
  so_far taken = fold (reconstruct_next spec tables) (replicate (length spec.relations) []) taken

  given_kept : (taken : List ℕ) → GivenBack spec s taken (so_far taken)
      → GivenBack spec s (take_next (is_ready spec) (numbers (length spec.relations)) taken) (so_far (take_next (is_ready spec) (numbers (length spec.relations)) taken))
  unfolding so_far
  given_kept taken g =
      let P : List ℕ → Type 0 = λ t. GivenBack spec s t (so_far t) in
      elim (step (is_ready spec) (numbers (length spec.relations)) taken) [
        | inl a ↦
            let Q : State → Type 0 = GivenBack spec s (taken ++ a.number ∷ []) in
            let e = fold-append (reconstruct_next spec tables) (replicate (length spec.relations) []) taken (a.number ∷ []) in
            subst P (sym a.is) (subst Q (sym e)
            (more_given taken (so_far taken) a.number (numbers_from (length spec.relations) a.number a.is_candidate) g (ready_from spec taken a.number a.passes)))
        | inr a ↦ subst P (sym a.is) g
      ]

  all_given : GivenBack spec s (order spec) (reconstructed spec tables)
  unfolding so_far
  all_given =
      iterate_keeps (λ t. GivenBack spec s t (so_far t)) (take_next (is_ready spec) (numbers (length spec.relations))) given_kept (length spec.relations) []
      (record {
        width = length-replicate (length spec.relations) [];
        below = λ r k. absurd (Contains-nil r k);
        right = λ r k. absurd (Contains-nil r k);
      })

  pub reconstruction_gives : SameState spec (reconstructed spec tables) s
  reconstruction_gives i l = all_given.right i (order_whole spec wf i l)

-- ---- the state is the only one with its stored tables

pub only_state : (spec : Spec) (s t : State) → WellFormed spec → IsState spec s → IsState spec t → Legal spec s → Legal spec t → SameTables (stored spec s) (stored spec t) → SameState spec s t
only_state spec s t wf ss st ls lt h i l =
    same_rows_trans _ _ _
    (same_rows_sym _ _ (reconstruction_gives spec s wf ss ls (stored spec s) (λ k. same_rows_is _ _ refl) i l))
    (reconstruction_gives spec t wf st lt (stored spec s) h i l)
