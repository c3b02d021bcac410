-- Where the pieces of a cover come from, and what they give together.
use Rattle.std.proofs.Common.{◌≡◌, ℕ, suc, ◌+◌, ◌-◌, ◌<◌, ◌≤◌, Bool, true, false, ◌&&◌, ◌||◌, List, [], ◌∷◌, ◌++◌, map, filter, length, get_or, take, Contains, refl, sym, ap, subst, ◌∙◌, arith, inl, inr, append_assoc}
use Rattle.std.specs.List.{list_any, flat_map}
use Rattle.std.proofs.lemmas.Bool.{and_parts}
use Rattle.std.proofs.lemmas.List.{take_more, append-nil}
use Rattle.std.proofs.lemmas.List.Elements.{Contains-get_or, All-contains}
use Rattle.std.proofs.lemmas.Grind.{flat_map-append}
use Rattle.wh_base.specs.declared.value.Value.{Value}
use Rattle.wh_base.specs.Columns.{is_in, all_in, shared, cut}
use Rattle.wh_base.specs.RowSet.{has, SameRows}
use Rattle.wh_base.specs.Tables.{Table, matching}
use Rattle.wh_base.specs.Value.{row_eq}
use Rattle.wh_base.proofs.RowSets.{has-append, has-filter, SameRows-append}
use Rattle.wh_plan.specs.Held.{AreNumbers}
use Rattle.wh_plan.specs.Plan.{relation_covers}
use Rattle.wh_plan.proofs.HeldLemmas.{cover_numbers_held}
use Rattle.wh_schema.specs.declared.piece.Piece.{Piece}
use Rattle.wh_schema.specs.declared.piece.PieceSource.TheVariants as source
use Rattle.wh_schema.specs.declared.spec.Spec.{Spec}
use Rattle.wh_schema.specs.Warehouse.{Row, Sources, numbers, columns_of, view_at, inclusion_at, pieces, piece_base, piece_table, subsets, holds_all, is_cover, pieces_at, covered, joined_pieces}
use Rattle.wh_schema.proofs.CoverNumbers.{cover_numbers_are}
use Rattle.wh_laws.proofs.Equality.{all_in_when, shared_from}
use Rattle.wh_laws.proofs.Lists.{filter_from, map_map}
use Rattle.wh_laws.proofs.Pieces.{piece_from}
use Rattle.wh_inverse.specs.Asked.{piece_numbered}
use Rattle.wh_inverse.proofs.Tests.{any-map, all-named}
use Rattle.wh_inverse.proofs.Assignments.{Fits, Fits-project}
use Rattle.wh_inverse.proofs.CoverLemmas.{IsCovered}

-- ---- one piece

shared_within : (names columns : List (List ℕ)) → all_in names (shared names columns) ≡ true
shared_within names columns = all_in_when names (shared names columns) (λ n k. (shared_from names columns n k).0)

module _ (spec : Spec) (r : ℕ) (p : Piece) (h : Contains (pieces spec r) p) where
  record IsViewPiece (j : ℕ) : Type 0 where
    within : j < length spec.views
    names : all_in (view_at spec j).head p.attrs ≡ true

  view-piece : (j : ℕ) → p.source ≡ source.View j → IsViewPiece j
  view-piece j e =
      elim (piece_from spec r p h) [
        | inl a ↦
            let same : a.number ≡ j = cc (a.is, e) in
            let attrs : shared (view_at spec a.number).head (columns_of spec r) ≡ p.attrs = ap (λ (q : Piece). q.attrs) a.is in
            let P : ℕ → Type 0 = IsViewPiece in
            subst P same (record {
              within = a.within;
              names = ap (all_in (view_at spec a.number).head) (sym attrs) ∙ shared_within (view_at spec a.number).head (columns_of spec r);
            })
        | inr a ↦ absurd (cc (a.is, e))
      ]

  pub view-within : (j : ℕ) → p.source ≡ source.View j → j < length spec.views
  view-within j e = (view-piece j e).within

  pub view-names : (j : ℕ) → p.source ≡ source.View j → all_in (view_at spec j).head p.attrs ≡ true
  view-names j e = (view-piece j e).names

  record IsInclusionPiece (i : ℕ) : Type 0 where
    within : i < length spec.inclusions
    target : (inclusion_at spec i).to ≡ r
    names : all_in (inclusion_at spec i).to_cols p.attrs ≡ true

  inclusion-piece : (i : ℕ) → p.source ≡ source.Inclusion i → IsInclusionPiece i
  inclusion-piece i e =
      elim (piece_from spec r p h) [
        | inl a ↦ absurd (cc (a.is, e))
        | inr a ↦
            let same : a.number ≡ i = cc (a.is, e) in
            let attrs : shared (inclusion_at spec a.number).to_cols (columns_of spec r) ≡ p.attrs = ap (λ (q : Piece). q.attrs) a.is in
            let P : ℕ → Type 0 = IsInclusionPiece in
            subst P same (record {
              within = a.within;
              target = a.target;
              names = ap (all_in (inclusion_at spec a.number).to_cols) (sym attrs) ∙ shared_within (inclusion_at spec a.number).to_cols (columns_of spec r);
            })
      ]

  pub inclusion-within : (i : ℕ) → p.source ≡ source.Inclusion i → i < length spec.inclusions
  inclusion-within i e = (inclusion-piece i e).within

  pub inclusion-target : (i : ℕ) → p.source ≡ source.Inclusion i → (inclusion_at spec i).to ≡ r
  inclusion-target i e = (inclusion-piece i e).target

  pub inclusion-names : (i : ℕ) → p.source ≡ source.Inclusion i → all_in (inclusion_at spec i).to_cols p.attrs ≡ true
  inclusion-names i e = (inclusion-piece i e).names

-- ---- one cover

pub cover-numbers : (spec : Spec) (r : ℕ) (c : List ℕ) → Contains (relation_covers spec r) c → AreNumbers (length (pieces spec r)) c
cover-numbers spec r c h = All-contains (AreNumbers (length (pieces spec r))) (relation_covers spec r) c (cover_numbers_held (columns_of spec r) (pieces spec r)) h

-- a number of a cover is that of a piece
pub numbered-in : (ps : List Piece) (i : ℕ) → 0 < i → i ≤ length ps → Contains ps (piece_numbered ps i)
numbered-in ps i l m = Contains-get_or ps (i - 1) _ (omega (arith, l, m))

module _ (spec : Spec) (src : Sources) (r : ℕ) where
  -- the table of the piece with a number
  abbrev pub Of : ℕ → Table
  Of i = piece_table spec src (piece_numbered (pieces spec r) i)

  pub Of-fits : (i : ℕ) → Fits (Of i)
  Of-fits i = let p = piece_numbered (pieces spec r) i in Fits-project p.attrs (piece_base spec src p.source)

  pub cover-covered : (c : List ℕ) → Contains (relation_covers spec r) c → IsCovered Of (columns_of spec r) c
  cover-covered c h n k =
      let ps = pieces spec r in
      let test = is_cover (columns_of spec r) (pieces_at ps c) in
      let all : holds_all (columns_of spec r) (pieces_at ps c) ≡ true =
      (and_parts (holds_all (columns_of spec r) (pieces_at ps c)) _ (filter_from (λ d. is_cover (columns_of spec r) (pieces_at ps d)) (subsets (map suc (numbers (length ps)))) c h).1).0 in
      sym (any-map (λ (p : Piece). is_in p.attrs n) (piece_numbered ps) c)
      ∙ all-named (λ m. list_any (λ (p : Piece). is_in p.attrs m) (pieces_at ps c)) (columns_of spec r) n k all

  pub cover-tables : (c : List ℕ) → map Of c ≡ map (piece_table spec src) (pieces_at (pieces spec r) c)
  cover-tables c = sym (map_map (piece_table spec src) (piece_numbered (pieces spec r)) c)

  -- the covers give the covered rows
  flat-map : {X Y Z : Type 0} (f : Y → List Z) (g : X → Y) (xs : List X) → flat_map f (map g xs) ≡ flat_map (λ x. f (g x)) xs
  flat-map f g [] = refl
  flat-map f g (x ∷ xs) = ap (λ l. f (g x) ++ l) (flat-map f g xs)

  pub covered-is : flat_map (λ c. joined_pieces spec src r (pieces_at (pieces spec r) c)) (relation_covers spec r) ≡ covered spec src r
  covered-is =
      sym (flat-map (joined_pieces spec src r) (pieces_at (pieces spec r)) (relation_covers spec r))
      ∙ ap (flat_map (joined_pieces spec src r)) (cover_numbers_are (columns_of spec r) (pieces spec r))

-- ---- the rows of the covers that match

spread : (a b t : Bool) → ((a || b) && t) ≡ ((a && t) || (b && t))
spread true b true = refl
spread true true false = refl
spread true false false = refl
spread false b t = refl

module _ (columns names : List (List ℕ)) (values : List Value) where
  matching-append : (xs ys : List Row) → SameRows (matching columns names values (xs ++ ys)) (matching columns names values xs ++ matching columns names values ys)
  matching-append xs ys r =
      let test = λ (x : Row). row_eq (cut columns names x) values in
      has-filter test (xs ++ ys) r ∙ ap (λ b. b && test r) (has-append xs ys r) ∙ spread (has xs r) (has ys r) (test r)
      ∙ sym (has-append (filter test xs) (filter test ys) r ∙ (λ i. has-filter test xs r i || has-filter test ys r i))

  -- the rows of one cover more
  pub covers-more : {X : Type 0} (f : X → List (List Value)) (base so_far found new : List (List Value)) (cs : List X) (i : ℕ) (c : X)
      → i < length cs → c ≡ get_or cs i c
      → SameRows so_far (matching columns names values (base ++ flat_map f (take i cs)))
      → SameRows found (matching columns names values (f c))
      → new ≡ so_far ++ found
      → SameRows new (matching columns names values (base ++ flat_map f (take (i + 1) cs)))
  covers-more f base so_far found new cs i c within is before one now r =
      let old = base ++ flat_map f (take i cs) in
      let more : base ++ flat_map f (take (i + 1) cs) ≡ old ++ f c =
      ap (λ l. base ++ flat_map f l) (take_more cs i c within)
      ∙ ap (λ l. base ++ l) (flat_map-append f (take i cs) (get_or cs i c ∷ []) ∙ ap (λ z. flat_map f (take i cs) ++ flat_map f (z ∷ [])) (sym is) ∙ ap (λ z. flat_map f (take i cs) ++ z) (append-nil (f c)))
      ∙ sym (append_assoc base (flat_map f (take i cs)) (f c)) in
      ap (λ l. has l r) now
      ∙ SameRows-append so_far found (matching columns names values old) (matching columns names values (f c)) before one r
      ∙ sym (matching-append old (f c) r)
      ∙ ap (λ l. has (matching columns names values l) r) (sym more)
