-- What the look-ups find, from what those below them find.
use Rattle.std.proofs.Common.{◌≡◌, ℕ, ◌+◌, ◌<◌, ◌≤◌, Bool, true, List, [], ◌++◌, map, length, get_or, slice_get, Contains, Some, unwrap_or, refl, sym, ap, subst, ◌∙◌, arith}
use Rattle.std.specs.List.{flat_map, position}
use Rattle.std.proofs.lemmas.List.{length-map}
use Rattle.std.proofs.lemmas.List.Elements.{Contains-get_or}
use Rattle.std.proofs.lemmas.Option.{slice_get-get_or, get_or_from_slice_get}
use Rattle.wh_base.specs.declared.head.Head.{Head}
use Rattle.wh_base.specs.declared.value.Value.{Value}
use Rattle.wh_base.specs.Columns.{is_in, all_in, shared, cut}
use Rattle.wh_base.specs.Heads.{columns_at}
use Rattle.wh_base.specs.RowSet.{has, SameRows, IsSetOf}
use Rattle.wh_base.specs.Tables.{Table, project, join_all, matching, with_columns}
use Rattle.wh_base.specs.Value.{row_eq}
use Rattle.wh_base.proofs.RowSets.{SameRows-filter}
use Rattle.wh_expr.specs.Narrowed.{narrowed, rows_with}
use Rattle.wh_expr.specs.SameTable.{SameTable}
use Rattle.wh_expr.specs.Typing.{are_distinct}
use Rattle.wh_plan.specs.Expressions.{left_column}
use Rattle.wh_plan.specs.Plan.{relation_covers}
use Rattle.wh_schema.specs.declared.piece.Piece.{Piece}
use Rattle.wh_schema.specs.declared.piece.PieceSource.{PieceSource}
use Rattle.wh_schema.specs.declared.piece.PieceSource.TheVariants as source
use Rattle.wh_schema.specs.declared.spec.Inclusion.{Inclusion}
use Rattle.wh_schema.specs.declared.spec.Spec.{Spec}
use Rattle.wh_schema.specs.Reconstruction.{order, reconstructed}
use Rattle.wh_schema.specs.Warehouse.{Row, Sources, columns_of, key_of, view_at, inclusion_at, pieces, pieces_at, piece_base, piece_table, joined_pieces, covered}
use Rattle.wh_inverse.specs.Asked.{AreAsked, key_columns, piece_numbered, has_one, cover_table}
use Rattle.wh_inverse.specs.Inverse.{IsBelow, stored_below, back}
use Rattle.wh_inverse.proofs.Assignments.{in-filter}
use Rattle.wh_inverse.proofs.Tests.{all_in-trans, all_in-from}
use Rattle.wh_inverse.proofs.Beside.{distinct-filter}
use Rattle.wh_inverse.proofs.WalkLemmas.{found-project, found-beside}
use Rattle.wh_inverse.proofs.CoverLemmas.{shared-in, some-shared, Walked, Walked-end, Walked-key}
use Rattle.wh_inverse.proofs.PieceLemmas.{Of, Of-fits, view-names, inclusion-within, inclusion-names, inclusion-target, cover-numbers, numbered-in, cover-covered, cover-tables, covered-is}
use Rattle.wh_inverse.proofs.BelowLemmas.{back-relation, back-view, stored-at, view-at, complement-at, parts-back, key-asked, piece-has-key, from-earlier, from-within, same-width, asked-left}
use Rattle.wh_inverse.proofs.Places.{place}

same-table : (t u : Table) → t ≡ u → SameTable t u
same-table t u is = record { columns = ap (λ (v : Table). v.columns) is; rows = λ q. ap (λ (v : Table). has v.rows q) is }

-- ---- what is asked

-- what is asked of some names may be asked of more
pub wider : (names attrs cols : List (List ℕ)) (vals : List Value) → all_in names attrs ≡ true → AreAsked attrs cols vals → AreAsked names cols vals
wider names attrs cols vals h a = record { within = all_in-trans names attrs cols h a.within; some = a.some; distinct = a.distinct; one_each = a.one_each }

pub length-cut : (columns names : List (List ℕ)) (row : List Value) → length (cut columns names row) ≡ length names
length-cut columns names row = length-map (map _ names) _ ∙ length-map names _

-- the first piece is asked at the columns that it has
pub asked-first : (columns attrs cols : List (List ℕ)) (vals : List Value) → AreAsked columns cols vals → has_one cols attrs ≡ true → (own : List (List ℕ)) (known : List Value) → own ≡ shared attrs cols → known ≡ cut cols own vals → AreAsked attrs own known
asked-first columns attrs cols vals a one own known o k =
    let some : 0 < length (shared attrs cols) = some-shared attrs cols one in
    record {
      within = ap (all_in attrs) o ∙ shared-in attrs cols;
      some = let same : length own ≡ length (shared attrs cols) = ap length o in omega (arith, some, same);
      distinct = ap are_distinct o ∙ distinct-filter (is_in attrs) cols a.distinct;
      one_each = ap length k ∙ length-cut cols own vals;
    }

-- ---- the first piece

pub first-is : (place : ℕ) (cols' cols : List (List ℕ)) (ps' ps : List Piece) (cover : List ℕ) → place ≡ unwrap_or (position (λ i. has_one cols' (piece_numbered ps' i).attrs) cover) 0 → cols' ≡ cols → ps' ≡ ps
    → place ≡ unwrap_or (position (λ i. has_one cols (piece_numbered ps i).attrs) cover) 0
first-is place cols' cols ps' ps cover is c p = is ∙ (λ j. unwrap_or (position (λ i. has_one (c j) (piece_numbered (p j) i).attrs) cover) 0)

-- ---- the numbers of a cover

module _ (spec : Spec) (r : ℕ) (c : List ℕ) (h : Contains (relation_covers spec r) c) where
  pub number-low : (k : ℕ) → k < length c → 0 < get_or c k 0
  number-low k l = (cover-numbers spec r c h k 0 l).0

  pub number-high : (k : ℕ) → k < length c → get_or c k 0 ≤ length (pieces spec r)
  number-high k l = (cover-numbers spec r c h k 0 l).1

  pub number-in : (k : ℕ) → k < length c → Contains (pieces spec r) (piece_numbered (pieces spec r) (get_or c k 0))
  number-in k l = numbered-in (pieces spec r) (get_or c k 0) (number-low k l) (number-high k l)

  pub numbered-at : (k i : ℕ) → k < length c → slice_get c k ≡ Some i → Contains (pieces spec r) (piece_numbered (pieces spec r) i)
  numbered-at k i l e = let P : ℕ → Type 0 = λ n. Contains (pieces spec r) (piece_numbered (pieces spec r) n) in subst P (get_or_from_slice_get c k i 0 e) (number-in k l)

-- the number at a place does not go by what stands past the end
pub number-same : (c : List ℕ) (k d : ℕ) → k < length c → get_or c k 0 ≡ get_or c k d
number-same c k d l = sym (get_or_from_slice_get c k (get_or c k 0) d (slice_get-get_or c k 0 l))

-- a piece that is read by its number
pub piece-is : (ps' ps : List Piece) (i : ℕ) (p : Piece) → p ≡ piece_numbered ps' i → ps' ≡ ps → p ≡ piece_numbered ps i
piece-is ps' ps i p e q = e ∙ ap (λ l. piece_numbered l i) q

pub piece-in : (ps : List Piece) (p q : Piece) → p ≡ q → Contains ps q → Contains ps p
piece-in ps p q e h = let P : Piece → Type 0 = Contains ps in subst P (sym e) h

-- the covers are read one by one
pub cover-in : (spec : Spec) (r : ℕ) (items : List (List ℕ)) (k : ℕ) (item numbers : List ℕ) → items ≡ relation_covers spec r → k < length items → item ≡ get_or items k item → numbers ≡ item → Contains (relation_covers spec r) numbers
cover-in spec r items k item numbers e l is n =
    let P : List ℕ → Type 0 = Contains (relation_covers spec r) in
    let here : Contains (relation_covers spec r) (get_or items k item) = subst (λ (all : List (List ℕ)). Contains all (get_or items k item)) e (Contains-get_or items k item l) in
    subst P (sym (n ∙ is)) here

-- ---- one cover

module _ (spec : Spec) (src : Sources) (r : ℕ) (c : List ℕ) (h : Contains (relation_covers spec r) c) (cols : List (List ℕ)) (vals : List Value) where
  pub walk-ends : AreAsked (columns_of spec r) cols vals → (at k : ℕ) (acc : Table) → Walked (Of spec src r) (Of-fits spec src r) c at cols vals k acc → length c ≤ k
      → (head : List (List ℕ)) → head ≡ columns_of spec r → (made cuts : Table) → made ≡ narrowed cols vals cuts → cuts ≡ project head acc
      → SameTable made (narrowed cols vals (cover_table spec src r (pieces_at (pieces spec r) c)))
  walk-ends a at k acc w ends head e made cuts is of =
      let columns = columns_of spec r in
      let one : made ≡ narrowed cols vals (project columns acc) = is ∙ ap (narrowed cols vals) (of ∙ ap (λ n. project n acc) e) in
      let all = Walked-end (Of spec src r) (Of-fits spec src r) c at cols vals k acc w columns made ends (cover-covered spec src r c h) a.within (same-table made (narrowed cols vals (project columns acc)) one) in
      subst (λ ts. SameTable made (narrowed cols vals (project columns (join_all ts)))) (cover-tables spec src r c) all

-- ---- the base below

module _ (spec : Spec) (heads : List Head) (held : ℕ → Bool) (over : ∥ IsBelow spec heads held ∥₁) (rows : ℕ → List Row) where
  pub view-found : (j : ℕ) → j < length spec.views → (number : ℕ) → number ≡ length spec.relations + j → (names cols : List (List ℕ)) (vals : List Value) → names ≡ (view_at spec j).head
      → (found : List Row) → SameRows found (matching (columns_at heads number) cols vals (rows number)) → SameTable (record { columns = names; rows = found }) (narrowed cols vals ((back spec rows).view j))
  view-found j l number e names cols vals n found h =
      let stored : rows number ≡ get_or (stored_below spec rows) j [] = ap rows e ∙ sym (stored-at spec rows j (omega (arith, l))) in
      let columns : columns_at heads number ≡ (view_at spec j).head = ap (columns_at heads) e ∙ view-at spec heads held over j l in
      record {
        columns = n ∙ sym (ap (λ (t : Table). t.columns) (back-view spec rows j));
        rows = λ q. h q ∙ (λ i. has (matching (columns i) cols vals (stored i)) q) ∙ sym (ap (λ (t : Table). has (rows_with cols vals t) q) (back-view spec rows j));
      }

  pub complement-found : (r : ℕ) → r < length spec.relations → (number : ℕ) → number ≡ length spec.relations + length spec.views + r → (cols : List (List ℕ)) (vals : List Value) (found : List Row)
      → IsSetOf found (matching (columns_at heads number) cols vals (rows number)) → IsSetOf found (matching (columns_of spec r) cols vals (get_or (stored_below spec rows) (length spec.views + r) []))
  complement-found r l number e cols vals found h =
      let same : number ≡ length spec.relations + (length spec.views + r) = omega (arith, e) in
      let stored : rows number ≡ get_or (stored_below spec rows) (length spec.views + r) [] = ap rows same ∙ sym (stored-at spec rows (length spec.views + r) (omega (arith, l))) in
      let columns : columns_at heads number ≡ columns_of spec r = ap (columns_at heads) e ∙ complement-at spec heads held over r l in
      subst (IsSetOf found) (λ i. matching (columns i) cols vals (stored i)) h

  -- the rows of the complement and of the covers that match are those of the relation that match
  pub relation-found : (r : ℕ) → r < length spec.relations → (names cols : List (List ℕ)) (vals : List Value) (found so_far : List Row) (cs : List (List ℕ)) → names ≡ columns_of spec r → SameRows found so_far → cs ≡ relation_covers spec r
      → SameRows so_far (matching (columns_of spec r) cols vals (get_or (stored_below spec rows) (length spec.views + r) [] ++ flat_map (λ c. joined_pieces spec (back spec rows) r (pieces_at (pieces spec r) c)) cs))
      → SameTable (record { columns = names; rows = found }) (narrowed cols vals ((back spec rows).relation r))
  relation-found r l names cols vals found so_far cs n f all h =
      let columns = columns_of spec r in
      let base = get_or (stored_below spec rows) (length spec.views + r) [] in
      let given : List Row = get_or (reconstructed spec (stored_below spec rows)) r [] in
      let whole : base ++ flat_map (λ c. joined_pieces spec (back spec rows) r (pieces_at (pieces spec r) c)) cs ≡ base ++ covered spec (back spec rows) r =
      ap (λ l. base ++ flat_map (λ c. joined_pieces spec (back spec rows) r (pieces_at (pieces spec r) c)) l) all ∙ ap (λ l. base ++ l) (covered-is spec (back spec rows) r) in
      let test = λ (x : Row). row_eq (cut columns cols x) vals in
      record {
        columns = n ∙ sym (ap (λ (t : Table). t.columns) (back-relation spec rows r));
        rows = λ q.
            f q ∙ h q ∙ ap (λ l. has (matching columns cols vals l) q) whole
            ∙ sym (SameRows-filter test test (λ x. refl) given (base ++ covered spec (back spec rows) r) (parts-back spec heads held over rows r l) q)
            ∙ sym (ap (λ (t : Table). has (rows_with cols vals t) q) (back-relation spec rows r));
      }

-- ---- one piece

module _ (spec : Spec) (r : ℕ) (p : Piece) (h : Contains (pieces spec r) p) (cols : List (List ℕ)) (vals : List Value) (a : AreAsked p.attrs cols vals) where
  pub asked-view : (j : ℕ) → p.source ≡ source.View j → AreAsked (view_at spec j).head cols vals
  asked-view j e = wider (view_at spec j).head p.attrs cols vals (view-names spec r p h j e) a

  pub piece-of-view : (src : Sources) (j : ℕ) → p.source ≡ source.View j → (made found : Table) → made ≡ project p.attrs found → SameTable found (narrowed cols vals (src.view j)) → SameTable made (narrowed cols vals (piece_table spec src p))
  piece-of-view src j e made found is f =
      subst (λ (s : PieceSource). SameTable made (narrowed cols vals (project p.attrs (piece_base spec src s)))) (sym e)
      (found-project cols p.attrs vals made found (src.view j) a.within f (same-table made (project p.attrs found) is))

  module _ (i : ℕ) (e : p.source ≡ source.Inclusion i) (c : Inclusion) (is : c ≡ inclusion_at spec i) where
    inclusion_in : Contains spec.inclusions (inclusion_at spec i)
    inclusion_in = Contains-get_or spec.inclusions i _ (inclusion-within spec r p h i e)

    among : AreAsked (inclusion_at spec i).to_cols cols vals
    among = wider (inclusion_at spec i).to_cols p.attrs cols vals (inclusion-names spec r p h i e) a

    module _ (heads : List Head) (held : ℕ → Bool) (over : ∥ IsBelow spec heads held ∥₁) where
      pub left-within : c.from < length spec.relations
      left-within = let P : Inclusion → Type 0 = λ d. d.from < length spec.relations in subst P (sym is) (from-within spec heads held over (inclusion_at spec i) inclusion_in)

      pub left-earlier : place (order spec) c.from < place (order spec) r
      left-earlier =
          let P : Inclusion → Type 0 = λ d. place (order spec) d.from < place (order spec) r in
          subst P (sym is) (subst (λ (n : ℕ). place (order spec) (inclusion_at spec i).from < place (order spec) n) (inclusion-target spec r p h i e) (from-earlier spec heads held over (inclusion_at spec i) inclusion_in))

      pub left-asked : (left cols' : List (List ℕ)) → left ≡ map (left_column c) cols' → cols' ≡ cols → AreAsked (columns_of spec c.from) left vals
      left-asked left cols' l same =
          let P : Inclusion → Type 0 = λ d. AreAsked (columns_of spec d.from) (map (left_column d) cols) vals in
          let here = subst P (sym is) (asked-left spec heads held over (inclusion_at spec i) inclusion_in cols vals among) in
          subst (λ names. AreAsked (columns_of spec c.from) names vals) (sym (l ∙ ap (map (left_column c)) same)) here

      pub piece-of-inclusion : (src : Sources) (left cols' : List (List ℕ)) → left ≡ map (left_column c) cols' → cols' ≡ cols → (made under found : Table) → made ≡ project p.attrs under → under ≡ with_columns c.to_cols (project c.from_cols found)
          → SameTable found (narrowed left vals (src.relation c.from)) → SameTable made (narrowed cols vals (piece_table spec src p))
      piece-of-inclusion src left cols' l same made under found m u f =
          let d = inclusion_at spec i in
          let asked : SameTable found (narrowed (map (left_column c) cols) vals (src.relation c.from)) = subst (λ names. SameTable found (narrowed names vals (src.relation c.from))) (l ∙ ap (map (left_column c)) same) f in
          let P : Inclusion → Type 0 = λ x. SameTable found (narrowed (map (left_column x) cols) vals (src.relation x.from)) in
          let here = subst P is asked in
          let under_is : under ≡ with_columns d.to_cols (project d.from_cols found) = u ∙ ap (λ (x : Inclusion). with_columns x.to_cols (project x.from_cols found)) is in
          subst (λ (s : PieceSource). SameTable made (narrowed cols vals (project p.attrs (piece_base spec src s)))) (sym e)
          (found-project cols p.attrs vals made under (with_columns d.to_cols (project d.from_cols (src.relation d.from))) a.within
          (found-beside cols vals d.from_cols d.to_cols under found (src.relation d.from) (same-width spec heads held over d inclusion_in) among.within here under_is)
          (same-table made (project p.attrs under) m))

-- ---- by key

module _ (spec : Spec) (heads : List Head) (held : ℕ → Bool) (over : ∥ IsBelow spec heads held ∥₁) (r : ℕ) (l : r < length spec.relations) where
  pub asked-key : (p : Piece) → Contains (pieces spec r) p → (key : List (List ℕ)) → key ≡ key_columns spec r → (vals : List Value) → length vals ≡ length key → AreAsked p.attrs key vals
  asked-key p h key e vals one = subst (λ names. AreAsked p.attrs names vals) (sym e) (key-asked spec heads held over r l p.attrs vals (piece-has-key spec heads held over r l p h) (one ∙ ap length e))

  pub has-key : (src : Sources) (c : List ℕ) → Contains (relation_covers spec r) c → (cols : List (List ℕ)) (vals : List Value) (at k : ℕ) (acc : Table) → at < length c → Walked (Of spec src r) (Of-fits spec src r) c at cols vals k acc
      → (key : List (List ℕ)) → key ≡ key_columns spec r → all_in acc.columns key ≡ true
  has-key src c h cols vals at k acc within w key e =
      ap (all_in acc.columns) e
      ∙ Walked-key (Of spec src r) (Of-fits spec src r) c at cols vals k acc w (key_columns spec r) (λ x s. piece-has-key spec heads held over r l (piece_numbered (pieces spec r) x) (numbered-at spec r c h at x within s))

  pub asked-by-key : (asked : List (List ℕ)) → asked ≡ key_columns spec r → (vals : List Value) → length vals ≡ length asked → AreAsked (columns_of spec r) asked vals
  asked-by-key asked e vals one =
      let within : all_in (columns_of spec r) (key_columns spec r) ≡ true = all_in-from (columns_of spec r) (key_columns spec r) (λ n k. (in-filter (is_in (key_of spec r)) (columns_of spec r) n k).1) in
      subst (λ names. AreAsked (columns_of spec r) names vals) (sym e) (key-asked spec heads held over r l (columns_of spec r) vals within (one ∙ ap length e))
