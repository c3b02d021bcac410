-- The expressions of a plan mean the views, the pieces, the joins of covers, and one step of the reconstruction.
use Rattle.std.proofs.Common.{◌≡◌, ℕ, ◌<◌, ◌+◌, Bool, true, false, cond, List, [], ◌∷◌, ◌++◌, map, filter, fold, length, Contains, refl, sym, ◌∙◌, ap, subst, append_assoc, inl, inr}
use Rattle.std.specs.List.{flat_map}
use Rattle.std.specs.Cmp.Lexicographic.{pointwise}
use Rattle.std.proofs.lemmas.Bool.{and_parts}
use Rattle.std.proofs.lemmas.List.{append-nil}
use Rattle.std.proofs.lemmas.List.Elements.{Contains-get_or}
use Rattle.std.proofs.lemmas.Slice.Eq.{slice_eq-Decides}
use Rattle.wh_base.specs.Columns.{name_eq, shared, others, value_of, cut}
use Rattle.wh_base.specs.Tables.{Table, select, project, join, union, join_all, with_columns}
use Rattle.wh_expr.specs.declared.expr.Expr.{Expr}
use Rattle.wh_expr.specs.declared.expr.Expr.TheOpen.{Expr-F}
use Rattle.wh_expr.specs.declared.expr.Expr.TheFolds.{fold-roll-Expr}
use Rattle.wh_expr.specs.declared.expr.Expr.TheVariants as expr
use Rattle.wh_expr.specs.declared.expr.Renaming.{Renaming}
use Rattle.wh_expr.specs.Meaning.{meaning, meaning_at}
use Rattle.wh_expr.specs.Rename.{new_name, rename}
use Rattle.wh_expr.proofs.MeaningLemmas.{meaning-Select, meaning-Project, meaning-Join, meaning-Union, meaning-Rename}
use Rattle.wh_laws.proofs.Lists.{Contains-nil, Contains-here, Contains-there, filter_from, map_in, map_from, map_same, map_map}
use Rattle.wh_laws.proofs.Equality.{Name, name_eq_decides, shared_from}
use Rattle.wh_laws.proofs.Joins.{AllFit, cut-values, fits-is, project-fits, joined_from}
use Rattle.wh_laws.proofs.Pieces.{piece_from}
use Rattle.wh_laws.proofs.Covered.{holds_from}
use Rattle.wh_laws.proofs.Subsets.{subsets_members}
use Rattle.wh_plan.specs.Expressions.{join_exprs, view_expr, left_column, is_change, renamings, renamed_expr, inclusion_expr, piece_expr, joined_names, cover_expr, complement_number, inverse_expr}
use Rattle.wh_plan.specs.Laws.{AreUnder}
use Rattle.wh_plan.proofs.ColumnLemmas.{beside_apart, value_beside, changed_back}
use Rattle.wh_schema.specs.declared.piece.Piece.{Piece}
use Rattle.wh_schema.specs.declared.spec.Inclusion.{Inclusion}
use Rattle.wh_schema.specs.declared.spec.Spec.{Spec}
use Rattle.wh_schema.specs.Legality.{WellFormed, InclusionFits}
use Rattle.wh_schema.specs.Warehouse.{Row, State, Sources, columns_of, view_at, inclusion_at, table_of, view_table, pieces, piece_table, subsets, holds_all, is_cover, covers, joined_pieces, covered}

-- ---- renamings

no_renamings : (names : List Name) → map (new_name []) names ≡ names
no_renamings [] = refl
no_renamings (n ∷ ns) = ap (λ l. n ∷ l) (no_renamings ns)

same_names : (names : List Name) → map (λ n. n) names ≡ names
same_names [] = refl
same_names (n ∷ ns) = ap (λ l. n ∷ l) (same_names ns)

same_rows : (rows : List Row) → map (λ x. x) rows ≡ rows
same_rows [] = refl
same_rows (x ∷ xs) = ap (λ l. x ∷ l) (same_rows xs)

no_others : (names : List Name) → others [] names ≡ names
no_others [] = refl
no_others (n ∷ ns) = ap (λ l. n ∷ l) (no_others ns)

module _ (g : ℕ → Table) where
  meaning-Base : (n : ℕ) → meaning g (expr.Base n) ≡ g n
  meaning-Base n = ap (meaning g) (sym (expr.rolls-Base n)) ∙ fold-roll-Expr Table (meaning_at g) (Expr-F.Base n)

  renamed_means : (pairs : List Renaming) (e : Expr) → meaning g (renamed_expr pairs e) ≡ rename pairs (meaning g e)
  renamed_means [] e = λ i. record { columns = sym (no_renamings (meaning g e).columns) i; rows = (meaning g e).rows }
  renamed_means (p ∷ ps) e = meaning-Rename g (p ∷ ps) e

  -- ---- joins

  join_folds : (e : Expr) (es : List Expr) → meaning g (fold (λ a b. expr.Join a b) e es) ≡ fold join (meaning g e) (map (meaning g) es)
  join_folds e [] = refl
  join_folds e (x ∷ xs) = join_folds (expr.Join e x) xs ∙ ap (λ t. fold join t (map (meaning g) xs)) (meaning-Join g e x)

  joins_mean : (es : List Expr) (some : Expr) → Contains es some → meaning g (join_exprs es) ≡ join_all (map (meaning g) es)
  joins_mean [] some h = absurd (Contains-nil some h)
  joins_mean (e ∷ es) some h = join_folds e es

  -- the join of expressions that are made from items
  items_mean : {X : Type 0} (made : X → Expr) (table : X → Table) (xs : List X) (some : X) → Contains xs some → ((x : X) → Contains xs x → meaning g (made x) ≡ table x)
      → meaning g (join_exprs (map made xs)) ≡ join_all (map table xs)
  items_mean made table xs some h is =
      joins_mean (map made xs) (made some) (map_in made xs some h)
      ∙ ap join_all (map_map (meaning g) made xs ∙ map_same (λ x. meaning g (made x)) table xs is)

  -- ---- views

  pub view_means : (spec : Spec) (s : State) → WellFormed spec → ((i : ℕ) → i < length spec.relations → g i ≡ table_of spec s i) → (j : ℕ) → j < length spec.views → meaning g (view_expr spec j) ≡ view_table spec s j
  view_means spec s wf at j l =
      let v = view_at spec j in
      let fits = wf.views v (Contains-get_or spec.views j _ l) in
      let e = join_exprs (map (λ i. expr.Base i) v.relations) in
      let all : meaning g e ≡ join_all (map (table_of spec s) v.relations) =
      items_mean (λ i. expr.Base i) (table_of spec s) v.relations fits.member.0 fits.member.1 (λ i k. meaning-Base i ∙ at i (fits.members i k)) in
      meaning-Project g v.head (expr.Select v.cond e)
      ∙ ap (project v.head) (meaning-Select g v.cond e ∙ ap (select v.cond) all)

  -- ---- inclusions

  module _ (spec : Spec) (c : Inclusion) (fits : InclusionFits spec c) (attrs : List Name) (among : (n : Name) → Contains attrs n → Contains c.to_cols n) where
    back : map (new_name (filter is_change (renamings c attrs))) (map (left_column c) attrs) ≡ map (λ n. n) attrs
    back =
        map_map (new_name (filter is_change (renamings c attrs))) (left_column c) attrs
        ∙ map_same (λ n. new_name (filter is_change (renamings c attrs)) (left_column c n)) (λ n. n) attrs
        (λ n k. changed_back (left_column c) n attrs (λ m i e. beside_apart c.from_cols c.to_cols fits.width fits.distinct n m (among n k) (among m i) e) (inl k))

    cut_same : (columns : List Name) (x : Row) → cut columns (map (left_column c) attrs) x ≡ cut c.to_cols attrs (cut columns c.from_cols x)
    cut_same columns x =
        cut-values columns (map (left_column c) attrs) x
        ∙ map_map (value_of columns x) (left_column c) attrs
        ∙ map_same (λ n. value_of columns x (left_column c n)) (value_of c.to_cols (cut columns c.from_cols x)) attrs
        (λ n k. sym (ap (λ q. value_of c.to_cols q n) (cut-values columns c.from_cols x) ∙ value_beside (value_of columns x) c.from_cols c.to_cols fits.width n (among n k)))
        ∙ sym (cut-values c.to_cols attrs (cut columns c.from_cols x))

    inclusion_means : (t : Table) → g c.from ≡ t → meaning g (inclusion_expr c attrs) ≡ project attrs (with_columns c.to_cols (project c.from_cols t))
    inclusion_means t is =
        let cols = map (left_column c) attrs in
        let pairs = filter is_change (renamings c attrs) in
        let rows : map (cut t.columns cols) t.rows ≡ map (cut c.to_cols attrs) (map (cut t.columns c.from_cols) t.rows) =
        map_same (cut t.columns cols) (λ x. cut c.to_cols attrs (cut t.columns c.from_cols x)) t.rows (λ x k. cut_same t.columns x)
        ∙ sym (map_map (cut c.to_cols attrs) (cut t.columns c.from_cols) t.rows) in
        renamed_means pairs (expr.Project cols (expr.Base c.from))
        ∙ ap (rename pairs) (meaning-Project g cols (expr.Base c.from) ∙ ap (project cols) (meaning-Base c.from ∙ is))
        ∙ (λ i. record { columns = (back ∙ same_names attrs) i; rows = rows i })

  -- ---- pieces

  module _ (spec : Spec) (wf : WellFormed spec) (src : Sources) (r : ℕ) (rest : List Row) (under : AreUnder spec src r rest g) where
    piece_means : (p : Piece) → Contains (pieces spec r) p → meaning g (piece_expr spec p) ≡ piece_table spec src p
    piece_means p h =
        let P : Piece → Type 0 = λ q. meaning g (piece_expr spec q) ≡ piece_table spec src q in
        elim (piece_from spec r p h) [
          | inl a ↦
              let attrs = shared (view_at spec a.number).head (columns_of spec r) in
              let e = expr.Base (length spec.relations + a.number) in
              subst P a.is (meaning-Project g attrs e ∙ ap (project attrs) (meaning-Base (length spec.relations + a.number) ∙ under.view a.number a.within))
          | inr a ↦
              let c = inclusion_at spec a.number in
              let fits = wf.inclusions c (Contains-get_or spec.inclusions a.number _ a.within) in
              let attrs = shared c.to_cols (columns_of spec r) in
              subst P a.is (inclusion_means spec c fits attrs (λ n k. (shared_from c.to_cols (columns_of spec r) n k).0) (src.relation c.from) (under.relation c.from fits.left))
        ]

    -- ---- covers

    join_columns : (t : Table) (ps : List Piece) → (fold join t (map (piece_table spec src) ps)).columns ≡ fold (λ names p. names ++ others names p.attrs) t.columns ps
    join_columns t [] = refl
    join_columns t (p ∷ ps) = join_columns (join t (piece_table spec src p)) ps

    all_columns : (ps : List Piece) → (join_all (map (piece_table spec src) ps)).columns ≡ joined_names ps
    all_columns [] = refl
    all_columns (p ∷ ps) = join_columns (piece_table spec src p) ps ∙ ap (λ names. fold (λ ns (q : Piece). ns ++ others ns q.attrs) names ps) (sym (no_others p.attrs))

    -- pieces of the relation that hold all its attributes
    record IsWhole (c : List Piece) : Type 0 where
      members : (p : Piece) → Contains c p → Contains (pieces spec r) p
      all : holds_all (columns_of spec r) c ≡ true

    arranged_means : (c : List Piece) (e : Expr) → meaning g e ≡ join_all (map (piece_table spec src) c) → (b : Bool) → pointwise name_eq (joined_names c) (columns_of spec r) ≡ b
        → meaning g (cond b e (expr.Project (columns_of spec r) e)) ≡ project (columns_of spec r) (join_all (map (piece_table spec src) c))
    arranged_means c e is true h =
        let ts = map (piece_table spec src) c in
        let t = join_all ts in
        let same : t.columns ≡ columns_of spec r = all_columns c ∙ (slice_eq-Decides name_eq_decides (joined_names c) (columns_of spec r) (pointwise name_eq (joined_names c) (columns_of spec r)) refl).0 h in
        let fit : (u : Table) → Contains ts u → AllFit u = λ u k.
        let q = map_from (piece_table spec src) c u k in
        let P : Table → Type 0 = AllFit in
        subst P q.2 (project-fits q.0.attrs _) in
        let rows : t.rows ≡ map (cut t.columns (columns_of spec r)) t.rows =
        sym (map_same (cut t.columns (columns_of spec r)) (λ x. x) t.rows (λ x k. let f = joined_from ts fit x k in ap (λ names. cut t.columns names x) (sym same) ∙ fits-is f.at t.columns x f.row) ∙ same_rows t.rows) in
        is ∙ (λ i. record { columns = same i; rows = rows i })
    arranged_means c e is false h = meaning-Project g (columns_of spec r) e ∙ ap (project (columns_of spec r)) is

    cover_means : r < length spec.relations → (c : List Piece) → IsWhole c → meaning g (cover_expr spec (columns_of spec r) c) ≡ project (columns_of spec r) (join_all (map (piece_table spec src) c))
    cover_means l c w =
        let n = wf.some_attribute r l in
        let some = holds_from (columns_of spec r) c w.all n.0 n.1 in
        let is = items_mean (piece_expr spec) (piece_table spec src) c some.0 some.1 (λ p k. piece_means p (w.members p k)) in
        arranged_means c (join_exprs (map (piece_expr spec) c)) is (pointwise name_eq (joined_names c) (columns_of spec r)) refl

    -- ---- the inverse

    unions_mean : r < length spec.relations → (cs : List (List Piece)) (e : Expr) (rows : List Row) → ((c : List Piece) → Contains cs c → IsWhole c) → meaning g e ≡ record { columns = columns_of spec r; rows = rows }
        → meaning g (fold (λ a c. expr.Union a (cover_expr spec (columns_of spec r) c)) e cs) ≡ record { columns = columns_of spec r; rows = rows ++ flat_map (joined_pieces spec src r) cs }
    unions_mean l [] e rows w is = is ∙ (λ i. record { columns = columns_of spec r; rows = sym (append-nil rows) i })
    unions_mean l (c ∷ cs) e rows w is =
        let columns = columns_of spec r in
        let u = project columns (join_all (map (piece_table spec src) c)) in
        let fit : map (cut columns columns) u.rows ≡ u.rows = map_same (cut columns columns) (λ x. x) u.rows (λ x k. project-fits columns (join_all (map (piece_table spec src) c)) x k) ∙ same_rows u.rows in
        let t : Table = record { columns = columns; rows = rows } in
        let both : meaning g (expr.Union e (cover_expr spec columns c)) ≡ record { columns = columns; rows = rows ++ u.rows } =
        meaning-Union g e (cover_expr spec columns c) ∙ (λ i. union (is i) (cover_means l c (w c (Contains-here c cs)) i)) ∙ (λ i. record { columns = columns; rows = rows ++ fit i }) in
        unions_mean l cs (expr.Union e (cover_expr spec columns c)) (rows ++ u.rows) (λ d k. w d (Contains-there c d cs k)) both
        ∙ (λ i. record { columns = columns; rows = append_assoc rows u.rows (flat_map (joined_pieces spec src r) cs) i })

    covers_whole : (c : List Piece) → Contains (covers (columns_of spec r) (pieces spec r)) c → IsWhole c
    covers_whole c h =
        let a = filter_from (is_cover (columns_of spec r)) (subsets (pieces spec r)) c h in
        record { members = subsets_members (pieces spec r) c a.0; all = (and_parts (holds_all (columns_of spec r) c) _ a.1).0 }

    pub inverse_means : r < length spec.relations → meaning g (inverse_expr spec r) ≡ record { columns = columns_of spec r; rows = rest ++ covered spec src r }
    inverse_means l = unions_mean l (covers (columns_of spec r) (pieces spec r)) (expr.Base (complement_number spec r)) rest covers_whole (meaning-Base (complement_number spec r) ∙ under.complement)
