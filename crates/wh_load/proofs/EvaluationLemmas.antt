-- What the expressions of a plan evaluate to over the rows of a state.
use Rattle.std.proofs.Common.{◌≡◌, ℕ, zero, suc, ◌+◌, ◌<◌, true, not, List, [], ◌∷◌, ◌++◌, map, filter, length, get_or, replicate, nat_lt, refl, sym, ap, subst, ◌∙◌, arith, length-append}
use Rattle.std.specs.List.{IsDistinct}
use Rattle.std.proofs.lemmas.Bool.Decides.{nat_tests}
use Rattle.std.proofs.lemmas.List.{get_or_append_left, get_or-append-add, get_or-map, length-map, length-replicate}
use Rattle.std.proofs.lemmas.List.Elements.{Contains-get_or}
use Rattle.std.proofs.lemmas.Map.Keys.{IsDistinct-from_sorted}
use Rattle.wh_base.specs.declared.head.Head.{Head}
use Rattle.wh_base.specs.declared.value.Attr.{Attr}
use Rattle.wh_base.specs.Columns.{names_of}
use Rattle.wh_base.specs.Heads.{columns_at}
use Rattle.wh_base.specs.RowSet.{has, AreDistinct, SameRows, IsSetOf, in_order}
use Rattle.wh_base.specs.Tables.{Table, project, select, join_all, without}
use Rattle.wh_base.specs.Value.{row_cmp}
use Rattle.wh_base.specs.ValueLaws.{row_ties}
use Rattle.wh_base.proofs.InOrder.{IsAscending-in_order, SameRows-in_order, in_order-same}
use Rattle.wh_expr.specs.declared.expr.Expr.{Expr}
use Rattle.wh_expr.specs.Meaning.{meaning, tables, uses_only}
use Rattle.wh_laws.proofs.Lists.{map_same}
use Rattle.wh_laws.proofs.Pieces.{numbers_from}
use Rattle.wh_laws.proofs.Reconstruction.{Agree, covered_same}
use Rattle.wh_laws.proofs.Stored.{length_numbers_map, numbers_map_at}
use Rattle.wh_load.specs.Load.{HasDistinctRows}
use Rattle.wh_load.specs.Sources.{relation_lists, view_lists, complement_lists, source_lists}
use Rattle.wh_load.proofs.DistinctLemmas.{HasDistinctRows-nil}
use Rattle.wh_plan.specs.Expressions.{view_expr, complement_number, inverse_expr}
use Rattle.wh_plan.specs.Laws.{AreUnder}
use Rattle.wh_plan.proofs.ExprMeaning.{view_means, inverse_means}
use Rattle.wh_plan.proofs.UsesLemmas.{view_uses, inverse_uses}
use Rattle.wh_schema.specs.declared.spec.Spec.{Spec}
use Rattle.wh_schema.specs.Heads.{relation_head, typed_names, view_head, complement_head, heads_of}
use Rattle.wh_schema.specs.Legality.{WellFormed}
use Rattle.wh_schema.specs.Warehouse.{Row, State, Sources, no_relation, no_view, view_at, columns_of, table_of, view_table, sources_of, covered, complement, numbers, stored}

-- ---- distinct rows

AreDistinct-in_order : (rows : List Row) → AreDistinct (in_order rows)
AreDistinct-in_order rows = subst (λ e. IsDistinct e (in_order rows)) (λ i x y. sym (row_ties x y) i) (IsDistinct-from_sorted row_cmp (in_order rows) (IsAscending-in_order rows))

distinct_append : (xs ys : List (List Row)) → HasDistinctRows xs → HasDistinctRows ys → HasDistinctRows (xs ++ ys)
distinct_append [] ys h k n = k n
distinct_append (x ∷ xs) ys h k zero = h zero
distinct_append (x ∷ xs) ys h k (suc n) = distinct_append xs ys (λ m. h (suc m)) k n

distinct_map : (f : ℕ → List Row) (xs : List ℕ) → ((x : ℕ) → AreDistinct (f x)) → HasDistinctRows (map f xs)
distinct_map f [] h n = HasDistinctRows-nil n
distinct_map f (x ∷ xs) h zero = h x
distinct_map f (x ∷ xs) h (suc n) = distinct_map f xs h n

distinct_empty : (k : ℕ) → HasDistinctRows (replicate k [])
distinct_empty zero n = HasDistinctRows-nil n
distinct_empty (suc k) zero = HasDistinctRows-nil zero
distinct_empty (suc k) (suc n) = distinct_empty k n

pub relations_distinct : (spec : Spec) (s : State) → HasDistinctRows s → HasDistinctRows (relation_lists spec s)
relations_distinct spec s h = distinct_map (λ i. get_or s i []) (numbers (length spec.relations)) h

pub sources_distinct : (spec : Spec) (s : State) → HasDistinctRows s → HasDistinctRows (source_lists spec s)
sources_distinct spec s h =
    distinct_append (relation_lists spec s ++ view_lists spec s) (replicate (length spec.relations) [])
    (distinct_append (relation_lists spec s) (view_lists spec s) (relations_distinct spec s h)
    (distinct_map (λ j. in_order (view_table spec s j).rows) (numbers (length spec.views)) (λ j. AreDistinct-in_order (view_table spec s j).rows)))
    (distinct_empty (length spec.relations))

-- ---- the columns of the numbers

no_head : Head
no_head = record { name = []; attrs = [] }

head_at : (heads : List Head) (k : ℕ) (d : Head) → k < length heads → columns_at heads k ≡ names_of (get_or heads k d).attrs
head_at [] k d l = absurd (omega (arith, l))
head_at (h ∷ heads) zero d l = refl
head_at (h ∷ heads) (suc k) d l = head_at heads k d (omega (arith, l))

typed : (attrs : List Attr) (names : List (List ℕ)) → names_of (typed_names attrs names) ≡ names
typed attrs [] = refl
typed attrs (n ∷ names) = ap (λ l. n ∷ l) (typed attrs names)

module _ (spec : Spec) where
  relation_heads : List Head
  relation_heads = map relation_head spec.relations

  view_heads : List Head
  view_heads = map (view_head spec) spec.views

  complement_heads : List Head
  complement_heads = map complement_head spec.relations

  all_heads : List Head
  all_heads = (relation_heads ++ view_heads) ++ complement_heads

  relations_long : length relation_heads ≡ length spec.relations
  unfolding relation_heads
  relations_long = length-map spec.relations relation_head

  views_long : length view_heads ≡ length spec.views
  unfolding view_heads
  views_long = length-map spec.views (view_head spec)

  complements_long : length complement_heads ≡ length spec.relations
  unfolding complement_heads
  complements_long = length-map spec.relations complement_head

  first_long : length (relation_heads ++ view_heads) ≡ length spec.relations + length spec.views
  first_long = omega (arith, length-append relation_heads view_heads, relations_long, views_long)

  all_long : length all_heads ≡ length spec.relations + length spec.views + length spec.relations
  unfolding all_heads
  all_long = omega (arith, length-append (relation_heads ++ view_heads) complement_heads, first_long, complements_long)

  heads_are : heads_of spec ≡ all_heads
  unfolding relation_heads view_heads complement_heads all_heads
  heads_are = refl

  columns_are : (k : ℕ) (d : Head) → k < length all_heads → columns_at (heads_of spec) k ≡ names_of (get_or all_heads k d).attrs
  columns_are k d l = ap (λ heads. columns_at heads k) heads_are ∙ head_at all_heads k d l

  relation_columns : (i : ℕ) → i < length spec.relations → columns_at (heads_of spec) i ≡ columns_of spec i
  unfolding relation_heads all_heads
  relation_columns i l =
      let early : i < length relation_heads = omega (arith, l, relations_long) in
      let within : i < length (relation_heads ++ view_heads) = omega (arith, l, first_long) in
      let inside : i < length all_heads = omega (arith, l, all_long) in
      columns_are i no_head inside
      ∙ ap (λ (h : Head). names_of h.attrs)
      (get_or_append_left (relation_heads ++ view_heads) complement_heads no_head i within ∙ get_or_append_left relation_heads view_heads no_head i early
      ∙ get_or-map relation_head spec.relations i no_relation no_head l)

  view_columns : (j : ℕ) → j < length spec.views → columns_at (heads_of spec) (length spec.relations + j) ≡ (view_at spec j).head
  unfolding view_heads all_heads
  view_columns j l =
      let within : length spec.relations + j < length (relation_heads ++ view_heads) = omega (arith, l, first_long) in
      let inside : length spec.relations + j < length all_heads = omega (arith, l, all_long) in
      columns_are (length spec.relations + j) no_head inside
      ∙ ap (λ (h : Head). names_of h.attrs)
      (get_or_append_left (relation_heads ++ view_heads) complement_heads no_head (length spec.relations + j) within
      ∙ ap (λ n. get_or (relation_heads ++ view_heads) (n + j) no_head) (sym relations_long) ∙ get_or-append-add relation_heads view_heads j no_head
      ∙ get_or-map (view_head spec) spec.views j no_view no_head l)
      ∙ typed _ (view_at spec j).head

  complement_columns : (r : ℕ) → r < length spec.relations → columns_at (heads_of spec) (complement_number spec r) ≡ columns_of spec r
  unfolding complement_heads all_heads
  complement_columns r l =
      let inside : complement_number spec r < length all_heads = omega (arith, l, all_long) in
      let place : complement_number spec r ≡ length (relation_heads ++ view_heads) + r = omega (arith, first_long) in
      columns_are (complement_number spec r) no_head inside
      ∙ ap (λ (h : Head). names_of h.attrs)
      (ap (λ n. get_or all_heads n no_head) place ∙ get_or-append-add (relation_heads ++ view_heads) complement_heads r no_head
      ∙ get_or-map complement_head spec.relations r no_relation no_head l)

  -- ---- the rows of the numbers

  abbrev no_rows : List Row
  no_rows = []

  nothing : (k r : ℕ) → get_or (replicate k no_rows) r no_rows ≡ no_rows
  nothing zero r = refl
  nothing (suc k) zero = refl
  nothing (suc k) (suc r) = nothing k r

  module _ (s : State) where
    rs : List (List Row)
    rs = relation_lists spec s

    vs : List (List Row)
    vs = view_lists spec s

    rs_long : length rs ≡ length spec.relations
    unfolding rs
    rs_long = length_numbers_map (λ i. get_or s i []) (length spec.relations)

    vs_long : length vs ≡ length spec.views
    unfolding vs
    vs_long = length_numbers_map (λ j. in_order (view_table spec s j).rows) (length spec.views)

    pub relations_count : length (relation_lists spec s) ≡ length spec.relations
    unfolding rs
    relations_count = rs_long

    pub sources_count : length (source_lists spec s) ≡ length spec.relations + length spec.views + length spec.relations
    unfolding rs vs
    sources_count = omega (arith, length-append (rs ++ vs) (replicate (length spec.relations) []), length-append rs vs, rs_long, vs_long, length-replicate (length spec.relations) no_rows)

    relation_list : (i : ℕ) → i < length spec.relations → get_or (source_lists spec s) i [] ≡ get_or s i []
    unfolding rs vs
    relation_list i l =
        let early : i < length rs = omega (arith, l, rs_long) in
        let within : i < length (rs ++ vs) = omega (arith, early, length-append rs vs) in
        get_or_append_left (rs ++ vs) (replicate (length spec.relations) []) [] i within ∙ get_or_append_left rs vs [] i early
        ∙ numbers_map_at (λ k. get_or s k []) (length spec.relations) i [] l

    view_list : (j : ℕ) → j < length spec.views → get_or (source_lists spec s) (length spec.relations + j) [] ≡ in_order (view_table spec s j).rows
    unfolding rs vs
    view_list j l =
        let within : length spec.relations + j < length (rs ++ vs) = omega (arith, l, rs_long, vs_long, length-append rs vs) in
        get_or_append_left (rs ++ vs) (replicate (length spec.relations) []) [] (length spec.relations + j) within
        ∙ ap (λ n. get_or (rs ++ vs) (n + j) []) (sym rs_long) ∙ get_or-append-add rs vs j []
        ∙ numbers_map_at (λ k. in_order (view_table spec s k).rows) (length spec.views) j [] l

    complement_list : (r : ℕ) → get_or (source_lists spec s) (complement_number spec r) [] ≡ []
    unfolding rs vs
    complement_list r =
        let place : complement_number spec r ≡ length (rs ++ vs) + r = omega (arith, rs_long, vs_long, length-append rs vs) in
        ap (λ n. get_or (source_lists spec s) n []) place ∙ get_or-append-add (rs ++ vs) (replicate (length spec.relations) []) r [] ∙ nothing (length spec.relations) r

-- ---- numbers that are held

below : (a b : ℕ) → a < b → nat_lt a b ≡ true
below a b l = grind (arith, nat_tests)

pub view_held : (spec : Spec) (s : State) (j : ℕ) (e : Expr) → WellFormed spec → length s ≡ length spec.relations → j < length spec.views → e ≡ view_expr spec j
    → uses_only (λ n. nat_lt n (length s)) e ≡ true
view_held spec s j e wf whole l is =
    let held = λ (n : ℕ). nat_lt n (length s) in
    ap (uses_only held) is ∙ view_uses held spec wf (λ i k. below i (length s) (omega (arith, k, whole))) j l

pub inverse_held : (spec : Spec) (s all : State) (r : ℕ) (e : Expr) → WellFormed spec → all ≡ source_lists spec s → r < length spec.relations → e ≡ inverse_expr spec r
    → uses_only (λ n. nat_lt n (length all)) e ≡ true
inverse_held spec s all r e wf are l is =
    let held = λ (n : ℕ). nat_lt n (length all) in
    let long : length all ≡ length spec.relations + length spec.views + length spec.relations = ap length are ∙ sources_count spec s in
    ap (uses_only held) is
    ∙ inverse_uses held spec wf r l (λ i k. below i (length all) (omega (arith, k, long))) (λ j k. below (length spec.relations + j) (length all) (omega (arith, k, long)))
    (below (complement_number spec r) (length all) (omega (arith, l, long)))

-- ---- views

pub view_sorted : (spec : Spec) (heads : List Head) (s : State) (j : ℕ) (e : Expr) (rows : List Row) → WellFormed spec → heads ≡ heads_of spec → j < length spec.views → e ≡ view_expr spec j
    → IsSetOf rows (meaning (tables heads (λ n. get_or s n [])) e).rows → in_order rows ≡ in_order (view_table spec s j).rows
view_sorted spec heads s j e rows wf are l is h =
    let g = tables (heads_of spec) (λ n. get_or s n []) in
    let means : meaning (tables heads (λ n. get_or s n [])) e ≡ view_table spec s j =
    (λ i. meaning (tables (are i) (λ n. get_or s n [])) (is i))
    ∙ view_means g spec s wf (λ i k. λ q. record { columns = relation_columns spec i k q; rows = get_or s i [] }) j l in
    in_order-same rows (view_table spec s j).rows (λ x. h.same x ∙ ap (λ (t : Table). has t.rows x) means)

-- the views of a state are those of its relations alone
pub padded_views : (spec : Spec) (s : State) → WellFormed spec → view_lists spec (relation_lists spec s) ≡ view_lists spec s
padded_views spec s wf =
    map_same (λ j. in_order (view_table spec (relation_lists spec s) j).rows) (λ j. in_order (view_table spec s j).rows) (numbers (length spec.views))
    (λ j k.
    let v = view_at spec j in
    let fits = wf.views v (Contains-get_or spec.views j _ (numbers_from (length spec.views) j k)) in
    let parts : map (table_of spec (relation_lists spec s)) v.relations ≡ map (table_of spec s) v.relations =
    map_same (table_of spec (relation_lists spec s)) (table_of spec s) v.relations
    (λ i m. λ q. record { columns = columns_of spec i; rows = numbers_map_at (λ n. get_or s n []) (length spec.relations) i [] (fits.members i m) q }) in
    ap (λ ts. in_order (project v.head (select v.cond (join_all ts))).rows) parts)

-- ---- complements

-- the relations, and the views in row order
sorted_sources : Spec → State → Sources
sorted_sources spec s = record { relation = table_of spec s; view = λ j. record { columns = (view_at spec j).head; rows = in_order (view_table spec s j).rows } }

covered_set : (spec : Spec) (heads : List Head) (s all : State) (r : ℕ) (e : Expr) (found : List Row) → WellFormed spec → heads ≡ heads_of spec → all ≡ source_lists spec s → r < length spec.relations → e ≡ inverse_expr spec r
    → IsSetOf found (meaning (tables heads (λ n. get_or all n [])) e).rows → SameRows found (covered spec (sources_of spec s) r)
unfolding sorted_sources
covered_set spec heads s all r e found wf are lists l is h =
    let g = tables (heads_of spec) (λ n. get_or (source_lists spec s) n []) in
    let under : AreUnder spec (sorted_sources spec s) r [] g = record {
      relation = λ i k. λ q. record { columns = relation_columns spec i k q; rows = relation_list spec s i k q };
      view = λ j k. λ q. record { columns = view_columns spec j k q; rows = view_list spec s j k q };
      complement = λ q. record { columns = complement_columns spec r l q; rows = complement_list spec s r q };
    } in
    let agree : Agree spec r (sorted_sources spec s) (sources_of spec s) = record {
      views = λ j k. record { columns = refl; rows = SameRows-in_order (view_table spec s j).rows };
      sources = λ c k m. record { columns = refl; rows = λ x. refl };
    } in
    let means =
    (λ i. meaning (tables (are i) (λ n. get_or (lists i) n [])) (is i))
    ∙ inverse_means g spec wf (sorted_sources spec s) r [] under l in
    λ x. h.same x ∙ ap (λ (t : Table). has t.rows x) means ∙ covered_same spec r (sorted_sources spec s) (sources_of spec s) agree x

pub complement_sorted : (spec : Spec) (heads : List Head) (s all : State) (r : ℕ) (e : Expr) (found rows kept : List Row) → WellFormed spec → heads ≡ heads_of spec → all ≡ source_lists spec s → r < length spec.relations → e ≡ inverse_expr spec r
    → IsSetOf found (meaning (tables heads (λ n. get_or all n [])) e).rows → rows ≡ get_or s r [] → kept ≡ without rows found → in_order kept ≡ in_order (complement spec (sources_of spec s) r)
complement_sorted spec heads s all r e found rows kept wf are lists l is h own left =
    let same = covered_set spec heads s all r e found wf are lists l is h in
    ap in_order (left ∙ (λ i. filter (λ x. not (same x i)) (own i)))

-- ---- what is stored

pub stored_count : (spec : Spec) (s : State) → length (stored spec s) ≡ length spec.views + length spec.relations
stored_count spec s =
    let views = length_numbers_map (λ j. in_order (view_table spec s j).rows) (length spec.views) in
    let rest = length_numbers_map (λ r. in_order (complement spec (sources_of spec s) r)) (length spec.relations) in
    omega (arith, length-append (view_lists spec s) (complement_lists spec s), views, rest)
