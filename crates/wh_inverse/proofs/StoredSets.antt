-- The indexed sets of the stored tables, by the columns of their numbers.
use Rattle.std.proofs.Common.{◌≡◌, ⊎_elim, ℕ, zero, suc, ◌+◌, ◌-◌, ◌<◌, ◌≤◌, true, false, List, [], ◌∷◌, ◌++◌, map, length, length-append, get_or, Some, None, unwrap_or, refl, sym, ap, subst, ◌∙◌, arith}
use Rattle.std.specs.Prelude.{All, slice_get}
use Rattle.std.specs.List.{list_all, list_any}
use Rattle.std.proofs.lemmas.Bool.{cases_lt}
use Rattle.std.proofs.lemmas.Bool.Decides.{nat_tests}
use Rattle.std.proofs.lemmas.Map.Keys.{IsDistinct-from_apart}
use Rattle.std.proofs.lemmas.Option.{unwrap_or-slice_get, slice_get-get_or}
use Rattle.std.proofs.lemmas.List.{length-map, get_or-map, get_or_append_left, get_or-append_right}
use Rattle.wh_base.specs.declared.head.Head.{Head}
use Rattle.wh_base.specs.declared.value.Attr.{Attr}
use Rattle.wh_base.specs.declared.value.Delta.{Delta}
use Rattle.wh_base.specs.declared.value.Value.{Value}
use Rattle.wh_base.specs.Columns.{all_in, names_of, place_of}
use Rattle.wh_base.specs.Heads.{attrs_at, columns_at}
use Rattle.wh_base.specs.RowSet.{has, AreDistinct}
use Rattle.wh_base.specs.Value.{row_eq}
use Rattle.wh_eval.specs.Stored.{FitHeads, first_stored, fits, indexes_in, is_stored, stored_indexes}
use Rattle.wh_eval.proofs.StoredLemmas.{first_indexed, fits_at, fits_begun}
use Rattle.wh_plan.specs.Indexes.{index_sets, indexes, key_sets, single_sets}
use Rattle.wh_plan.proofs.IndexLemmas.{column_sets}
use Rattle.wh_schema.specs.declared.spec.Relation.{Relation}
use Rattle.wh_schema.specs.declared.spec.Spec.{Spec}
use Rattle.wh_schema.specs.declared.spec.View.{View}
use Rattle.wh_schema.specs.Heads.{heads_of, relation_head, view_head, complement_head}
use Rattle.wh_schema.specs.Warehouse.{Row, columns_of, view_at, no_relation, no_view}
use Rattle.wh_table.specs.Table.{CanApply, IndexedRows, IsColumnSet, IsIndexed}
use Rattle.wh_inverse.specs.Inverse.{HaveIndexes}
use Rattle.wh_inverse.proofs.BelowLemmas.{view-columns, complement-columns}

pub get_or_none : {X : Type 0} (xs : List X) (i : ℕ) (d : X) → slice_get xs i ≡ None → get_or xs i d ≡ d
get_or_none xs i d is = sym (unwrap_or-slice_get xs i d) ∙ ap (λ o. unwrap_or o d) is

module _ (spec : Spec) where
  abbrev of_view : View → List (List ℕ)
  of_view v = index_sets spec v.head

  abbrev of_relation : Relation → List (List ℕ)
  of_relation r = index_sets spec (names_of r.attrs)

  view_sets : (j : ℕ) → j < length spec.views → get_or (indexes spec) j [] ≡ index_sets spec (view_at spec j).head
  view_sets j l =
      let early : j < length (map of_view spec.views) = omega (arith, l, length-map spec.views of_view) in
      get_or_append_left (map of_view spec.views) (map of_relation spec.relations) [] j early ∙ get_or-map of_view spec.views j no_view [] l

  pub complement_sets : (r : ℕ) → r < length spec.relations → get_or (indexes spec) (length spec.views + r) [] ≡ index_sets spec (columns_of spec r)
  complement_sets r l =
      let back : length spec.views + r - length spec.views ≡ r = omega arith in
      get_or-append_right (map of_view spec.views) (map of_relation spec.relations) (length spec.views) (length spec.views + r) [] (length-map spec.views of_view) (omega arith)
      ∙ ap (λ k. get_or (map of_relation spec.relations) k []) back ∙ get_or-map of_relation spec.relations r no_relation [] l

  pub sets_are : (k : ℕ) → k < length spec.views + length spec.relations → get_or (indexes spec) k [] ≡ index_sets spec (columns_at (heads_of spec) (length spec.relations + k))
  sets_are k l = ⊎_elim (λ low. view_sets k low ∙ ap (index_sets spec) (sym (view-columns spec k low))) (λ high. behind high) (cases_lt k (length spec.views))
    where
      behind : length spec.views ≤ k → get_or (indexes spec) k [] ≡ index_sets spec (columns_at (heads_of spec) (length spec.relations + k))
      behind high =
          let r = k - length spec.views in
          let is : length spec.views + r ≡ k = omega (arith, high) in
          let number : length spec.relations + length spec.views + r ≡ length spec.relations + k = omega (arith, is) in
          let within : r < length spec.relations = omega (arith, is, l) in
          ap (λ n. get_or (indexes spec) n []) (sym is) ∙ complement_sets r within
          ∙ ap (index_sets spec) (sym (complement-columns spec r within) ∙ ap (columns_at (heads_of spec)) number)

  columns_long : (n : ℕ) → length (columns_at (heads_of spec) n) ≡ length (attrs_at (heads_of spec) n)
  columns_long n = length-map (attrs_at (heads_of spec) n) (λ (a : Attr). a.name)

  -- they are sets of the columns of their table
  pub sets_fit : (k : ℕ) → k < length spec.views + length spec.relations → All (IsColumnSet (length (attrs_at (heads_of spec) (length spec.relations + k)))) (get_or (indexes spec) k [])
  sets_fit k l =
      let columns = columns_at (heads_of spec) (length spec.relations + k) in
      subst (λ (w : ℕ). All (IsColumnSet w) (get_or (indexes spec) k [])) (columns_long (length spec.relations + k))
      (subst (λ (sets : List (List ℕ)). All (IsColumnSet (length columns)) sets) (sym (sets_are k l)) (column_sets spec columns))

  -- a table with these sets fits its number
  pub table_fits : (k : ℕ) → k < length spec.views + length spec.relations → (t : IndexedRows) → t.width ≡ length (attrs_at (heads_of spec) (length spec.relations + k)) → t.indexes ≡ get_or (indexes spec) k []
      → fits (attrs_at (heads_of spec) (length spec.relations + k)) (Some t) ≡ true
  table_fits k l t width sets =
      let columns = columns_at (heads_of spec) (length spec.relations + k) in
      let long : length columns ≡ t.width = columns_long (length spec.relations + k) ∙ sym width in
      fits_begun (attrs_at (heads_of spec) (length spec.relations + k)) t (key_sets columns spec.relations) width
      (sets ∙ sets_are k l ∙ ap (λ n. single_sets n ++ key_sets columns spec.relations) long)

pub heads_count : (spec : Spec) → length (heads_of spec) ≡ length spec.relations + length spec.views + length spec.relations
heads_count spec =
    let relations = map relation_head spec.relations in
    let views = map (view_head spec) spec.views in
    let complements = map complement_head spec.relations in
    let a = length-append (relations ++ views) complements in
    let b = length-append relations views in
    let c = length-map spec.relations relation_head in
    let d = length-map spec.views (view_head spec) in
    let e = length-map spec.relations complement_head in
    omega (arith, a, b, c, d, e)

-- three tables fit the last three of five heads
pub three_fit : (heads : List Head) (n : ℕ) (a b c : IndexedRows) → first_stored heads (a ∷ b ∷ c ∷ []) ≡ n → fits (attrs_at heads (n + 0)) (Some a) ≡ true → fits (attrs_at heads (n + 1)) (Some b) ≡ true
    → fits (attrs_at heads (n + 2)) (Some c) ≡ true → FitHeads heads (a ∷ b ∷ c ∷ [])
three_fit heads n a b c first x y z zero = ap (λ m. fits (attrs_at heads (m + 0)) (Some a)) first ∙ x
three_fit heads n a b c first x y z (suc zero) = ap (λ m. fits (attrs_at heads (m + 1)) (Some b)) first ∙ y
three_fit heads n a b c first x y z (suc (suc zero)) = ap (λ m. fits (attrs_at heads (m + 2)) (Some c)) first ∙ z
three_fit heads n a b c first x y z (suc (suc (suc k))) = refl

pub three_indexed : (spec : Spec) (heads : List Head) (a b c : IndexedRows) → length spec.relations ≡ 2 → length spec.views ≡ 1 → first_stored heads (a ∷ b ∷ c ∷ []) ≡ length spec.relations
    → a.indexes ≡ get_or (indexes spec) 0 [] → b.indexes ≡ get_or (indexes spec) 1 [] → c.indexes ≡ get_or (indexes spec) 2 [] → HaveIndexes spec heads (a ∷ b ∷ c ∷ [])
three_indexed spec heads a b c relations views first x y z k l = back k ∙ by k l
  where
    back : (k : ℕ) → indexes_in (slice_get (a ∷ b ∷ c ∷ []) (length spec.relations + k - first_stored heads (a ∷ b ∷ c ∷ []))) ≡ indexes_in (slice_get (a ∷ b ∷ c ∷ []) k)
    back k = let is : length spec.relations + k - first_stored heads (a ∷ b ∷ c ∷ []) ≡ k = omega (arith, first) in ap (λ n. indexes_in (slice_get (a ∷ b ∷ c ∷ []) n)) is

    by : (k : ℕ) → k < length spec.views + length spec.relations → indexes_in (slice_get (a ∷ b ∷ c ∷ []) k) ≡ get_or (indexes spec) k []
    by zero l = x
    by (suc zero) l = y
    by (suc (suc zero)) l = z
    by (suc (suc (suc k))) l = absurd (omega (arith, l, relations, views))

-- ---- rows put into an empty table

none_held : (rows : List Row) → list_any (has []) rows ≡ false
none_held [] = refl
none_held (row ∷ rows) = none_held rows

nil_distinct : AreDistinct []
nil_distinct = IsDistinct-from_apart row_eq [] (λ i j d before inside. absurd (omega arith))

pub fresh_applies : (held : List (List Value)) (p : Delta) (rows : List (List Value)) → held ≡ [] → p.deleted ≡ [] → p.inserted ≡ rows → AreDistinct rows → CanApply held p
fresh_applies held p rows none gone come distinct = record {
  present = ap (λ (l : List Row). list_all (has held) l) gone;
  absent = (λ i. list_any (has (none i)) p.inserted) ∙ none_held p.inserted;
  deleted_once = subst AreDistinct (sym gone) nil_distinct;
  inserted_once = subst AreDistinct (sym come) distinct;
}

-- ---- one column is an indexed set

no_table : IndexedRows
no_table = record { rows = []; width = 0; indexes = []; spare = 0 }

pub one_indexed : (heads : List Head) (tables : List IndexedRows) (n : ℕ) (cols : List (List ℕ)) (name : List ℕ) → length tables ≤ length heads → FitHeads heads tables → is_stored heads tables n ≡ true → cols ≡ name ∷ []
    → all_in (columns_at heads n) cols ≡ true → IsIndexed (stored_indexes heads tables n) (map (place_of (columns_at heads n)) cols)
one_indexed heads tables n cols name enough fit held one all =
    let k = n - first_stored heads tables in
    let within : k < length tables = grind (arith, nat_tests) in
    let t = get_or tables k no_table in
    let is : slice_get tables k ≡ Some t = slice_get-get_or tables k no_table within in
    let singles = fits_at heads tables n t fit held is in
    subst (λ (sets : List (List ℕ)). IsIndexed sets (map (place_of (columns_at heads n)) cols)) (sym (ap indexes_in is))
    (subst (λ (names : List (List ℕ)). IsIndexed t.indexes (map (place_of (columns_at heads n)) names)) (sym one)
    (first_indexed t.indexes (columns_at heads n) (name ∷ []) singles (sym (ap (all_in (columns_at heads n)) one) ∙ all) (omega arith)))
