-- The rows of a state and of a view, by assignments of values to names.
use Rattle.std.proofs.Common.{◌≡◌, ℕ, ◌<◌, true, false, List, [], ◌∷◌, map, filter, length, get_or, Contains, refl, sym, ◌∙◌, ap, subst, suc-ne-zero, if◌then◌else◌, suc}
use Rattle.std.specs.List.{IsDistinct}
use Rattle.std.proofs.lemmas.List.Elements.{Contains-get_or, All-contains, All-from_recursion}
use Rattle.std.proofs.lemmas.Map.Keys.{IsDistinct-head, IsDistinct-tail}
use Rattle.wh_base.specs.declared.value.Value.{Value}
use Rattle.wh_base.specs.Columns.{name_eq, place_of, value_at, value_of, cut}
use Rattle.wh_base.specs.Cond.{holds}
use Rattle.wh_base.specs.Tables.{Table, join_all}
use Rattle.wh_schema.specs.declared.spec.Spec.{Spec}
use Rattle.wh_schema.specs.Legality.{WellFormed, IsState}
use Rattle.wh_schema.specs.Warehouse.{Row, State, columns_of, view_at, table_of, view_table}
use Rattle.wh_laws.proofs.Lists.{Contains-is, filter_in, filter_from, map_in, map_from, map_same}
use Rattle.wh_laws.proofs.Equality.{Name, name_eq_decides, when_false, is_false, has_decides}
use Rattle.wh_laws.proofs.Joins.{Fits, AllFit, cut-values, cut-map, cut-gives, column_in, joined_from, joined_in}

-- ---- a row of the right width, over distinct columns, is given back by its values

first_value : (h : Name) (hs : List Name) (v : Value) (vs : Row) → value_of (h ∷ hs) (v ∷ vs) h ≡ v
first_value h hs v vs = ap (λ b. value_at (v ∷ vs) (if b then 0 else suc (place_of hs h))) ((name_eq_decides h h).1 refl)

later_value : (h : Name) (hs : List Name) (v : Value) (vs : Row) (n : Name) → (h ≡ n → ⊥) → value_of (h ∷ hs) (v ∷ vs) n ≡ value_of hs vs n
later_value h hs v vs n d = ap (λ b. value_at (v ∷ vs) (if b then 0 else suc (place_of hs n))) (is_false (name_eq n h) (name_eq_decides n h) (λ e. d (sym e)))

differs : (h : Name) (hs : List Name) → IsDistinct name_eq (h ∷ hs) → (n : Name) → Contains hs n → h ≡ n → ⊥
differs h hs d n k = when_false (name_eq h n) (name_eq_decides h n) (All-contains (λ m. name_eq h m ≡ false) hs n (All-from_recursion (λ m. name_eq h m ≡ false) hs (IsDistinct-head name_eq h hs d)) k)

values_are : (columns : List Name) (r : Row) → IsDistinct name_eq columns → length r ≡ length columns → map (value_of columns r) columns ≡ r
values_are [] [] d e = refl
values_are [] (v ∷ vs) d e = absurd (suc-ne-zero _ e)
values_are (h ∷ hs) [] d e = absurd (suc-ne-zero _ (sym e))
values_are (h ∷ hs) (v ∷ vs) d e =
    let rest : map (value_of (h ∷ hs) (v ∷ vs)) hs ≡ vs =
    map_same (value_of (h ∷ hs) (v ∷ vs)) (value_of hs vs) hs (λ n k. later_value h hs v vs n (differs h hs d n k))
    ∙ values_are hs vs (IsDistinct-tail name_eq h hs d) (cc e) in
    ap (λ x. x ∷ map (value_of (h ∷ hs) (v ∷ vs)) hs) (first_value h hs v vs) ∙ ap (λ l. v ∷ l) rest

pub fits_width : (columns : List Name) (r : Row) → IsDistinct name_eq columns → length r ≡ length columns → Fits columns r
fits_width columns r d e = cut-values columns columns r ∙ values_are columns r d e

pub state_fits : (spec : Spec) (s : State) → WellFormed spec → IsState spec s → (i : ℕ) → i < length spec.relations → (x : Row) → Contains (get_or s i []) x → Fits (columns_of spec i) x
state_fits spec s wf st i l x h = fits_width (columns_of spec i) x (wf.distinct i l) (st.widths i l x ((has_decides (get_or s i []) x).1 h))

-- ---- views

-- the row of a view that an assignment gives
pub record ViewRow (spec : Spec) (s : State) (j : ℕ) (w : Row) : Type 0 where
  pub at : Name → Value
  pub row : w ≡ map at (view_at spec j).head
  pub parts : (i : ℕ) → Contains (view_at spec j).relations i → Contains (get_or s i []) (map at (columns_of spec i))
  pub passes : holds (view_at spec j).cond (join_all (map (table_of spec s) (view_at spec j).relations)).columns (map at (join_all (map (table_of spec s) (view_at spec j).relations)).columns) ≡ true

module _ (spec : Spec) (s : State) (wf : WellFormed spec) where
  head_in_join : (j : ℕ) → j < length spec.views → (n : Name) → Contains (view_at spec j).head n → Contains (join_all (map (table_of spec s) (view_at spec j).relations)).columns n
  head_in_join j l n h =
      let v = view_at spec j in
      let k = (wf.views v (Contains-get_or spec.views j _ l)).head n h in
      column_in (map (table_of spec s) v.relations) (table_of spec s k.0) n (map_in (table_of spec s) v.relations k.0 k.1) k.2

  pub view_from : IsState spec s → (j : ℕ) → j < length spec.views → (w : Row) → Contains (view_table spec s j).rows w → ViewRow spec s j w
  view_from st j l w h =
      let v = view_at spec j in
      let ts = map (table_of spec s) v.relations in
      let a = map_from (cut (join_all ts).columns v.head) (filter (holds v.cond (join_all ts).columns) (join_all ts).rows) w h in
      let b = filter_from (holds v.cond (join_all ts).columns) (join_all ts).rows a.0 a.1 in
      let fit : (t : Table) → Contains ts t → AllFit t = λ t k.
      let q = map_from (table_of spec s) v.relations t k in
      let below = (wf.views v (Contains-get_or spec.views j _ l)).members q.0 q.1 in
      let P : Table → Type 0 = AllFit in
      subst P q.2 (λ x m. state_fits spec s wf st q.0 below x m) in
      let f = joined_from ts fit a.0 b.0 in
      record {
        at = f.at;
        row = cut-gives f.at (join_all ts).columns v.head a.0 w a.2 f.row (head_in_join j l);
        parts = λ i k. f.parts (table_of spec s i) (map_in (table_of spec s) v.relations i k);
        passes = let P : Row → Type 0 = λ q. holds v.cond (join_all ts).columns q ≡ true in subst P {y = map f.at (join_all ts).columns} f.row b.1;
      }

  pub view_in : (j : ℕ) → j < length spec.views → (f : Name → Value) → ((i : ℕ) → Contains (view_at spec j).relations i → Contains (get_or s i []) (map f (columns_of spec i)))
      → holds (view_at spec j).cond (join_all (map (table_of spec s) (view_at spec j).relations)).columns (map f (join_all (map (table_of spec s) (view_at spec j).relations)).columns) ≡ true
      → Contains (view_table spec s j).rows (map f (view_at spec j).head)
  view_in j l f parts t =
      let v = view_at spec j in
      let ts = map (table_of spec s) v.relations in
      let here : Contains (join_all ts).rows (map f (join_all ts).columns) =
      joined_in ts f (λ u k. let q = map_from (table_of spec s) v.relations u k in let P : Table → Type 0 = λ z. Contains z.rows (map f z.columns) in subst P q.2 (parts q.0 q.1)) in
      Contains-is (cut (join_all ts).columns v.head (map f (join_all ts).columns)) (map f v.head) (view_table spec s j).rows
      (cut-map f (join_all ts).columns v.head (head_in_join j l))
      (map_in (cut (join_all ts).columns v.head) (filter (holds v.cond (join_all ts).columns) (join_all ts).rows) (map f (join_all ts).columns)
      (filter_in (holds v.cond (join_all ts).columns) (join_all ts).rows (map f (join_all ts).columns) here t))
