-- The members of a view, joined in any grouping, give the rows of the view.
use Rattle.std.proofs.Common.{◌≡◌, ◌⊎◌, ◌↔◌, ℕ, suc, ◌<◌, Bool, true, List, [], ◌∷◌, ◌++◌, map, filter, fold, length, get_or, set, Contains, refl, sym, ◌∙◌, ap, subst, inl, inr, pos, if◌then◌else◌, append_assoc}
use Rattle.std.proofs.lemmas.List.{append-nil}
use Rattle.std.proofs.lemmas.List.Elements.{Contains-get_or, Contains-append_left, Contains-append_right, Contains-append_cases}
use Rattle.std.specs.List.{flat_map}
use Rattle.wh_base.specs.declared.cond.Cond.{Cond, fold-Cond}
use Rattle.wh_base.specs.declared.cond.Cond.TheOpen.{Cond-F}
use Rattle.wh_base.specs.declared.cond.Operand.{Operand}
use Rattle.wh_base.specs.declared.cond.Operand.TheVariants as operand
use Rattle.wh_base.specs.declared.value.Value.{Value}
use Rattle.wh_base.specs.declared.value.Value.TheVariants.{Int}
use Rattle.wh_base.specs.Columns.{name_eq, place_of, value_at, value_of, cut, others}
use Rattle.wh_base.specs.Cond.{holds, holds_at, satisfies, operand_value}
use Rattle.wh_base.specs.RowSet.{SameRows}
use Rattle.wh_base.specs.Tables.{Table, join, join_all}
use Rattle.wh_base.specs.Value.{value_cmp}
use Rattle.wh_base.proofs.InOrder.{SameMembers-from, SameRows-from}
use Rattle.wh_schema.specs.declared.spec.Spec.{Spec}
use Rattle.wh_schema.specs.Legality.{WellFormed, IsState}
use Rattle.wh_schema.specs.Warehouse.{Row, State, columns_of, view_at, table_of, view_table}
use Rattle.wh_laws.proofs.Lists.{Contains-nil, Contains-here, Contains-there, Contains-cases, Contains-is, filter_in, filter_from, map_in, map_from, map_same, map_agree, flat_in, flat_from}
use Rattle.wh_laws.proofs.Equality.{Name, name_eq_decides, name_is_in, is_false, others_from}
use Rattle.wh_laws.proofs.Joins.{AllFit, value_of-map, cut-map, cut-gives, fits-is, fits-values, join_from, join_in, left_column, right_column, column_in}
use Rattle.wh_laws.proofs.Views.{state_fits, view_from, view_in}
use Rattle.wh_delta_laws.specs.Deltas.{candidates_from}
use Rattle.wh_delta_laws.specs.Laws.{AreAmong}
use Rattle.wh_delta_laws.proofs.Deltas.{among_from, fewer_state, member_below}
use Rattle.wh_delta_laws.specs.Grouping.{Grouping, one, both, members, grouped, view_over, grouped_view, ordered_view}

-- ---- a condition on a row that an assignment gives reads the assignment alone

absent_value : (f : Name → Value) (columns : List Name) (n : Name) → (Contains columns n → ⊥) → value_of columns (map f columns) n ≡ Int (pos 0)
absent_value f [] n d = refl
absent_value f (h ∷ hs) n d =
    ap (λ b. value_at (f h ∷ map f hs) (if b then 0 else suc (place_of hs n)))
    (is_false (name_eq n h) (name_eq_decides n h) (λ e. d (Contains-is h n (h ∷ hs) (sym e) (Contains-here h hs))))
    ∙ absent_value f hs n (λ k. d (Contains-there h n hs k))

module _ (f : Name → Value) (xs ys : List Name) (to : (n : Name) → Contains xs n → Contains ys n) (back : (n : Name) → Contains ys n → Contains xs n) where
  same_value : (n : Name) → value_of xs (map f xs) n ≡ value_of ys (map f ys) n
  same_value n = elim (name_is_in xs n) [
    | inl h ↦ value_of-map f xs n h ∙ sym (value_of-map f ys n (to n h))
    | inr d ↦ absent_value f xs n d ∙ sym (absent_value f ys n (λ k. d (back n k)))
  ]

  same_operand : (a : Operand) → operand_value a xs (map f xs) ≡ operand_value a ys (map f ys)
  same_operand (operand.Attr n) = same_value n
  same_operand (operand.Int x) = refl
  same_operand (operand.Text x) = refl

  same_level : (c : Cond-F Bool) → holds_at xs (map f xs) c ≡ holds_at ys (map f ys) c
  same_level Cond-F.Always = refl
  same_level (Cond-F.Cmp a op b) =
      ap (λ v. satisfies op (value_cmp v (operand_value b xs (map f xs)))) (same_operand a)
      ∙ ap (λ v. satisfies op (value_cmp (operand_value a ys (map f ys)) v)) (same_operand b)
  same_level (Cond-F.And a b) = refl
  same_level (Cond-F.Or a b) = refl
  same_level (Cond-F.Not a) = refl

  same_algebra : holds_at xs (map f xs) ≡ holds_at ys (map f ys)
  same_algebra = λ i c. same_level c i

  pub same_holds : (c : Cond) → holds c xs (map f xs) ≡ holds c ys (map f ys)
  same_holds c = ap (λ h. fold-Cond Bool h c) same_algebra

-- ---- the columns of a join are those of its tables

folded_from_column : (t : Table) (ts : List Table) (n : Name) → Contains (fold join t ts).columns n → Contains t.columns n ⊎ ((u : Table) × Contains ts u × Contains u.columns n)
folded_from_column t [] n h = inl h
folded_from_column t (u ∷ us) n h =
    elim (folded_from_column (join t u) us n h) [
      | inl a ↦
          elim (Contains-append_cases t.columns (others t.columns u.columns) n a) [
            | inl b ↦ inl b
            | inr b ↦ inr (u, Contains-here u us, (others_from t.columns u.columns n b).0)
          ]
      | inr r ↦ inr (r.0, Contains-there u r.0 us r.1, r.2)
    ]

pub column_from : (ts : List Table) (n : Name) → Contains (join_all ts).columns n → (t : Table) × Contains ts t × Contains t.columns n
column_from [] n h = absurd (Contains-nil n h)
column_from (t ∷ ts) n h =
    elim (folded_from_column t ts n h) [
      | inl a ↦ (t, Contains-here t ts, a)
      | inr r ↦ (r.0, Contains-there t r.0 ts r.1, r.2)
    ]

-- ---- the join of a grouping

-- an assignment that gives the row of the join, and a row of each member
record GroupRow (spec : Spec) (s : State) (g : Grouping) (r : Row) : Type 0 where
  at : Name → Value
  row : r ≡ map at (grouped spec s g).columns
  parts : (i : ℕ) → Contains (members g) i → Contains (get_or s i []) (map at (columns_of spec i))

module _ (spec : Spec) (s : State) where
  group_column_in : (g : Grouping) (i : ℕ) (n : Name) → Contains (members g) i → Contains (columns_of spec i) n → Contains (grouped spec s g).columns n
  group_column_in (one k) i n h m =
      elim (Contains-cases k i [] h) [
        | inl e ↦ let P : ℕ → Type 0 = λ z. Contains (columns_of spec z) n in subst P (sym e) m
        | inr z ↦ absurd (Contains-nil i z)
      ]
  group_column_in (both g k) i n h m =
      elim (Contains-append_cases (members g) (members k) i h) [
        | inl a ↦ left_column (grouped spec s g) (grouped spec s k) n (group_column_in g i n a m)
        | inr a ↦ right_column (grouped spec s g) (grouped spec s k) n (group_column_in k i n a m)
      ]

  group_column_from : (g : Grouping) (n : Name) → Contains (grouped spec s g).columns n → (i : ℕ) × Contains (members g) i × Contains (columns_of spec i) n
  group_column_from (one k) n h = (k, Contains-here k [], h)
  group_column_from (both g k) n h =
      elim (Contains-append_cases (grouped spec s g).columns (others (grouped spec s g).columns (grouped spec s k).columns) n h) [
        | inl a ↦ let r = group_column_from g n a in (r.0, Contains-append_left (members g) (members k) r.0 r.1, r.2)
        | inr a ↦
            let r = group_column_from k n (others_from (grouped spec s g).columns (grouped spec s k).columns n a).0 in
            (r.0, Contains-append_right (members g) (members k) r.0 r.1, r.2)
      ]

  group_in : (g : Grouping) (f : Name → Value) → ((i : ℕ) → Contains (members g) i → Contains (get_or s i []) (map f (columns_of spec i))) → Contains (grouped spec s g).rows (map f (grouped spec s g).columns)
  group_in (one k) f parts = parts k (Contains-here k [])
  group_in (both g k) f parts =
      join_in (grouped spec s g) (grouped spec s k) f
      (group_in g f (λ i h. parts i (Contains-append_left (members g) (members k) i h)))
      (group_in k f (λ i h. parts i (Contains-append_right (members g) (members k) i h)))

  -- an assignment may be replaced where it is the same on the columns
  replaced : (g : Grouping) (f h : Name → Value) → map f (grouped spec s g).columns ≡ map h (grouped spec s g).columns → (i : ℕ) → Contains (members g) i
      → Contains (get_or s i []) (map h (columns_of spec i)) → Contains (get_or s i []) (map f (columns_of spec i))
  replaced g f h e i m k =
      Contains-is (map h (columns_of spec i)) (map f (columns_of spec i)) (get_or s i [])
      (map_same h f (columns_of spec i) (λ n c. sym (map_agree f h (grouped spec s g).columns e n (group_column_in g i n m c)))) k

  module _ (wf : WellFormed spec) (st : IsState spec s) where
    group_from : (g : Grouping) → ((i : ℕ) → Contains (members g) i → i < length spec.relations) → (r : Row) → Contains (grouped spec s g).rows r → GroupRow spec s g r
    group_from (one k) below r h =
        let fit = state_fits spec s wf st k (below k (Contains-here k [])) r h in
        let is : r ≡ map (value_of (columns_of spec k) r) (columns_of spec k) = sym (fits-values (columns_of spec k) r fit) in
        let P : ℕ → Type 0 = λ z. Contains (get_or s z []) (map (value_of (columns_of spec k) r) (columns_of spec z)) in
        record {
          at = value_of (columns_of spec k) r;
          row = is;
          parts = λ i m. elim (Contains-cases k i [] m) [
            | inl e ↦ subst P e (Contains-is r (map (value_of (columns_of spec k) r) (columns_of spec k)) (get_or s k []) is h)
            | inr z ↦ absurd (Contains-nil i z)
          ];
        }
    group_from (both g k) below r h =
        let bg : (i : ℕ) → Contains (members g) i → i < length spec.relations = λ i m. below i (Contains-append_left (members g) (members k) i m) in
        let bk : (i : ℕ) → Contains (members k) i → i < length spec.relations = λ i m. below i (Contains-append_right (members g) (members k) i m) in
        let fg : AllFit (grouped spec s g) = λ x m. let f = group_from g bg x m in fits-is f.at (grouped spec s g).columns x f.row in
        let fk : AllFit (grouped spec s k) = λ x m. let f = group_from k bk x m in fits-is f.at (grouped spec s k).columns x f.row in
        let a = join_from (grouped spec s g) (grouped spec s k) fg fk r h in
        let x = group_from g bg (map a.at (grouped spec s g).columns) a.left in
        let y = group_from k bk (map a.at (grouped spec s k).columns) a.right in
        record {
          at = a.at;
          row = a.row;
          parts = λ i m. elim (Contains-append_cases (members g) (members k) i m) [
            | inl b ↦ replaced g a.at x.at x.row i b (x.parts i b)
            | inr b ↦ replaced k a.at y.at y.row i b (y.parts i b)
          ];
        }

    -- ---- the view

    module _ (j : ℕ) (l : j < length spec.views) (g : Grouping)
        (to : (i : ℕ) → Contains (members g) i → Contains (view_at spec j).relations i) (back : (i : ℕ) → Contains (view_at spec j).relations i → Contains (members g) i) where
      abbrev list : List Name
      list = (join_all (map (table_of spec s) (view_at spec j).relations)).columns

      abbrev tree : List Name
      tree = (grouped spec s g).columns

      list_to_tree : (n : Name) → Contains list n → Contains tree n
      list_to_tree n h =
          let ts = map (table_of spec s) (view_at spec j).relations in
          let a = column_from ts n h in
          let b = map_from (table_of spec s) (view_at spec j).relations a.0 a.1 in
          let P : Table → Type 0 = λ t. Contains t.columns n in
          group_column_in g b.0 n (back b.0 b.1) (subst P (sym b.2) a.2)

      tree_to_list : (n : Name) → Contains tree n → Contains list n
      tree_to_list n h =
          let a = group_column_from g n h in
          column_in (map (table_of spec s) (view_at spec j).relations) (table_of spec s a.0) n (map_in (table_of spec s) (view_at spec j).relations a.0 (to a.0 a.1)) a.2

      head_to_tree : (n : Name) → Contains (view_at spec j).head n → Contains tree n
      head_to_tree n h =
          let k = (wf.views (view_at spec j) (Contains-get_or spec.views j _ l)).head n h in
          group_column_in g k.0 n (back k.0 k.1) k.2

      into_view : (w : Row) → Contains (grouped_view spec s j g).rows w → Contains (view_table spec s j).rows w
      into_view w h =
          let v = view_at spec j in
          let a = map_from (cut tree v.head) (filter (holds v.cond tree) (grouped spec s g).rows) w h in
          let b = filter_from (holds v.cond tree) (grouped spec s g).rows a.0 a.1 in
          let below = (wf.views v (Contains-get_or spec.views j _ l)).members in
          let f = group_from g (λ i m. below i (to i m)) a.0 b.0 in
          let P : Row → Type 0 = λ q. holds v.cond tree q ≡ true in
          let passes : holds v.cond tree (map f.at tree) ≡ true = subst P {y = map f.at tree} f.row b.1 in
          Contains-is (map f.at v.head) w (view_table spec s j).rows (sym (cut-gives f.at tree v.head a.0 w a.2 f.row head_to_tree))
          (view_in spec s wf j l f.at (λ i m. f.parts i (back i m)) (same_holds f.at list tree list_to_tree tree_to_list v.cond ∙ passes))

      from_view : (w : Row) → Contains (view_table spec s j).rows w → Contains (grouped_view spec s j g).rows w
      from_view w h =
          let v = view_at spec j in
          let f = view_from spec s wf st j l w h in
          let q = map f.at tree in
          let here : Contains (grouped spec s g).rows q = group_in g f.at (λ i m. f.parts i (to i m)) in
          let passes : holds v.cond tree q ≡ true = same_holds f.at tree list tree_to_list list_to_tree v.cond ∙ f.passes in
          Contains-is (cut tree v.head q) w (grouped_view spec s j g).rows (cut-map f.at tree v.head head_to_tree ∙ sym f.row)
          (map_in (cut tree v.head) (filter (holds v.cond tree) (grouped spec s g).rows) q (filter_in (holds v.cond tree) (grouped spec s g).rows q here passes))

pub any_grouping : (spec : Spec) → WellFormed spec → (s : State) → IsState spec s → (j : ℕ) → j < length spec.views
    → (g : Grouping) → ((i : ℕ) → Contains (members g) i ↔ Contains (view_at spec j).relations i)
    → SameRows (grouped_view spec s j g).rows (view_table spec s j).rows
any_grouping spec wf s st j l g same =
    let to : (i : ℕ) → Contains (members g) i → Contains (view_at spec j).relations i = λ i. (same i).0 in
    let back : (i : ℕ) → Contains (view_at spec j).relations i → Contains (members g) i = λ i. (same i).1 in
    SameRows-from _ _ (λ w. (into_view spec s wf st j l g to back w, from_view spec s wf st j l g to back w))

-- ---- a list of the members is a grouping to the left

left_deep : Grouping → List ℕ → Grouping
left_deep g [] = g
left_deep g (i ∷ is) = left_deep (both g (one i)) is

left_deep_table : (spec : Spec) (s : State) (g : Grouping) (l : List ℕ) → fold join (grouped spec s g) (map (table_of spec s) l) ≡ grouped spec s (left_deep g l)
unfolding left_deep
left_deep_table spec s g [] = refl
left_deep_table spec s g (i ∷ is) = left_deep_table spec s (both g (one i)) is

left_deep_members : (g : Grouping) (l : List ℕ) → members (left_deep g l) ≡ members g ++ l
unfolding left_deep
left_deep_members g [] = sym (append-nil (members g))
left_deep_members g (i ∷ is) = left_deep_members (both g (one i)) is ∙ append_assoc (members g) (i ∷ []) is

pub any_order : (spec : Spec) → WellFormed spec → (s : State) → IsState spec s → (j : ℕ) → j < length spec.views
    → (order : List ℕ) → ((i : ℕ) → Contains order i ↔ Contains (view_at spec j).relations i)
    → SameRows (ordered_view spec s j order).rows (view_table spec s j).rows
any_order spec wf s st j l [] same =
    let first = (wf.views (view_at spec j) (Contains-get_or spec.views j _ l)).member in
    absurd (Contains-nil first.0 ((same first.0).1 first.1))
any_order spec wf s st j l (i ∷ is) same =
    let g = left_deep (one i) is in
    let P : List ℕ → Type 0 = λ z. (k : ℕ) → Contains z k ↔ Contains (view_at spec j).relations k in
    let Q : Table → Type 0 = λ z. SameRows (view_over spec j z).rows (view_table spec s j).rows in
    let listed : P (members g) = subst P (sym (left_deep_members (one i) is)) same in
    subst Q (sym (left_deep_table spec s (one i) is)) (any_grouping spec wf s st j l g listed)

-- the candidates, by an order for each member
pub candidates_in_orders : (spec : Spec) → WellFormed spec → (t : State) → IsState spec t → (j : ℕ) → j < length spec.views
    → (rows : ℕ → List Row) → ((i : ℕ) → Contains (view_at spec j).relations i → AreAmong (rows i) (get_or t i []))
    → (orders : ℕ → List ℕ) → ((i : ℕ) → Contains (view_at spec j).relations i → (k : ℕ) → Contains (orders i) k ↔ Contains (view_at spec j).relations k)
    → SameRows (candidates_from spec t j rows) (flat_map (λ i. (ordered_view spec (set t i (rows i)) j (orders i)).rows) (view_at spec j).relations)
candidates_in_orders spec wf t st j l rows sub orders same =
    let members = (view_at spec j).relations in
    let plain : ℕ → List Row = λ i. (view_table spec (set t i (rows i)) j).rows in
    let ordered : ℕ → List Row = λ i. (ordered_view spec (set t i (rows i)) j (orders i)).rows in
    let below : (i : ℕ) → Contains members i → i < length t = λ i m. member_below spec wf t st j l i m in
    let states : (i : ℕ) → Contains members i → IsState spec (set t i (rows i)) = λ i m.
    fewer_state t i (below i m) (rows i) spec st (among_from (rows i) (get_or t i []) (sub i m)) in
    let each : (i : ℕ) → Contains members i → (w : Row) → Contains (ordered i) w ↔ Contains (plain i) w = λ i m.
    SameMembers-from (ordered i) (plain i) (any_order spec wf (set t i (rows i)) (states i m) j l (orders i) (same i m)) in
    SameRows-from _ _ (λ w. (
      λ h. let a = flat_from plain members w h in flat_in ordered members a.0 w a.1 ((each a.0 a.1 w).1 a.2),
      λ h. let a = flat_from ordered members w h in flat_in plain members a.0 w a.1 ((each a.0 a.1 w).0 a.2),
    ))
