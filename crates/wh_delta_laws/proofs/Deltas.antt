-- A row of a view in a state, where the rows of one member are others.
use Rattle.std.proofs.Common.{◌≡◌, ◌⊎◌, ℕ, ◌<◌, Bool, true, false, not, List, [], ◌∷◌, ◌++◌, map, fold, length, get_or, set, Contains, refl, sym, ◌∙◌, ap, subst, inl, inr}
use Rattle.std.specs.List.{flat_map, list_all}
use Rattle.std.proofs.lemmas.Bool.{cases_eq, cases_Bool}
use Rattle.std.proofs.lemmas.List.{get_or-set_same, get_or-set_other, length-set}
use Rattle.std.proofs.lemmas.List.Elements.{Contains-get_or, Contains-append_left, Contains-append_right, Contains-append_cases}
use Rattle.std.specs.Cmp.{both_ways}
use Rattle.wh_base.specs.Columns.{others, shared, cut}
use Rattle.wh_base.specs.Cond.{holds}
use Rattle.wh_base.specs.RowSet.{has, SameRows}
use Rattle.wh_base.specs.Tables.{Table, join, join_all, without}
use Rattle.wh_base.specs.Value.{row_eq}
use Rattle.wh_base.specs.ValueLaws.{row_eq-Decides}
use Rattle.wh_base.proofs.InOrder.{SameRows-from}
use Rattle.wh_schema.specs.declared.spec.Spec.{Spec}
use Rattle.wh_schema.specs.Legality.{WellFormed, IsState}
use Rattle.wh_schema.specs.Warehouse.{Row, State, columns_of, view_at, table_of, view_table}
use Rattle.wh_laws.proofs.Lists.{Contains-nil, Contains-cases, Contains-here, Contains-is, filter_in, filter_from, flat_in, flat_from, every_from, all_fails}
use Rattle.wh_laws.proofs.Equality.{Name, has_decides, row_is_in, is_not, is_not_in, when_false, shared_from}
use Rattle.wh_laws.proofs.Joins.{cut-map, cut-is}
use Rattle.wh_laws.proofs.Views.{ViewRow, view_from, view_in}
use Rattle.wh_delta_laws.specs.Deltas.{new_rows, only_new, candidates, candidates_from, entering, leaving, NewRow, matching_rows}
use Rattle.wh_delta_laws.specs.Laws.{AreAmong, HaveNewRows}

-- the columns of a join go by those of its tables
folded_columns : (spec : Spec) (s t : State) (a b : Table) → a.columns ≡ b.columns → (l : List ℕ) → (fold join a (map (table_of spec s) l)).columns ≡ (fold join b (map (table_of spec t) l)).columns
folded_columns spec s t a b e [] = e
folded_columns spec s t a b e (i ∷ is) =
    folded_columns spec s t (join a (table_of spec s i)) (join b (table_of spec t i)) (ap (λ h. h ++ others h (columns_of spec i)) e) is

pub join_columns : (spec : Spec) (s t : State) (l : List ℕ) → (join_all (map (table_of spec s) l)).columns ≡ (join_all (map (table_of spec t) l)).columns
join_columns spec s t [] = refl
join_columns spec s t (i ∷ is) = folded_columns spec s t (table_of spec s i) (table_of spec t i) refl is

-- ---- rows among others

pub among_from : (rows all : List Row) → AreAmong rows all → (x : Row) → Contains rows x → Contains all x
among_from rows all h x k = (has_decides all x).0 (h x ((has_decides rows x).1 k))

pub among_in : (rows all : List Row) → ((x : Row) → Contains rows x → Contains all x) → AreAmong rows all
among_in rows all h x k = (has_decides all x).1 (h x ((has_decides rows x).0 k))

-- ---- rows without others

pub without_in : (rows gone : List Row) (x : Row) → Contains rows x → (Contains gone x → ⊥) → Contains (without rows gone) x
without_in rows gone x h n = filter_in (λ r. not (has gone r)) rows x h (is_not_in (has gone x) (has_decides gone x) n)

pub without_from : (rows gone : List Row) (x : Row) → Contains (without rows gone) x → Contains rows x × (Contains gone x → ⊥)
without_from rows gone x h =
    let r = filter_from (λ y. not (has gone y)) rows x h in
    (r.0, is_not (has gone x) (has_decides gone x) r.1)

only_one : (x y : Row) (rows : List Row) → Contains rows x → Contains (x ∷ []) y → Contains rows y
only_one x y rows h k = elim (Contains-cases x y [] k) [ inl e ↦ Contains-is x y rows e h | inr z ↦ absurd (Contains-nil y z) ]

-- ---- a state with other rows of one relation

module _ (t : State) (i : ℕ) (l : i < length t) (rows : List Row) where
  rows_here : (k : ℕ) → k ≡ i → get_or (set t i rows) k [] ≡ rows
  rows_here k e = ap (λ n. get_or (set t i rows) n []) e ∙ get_or-set_same t i rows [] l

  -- a row of the new list, or of another relation's
  placed_at : (k : ℕ) (x : Row) → (k ≡ i → Contains rows x) → Contains (get_or t k []) x → (k ≡ i) ⊎ (k ≡ i → ⊥) → Contains (get_or (set t i rows) k []) x
  placed_at k x h m (inl e) = let P : List Row → Type 0 = λ z. Contains z x in subst P (sym (rows_here k e)) (h e)
  placed_at k x h m (inr n) = let P : List Row → Type 0 = λ z. Contains z x in subst P (sym (get_or-set_other t i k rows [] n)) m

  pub placed : (k : ℕ) (x : Row) → (k ≡ i → Contains rows x) → Contains (get_or t k []) x → Contains (get_or (set t i rows) k []) x
  placed k x h m = placed_at k x h m (cases_eq k i)

  fewer_at : ((x : Row) → Contains rows x → Contains (get_or t i []) x) → (k : ℕ) (x : Row) → (k ≡ i) ⊎ (k ≡ i → ⊥) → Contains (get_or (set t i rows) k []) x → Contains (get_or t k []) x
  fewer_at sub k x (inl e) m =
      let P : List Row → Type 0 = λ z. Contains z x in
      let Q : ℕ → Type 0 = λ n. Contains (get_or t n []) x in
      subst Q (sym e) (sub x (subst P (rows_here k e) m))
  fewer_at sub k x (inr n) m = let P : List Row → Type 0 = λ z. Contains z x in subst P (get_or-set_other t i k rows [] n) m

  -- where the new list has rows of the old one alone, each row was there
  pub fewer : ((x : Row) → Contains rows x → Contains (get_or t i []) x) → (k : ℕ) (x : Row) → Contains (get_or (set t i rows) k []) x → Contains (get_or t k []) x
  fewer sub k x m = fewer_at sub k x (cases_eq k i) m

  pub fewer_state : (spec : Spec) → IsState spec t → ((x : Row) → Contains rows x → Contains (get_or t i []) x) → IsState spec (set t i rows)
  fewer_state spec st sub = record {
    relations = length-set t i rows ∙ st.relations;
    widths = λ k below x h. st.widths k below x ((has_decides (get_or t k []) x).1 (fewer sub k x ((has_decides (get_or (set t i rows) k []) x).0 h)));
  }

-- ---- a view

module _ (spec : Spec) (wf : WellFormed spec) where
  pub member_below : (t : State) → IsState spec t → (j : ℕ) → j < length spec.views → (i : ℕ) → Contains (view_at spec j).relations i → i < length t
  member_below t st j l i h =
      let below = (wf.views (view_at spec j) (Contains-get_or spec.views j _ l)).members i h in
      subst (λ n. i < n) (sym st.relations) below

  -- the assignment that gives a row of the view in one state gives it in another that has the rows of its parts
  moved : (s t : State) (j : ℕ) → j < length spec.views → (w : Row) → (f : ViewRow spec s j w) → ((k : ℕ) → Contains (view_at spec j).relations k → Contains (get_or t k []) (map f.at (columns_of spec k))) → Contains (view_table spec t j).rows w
  moved s t j l w f parts =
      let v = view_at spec j in
      let P : List Name → Type 0 = λ columns. holds v.cond columns (map f.at columns) ≡ true in
      Contains-is (map f.at v.head) w (view_table spec t j).rows (sym f.row) (view_in spec t wf j l f.at parts (subst P (join_columns spec s t v.relations) f.passes))

  pub from_fewer : (t : State) → IsState spec t → (j : ℕ) → j < length spec.views → (i : ℕ) → Contains (view_at spec j).relations i
      → (rows : List Row) → ((x : Row) → Contains rows x → Contains (get_or t i []) x) → (w : Row) → Contains (view_table spec (set t i rows) j).rows w → Contains (view_table spec t j).rows w
  from_fewer t st j l i m rows sub w h =
      let below = member_below t st j l i m in
      let f = view_from spec (set t i rows) wf (fewer_state t i below rows spec st sub) j l w h in
      moved (set t i rows) t j l w f (λ k n. fewer t i below rows sub k (map f.at (columns_of spec k)) (f.parts k n))

  -- the row of a view is in the view over any rows of a member that have its part
  into_fewer : (t : State) → IsState spec t → (j : ℕ) → j < length spec.views → (i : ℕ) → Contains (view_at spec j).relations i
      → (rows : List Row) (w : Row) → (f : ViewRow spec t j w) → Contains rows (map f.at (columns_of spec i)) → Contains (view_table spec (set t i rows) j).rows w
  into_fewer t st j l i m rows w f h =
      let below = member_below t st j l i m in
      let P : ℕ → Type 0 = λ k. Contains rows (map f.at (columns_of spec k)) in
      moved t (set t i rows) j l w f (λ k n. placed t i below rows k (map f.at (columns_of spec k)) (λ e. subst P (sym e) h) (f.parts k n))

  pub row_by_row : (t : State) → IsState spec t → (j : ℕ) → j < length spec.views → (i : ℕ) → Contains (view_at spec j).relations i
      → (rows : List Row) → ((x : Row) → Contains rows x → Contains (get_or t i []) x)
      → SameRows (view_table spec (set t i rows) j).rows (flat_map (λ x. (view_table spec (set t i (x ∷ [])) j).rows) rows)
  row_by_row t st j l i m rows sub =
      let below = member_below t st j l i m in
      let alone : Row → List Row = λ x. (view_table spec (set t i (x ∷ [])) j).rows in
      let P : List Row → Row → Type 0 = λ z x. Contains z x in
      let one_in : (x : Row) → Contains rows x → (y : Row) → Contains (x ∷ []) y → Contains rows y = λ x h y k. only_one x y rows h k in
      SameRows-from _ _ (λ w. (
        λ h.
            let f = view_from spec (set t i rows) wf (fewer_state t i below rows spec st sub) j l w h in
            let x = map f.at (columns_of spec i) in
            let x_in : Contains rows x = subst (λ z. P z x) (rows_here t i below rows i refl) (f.parts i m) in
            let Q : ℕ → Type 0 = λ k. Contains (x ∷ []) (map f.at (columns_of spec k)) in
            flat_in alone rows x w x_in
            (moved (set t i rows) (set t i (x ∷ [])) j l w f (λ k n.
            placed t i below (x ∷ []) k (map f.at (columns_of spec k)) (λ e. subst Q (sym e) (Contains-here x [])) (fewer t i below rows sub k (map f.at (columns_of spec k)) (f.parts k n)))),
        λ h.
            let a = flat_from alone rows w h in
            let x = a.0 in
            let sub_one : (y : Row) → Contains (x ∷ []) y → Contains (get_or t i []) y = λ y k. sub y (one_in x a.1 y k) in
            let f = view_from spec (set t i (x ∷ [])) wf (fewer_state t i below (x ∷ []) spec st sub_one) j l w a.2 in
            let y = map f.at (columns_of spec i) in
            let y_in : Contains rows y = one_in x a.1 y (subst (λ z. P z y) (rows_here t i below (x ∷ []) i refl) (f.parts i m)) in
            let Q : ℕ → Type 0 = λ k. Contains rows (map f.at (columns_of spec k)) in
            moved (set t i (x ∷ [])) (set t i rows) j l w f (λ k n.
            placed t i below rows k (map f.at (columns_of spec k)) (λ e. subst Q (sym e) y_in) (fewer t i below (x ∷ []) sub_one k (map f.at (columns_of spec k)) (f.parts k n))),
      ))

  module _ (s t : State) (st : IsState spec t) (j : ℕ) (l : j < length spec.views) where
    -- some part of a row of the view in t is new, or the row is in the view in s
    new_part : (w : Row) → (f : ViewRow spec t j w) → (Contains (view_table spec s j).rows w → ⊥)
        → (i : ℕ) × Contains (view_at spec j).relations i × (has (get_or s i []) (map f.at (columns_of spec i)) ≡ false)
    new_part w f n =
        let test : ℕ → Bool = λ i. has (get_or s i []) (map f.at (columns_of spec i)) in
        elim (cases_Bool (list_all test (view_at spec j).relations)) [
          | inl e ↦ absurd (n (moved t s j l w f (λ k m. (has_decides (get_or s k []) (map f.at (columns_of spec k))).0 (every_from test (view_at spec j).relations e k m))))
          | inr e ↦ all_fails test (view_at spec j).relations e
        ]

    pub new_row : (w : Row) → Contains (view_table spec t j).rows w → (Contains (view_table spec s j).rows w → ⊥) → NewRow spec s t j w
    new_row w h n =
        let f = view_from spec t wf st j l w h in
        let a = new_part w f n in
        let x = map f.at (columns_of spec a.0) in
        let here = f.parts a.0 a.1 in
        let new : Contains (new_rows s t a.0) x = without_in (get_or t a.0 []) (get_or s a.0 []) x here (when_false (has (get_or s a.0 []) x) (has_decides (get_or s a.0 []) x) a.2) in
        record {
          member = a.0;
          is_member = a.1;
          row = x;
          present = (has_decides (get_or t a.0 []) x).1 here;
          absent = a.2;
          alone = (has_decides (view_table spec (set t a.0 (x ∷ [])) j).rows w).1 (into_fewer t st j l a.0 a.1 (x ∷ []) w f (Contains-here x []));
          among = (has_decides (view_table spec (only_new s t a.0) j).rows w).1 (into_fewer t st j l a.0 a.1 (new_rows s t a.0) w f new);
        }

    pub candidate_from : (w : Row) → Contains (candidates spec s t j) w → Contains (view_table spec t j).rows w
    candidate_from w h =
        let a = flat_from (λ i. (view_table spec (only_new s t i) j).rows) (view_at spec j).relations w h in
        from_fewer t st j l a.0 a.1 (new_rows s t a.0) (λ x m. (without_from (get_or t a.0 []) (get_or s a.0 []) x m).0) w a.2

    pub candidate_in : (w : Row) → Contains (view_table spec t j).rows w → (Contains (view_table spec s j).rows w → ⊥) → Contains (candidates spec s t j) w
    candidate_in w h n =
        let a = new_row w h n in
        flat_in (λ i. (view_table spec (only_new s t i) j).rows) (view_at spec j).relations a.member w a.is_member
        ((has_decides (view_table spec (only_new s t a.member) j).rows w).0 a.among)

    pub entered_same : SameRows (without (view_table spec t j).rows (view_table spec s j).rows) (entering spec s t j)
    entered_same =
        let old = (view_table spec s j).rows in
        let new = (view_table spec t j).rows in
        SameRows-from _ _ (λ w. (
          λ h. let a = without_from new old w h in without_in (candidates spec s t j) old w (candidate_in w a.0 a.1) a.1,
          λ h. let a = without_from (candidates spec s t j) old w h in without_in new old w (candidate_from w a.0) a.1,
        ))

    pub given_same : (rows : ℕ → List Row) → ((i : ℕ) → Contains (view_at spec j).relations i → (x : Row) → Contains (new_rows s t i) x → Contains (rows i) x)
        → ((i : ℕ) → Contains (view_at spec j).relations i → (x : Row) → Contains (rows i) x → Contains (get_or t i []) x)
        → SameRows (without (view_table spec t j).rows (view_table spec s j).rows) (without (candidates_from spec t j rows) (view_table spec s j).rows)
    given_same rows all sub =
        let old = (view_table spec s j).rows in
        let new = (view_table spec t j).rows in
        let by : ℕ → List Row = λ i. (view_table spec (set t i (rows i)) j).rows in
        SameRows-from _ _ (λ w. (
          λ h.
              let a = without_from new old w h in
              let f = view_from spec t wf st j l w a.0 in
              let b = new_part w f a.1 in
              let x = map f.at (columns_of spec b.0) in
              let x_new = without_in (get_or t b.0 []) (get_or s b.0 []) x (f.parts b.0 b.1) (when_false (has (get_or s b.0 []) x) (has_decides (get_or s b.0 []) x) b.2) in
              without_in (candidates_from spec t j rows) old w (flat_in by (view_at spec j).relations b.0 w b.1 (into_fewer t st j l b.0 b.1 (rows b.0) w f (all b.0 b.1 x x_new))) a.1,
          λ h.
              let a = without_from (candidates_from spec t j rows) old w h in
              let b = flat_from by (view_at spec j).relations w a.0 in
              without_in new old w (from_fewer t st j l b.0 b.1 (rows b.0) (sub b.0 b.1) w b.2) a.1,
        ))

  pub given_rows_same : (s t : State) → IsState spec t → (j : ℕ) → j < length spec.views → (rows : ℕ → List Row) → HaveNewRows spec s t j rows
      → SameRows (without (view_table spec t j).rows (view_table spec s j).rows) (without (candidates_from spec t j rows) (view_table spec s j).rows)
  given_rows_same s t st j l rows h =
      given_same s t st j l rows (λ i m. among_from (new_rows s t i) (rows i) (h.new i m)) (λ i m. among_from (rows i) (get_or t i []) (h.present i m))

  pub view_changed : (s t : State) → IsState spec s → IsState spec t → (j : ℕ) → j < length spec.views
      → SameRows (view_table spec t j).rows (without (view_table spec s j).rows (leaving spec s t j) ++ entering spec s t j)
  view_changed s t ss st j l =
      let old = (view_table spec s j).rows in
      let new = (view_table spec t j).rows in
      let gone = leaving spec s t j in
      let come = entering spec s t j in
      SameRows-from _ _ (λ w. (
        λ h. elim (row_is_in old w) [
          | inl m ↦ Contains-append_left (without old gone) come w (without_in old gone w m (λ k. (without_from (candidates spec t s j) new w k).1 h))
          | inr n ↦ Contains-append_right (without old gone) come w (without_in (candidates spec s t j) old w (candidate_in s t st j l w h n) n)
        ],
        λ h. elim (Contains-append_cases (without old gone) come w h) [
          | inr m ↦ candidate_from s t st j l w (without_from (candidates spec s t j) old w m).0
          | inl m ↦
              let a = without_from old gone w m in
              elim (row_is_in new w) [
                | inl k ↦ k
                | inr n ↦ absurd (a.1 (without_in (candidates spec t s j) new w (candidate_in t s ss j l w a.0 n) n))
              ]
        ],
      ))

  -- ---- a row that stays derived

  -- the part of a row of the view agrees with it at the head
  part_matches : (t : State) (j i : ℕ) (w : Row) → (f : ViewRow spec t j w) → Contains (view_at spec j).relations i → Contains (matching_rows spec t j i w) (map f.at (columns_of spec i))
  part_matches t j i w f m =
      let head = (view_at spec j).head in
      let names = shared head (columns_of spec i) in
      let x = map f.at (columns_of spec i) in
      let here : cut (columns_of spec i) names x ≡ map f.at names = cut-map f.at (columns_of spec i) names (λ n k. (shared_from head (columns_of spec i) n k).1) in
      let there : cut head names w ≡ map f.at names = cut-is f.at head names w f.row (λ n k. (shared_from head (columns_of spec i) n k).0) in
      filter_in (λ r. row_eq (cut (columns_of spec i) names r) (cut head names w)) (get_or t i []) x (f.parts i m)
      ((row_eq-Decides (cut (columns_of spec i) names x) (cut head names w)).1 (here ∙ sym there))

  matching_present : (t : State) (j i : ℕ) (w x : Row) → Contains (matching_rows spec t j i w) x → Contains (get_or t i []) x
  matching_present t j i w x h =
      let head = (view_at spec j).head in
      let names = shared head (columns_of spec i) in
      (filter_from (λ r. row_eq (cut (columns_of spec i) names r) (cut head names w)) (get_or t i []) x h).0

  pub derived_same : (t : State) → IsState spec t → (j : ℕ) → j < length spec.views → (i : ℕ) → Contains (view_at spec j).relations i → (w : Row)
      → has (view_table spec t j).rows w ≡ has (view_table spec (set t i (matching_rows spec t j i w)) j).rows w
  derived_same t st j l i m w =
      let rows = matching_rows spec t j i w in
      let all = (view_table spec t j).rows in
      let few = (view_table spec (set t i rows) j).rows in
      both_ways (has all w) (has few w)
      (λ h.
      let f = view_from spec t wf st j l w ((has_decides all w).0 h) in
      (has_decides few w).1 (into_fewer t st j l i m rows w f (part_matches t j i w f m)))
      (λ h. (has_decides all w).1 (from_fewer t st j l i m rows (matching_present t j i w) w ((has_decides few w).0 h)))
