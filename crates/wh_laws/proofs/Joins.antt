-- A row is in a natural join exactly where one assignment of values to names gives it and a row of each part.
use Rattle.std.proofs.Common.{◌≡◌, suc, Bool, true, false, cond, List, [], ◌∷◌, ◌++◌, map, filter, fold, Contains, refl, sym, ◌∙◌, ap, subst, inl, inr, pos, if◌then◌else◌}
use Rattle.std.proofs.lemmas.List.{map-append}
use Rattle.std.proofs.lemmas.List.Elements.{Contains-append_left, Contains-append_right}
use Rattle.std.proofs.lemmas.Bool.{cond-true, cond-false, true≢false}
use Rattle.wh_base.specs.declared.value.Value.{Value}
use Rattle.wh_base.specs.declared.value.Value.TheVariants.{Int}
use Rattle.wh_base.specs.Columns.{name_eq, is_in, shared, others, place_of, value_at, value_of, cut}
use Rattle.wh_base.specs.Tables.{Table, agree, project, joined, join, join_all}
use Rattle.wh_base.specs.ValueLaws.{row_eq-Decides}
use Rattle.wh_schema.specs.Warehouse.{Row}
use Rattle.wh_laws.proofs.Lists.{Contains-nil, Contains-here, Contains-there, Contains-cases, Contains-is, filter_in, filter_from, map_in, map_from, flat_in, flat_from, map_same, map_agree, map_map}
use Rattle.wh_laws.proofs.Equality.{Name, name_eq_decides, is_in_decides, name_is_in, is_false, shared_in, shared_from, others_in, others_from}

-- ---- rows

first_or_rest : (h n : Name) (hs : List Name) (f : Name → Value) → (Contains hs n → value_of hs (map f hs) n ≡ f n) → (b : Bool) → name_eq n h ≡ b → Contains (h ∷ hs) n
    → value_at (f h ∷ map f hs) (if b then 0 else suc (place_of hs n)) ≡ f n
first_or_rest h n hs f ih true e k = ap f (sym ((name_eq_decides n h).0 e))
first_or_rest h n hs f ih false e k =
    elim (Contains-cases h n hs k) [ inl q ↦ absurd (true≢false (sym ((name_eq_decides n h).1 (sym q)) ∙ e)) | inr r ↦ ih r ]

-- the value that a row made from an assignment has at a name
pub value_of-map : (f : Name → Value) (columns : List Name) (n : Name) → Contains columns n → value_of columns (map f columns) n ≡ f n
value_of-map f [] n h = absurd (Contains-nil n h)
value_of-map f (h ∷ hs) n k = first_or_rest h n hs f (value_of-map f hs n) (name_eq n h) refl k

-- a cut row has its values at the names
pub cut-values : (columns names : List Name) (r : Row) → cut columns names r ≡ map (value_of columns r) names
cut-values columns names r = map_map (value_at r) (place_of columns) names

-- a cut row is made from an assignment that agrees with the row at the names
pub cut-same : (f : Name → Value) (columns names : List Name) (r : Row) → ((n : Name) → Contains names n → f n ≡ value_of columns r n) → map f names ≡ cut columns names r
cut-same f columns names r h = map_same f (value_of columns r) names h ∙ sym (cut-values columns names r)

pub cut-agree : (f : Name → Value) (columns names : List Name) (r : Row) → map f names ≡ cut columns names r → (n : Name) → Contains names n → f n ≡ value_of columns r n
cut-agree f columns names r e = map_agree f (value_of columns r) names (e ∙ cut-values columns names r)

pub cut-map : (f : Name → Value) (columns names : List Name) → ((n : Name) → Contains names n → Contains columns n) → cut columns names (map f columns) ≡ map f names
cut-map f columns names h = sym (cut-same f columns names (map f columns) (λ n k. sym (value_of-map f columns n (h n k))))

-- the same of a row that is known to be made from the assignment
pub cut-is : (f : Name → Value) (columns names : List Name) (q : Row) → q ≡ map f columns → ((n : Name) → Contains names n → Contains columns n) → cut columns names q ≡ map f names
cut-is f columns names q e h = ap (cut columns names) e ∙ cut-map f columns names h

pub cut-gives : (f : Name → Value) (columns names : List Name) (q w : Row) → cut columns names q ≡ w → q ≡ map f columns → ((n : Name) → Contains names n → Contains columns n) → w ≡ map f names
cut-gives f columns names q w d e h = sym d ∙ cut-is f columns names q e h

-- a row that its values at its columns give back: it has the right width, and the columns are distinct
abbrev pub Fits : List Name → Row → Type 0
Fits columns r = cut columns columns r ≡ r

abbrev pub AllFit : Table → Type 0
AllFit t = (r : Row) → Contains t.rows r → Fits t.columns r

pub fits-is : (f : Name → Value) (columns : List Name) (r : Row) → r ≡ map f columns → Fits columns r
fits-is f columns r e = cut-is f columns columns r e (λ n k. k) ∙ sym e

pub project-fits : (names : List Name) (t : Table) → AllFit (project names t)
project-fits names t r h =
    let k = map_from (cut t.columns names) t.rows r h in
    fits-is (value_of t.columns k.0) names r (sym k.2 ∙ cut-values t.columns names k.0)

pub fits-values : (columns : List Name) (r : Row) → Fits columns r → map (value_of columns r) columns ≡ r
fits-values columns r e = sym (cut-values columns columns r) ∙ e

-- ---- the join of two tables

module _ (t u : Table) where
  both : Row → Row → Name → Value
  both x y n = cond (is_in t.columns n) (value_of t.columns x n) (value_of u.columns y n)

  both_left : (x y : Row) (n : Name) → Contains t.columns n → both x y n ≡ value_of t.columns x n
  unfolding both
  both_left x y n h = cond-true (is_in t.columns n) _ _ ((is_in_decides t.columns n).1 h)

  both_right : (x y : Row) (n : Name) → (Contains t.columns n → ⊥) → both x y n ≡ value_of u.columns y n
  unfolding both
  both_right x y n h = cond-false (is_in t.columns n) _ _ (is_false (is_in t.columns n) (is_in_decides t.columns n) h)

  agree_from : (x y : Row) → agree t.columns u.columns x y ≡ true → (n : Name) → Contains t.columns n → Contains u.columns n → value_of t.columns x n ≡ value_of u.columns y n
  agree_from x y e n h k =
      let names = shared t.columns u.columns in
      let same : cut t.columns names x ≡ cut u.columns names y = (row_eq-Decides _ _).0 e in
      cut-agree (value_of t.columns x) u.columns names y (sym (cut-values t.columns names x) ∙ same) n (shared_in t.columns u.columns n h k)

  agree_in : (x y : Row) → ((n : Name) → Contains t.columns n → Contains u.columns n → value_of t.columns x n ≡ value_of u.columns y n) → agree t.columns u.columns x y ≡ true
  agree_in x y h =
      let names = shared t.columns u.columns in
      (row_eq-Decides (cut t.columns names x) (cut u.columns names y)).1
      (cut-values t.columns names x ∙ cut-same (value_of t.columns x) u.columns names y (λ n k. let w = shared_from t.columns u.columns n k in h n w.0 w.1))

  both_at_right : (x y : Row) → agree t.columns u.columns x y ≡ true → (n : Name) → Contains u.columns n → both x y n ≡ value_of u.columns y n
  both_at_right x y e n k =
      elim (name_is_in t.columns n) [
        | inl h ↦ both_left x y n h ∙ agree_from x y e n h k
        | inr h ↦ both_right x y n h
      ]

  more : List Name
  more = others t.columns u.columns

  -- an assignment that gives a row of the join, and a row of each part
  pub record JoinRow (r : Row) : Type 0 where
    pub at : Name → Value
    pub row : r ≡ map at (join t u).columns
    pub left : Contains t.rows (map at t.columns)
    pub right : Contains u.rows (map at u.columns)

  pub join_from : AllFit t → AllFit u → (r : Row) → Contains (join t u).rows r → JoinRow r
  unfolding more
  join_from ft fu r h =
      let a = flat_from (joined t.columns u.columns u.rows) t.rows r h in
      let x = a.0 in
      let b = map_from (λ y. x ++ cut u.columns more y) (filter (agree t.columns u.columns x) u.rows) r a.2 in
      let y = b.0 in
      let c = filter_from (agree t.columns u.columns x) u.rows y b.1 in
      let f = both x y in
      let left : map f t.columns ≡ x = cut-same f t.columns t.columns x (both_left x y) ∙ ft x a.1 in
      let right : map f u.columns ≡ y = cut-same f u.columns u.columns y (both_at_right x y c.1) ∙ fu y c.0 in
      let rest : map f more ≡ cut u.columns more y = cut-same f u.columns more y (λ n k. both_at_right x y c.1 n (others_from t.columns u.columns n k).0) in
      record {
        at = f;
        row = sym b.2 ∙ ap (λ l. l ++ cut u.columns more y) (sym left) ∙ ap (λ l. map f t.columns ++ l) (sym rest) ∙ sym (map-append f t.columns more);
        left = Contains-is x (map f t.columns) t.rows (sym left) a.1;
        right = Contains-is y (map f u.columns) u.rows (sym right) c.0;
      }

  pub join_in : (f : Name → Value) → Contains t.rows (map f t.columns) → Contains u.rows (map f u.columns) → Contains (join t u).rows (map f (join t u).columns)
  unfolding more
  join_in f h k =
      let x = map f t.columns in
      let y = map f u.columns in
      let e : agree t.columns u.columns x y ≡ true = agree_in x y (λ n a b. value_of-map f t.columns n a ∙ sym (value_of-map f u.columns n b)) in
      let rest : cut u.columns more y ≡ map f more = cut-map f u.columns more (λ n w. (others_from t.columns u.columns n w).0) in
      let made : x ++ cut u.columns more y ≡ map f (join t u).columns = ap (λ l. x ++ l) rest ∙ sym (map-append f t.columns more) in
      Contains-is (x ++ cut u.columns more y) (map f (join t u).columns) (join t u).rows made
      (flat_in (joined t.columns u.columns u.rows) t.rows x (x ++ cut u.columns more y) h
      (map_in (λ z. x ++ cut u.columns more z) (filter (agree t.columns u.columns x) u.rows) y (filter_in (agree t.columns u.columns x) u.rows y k e)))

  pub left_column : (n : Name) → Contains t.columns n → Contains (join t u).columns n
  left_column n h = Contains-append_left t.columns (others t.columns u.columns) n h

  pub right_column : (n : Name) → Contains u.columns n → Contains (join t u).columns n
  right_column n h =
      elim (name_is_in t.columns n) [
        | inl a ↦ left_column n a
        | inr a ↦ Contains-append_right t.columns (others t.columns u.columns) n (others_in t.columns u.columns n h a)
      ]

-- ---- the join of many tables, from a first one on

pub first_column : (t : Table) (ts : List Table) (n : Name) → Contains t.columns n → Contains (fold join t ts).columns n
first_column t [] n h = h
first_column t (u ∷ us) n h = first_column (join t u) us n (left_column t u n h)

later_column : (t : Table) (ts : List Table) (u : Table) (n : Name) → Contains ts u → Contains u.columns n → Contains (fold join t ts).columns n
later_column t [] u n h k = absurd (Contains-nil u h)
later_column t (v ∷ vs) u n h k =
    elim (Contains-cases v u vs h) [
      | inl e ↦ first_column (join t v) vs n (right_column t v n (let P : Table → Type 0 = λ w. Contains w.columns n in subst P (sym e) k))
      | inr r ↦ later_column (join t v) vs u n r k
    ]

pub column_in : (ts : List Table) (t : Table) (n : Name) → Contains ts t → Contains t.columns n → Contains (join_all ts).columns n
column_in [] t n h k = absurd (Contains-nil t h)
column_in (u ∷ us) t n h k =
    elim (Contains-cases u t us h) [
      | inl e ↦ first_column u us n (let P : Table → Type 0 = λ w. Contains w.columns n in subst P (sym e) k)
      | inr r ↦ later_column u us t n r k
    ]

abbrev HasRow : (Name → Value) → Table → Type 0
HasRow f t = Contains t.rows (map f t.columns)

-- an assignment that gives the row r of the join, and a row of each part
pub record Joined (whole : Table) (ts : List Table) (r : Row) : Type 0 where
  pub at : Name → Value
  pub row : r ≡ map at whole.columns
  pub parts : (t : Table) → Contains ts t → Contains t.rows (map at t.columns)

-- an assignment may be replaced where it is the same on the columns
has_same : (f g : Name → Value) (whole t : Table) → map f whole.columns ≡ map g whole.columns → ((n : Name) → Contains t.columns n → Contains whole.columns n) → HasRow f t → HasRow g t
has_same f g whole t e sub h = Contains-is (map f t.columns) (map g t.columns) t.rows (map_same f g t.columns (λ n k. map_agree f g whole.columns e n (sub n k))) h

joined_step : (t u : Table) (us : List Table) (r : Row) → (f : Joined (fold join (join t u) us) (join t u ∷ us) r) → JoinRow t u (map f.at (join t u).columns) → Joined (fold join t (u ∷ us)) (t ∷ u ∷ us) r
joined_step t u us r f g =
    let left = has_same g.at f.at (join t u) t (sym g.row) (left_column t u) g.left in
    let right = has_same g.at f.at (join t u) u (sym g.row) (right_column t u) g.right in
    let P : Table → Type 0 = HasRow f.at in
    record {
      at = f.at;
      row = f.row;
      parts = λ v k. elim (Contains-cases t v (u ∷ us) k) [
        | inl e ↦ subst P e left
        | inr h ↦ elim (Contains-cases u v us h) [ inl e ↦ subst P e right | inr m ↦ f.parts v (Contains-there (join t u) v us m) ]
      ];
    }

one_joined : (t : Table) (r : Row) → Fits t.columns r → Contains t.rows r → Joined t (t ∷ []) r
one_joined t r e h =
    let is : r ≡ map (value_of t.columns r) t.columns = sym (fits-values t.columns r e) in
    let P : Table → Type 0 = HasRow (value_of t.columns r) in
    record {
      at = value_of t.columns r;
      row = is;
      parts = λ v k. elim (Contains-cases t v [] k) [ inl q ↦ subst P q (Contains-is r (map (value_of t.columns r) t.columns) t.rows is h) | inr m ↦ absurd (Contains-nil v m) ];
    }

folded_from : (t : Table) (ts : List Table) → AllFit t → ((u : Table) → Contains ts u → AllFit u) → (r : Row) → Contains (fold join t ts).rows r → Joined (fold join t ts) (t ∷ ts) r
folded_from t [] ft fit r h = one_joined t r (ft r h) h
folded_from t (u ∷ us) ft fit r h =
    let fu = fit u (Contains-here u us) in
    let both_fit : AllFit (join t u) = λ x k. let g = join_from t u ft fu x k in fits-is g.at (join t u).columns x g.row in
    let f = folded_from (join t u) us both_fit (λ v k. fit v (Contains-there u v us k)) r h in
    joined_step t u us r f (join_from t u ft fu (map f.at (join t u).columns) (f.parts (join t u) (Contains-here (join t u) us)))

none_at : Name → Value
none_at n = Int (pos 0)

pub joined_from : (ts : List Table) → ((t : Table) → Contains ts t → AllFit t) → (r : Row) → Contains (join_all ts).rows r → Joined (join_all ts) ts r
joined_from [] fit r h = record {
  at = none_at;
  row = elim (Contains-cases [] r [] h) [ inl e ↦ sym e | inr k ↦ absurd (Contains-nil r k) ];
  parts = λ t k. absurd (Contains-nil t k);
}
joined_from (t ∷ ts) fit r h = folded_from t ts (fit t (Contains-here t ts)) (λ u k. fit u (Contains-there t u ts k)) r h

folded_in : (t : Table) (ts : List Table) (f : Name → Value) → HasRow f t → ((u : Table) → Contains ts u → HasRow f u) → HasRow f (fold join t ts)
folded_in t [] f h k = h
folded_in t (u ∷ us) f h k = folded_in (join t u) us f (join_in t u f h (k u (Contains-here u us))) (λ v m. k v (Contains-there u v us m))

pub joined_in : (ts : List Table) (f : Name → Value) → ((t : Table) → Contains ts t → Contains t.rows (map f t.columns)) → Contains (join_all ts).rows (map f (join_all ts).columns)
joined_in [] f h = Contains-here [] []
joined_in (t ∷ ts) f h = folded_in t ts f (h t (Contains-here t ts)) (λ u k. h u (Contains-there t u ts k))
