-- A row is in a join of tables exactly where one assignment of values to names gives it and a row of each table.
use Rattle.std.proofs.Common.{◌≡◌, ℕ, Bool, true, false, cond, not, ◌&&◌, ◌||◌, List, [], ◌∷◌, ◌++◌, map, filter, fold, refl, sym, ap, subst, ◌∙◌, true≢false, inl, inr, ◌⊎◌}
use Rattle.std.specs.Cmp.{both_ways, first_so, second_so}
use Rattle.std.specs.Cmp.Lexicographic.{bytes_decides}
use Rattle.std.specs.List.{list_any, list_all}
use Rattle.std.proofs.lemmas.List.{map-append}
use Rattle.wh_base.specs.declared.value.Value.{Value}
use Rattle.wh_base.specs.Columns.{name_eq, place_of, value_at, cut, is_in, all_in, shared, others}
use Rattle.wh_base.specs.RowSet.{has}
use Rattle.wh_base.specs.Tables.{Table, project, join, unit, join_all, agree, joined}
use Rattle.wh_base.specs.ValueLaws.{row_eq-Decides}
use Rattle.wh_base.proofs.RowSets.{has-filter, from_map, into_map, from_flat_map, into_flat_map}
use Rattle.wh_expr.specs.SameTable.{SameTable}
use Rattle.wh_inverse.proofs.Tests.{or_cases, or_assoc, or_left, or_right, or_false, and_so, and_true, and_assoc, value_at-made, map_of_map, is_in-all_in}

abbrev Name : Type 0
Name = List ℕ

abbrev Row : Type 0
Row = List Value

-- ---- rows that are made from an assignment

-- the values of a row by name
abbrev pub at : List (List ℕ) → List Value → List ℕ → Value
at columns r n = value_at r (place_of columns n)

pub cut-at : (columns names : List (List ℕ)) (r : List Value) → cut columns names r ≡ map (at columns r) names
cut-at columns names r = map_of_map (value_at r) (place_of columns) names

-- two assignments that agree on the names
pub map_same : (f g : List ℕ → Value) (names : List (List ℕ)) → ((n : List ℕ) → is_in names n ≡ true → f n ≡ g n) → map f names ≡ map g names
map_same f g [] h = refl
map_same f g (n ∷ names) h = λ i. h n (or_left (name_eq n n) (is_in names n) ((bytes_decides n n).1 refl)) i ∷ map_same f g names (λ m k. h m (or_right (name_eq m n) (is_in names m) k)) i

pub map_agree : (f g : List ℕ → Value) (names : List (List ℕ)) → map f names ≡ map g names → (n : List ℕ) → is_in names n ≡ true → f n ≡ g n
map_agree f g [] e n k = absurd (true≢false (sym k))
map_agree f g (m ∷ names) e n k =
    let first : f m ≡ g m = cc in
    let rest : map f names ≡ map g names = cc in
    elim (or_cases (name_eq n m) (is_in names n) k) [
      | inl a ↦ ap f ((bytes_decides n m).0 a) ∙ first ∙ sym (ap g ((bytes_decides n m).0 a))
      | inr a ↦ map_agree f g names rest n a
    ]

pub all_in-at : (columns names : List (List ℕ)) → all_in columns names ≡ true → (n : List ℕ) → is_in names n ≡ true → is_in columns n ≡ true
all_in-at columns names h n k = is_in-all_in columns names n k h

pub cut-map : (f : List ℕ → Value) (columns names : List (List ℕ)) → ((n : List ℕ) → is_in names n ≡ true → is_in columns n ≡ true) → cut columns names (map f columns) ≡ map f names
cut-map f columns names h = cut-at columns names (map f columns) ∙ map_same (at columns (map f columns)) f names (λ n k. value_at-made f columns n (h n k))

-- each row of the table is made from some assignment
abbrev pub Fits : Table → Type 0
Fits t = (r : List Value) → has t.rows r ≡ true → map (at t.columns r) t.columns ≡ r

-- whether an assignment gives a row of the table
abbrev pub gives : Table → (List ℕ → Value) → Bool
gives t f = has t.rows (map f t.columns)

made-fits : (f : Name → Value) (columns : List Name) → map (at columns (map f columns)) columns ≡ map f columns
made-fits f columns = map_same (at columns (map f columns)) f columns (λ n k. value_at-made f columns n k)

pub Fits-project : (names : List (List ℕ)) (t : Table) → Fits (project names t)
Fits-project names t r h =
    let m = from_map (cut t.columns names) t.rows r h in
    let e : r ≡ map (at t.columns m.0) names = m.2 ∙ cut-at t.columns names m.0 in
    subst (λ (x : Row). map (at names x) names ≡ x) (sym e) (made-fits (at t.columns m.0) names)

pub Fits-same : (t u : Table) → SameTable t u → Fits u → Fits t
Fits-same t u e h r k = ap (λ columns. map (at columns r) columns) e.columns ∙ h r (sym (e.rows r) ∙ k)

pub gives-same : (t u : Table) → SameTable t u → (f : List ℕ → Value) → gives t f ≡ gives u f
gives-same t u e f = e.rows (map f t.columns) ∙ ap (λ columns. has u.rows (map f columns)) e.columns

-- ---- names of a filter

pub in-filter : (p : List ℕ → Bool) (names : List (List ℕ)) (n : List ℕ) → is_in (filter p names) n ≡ true → (p n ≡ true) × (is_in names n ≡ true)
in-filter p [] n h = absurd (true≢false (sym h))
in-filter p (m ∷ names) n h = by (p m) refl (in-filter p names n)
  where
    by : (b : Bool) → p m ≡ b → (is_in (filter p names) n ≡ true → (p n ≡ true) × (is_in names n ≡ true)) → (p n ≡ true) × (is_in (m ∷ names) n ≡ true)
    by true e more =
        elim (or_cases (name_eq n m) (is_in (filter p names) n) (sym (ap (λ b. is_in (cond b (m ∷ filter p names) (filter p names)) n) e) ∙ h)) [
          | inl k ↦ (ap p ((bytes_decides n m).0 k) ∙ e, or_left (name_eq n m) (is_in names n) k)
          | inr k ↦ let r = more k in (r.0, or_right (name_eq n m) (is_in names n) r.1)
        ]
    by false e more =
        let r = more (sym (ap (λ b. is_in (cond b (m ∷ filter p names) (filter p names)) n) e) ∙ h) in
        (r.0, or_right (name_eq n m) (is_in names n) r.1)

pub into-filter : (p : List ℕ → Bool) (names : List (List ℕ)) (n : List ℕ) → p n ≡ true → is_in names n ≡ true → is_in (filter p names) n ≡ true
into-filter p [] n h k = k
into-filter p (m ∷ names) n h k = by (p m) refl (into-filter p names n h) (or_cases (name_eq n m) (is_in names n) k)
  where
    by : (b : Bool) → p m ≡ b → (is_in names n ≡ true → is_in (filter p names) n ≡ true) → (name_eq n m ≡ true) ⊎ (is_in names n ≡ true) → is_in (filter p (m ∷ names)) n ≡ true
    by true e more (inl a) = ap (λ b. is_in (cond b (m ∷ filter p names) (filter p names)) n) e ∙ or_left (name_eq n m) (is_in (filter p names) n) a
    by true e more (inr a) = ap (λ b. is_in (cond b (m ∷ filter p names) (filter p names)) n) e ∙ or_right (name_eq n m) (is_in (filter p names) n) (more a)
    by false e more (inl a) = absurd (true≢false (sym (sym (ap p ((bytes_decides n m).0 a)) ∙ h) ∙ e))
    by false e more (inr a) = ap (λ b. is_in (cond b (m ∷ filter p names) (filter p names)) n) e ∙ more a

pub is_in-append : (xs ys : List (List ℕ)) (n : List ℕ) → is_in (xs ++ ys) n ≡ (is_in xs n || is_in ys n)
is_in-append [] ys n = refl
is_in-append (x ∷ xs) ys n = ap (λ b. name_eq n x || b) (is_in-append xs ys n) ∙ sym (or_assoc (name_eq n x) (is_in xs n) (is_in ys n))

-- ---- the join of two tables

module _ (t u : Table) where
  abbrev Rest : List Name
  Rest = others t.columns u.columns

  both : Row → Row → Name → Value
  both x y n = cond (is_in t.columns n) (at t.columns x n) (at u.columns y n)

  both_left : (x y : Row) (n : Name) → is_in t.columns n ≡ true → both x y n ≡ at t.columns x n
  unfolding both
  both_left x y n h = ap (λ b. cond b (at t.columns x n) (at u.columns y n)) h

  both_other : (x y : Row) (n : Name) → is_in t.columns n ≡ false → both x y n ≡ at u.columns y n
  unfolding both
  both_other x y n h = ap (λ b. cond b (at t.columns x n) (at u.columns y n)) h

  pub agree_at : (x y : List Value) → agree t.columns u.columns x y ≡ true → (n : List ℕ) → is_in t.columns n ≡ true → is_in u.columns n ≡ true → at t.columns x n ≡ at u.columns y n
  agree_at x y e n h k =
      let names = shared t.columns u.columns in
      let same : map (at t.columns x) names ≡ map (at u.columns y) names =
      sym (cut-at t.columns names x) ∙ (row_eq-Decides (cut t.columns names x) (cut u.columns names y)).0 e ∙ cut-at u.columns names y in
      map_agree (at t.columns x) (at u.columns y) names same n (into-filter (is_in t.columns) u.columns n h k)

  both_right : (x y : Row) → agree t.columns u.columns x y ≡ true → (n : Name) → is_in u.columns n ≡ true → both x y n ≡ at u.columns y n
  both_right x y e n k = by (is_in t.columns n) refl
    where
      by : (b : Bool) → is_in t.columns n ≡ b → both x y n ≡ at u.columns y n
      by true h = both_left x y n h ∙ agree_at x y e n h k
      by false h = both_other x y n h

  record Parts (r : List Value) : Type 0 where
    f : List ℕ → Value
    row : r ≡ map f (t.columns ++ others t.columns u.columns)
    left : gives t f ≡ true
    right : gives u f ≡ true

  parts : Fits t → Fits u → (r : Row) → has (join t u).rows r ≡ true → Parts r
  parts ft fu r h =
      let a = from_flat_map (joined t.columns u.columns u.rows) t.rows r h in
      let x = a.0 in
      let b = from_map (λ y. x ++ cut u.columns Rest y) (filter (agree t.columns u.columns x) u.rows) r a.2 in
      let y = b.0 in
      let c = sym (has-filter (agree t.columns u.columns x) u.rows y) ∙ b.1 in
      let y_in : has u.rows y ≡ true = first_so (has u.rows y) (agree t.columns u.columns x y) c in
      let e : agree t.columns u.columns x y ≡ true = second_so (has u.rows y) (agree t.columns u.columns x y) c in
      let left : map (both x y) t.columns ≡ x = map_same (both x y) (at t.columns x) t.columns (both_left x y) ∙ ft x a.1 in
      let right : map (both x y) u.columns ≡ y = map_same (both x y) (at u.columns y) u.columns (both_right x y e) ∙ fu y y_in in
      let rest : map (both x y) Rest ≡ cut u.columns Rest y =
      map_same (both x y) (at u.columns y) Rest (λ n k. both_right x y e n (in-filter (λ m. not (is_in t.columns m)) u.columns n k).1) ∙ sym (cut-at u.columns Rest y) in
      record {
        f = both x y;
        row = b.2 ∙ (λ i. sym left i ++ sym rest i) ∙ sym (map-append (both x y) t.columns Rest);
        left = ap (has t.rows) left ∙ a.1;
        right = ap (has u.rows) right ∙ y_in;
      }

  row_in : (f : Name → Value) → gives t f ≡ true → gives u f ≡ true → gives (join t u) f ≡ true
  row_in f h k =
      let x = map f t.columns in
      let y = map f u.columns in
      let names = shared t.columns u.columns in
      let one : cut t.columns names x ≡ map f names = cut-map f t.columns names (λ n m. (in-filter (is_in t.columns) u.columns n m).0) in
      let two : cut u.columns names y ≡ map f names = cut-map f u.columns names (λ n m. (in-filter (is_in t.columns) u.columns n m).1) in
      let e : agree t.columns u.columns x y ≡ true = (row_eq-Decides (cut t.columns names x) (cut u.columns names y)).1 (one ∙ sym two) in
      let rest : cut u.columns Rest y ≡ map f Rest = cut-map f u.columns Rest (λ n m. (in-filter (λ q. not (is_in t.columns q)) u.columns n m).1) in
      let made : map f (join t u).columns ≡ x ++ cut u.columns Rest y = map-append f t.columns Rest ∙ ap (λ l. x ++ l) (sym rest) in
      ap (has (join t u).rows) made
      ∙ into_flat_map (joined t.columns u.columns u.rows) t.rows x (x ++ cut u.columns Rest y) h
      (into_map (λ z. x ++ cut u.columns Rest z) (filter (agree t.columns u.columns x) u.rows) y (has-filter (agree t.columns u.columns x) u.rows y ∙ and_so (has u.rows y) (agree t.columns u.columns x y) k e))

  -- a name of the join is one of its parts
  pub join-columns : (n : List ℕ) → is_in (join t u).columns n ≡ (is_in t.columns n || is_in u.columns n)
  join-columns n = is_in-append t.columns Rest n ∙ by (is_in t.columns n) refl
    where
      by : (b : Bool) → is_in t.columns n ≡ b → (b || is_in Rest n) ≡ (b || is_in u.columns n)
      by true e = refl
      by false e = both_ways (is_in Rest n) (is_in u.columns n) (λ k. (in-filter (λ m. not (is_in t.columns m)) u.columns n k).1) (λ k. into-filter (λ m. not (is_in t.columns m)) u.columns n (ap not e) k)

  pub Fits-join : Fits t → Fits u → Fits (join t u)
  Fits-join ft fu r h =
      let p = parts ft fu r h in
      subst (λ (x : Row). map (at (join t u).columns x) (join t u).columns ≡ x) (sym p.row) (made-fits p.f (join t u).columns)

  -- an assignment gives a row of the join exactly where it gives one of each part
  pub gives-join : Fits t → Fits u → (f : List ℕ → Value) → gives (join t u) f ≡ (gives t f && gives u f)
  gives-join ft fu f = both_ways (gives (join t u) f) (gives t f && gives u f) from into
    where
      from : gives (join t u) f ≡ true → (gives t f && gives u f) ≡ true
      from h =
          let p = parts ft fu (map f (join t u).columns) h in
          let same = map_agree f p.f (join t u).columns p.row in
          let left : map f t.columns ≡ map p.f t.columns = map_same f p.f t.columns (λ n k. same n (join-columns n ∙ or_left (is_in t.columns n) (is_in u.columns n) k)) in
          let right : map f u.columns ≡ map p.f u.columns = map_same f p.f u.columns (λ n k. same n (join-columns n ∙ or_right (is_in t.columns n) (is_in u.columns n) k)) in
          and_so (gives t f) (gives u f) (ap (has t.rows) left ∙ p.left) (ap (has u.rows) right ∙ p.right)

      into : (gives t f && gives u f) ≡ true → gives (join t u) f ≡ true
      into h = row_in f (first_so (gives t f) (gives u f) h) (second_so (gives t f) (gives u f) h)

-- ---- the join of many tables

abbrev pub AllFit : List Table → Type 0
AllFit [] = Unit {0}
AllFit (t ∷ ts) = Fits t × AllFit ts

fits_unit : Fits unit
fits_unit [] k = refl
fits_unit (v ∷ r) k = absurd (true≢false (sym k))

Fits-fold : (t : Table) (ts : List Table) → Fits t → AllFit ts → Fits (fold join t ts)
Fits-fold t [] h k = h
Fits-fold t (u ∷ us) h k = Fits-fold (join t u) us (Fits-join t u h k.0) k.1

pub Fits-join_all : (ts : List Table) → AllFit ts → Fits (join_all ts)
Fits-join_all [] h = fits_unit
Fits-join_all (t ∷ ts) h = Fits-fold t ts h.0 h.1

gives-fold : (t : Table) (ts : List Table) → Fits t → AllFit ts → (f : List ℕ → Value) → gives (fold join t ts) f ≡ (gives t f && list_all (λ u. gives u f) ts)
gives-fold t [] h k f = sym (and_true (gives t f))
gives-fold t (u ∷ us) h k f =
    gives-fold (join t u) us (Fits-join t u h k.0) k.1 f
    ∙ ap (λ b. b && list_all (λ v. gives v f) us) (gives-join t u h k.0 f)
    ∙ and_assoc (gives t f) (gives u f) (list_all (λ v. gives v f) us)

pub gives-join_all : (ts : List Table) → AllFit ts → (f : List ℕ → Value) → gives (join_all ts) f ≡ list_all (λ t. gives t f) ts
gives-join_all [] h f = refl
gives-join_all (t ∷ ts) h f = gives-fold t ts h.0 h.1 f

columns-fold : (t : Table) (ts : List Table) (n : List ℕ) → is_in (fold join t ts).columns n ≡ (is_in t.columns n || list_any (λ u. is_in u.columns n) ts)
columns-fold t [] n = sym (or_false (is_in t.columns n))
columns-fold t (u ∷ us) n =
    columns-fold (join t u) us n
    ∙ ap (λ b. b || list_any (λ v. is_in v.columns n) us) (join-columns t u n)
    ∙ or_assoc (is_in t.columns n) (is_in u.columns n) (list_any (λ v. is_in v.columns n) us)

pub columns-join_all : (ts : List Table) (n : List ℕ) → is_in (join_all ts).columns n ≡ list_any (λ t. is_in t.columns n) ts
columns-join_all [] n = refl
columns-join_all (t ∷ ts) n = columns-fold t ts n
