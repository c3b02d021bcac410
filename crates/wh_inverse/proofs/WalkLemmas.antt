-- A look-up goes through the pieces of a cover: one of them at its columns, the others by key.
use Rattle.std.proofs.Common.{◌≡◌, ℕ, ◌+◌, ◌<◌, Bool, true, false, cond, ◌&&◌, ◌||◌, List, [], ◌∷◌, ◌++◌, map, filter, length, take, get_or, refl, sym, ap, ◌∙◌, true≢false, inl, inr, ◌⊎◌}
use Rattle.std.specs.Cmp.{both_ways, first_so, second_so}
use Rattle.std.specs.List.{list_any, list_all, flat_map}
use Rattle.std.proofs.lemmas.List.{take_more, append-nil}
use Rattle.std.proofs.lemmas.List.Folds.{list_all-append}
use Rattle.std.proofs.lemmas.Grind.{flat_map-append}
use Rattle.wh_base.specs.declared.value.Value.{Value}
use Rattle.wh_base.specs.Columns.{cut, is_in, all_in, shared, others}
use Rattle.wh_base.specs.RowSet.{has, SameRows}
use Rattle.wh_base.specs.Tables.{Table, project, join, join_all, agree, joined, matching, with_columns}
use Rattle.wh_base.specs.Value.{row_eq}
use Rattle.wh_base.specs.ValueLaws.{row_eq-Decides}
use Rattle.wh_base.proofs.RowSets.{has-filter, from_map, into_map, SameRows-append, SameRows-filter, SameRows-map}
use Rattle.wh_expr.specs.Narrowed.{narrowed}
use Rattle.wh_expr.specs.SameTable.{SameTable}
use Rattle.wh_expr.proofs.Congruence.{same_trans, SameTable-project}
use Rattle.wh_expr.proofs.NarrowedLemmas.{narrowed-project}
use Rattle.wh_inverse.proofs.Tests.{or_cases, or_left, or_right, and_so, map_of_map, filter-map}
use Rattle.wh_inverse.proofs.Beside.{beside, value_beside}
use Rattle.wh_inverse.proofs.Assignments.{at, cut-at, map_same, all_in-at, cut-map, Fits, gives, Fits-same, gives-same, in-filter, agree_at, join-columns, Fits-join, gives-join, AllFit, Fits-join_all, gives-join_all, columns-join_all}

abbrev Row : Type 0
Row = List Value

abbrev Name : Type 0
Name = List ℕ

and_true : (b : Bool) → b ≡ (b && true)
and_true true = refl
and_true false = refl

and_shift : (f a t : Bool) → ((f && a) && t) ≡ (f && (a && (t && true)))
and_shift true true t = and_true t
and_shift true false t = refl
and_shift false a t = refl

any-append : {X : Type 0} (p : X → Bool) (xs : List X) (x : X) → list_any p (xs ++ x ∷ []) ≡ true → (list_any p xs ≡ true) ⊎ (p x ≡ true)
any-append p [] x h = inr (first_or (p x) h)
  where
    first_or : (b : Bool) → (b || false) ≡ true → b ≡ true
    first_or true k = refl
    first_or false k = k
any-append p (y ∷ xs) x h =
    elim (or_cases (p y) (list_any p (xs ++ x ∷ [])) h) [
      | inl k ↦ inl (or_left (p y) (list_any p xs) k)
      | inr k ↦ elim (any-append p xs x k) [ inl m ↦ inl (or_right (p y) (list_any p xs) m) | inr m ↦ inr m ]
    ]

-- ---- rows of a projection

pub row_from : (names : List (List ℕ)) (t : Table) → Fits t → (r : List Value) → has (project names t).rows r ≡ true → (f : List ℕ → Value) × (r ≡ map f names) × (gives t f ≡ true)
row_from names t fits r h =
    let m = from_map (cut t.columns names) t.rows r h in
    (at t.columns m.0, m.2 ∙ cut-at t.columns names m.0, ap (has t.rows) (fits m.0 m.1) ∙ m.1)

pub row_into : (names : List (List ℕ)) (t : Table) → ((n : List ℕ) → is_in names n ≡ true → is_in t.columns n ≡ true) → (f : List ℕ → Value) → gives t f ≡ true → has (project names t).rows (map f names) ≡ true
row_into names t all f h =
    ap (has (project names t).rows) (sym (cut-map f t.columns names all)) ∙ into_map (cut t.columns names) t.rows (map f t.columns) h

-- ---- the tables that were joined so far

-- The assignments that give a row are those that give one of the first table and of each other table.
pub record Partial (first : Table) (ts : List Table) (acc : Table) : Type 0 where
  pub fits : Fits acc
  pub start : (n : List ℕ) → is_in first.columns n ≡ true → is_in acc.columns n ≡ true
  pub columns : (n : List ℕ) → list_any (λ t. is_in t.columns n) ts ≡ true → is_in acc.columns n ≡ true
  pub given : (f : List ℕ → Value) → gives acc f ≡ (gives first f && list_all (λ t. gives t f) ts)

pub Partial-first : (first acc : Table) → Fits first → SameTable acc first → Partial first [] acc
Partial-first first acc fits e = record {
  fits = Fits-same acc first e fits;
  start = λ n h. ap (λ columns. is_in columns n) e.columns ∙ h;
  columns = λ n h. absurd (true≢false (sym h));
  given = λ f. gives-same acc first e f ∙ and_true (gives first f);
}

module _ (first : Table) (ts : List Table) (acc t : Table) (p : Partial first ts acc) where
  pub Partial-join : (new : Table) → Fits t → SameTable new (join acc t) → Partial first (ts ++ t ∷ []) new
  Partial-join new fits e =
      let into : (n : List ℕ) → (is_in acc.columns n || is_in t.columns n) ≡ true → is_in new.columns n ≡ true = λ n k. ap (λ columns. is_in columns n) e.columns ∙ (join-columns acc t n ∙ k) in
      record {
        fits = Fits-same new (join acc t) e (Fits-join acc t p.fits fits);
        start = λ n h. into n (or_left (is_in acc.columns n) (is_in t.columns n) (p.start n h));
        columns = λ n h. elim (any-append (λ (u : Table). is_in u.columns n) ts t h) [
          | inl k ↦ into n (or_left (is_in acc.columns n) (is_in t.columns n) (p.columns n k))
          | inr k ↦ into n (or_right (is_in acc.columns n) (is_in t.columns n) k)
        ];
        given = λ f.
            gives-same new (join acc t) e f ∙ gives-join acc t p.fits fits f ∙ ap (λ b. b && gives t f) (p.given f)
            ∙ and_shift (gives first f) (list_all (λ u. gives u f) ts) (gives t f)
            ∙ ap (λ b. gives first f && b) (sym (list_all-append (λ (u : Table). gives u f) ts (t ∷ [])));
      }

  skip : (b c d : Bool) → (b ≡ true → d ≡ true) → (b && c) ≡ (b && (c && (d && true)))
  skip true true d h = sym (ap (λ x. x && true) (h refl))
  skip true false d h = refl
  skip false c d h = refl

  -- the table that the first one is taken from
  pub Partial-skip : ((n : List ℕ) → is_in t.columns n ≡ true → is_in first.columns n ≡ true) → ((f : List ℕ → Value) → gives first f ≡ true → gives t f ≡ true) → Partial first (ts ++ t ∷ []) acc
  Partial-skip names from = record {
    fits = p.fits;
    start = p.start;
    columns = λ n h. elim (any-append (λ (u : Table). is_in u.columns n) ts t h) [ inl k ↦ p.columns n k | inr k ↦ p.start n (names n k) ];
    given = λ f.
        p.given f ∙ skip (gives first f) (list_all (λ u. gives u f) ts) (gives t f) (from f)
        ∙ ap (λ b. gives first f && b) (sym (list_all-append (λ (u : Table). gives u f) ts (t ∷ [])));
  }

-- ---- the look-up at some columns, where the first table was looked up at those of them that it has

module _ (t : Table) (columns : List (List ℕ)) (values : List Value) where
  abbrev Own : List (List ℕ)
  Own = shared t.columns columns

  abbrev Known : List Value
  Known = cut columns Own values

  pub gives-narrowed : (f : List ℕ → Value) → gives (narrowed Own Known t) f ≡ (gives t f && row_eq (map f Own) Known)
  gives-narrowed f =
      has-filter (λ r. row_eq (cut t.columns Own r) Known) t.rows (map f t.columns)
      ∙ ap (λ r. gives t f && row_eq r Known) (cut-map f t.columns Own (λ n k. (in-filter (is_in t.columns) columns n k).0))

  narrowed_in : (f : List ℕ → Value) → gives t f ≡ true → map f columns ≡ values → gives (narrowed Own Known t) f ≡ true
  narrowed_in f h e =
      let own : Known ≡ map f Own = ap (cut columns Own) (sym e) ∙ cut-map f columns Own (λ n k. (in-filter (is_in t.columns) columns n k).1) in
      gives-narrowed f ∙ and_so (gives t f) (row_eq (map f Own) Known) h ((row_eq-Decides (map f Own) Known).1 (sym own))

  pub Fits-narrowed : Fits t → Fits (narrowed Own Known t)
  Fits-narrowed fits r h = fits r (first_so (has t.rows r) (row_eq (cut t.columns Own r) Known) (sym (has-filter (λ x. row_eq (cut t.columns Own x) Known) t.rows r) ∙ h))

  pub narrowed-from : (f : List ℕ → Value) → gives (narrowed Own Known t) f ≡ true → gives t f ≡ true
  narrowed-from f h = first_so (gives t f) (row_eq (map f Own) Known) (sym (gives-narrowed f) ∙ h)

  -- the walk gives the rows of the join of all tables
  module _ (ts : List Table) (fit : AllFit ts) (head : List (List ℕ)) (acc : Table) (p : Partial (narrowed Own Known t) ts acc)
      (member : (f : List ℕ → Value) → list_all (λ u. gives u f) ts ≡ true → gives t f ≡ true)
      (asked : (n : List ℕ) → is_in columns n ≡ true → is_in head n ≡ true)
      (covered : (n : List ℕ) → is_in head n ≡ true → list_any (λ u. is_in u.columns n) ts ≡ true) where
    walked_in : (r : Row) → has (project head acc).rows r ≡ true → has (project head (join_all ts)).rows r ≡ true
    walked_in r h =
        let m = row_from head acc p.fits r h in
        let all : list_all (λ u. gives u m.0) ts ≡ true = second_so (gives (narrowed Own Known t) m.0) (list_all (λ u. gives u m.0) ts) (sym (p.given m.0) ∙ m.2) in
        ap (has (project head (join_all ts)).rows) m.1
        ∙ row_into head (join_all ts) (λ n k. columns-join_all ts n ∙ covered n k) m.0 (gives-join_all ts fit m.0 ∙ all)

    walked_from : (r : Row) → row_eq (cut head columns r) values ≡ true → has (project head (join_all ts)).rows r ≡ true → has (project head acc).rows r ≡ true
    walked_from r v h =
        let m = row_from head (join_all ts) (Fits-join_all ts fit) r h in
        let all : list_all (λ u. gives u m.0) ts ≡ true = sym (gives-join_all ts fit m.0) ∙ m.2 in
        let known : map m.0 columns ≡ values = sym (ap (cut head columns) m.1 ∙ cut-map m.0 head columns asked) ∙ (row_eq-Decides (cut head columns r) values).0 v in
        let one = narrowed_in m.0 (member m.0 all) known in
        ap (has (project head acc).rows) m.1
        ∙ row_into head acc (λ n k. p.columns n (covered n k)) m.0 (p.given m.0 ∙ and_so (gives (narrowed Own Known t) m.0) (list_all (λ u. gives u m.0) ts) one all)

    pub walked : SameRows (matching head columns values (project head acc).rows) (matching head columns values (project head (join_all ts)).rows)
    walked r =
        let test = λ (x : Row). row_eq (cut head columns x) values in
        has-filter test (project head acc).rows r ∙ by (test r) refl ∙ sym (has-filter test (project head (join_all ts)).rows r)
      where
        by : (b : Bool) → row_eq (cut head columns r) values ≡ b → (has (project head acc).rows r && row_eq (cut head columns r) values) ≡ (has (project head (join_all ts)).rows r && row_eq (cut head columns r) values)
        by true e = ap (λ b. b && row_eq (cut head columns r) values) (both_ways (has (project head acc).rows r) (has (project head (join_all ts)).rows r) (walked_in r) (walked_from r e))
        by false e = both_ways (has (project head acc).rows r && row_eq (cut head columns r) values) (has (project head (join_all ts)).rows r && row_eq (cut head columns r) values)
            (λ h. absurd (true≢false (sym (second_so (has (project head acc).rows r) (row_eq (cut head columns r) values) h) ∙ e)))
            (λ h. absurd (true≢false (sym (second_so (has (project head (join_all ts)).rows r) (row_eq (cut head columns r) values) h) ∙ e)))

-- ---- partners by key

pub filter_twice : {X : Type 0} (p q : X → Bool) → ((x : X) → p x ≡ true → q x ≡ true) → (xs : List X) → filter p (filter q xs) ≡ filter p xs
filter_twice p q h [] = refl
filter_twice p q h (x ∷ xs) = by (q x) refl (p x) refl (filter_twice p q h xs)
  where
    by : (b : Bool) → q x ≡ b → (c : Bool) → p x ≡ c → filter p (filter q xs) ≡ filter p xs → filter p (cond (q x) (x ∷ filter q xs) (filter q xs)) ≡ cond (p x) (x ∷ filter p xs) (filter p xs)
    by true e c d k = ap (λ b. filter p (cond b (x ∷ filter q xs) (filter q xs))) e ∙ ap (λ r. cond (p x) (x ∷ r) r) k
    by false e true d k = absurd (true≢false (sym (h x d) ∙ e))
    by false e false d k = ap (λ b. filter p (cond b (x ∷ filter q xs) (filter q xs))) e ∙ k ∙ sym (ap (λ b. cond b (x ∷ filter p xs) (filter p xs)) d)

-- a row's partners are among those with its key
pub joined-at_key : (left right key : List (List ℕ)) (ys : List (List Value)) (x : List Value) → all_in left key ≡ true → all_in right key ≡ true
    → joined left right (matching right key (cut left key x) ys) x ≡ joined left right ys x
joined-at_key left right key ys x l r =
    ap (map (λ y. x ++ cut right (others left right) y))
    (filter_twice (agree left right x) (λ y. row_eq (cut right key y) (cut left key x)) (λ y e.
    (row_eq-Decides (cut right key y) (cut left key x)).1
    (cut-at right key y ∙ sym (map_same (at left x) (at right y) key (λ n k. agree_at (record { columns = left; rows = [] }) (record { columns = right; rows = [] }) x y e n (all_in-at left key l n k) (all_in-at right key r n k))) ∙ sym (cut-at left key x)))
    ys)

pub joined-same : (left right : List (List ℕ)) (ys vs : List (List Value)) → SameRows ys vs → (x : List Value) → SameRows (joined left right ys x) (joined left right vs x)
joined-same left right ys vs h x =
    SameRows-map (λ y. x ++ cut right (others left right) y) (filter (agree left right x) ys) (filter (agree left right x) vs)
    (SameRows-filter (agree left right x) (agree left right x) (λ r. refl) ys vs h)

-- one partial row more is joined with what its key finds
pub joined-more : (left right key : List (List ℕ)) (rows found meant so_far new : List (List Value)) (i : ℕ) (x k : List Value)
    → all_in left key ≡ true → all_in right key ≡ true → i < length rows → x ≡ get_or rows i x → k ≡ cut left key x
    → SameRows found (matching right key k meant)
    → SameRows so_far (flat_map (joined left right meant) (take i rows))
    → new ≡ so_far ++ joined left right found x
    → SameRows new (flat_map (joined left right meant) (take (i + 1) rows))
joined-more left right key rows found meant so_far new i x k l r within is keyed same before now q =
    let f = joined left right meant in
    let key_found : SameRows found (matching right key (cut left key x) meant) = λ y. same y ∙ ap (λ v. has (matching right key v meant) y) keyed in
    let one : SameRows (joined left right found x) (f x) = λ y. joined-same left right found (matching right key (cut left key x) meant) key_found x y ∙ ap (λ ys. has ys y) (joined-at_key left right key meant x l r) in
    let more : flat_map f (take (i + 1) rows) ≡ flat_map f (take i rows) ++ f x =
    ap (flat_map f) (take_more rows i x within) ∙ flat_map-append f (take i rows) (get_or rows i x ∷ []) ∙ ap (λ z. flat_map f (take i rows) ++ flat_map f (z ∷ [])) (sym is) ∙ ap (λ z. flat_map f (take i rows) ++ z) (append-nil (f x)) in
    ap (λ rows. has rows q) now ∙ SameRows-append so_far (joined left right found x) (flat_map f (take i rows)) (f x) before one q ∙ ap (λ rows. has rows q) (sym more)

-- ---- one piece

pub found-project : (cols attrs : List (List ℕ)) (values : List Value) (r found t : Table) → all_in attrs cols ≡ true → SameTable found (narrowed cols values t) → SameTable r (project attrs found) → SameTable r (narrowed cols values (project attrs t))
found-project cols attrs values r found t all h k =
    same_trans r (project attrs found) (narrowed cols values (project attrs t)) k
    (same_trans (project attrs found) (project attrs (narrowed cols values t)) (narrowed cols values (project attrs t)) (SameTable-project attrs found (narrowed cols values t) h) (narrowed-project cols values attrs t all))

-- ---- a look-up through an inclusion

cut_beside : (columns lefts rights cols : List (List ℕ)) (x : List Value) → length lefts ≡ length rights → all_in rights cols ≡ true
    → cut rights cols (cut columns lefts x) ≡ cut columns (map (beside lefts rights) cols) x
cut_beside columns lefts rights cols x l k =
    cut-at rights cols (cut columns lefts x)
    ∙ ap (λ row. map (at rights row) cols) (cut-at columns lefts x)
    ∙ map_same (at rights (map (at columns x) lefts)) (λ n. at columns x (beside lefts rights n)) cols (λ n h. value_beside (at columns x) lefts rights l n (all_in-at rights cols k n h))
    ∙ sym (cut-at columns (map (beside lefts rights) cols) x ∙ map_of_map (at columns x) (beside lefts rights) cols)

-- a look-up under right names is one under the left ones
pub found-beside : (cols : List (List ℕ)) (values : List Value) (lefts rights : List (List ℕ)) (r found t : Table) → length lefts ≡ length rights → all_in rights cols ≡ true
    → SameTable found (narrowed (map (beside lefts rights) cols) values t) → r ≡ with_columns rights (project lefts found) → SameTable r (narrowed cols values (with_columns rights (project lefts t)))
found-beside cols values lefts rights r found t l all h is = record {
  columns = ap (λ (u : Table). u.columns) is;
  rows = λ q.
      let old = map (beside lefts rights) cols in
      let f = λ (columns : List (List ℕ)). cut columns lefts in
      ap (λ (u : Table). has u.rows q) is
      ∙ SameRows-map (f found.columns) found.rows (narrowed old values t).rows h.rows q
      ∙ ap (λ columns. has (map (f columns) (narrowed old values t).rows) q) h.columns
      ∙ ap (λ rows. has rows q) (sym (filter-map (f t.columns) (λ x. row_eq (cut t.columns old x) values) (λ x. row_eq (cut rights cols x) values) (λ x. ap (λ v. row_eq v values) (cut_beside t.columns lefts rights cols x l all)) t.rows));
}
