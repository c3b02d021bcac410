-- The walk through a cover, from piece to piece.
use Rattle.std.proofs.Common.{◌≡◌, ℕ, zero, suc, ◌+◌, ◌<◌, ◌≤◌, Bool, true, false, not, ◌||◌, List, [], ◌∷◌, ◌++◌, map, length, take, get_or, slice_get, None, Some, unwrap_or, cond, refl, sym, ap, subst, ◌∙◌, arith, true≢false, inl, inr}
use Rattle.std.specs.Cmp.{first_so, second_so}
use Rattle.std.specs.List.{list_any, list_all, position, position_or_len}
use Rattle.std.proofs.lemmas.List.Quantifiers.{position-Some}
use Rattle.std.proofs.lemmas.List.{map-append, take_more, take_all}
use Rattle.std.proofs.lemmas.Option.{slice_get-get_or, get_or_from_slice_get}
use Rattle.wh_base.specs.declared.value.Value.{Value}
use Rattle.wh_base.specs.Columns.{cut, is_in, all_in, shared}
use Rattle.wh_base.specs.Tables.{Table, project, join, join_all}
use Rattle.wh_expr.specs.Narrowed.{narrowed}
use Rattle.wh_expr.specs.SameTable.{SameTable}
use Rattle.wh_inverse.specs.Asked.{has_one}
use Rattle.wh_inverse.proofs.Tests.{or_cases, or_left, or_right, lt-test, all_in-from, any-map}
use Rattle.wh_inverse.proofs.Assignments.{Fits, gives, AllFit, all_in-at, in-filter}
use Rattle.wh_inverse.proofs.WalkLemmas.{Partial, Partial-first, Partial-join, Partial-skip, Fits-narrowed, narrowed-from, walked}

pub get-is : {X : Type 0} (xs : List X) (i : ℕ) (x : X) → i < length xs → x ≡ get_or xs i x → slice_get xs i ≡ Some x
get-is xs i x within is = slice_get-get_or xs i x within ∙ ap Some (sym is)

pub shared-in : (names columns : List (List ℕ)) → all_in names (shared names columns) ≡ true
shared-in names columns = all_in-from names (shared names columns) (λ n h. (in-filter (is_in names) columns n h).0)

any-more : {X : Type 0} (p q : X → Bool) → ((x : X) → p x ≡ true → q x ≡ true) → (xs : List X) → list_any p xs ≡ true → list_any q xs ≡ true
any-more p q h [] e = e
any-more p q h (x ∷ xs) e = elim (or_cases (p x) (list_any p xs) e) [ inl k ↦ or_left (q x) (list_any q xs) (h x k) | inr k ↦ or_right (q x) (list_any q xs) (any-more p q h xs k) ]

any-before : {X : Type 0} (p : X → Bool) (xs : List X) → list_any p xs ≡ true → position_or_len p xs < length xs
any-before p [] h = absurd (true≢false (sym h))
any-before p (x ∷ xs) h = by (p x) refl (any-before p xs)
  where
    by : (b : Bool) → p x ≡ b → (list_any p xs ≡ true → position_or_len p xs < length xs) → cond (not (p x)) (1 + position_or_len p xs) 0 < suc (length xs)
    by true e more = subst (λ b. cond (not b) (1 + position_or_len p xs) 0 < suc (length xs)) (sym e) (omega arith)
    by false e more = let less = more (sym (ap (λ b. b || list_any p xs) e) ∙ h) in subst (λ b. cond (not b) (1 + position_or_len p xs) 0 < suc (length xs)) (sym e) (omega (arith, less))

some-position : {X : Type 0} (p : X → Bool) (xs : List X) → list_any p xs ≡ true → (i : ℕ) × (i < length xs) × (position p xs ≡ Some i)
some-position p xs h = (position_or_len p xs, any-before p xs h, ap (λ b. cond b (Some (position_or_len p xs)) None) (lt-test (position_or_len p xs) (length xs) (any-before p xs h)))

-- it is asked at some columns
pub some-shared : (names columns : List (List ℕ)) → list_any (is_in names) columns ≡ true → 0 < length (shared names columns)
some-shared names [] h = absurd (true≢false (sym h))
some-shared names (n ∷ columns) h = by (is_in names n) refl (some-shared names columns)
  where
    by : (b : Bool) → is_in names n ≡ b → (list_any (is_in names) columns ≡ true → 0 < length (shared names columns)) → 0 < length (cond (is_in names n) (n ∷ shared names columns) (shared names columns))
    by true e more = subst (λ b. 0 < length (cond b (n ∷ shared names columns) (shared names columns))) (sym e) (omega arith)
    by false e more = subst (λ b. 0 < length (cond b (n ∷ shared names columns) (shared names columns))) (sym e) (more (sym (ap (λ b. b || list_any (is_in names) columns) e) ∙ h))

-- ---- pieces with their tables

module _ {X : Type 0} (of : X → Table) where
  -- each name of the head is a column of some piece
  abbrev pub IsCovered : List (List ℕ) → List X → Type 0
  IsCovered head cover = (n : List ℕ) → is_in head n ≡ true → list_any (λ x. is_in (of x).columns n) cover ≡ true

  -- the first column is one of some piece
  one-has : (columns head : List (List ℕ)) (cover : List X) → 0 < length columns → all_in head columns ≡ true → IsCovered head cover → list_any (λ x. has_one columns (of x).columns) cover ≡ true
  one-has [] head cover some asked covered = absurd (omega (arith, some))
  one-has (n ∷ columns) head cover some asked covered =
      any-more (λ x. is_in (of x).columns n) (λ x. has_one (n ∷ columns) (of x).columns) (λ x h. or_left (is_in (of x).columns n) (list_any (is_in (of x).columns) columns) h) cover
      (covered n (first_so (is_in head n) (all_in head columns) asked))

  -- the place of the first piece lies in the cover, and the piece there has a column
  module _ (columns head : List (List ℕ)) (cover : List X) (place : ℕ) (some : 0 < length columns) (asked : all_in head columns ≡ true) (covered : IsCovered head cover)
      (is : place ≡ unwrap_or (position (λ x. has_one columns (of x).columns) cover) 0) where
    abbrev test : X → Bool
    test x = has_one columns (of x).columns

    pub first-has : (x : X) → slice_get cover place ≡ Some x → has_one columns (of x).columns ≡ true
    first-has x e =
        let s = some-position test cover (one-has columns head cover some asked covered) in
        let at : place ≡ s.0 = is ∙ ap (λ o. unwrap_or o 0) s.2 in
        let here : get_or cover s.0 x ≡ x = get_or_from_slice_get cover s.0 x x (ap (slice_get cover) (sym at) ∙ e) in
        ap test (sym here) ∙ (position-Some test cover s.0 x s.2).1

    pub first-within : place < length cover
    first-within =
        let s = some-position test cover (one-has columns head cover some asked covered) in
        let at : place ≡ s.0 = is ∙ ap (λ o. unwrap_or o 0) s.2 in
        omega (arith, at, s.1)

  module _ (fits : (x : X) → Fits (of x)) where
    pub fit_all : (cover : List X) → AllFit (map of cover)
    fit_all [] = tt
    fit_all (x ∷ cover) = (fits x, fit_all cover)

    member : (f : List ℕ → Value) (cover : List X) (i : ℕ) (x : X) → slice_get cover i ≡ Some x → list_all (λ t. gives t f) (map of cover) ≡ true → gives (of x) f ≡ true
    member f [] i x e h = absurd (cc)
    member f (y ∷ cover) zero x e h = let same : y ≡ x = cc in ap (λ z. gives (of z) f) (sym same) ∙ first_so (gives (of y) f) (list_all (λ t. gives t f) (map of cover)) h
    member f (y ∷ cover) (suc i) x e h = member f cover i x e (second_so (gives (of y) f) (list_all (λ t. gives t f) (map of cover)) h)

    module _ (cover : List X) (at : ℕ) (columns : List (List ℕ)) (values : List Value) where
      abbrev Start : X → Table
      Start x = narrowed (shared (of x).columns columns) (cut columns (shared (of x).columns columns) values) (of x)

      -- the first k pieces were walked, and the one at the place before
      pub record Walked (k : ℕ) (acc : Table) : Type 0 where
        pub first : X
        pub is : slice_get cover at ≡ Some first
        pub partial : Partial (narrowed (shared (of first).columns columns) (cut columns (shared (of first).columns columns) values) (of first)) (map of (take k cover)) acc

      pub Walked-first : (first : X) (own : List (List ℕ)) (known : List Value) (acc : Table) → slice_get cover at ≡ Some first → own ≡ shared (of first).columns columns → known ≡ cut columns own values
          → SameTable acc (narrowed own known (of first)) → Walked 0 acc
      Walked-first first own known acc is o k e =
          let known_is : known ≡ cut columns (shared (of first).columns columns) values = k ∙ ap (λ names. cut columns names values) o in
          let given : SameTable acc (Start first) = subst (SameTable acc) (λ i. narrowed (o i) (known_is i) (of first)) e in
          record {
            first = first;
            is = is;
            partial = Partial-first (Start first) acc (Fits-narrowed (of first) columns values (fits first)) given;
          }

      one_more : (k : ℕ) (x : X) → k < length cover → x ≡ get_or cover k x → map of (take k cover) ++ of x ∷ [] ≡ map of (take (k + 1) cover)
      one_more k x within is =
          ap (λ z. map of (take k cover) ++ of z ∷ []) is
          ∙ sym (ap (map of) (take_more cover k x within) ∙ map-append of (take k cover) (get_or cover k x ∷ []))

      module _ (k : ℕ) (acc : Table) (w : Walked k acc) where
        pub Walked-join : (x : X) (new : Table) → k < length cover → x ≡ get_or cover k x → SameTable new (join acc (of x)) → Walked (k + 1) new
        Walked-join x new within is e = record {
          first = w.first;
          is = w.is;
          partial = subst (λ ts. Partial (Start w.first) ts new) (one_more k x within is)
              (Partial-join (Start w.first) (map of (take k cover)) acc (of x) w.partial new (fits x) e);
        }

        pub Walked-skip : k < length cover → k ≡ at → Walked (k + 1) acc
        Walked-skip within same =
            let is : w.first ≡ get_or cover k w.first = sym (get_or_from_slice_get cover k w.first w.first (ap (slice_get cover) same ∙ w.is)) in
            record {
              first = w.first;
              is = w.is;
              partial = subst (λ ts. Partial (Start w.first) ts acc) (one_more k w.first within is)
                  (Partial-skip (Start w.first) (map of (take k cover)) acc (of w.first) w.partial (λ n h. h) (narrowed-from (of w.first) columns values));
            }

        -- the rows so far have the columns of the first piece
        pub Walked-key : (key : List (List ℕ)) → ((x : X) → slice_get cover at ≡ Some x → all_in (of x).columns key ≡ true) → all_in acc.columns key ≡ true
        Walked-key key h = all_in-from acc.columns key (λ n m. w.partial.start n (all_in-at (of w.first).columns key (h w.first w.is) n m))

        pub Walked-end : (head : List (List ℕ)) (r : Table) → length cover ≤ k → IsCovered head cover → all_in head columns ≡ true → SameTable r (narrowed columns values (project head acc))
            → SameTable r (narrowed columns values (project head (join_all (map of cover))))
        Walked-end head r ends covered asked e =
            let partial : Partial (Start w.first) (map of cover) acc = subst (λ c. Partial (Start w.first) (map of c) acc) (take_all k cover ends) w.partial in
            record {
              columns = e.columns;
              rows = λ q. e.rows q ∙ walked (of w.first) columns values (map of cover) (fit_all cover) head acc partial
                  (λ f h. member f cover at w.first w.is h)
                  (λ n h. all_in-at head columns asked n h)
                  (λ n h. any-map (λ (t : Table). is_in t.columns n) of cover ∙ covered n h) q;
            }
