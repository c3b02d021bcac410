-- The indexed sets of a stored table as sets of columns.
use Rattle.std.proofs.Common.{◌≡◌, ℕ, suc, ◌+◌, ◌<◌, Bool, true, false, cond, ◌&&◌, List, [], ◌∷◌, map, filter, length, get_or, nat_eq, nat_lt, Contains, refl, sym, ap, subst, ◌∙◌, inl, inr, ◌⊎◌, arith}
use Rattle.std.specs.Prelude.{All}
use Rattle.std.specs.List.{IsDistinct, AllByRecursion, range_with_len}
use Rattle.std.proofs.lemmas.Bool.{true≢false}
use Rattle.std.proofs.lemmas.Bool.Decides.{Decides-eqb, nat_tests}
use Rattle.std.proofs.lemmas.List.{length-map}
use Rattle.std.proofs.lemmas.List.Elements.{All-append, All-contains_itself, All-from_recursion, Contains-append_left, Contains-append_right}
use Rattle.std.proofs.lemmas.List.FromFn.{length-range_with_len, get_or-range_with_len}
use Rattle.std.proofs.lemmas.List.Sorted.{IsPermutation-refl}
use Rattle.std.proofs.lemmas.Map.Keys.{IsDistinct-cons}
use Rattle.wh_base.specs.Columns.{name_eq, all_in, is_in, place_of}
use Rattle.wh_expr.specs.Typing.{are_distinct}
use Rattle.wh_laws.proofs.Acceptance.{place_below}
use Rattle.wh_laws.proofs.Equality.{Name, name_eq_decides, is_in_decides, is_false, is_not, all_in_from}
use Rattle.wh_laws.proofs.Lists.{Contains-nil, Contains-here, Contains-there, Contains-cases, Contains-is, filter_in, filter_from, map_in, map_from}
use Rattle.wh_plan.specs.Indexes.{single_sets, is_wide_key, key_sets, index_sets}
use Rattle.wh_schema.specs.declared.spec.Relation.{Relation}
use Rattle.wh_schema.specs.declared.spec.Spec.{Spec}
use Rattle.wh_table.specs.Table.{IsColumnSet, IsIndexed}

left_and : (a b : Bool) → (a && b) ≡ true → a ≡ true
left_and true b h = refl
left_and false b h = h

right_and : (a b : Bool) → (a && b) ≡ true → b ≡ true
right_and true b h = h
right_and false b h = absurd (true≢false (sym h))

both : (a b : Bool) → a ≡ true → b ≡ true → (a && b) ≡ true
both true b h k = k
both false b h k = h

-- ---- numbers

in_range : (w i : ℕ) → i < w → Contains (range_with_len 0 w) i
in_range w i below =
    let from_zero : 0 + i ≡ i = omega arith in
    (i, omega (arith, below, length-range_with_len 0 w), get_or-range_with_len 0 w i i below ∙ from_zero)

range_below : (w i : ℕ) → Contains (range_with_len 0 w) i → i < w
range_below w i h =
    let below : h.0 < w = omega (arith, h.1, length-range_with_len 0 w) in
    let is : 0 + h.0 ≡ i = sym (get_or-range_with_len 0 w h.0 i below) ∙ h.2 in
    omega (arith, below, is)

-- ---- places

at_place : (columns : List Name) (n : Name) → Contains columns n → get_or columns (place_of columns n) [] ≡ n
at_place [] n h = absurd (Contains-nil n h)
at_place (m ∷ columns) n h = by (name_eq n m) refl (Contains-cases m n columns h) (at_place columns n)
  where
    by : (b : Bool) → name_eq n m ≡ b → (m ≡ n) ⊎ Contains columns n → (Contains columns n → get_or columns (place_of columns n) [] ≡ n) → get_or (m ∷ columns) (cond b 0 (suc (place_of columns n))) [] ≡ n
    by true e c k = sym ((name_eq_decides n m).0 e)
    by false e (inl same) k = absurd (true≢false (sym ((name_eq_decides n m).1 (sym same)) ∙ e))
    by false e (inr there) k = k there

apart : (columns : List Name) (n : Name) (ns : List Name) → Contains columns n → ((m : Name) → Contains ns m → Contains columns m) → (Contains ns n → ⊥)
    → AllByRecursion (λ y. nat_eq (place_of columns n) y ≡ false) (map (place_of columns) ns)
apart columns n [] here all never = tt
apart columns n (m ∷ ns) here all never =
    let differ : place_of columns n ≡ place_of columns m → ⊥ = λ same.
    let one : m ≡ n = sym (at_place columns m (all m (Contains-here m ns))) ∙ ap (λ p. get_or columns p []) (sym same) ∙ at_place columns n here in
    never (Contains-is m n (m ∷ ns) one (Contains-here m ns)) in (
      is_false (nat_eq (place_of columns n) (place_of columns m)) (Decides-eqb (place_of columns n) (place_of columns m)) differ,
      apart columns n ns here (λ k h. all k (Contains-there m k ns h)) (λ h. never (Contains-there m n ns h)),
    )

none_distinct : IsDistinct nat_eq []
unfolding IsDistinct
none_distinct = tt

distinct_places : (columns key : List Name) → are_distinct key ≡ true → ((m : Name) → Contains key m → Contains columns m) → IsDistinct nat_eq (map (place_of columns) key)
distinct_places columns [] e all = none_distinct
distinct_places columns (n ∷ ns) e all =
    IsDistinct-cons nat_eq (place_of columns n) (map (place_of columns) ns)
    (apart columns n ns (all n (Contains-here n ns)) (λ m h. all m (Contains-there n m ns h)) (is_not (is_in ns n) (is_in_decides ns n) (left_and _ (are_distinct ns) e)))
    (distinct_places columns ns (right_and _ (are_distinct ns) e) (λ m h. all m (Contains-there n m ns h)))

-- ---- sets of columns

all_of : {X : Type 0} (P : X → Type 0) (xs : List X) → ((x : X) → Contains xs x → P x) → All P xs
all_of P xs h k d l = h (get_or xs k d) (All-contains_itself xs k d l)

single_set : (w i : ℕ) → i < w → IsColumnSet w (i ∷ [])
single_set w i below = record {
  nonempty = omega arith;
  distinct = IsDistinct-cons nat_eq i [] tt none_distinct;
  below = All-from_recursion (λ place. place < w) (i ∷ []) (below, tt);
}

key_set : (columns key : List Name) → is_wide_key columns key ≡ true → IsColumnSet (length columns) (map (place_of columns) key)
key_set columns key h =
    let wide : nat_lt 1 (length key) ≡ true = left_and (nat_lt 1 (length key)) _ h in
    let rest = right_and (nat_lt 1 (length key)) (are_distinct key && all_in columns key) h in
    let differ = left_and (are_distinct key) (all_in columns key) rest in
    let lie = all_in_from columns key (right_and (are_distinct key) (all_in columns key) rest) in
    let long = length-map key (place_of columns) in
    record {
      nonempty = grind (arith, nat_tests);
      distinct = distinct_places columns key differ lie;
      below = all_of (λ place. place < length columns) (map (place_of columns) key) (λ p h.
          let from = map_from (place_of columns) key p h in
          subst (λ place. place < length columns) from.2 (place_below columns from.0 (lie from.0 from.1)));
    }

pub column_sets : (spec : Spec) (columns : List Name) → All (IsColumnSet (length columns)) (index_sets spec columns)
column_sets spec columns =
    let w = length columns in
    All-append (IsColumnSet w) (single_sets w) (key_sets columns spec.relations)
    (all_of (IsColumnSet w) (single_sets w) (λ set h.
    let from = map_from (λ (i : ℕ). i ∷ []) (range_with_len 0 w) set h in
    subst (IsColumnSet w) from.2 (single_set w from.0 (range_below w from.0 from.1))))
    (all_of (IsColumnSet w) (key_sets columns spec.relations) (λ set h.
    let wide = λ (r : Relation). is_wide_key columns r.key in
    let from = map_from (λ (r : Relation). map (place_of columns) r.key) (filter wide spec.relations) set h in
    subst (IsColumnSet w) from.2 (key_set columns from.0.key (filter_from wide spec.relations from.0 from.1).1)))

-- ---- keys that can be looked up

indexed_there : (indexes : List (List ℕ)) (set : List ℕ) → Contains indexes set → IsIndexed indexes set
indexed_there indexes set h = (h.0, set, h.1, h.2, IsPermutation-refl set)

key_contained : (spec : Spec) (columns : List Name) (r : Relation) (key : List Name) → r.key ≡ key → Contains spec.relations r → 0 < length key → are_distinct key ≡ true → all_in columns key ≡ true
    → Contains (index_sets spec columns) (map (place_of columns) key)
key_contained spec columns r [] e h some differ lie = absurd (omega (arith, some))
key_contained spec columns r (n ∷ []) e h some differ lie =
    let there = all_in_from columns (n ∷ []) lie n (Contains-here n []) in
    Contains-append_left (single_sets (length columns)) (key_sets columns spec.relations) (place_of columns n ∷ [])
    (map_in (λ (i : ℕ). i ∷ []) (range_with_len 0 (length columns)) (place_of columns n) (in_range (length columns) (place_of columns n) (place_below columns n there)))
key_contained spec columns r (n ∷ m ∷ ns) e h some differ lie =
    let wide = λ (q : Relation). is_wide_key columns q.key in
    let set = λ (q : Relation). map (place_of columns) q.key in
    let long : nat_lt 1 (length (n ∷ m ∷ ns)) ≡ true = grind (arith, nat_tests) in
    let here : is_wide_key columns (n ∷ m ∷ ns) ≡ true = both (nat_lt 1 (length (n ∷ m ∷ ns))) (are_distinct (n ∷ m ∷ ns) && all_in columns (n ∷ m ∷ ns)) long (both (are_distinct (n ∷ m ∷ ns)) (all_in columns (n ∷ m ∷ ns)) differ lie) in
    let sets = map_in set (filter wide spec.relations) r (filter_in wide spec.relations r h (ap (is_wide_key columns) e ∙ here)) in
    Contains-append_right (single_sets (length columns)) (key_sets columns spec.relations) (map (place_of columns) (n ∷ m ∷ ns))
    (Contains-is (set r) (map (place_of columns) (n ∷ m ∷ ns)) (key_sets columns spec.relations) (ap (map (place_of columns)) e) sets)

pub key_indexed : (spec : Spec) (columns : List Name) (r : Relation) → Contains spec.relations r → 0 < length r.key → are_distinct r.key ≡ true → all_in columns r.key ≡ true
    → IsIndexed (index_sets spec columns) (map (place_of columns) r.key)
key_indexed spec columns r h some differ lie =
    indexed_there (index_sets spec columns) (map (place_of columns) r.key) (key_contained spec columns r r.key refl h some differ lie)
