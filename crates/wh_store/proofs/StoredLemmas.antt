-- The stored tables of a specification, by number.
use Rattle.std.proofs.Common.{◌≡◌, ℕ, zero, suc, ◌+◌, ◌<◌, ◌≤◌, Bool, true, false, ◌&&◌, List, [], ◌∷◌, ◌++◌, length, map, get_or, drop, ◌==◌, refl, sym, ap, subst, ◌∙◌, arith, append_assoc, true≢false, zero-add, None, unwrap_or}
use Rattle.std.specs.Prelude.{All, slice_get}
use Rattle.std.specs.List.{list_all, range_with_len, AllByRecursion}
use Rattle.std.proofs.lemmas.List.{length-append, length-map, drop_at}
use Rattle.std.proofs.lemmas.List.Elements.{All-nil}
use Rattle.std.proofs.lemmas.List.Folds.{list_all_at}
use Rattle.std.proofs.lemmas.List.FromFn.{get_or-range_with_len, length-range_with_len}
use Rattle.std.proofs.lemmas.Option.{unwrap_or-slice_get}
use Rattle.wh_base.specs.declared.head.Head.{Head}
use Rattle.wh_base.specs.declared.value.Value.{Value}
use Rattle.wh_base.specs.Columns.{names_of}
use Rattle.wh_base.specs.Heads.{attrs_at}
use Rattle.wh_plan.specs.Indexes.{index_sets, indexes}
use Rattle.wh_plan.proofs.IndexLemmas.{column_sets}
use Rattle.wh_schema.specs.declared.spec.Relation.{Relation}
use Rattle.wh_schema.specs.declared.spec.Spec.{Spec}
use Rattle.wh_schema.specs.declared.spec.View.{View}
use Rattle.wh_schema.specs.Heads.{heads_of, relation_head, view_head, complement_head}
use Rattle.wh_schema.specs.Warehouse.{numbers}
use Rattle.wh_store.specs.Image.{stored_count, stored_attrs, fit_attrs, fit_stored}
use Rattle.wh_store.specs.Opening.{stored_heads, fit_heads}
use Rattle.wh_table.specs.Table.{IsColumnSet}

pub get_or_none : {X : Type 0} (xs : List X) (i : ℕ) (d : X) → slice_get xs i ≡ None → get_or xs i d ≡ d
get_or_none xs i d is = sym (unwrap_or-slice_get xs i d) ∙ ap (λ o. unwrap_or o d) is

-- ---- tests

pub and_true : (a b : Bool) → (a && b) ≡ true → (a ≡ true) × (b ≡ true)
and_true true b e = (refl, e)
and_true false b e = absurd cc

pub and_both : (a b : Bool) → a ≡ true → b ≡ true → (a && b) ≡ true
and_both a b p q = λ i. p i && q i

pub and_fails : (a b : Bool) → b ≡ false → (a && b) ≡ false
and_fails true b e = e
and_fails false b e = refl

-- ---- tests of all numbers below a bound

all_range : (p : ℕ → Bool) (a n : ℕ) → ((k : ℕ) → a ≤ k → k < a + n → p k ≡ true) → list_all p (range_with_len a n) ≡ true
all_range p a zero h = refl
all_range p a (suc n) h =
    let first : p a ≡ true = h a (omega arith) (omega arith) in
    and_both (p a) (list_all p (range_with_len (a + 1) n)) first (all_range p (a + 1) n (λ k low high. h k (omega arith) (omega arith)))

pub all_below : (p : ℕ → Bool) (n : ℕ) → ((k : ℕ) → k < n → p k ≡ true) → list_all p (numbers n) ≡ true
all_below p n h = all_range p 0 n (λ k low high. h k (omega arith))

pub one_fails : (p : ℕ → Bool) (n k : ℕ) → k < n → p k ≡ false → list_all p (numbers n) ≡ false
one_fails p n k below e =
    list_all_at p (numbers n) k 0 (omega (arith, length-range_with_len 0 n)) (ap p (get_or-range_with_len 0 n k 0 below ∙ zero-add k) ∙ e)

pub all_at : (p : ℕ → Bool) (n k : ℕ) → list_all p (numbers n) ≡ true → k < n → p k ≡ true
all_at p n k all below = by (p k) refl
  where
    by : (b : Bool) → p k ≡ b → p k ≡ true
    by true e = e
    by false e = absurd (true≢false (sym all ∙ one_fails p n k below e))

-- ---- a fact of each item

pub all_from : {X : Type 0} (P : X → Type 0) (xs : List X) (d : X) → ((k : ℕ) → k < length xs → P (get_or xs k d)) → AllByRecursion P xs
all_from P [] d h = tt
all_from P (x ∷ xs) d h = (h 0 (omega arith), all_from P xs d (λ k below. h (suc k) (omega arith)))

pub item_of : {X : Type 0} (P : X → Type 0) (xs : List X) (d : X) (k : ℕ) → AllByRecursion P xs → k < length xs → P (get_or xs k d)
item_of P [] d k all below = absurd (omega arith)
item_of P (x ∷ xs) d zero all below = all.0
item_of P (x ∷ xs) d (suc k) all below = item_of P xs d k all.1 (omega arith)

pub all_mapped : {X Y : Type 0} (P : Y → Type 0) (f : X → Y) (xs : List X) → ((x : X) → P (f x)) → AllByRecursion P (map f xs)
all_mapped P f [] h = tt
all_mapped P f (x ∷ xs) h = (h x, all_mapped P f xs h)

-- ---- heads

pub heads_split : (spec : Spec) → drop (length spec.relations) (heads_of spec) ≡ stored_heads spec
heads_split spec =
    let front = map relation_head spec.relations in
    let views = map (view_head spec) spec.views in
    let rests = map complement_head spec.relations in
    ap (drop (length spec.relations)) (append_assoc front views rests) ∙ drop_at front (views ++ rests) (length spec.relations) (length-map spec.relations relation_head)

pub heads_enough : (spec : Spec) → length spec.relations ≤ length (heads_of spec)
heads_enough spec =
    let front = map relation_head spec.relations in
    let views = map (view_head spec) spec.views in
    let rests = map complement_head spec.relations in
    omega (arith, length-append (front ++ views) rests, length-append front views, length-map spec.relations relation_head)

pub stored_heads_count : (spec : Spec) → length (stored_heads spec) ≡ stored_count spec
stored_heads_count spec =
    let views = map (view_head spec) spec.views in
    let rests = map complement_head spec.relations in
    omega (arith, length-append views rests, length-map spec.views (view_head spec), length-map spec.relations complement_head)

attrs_drop : (n : ℕ) (heads : List Head) (k : ℕ) → attrs_at (drop n heads) k ≡ attrs_at heads (n + k)
attrs_drop zero heads k = ap (attrs_at heads) (sym (zero-add k))
attrs_drop (suc n) [] k = refl
attrs_drop (suc n) (head ∷ heads) k =
    let e : suc (n + k) ≡ suc n + k = omega arith in
    attrs_drop n heads k ∙ ap (attrs_at (head ∷ heads)) e

pub attrs_stored : (spec : Spec) (k : ℕ) → attrs_at (stored_heads spec) k ≡ stored_attrs spec k
attrs_stored spec k = ap (λ (hs : List Head). attrs_at hs k) (sym (heads_split spec)) ∙ attrs_drop (length spec.relations) (heads_of spec) k

pub fit_heads_is : (spec : Spec) (tables : List (List (List Value))) → fit_heads (stored_heads spec) tables ≡ fit_stored spec tables
fit_heads_is spec tables =
    let count = stored_heads_count spec in
    λ i. (length tables == count i) && list_all (λ k. fit_attrs (attrs_stored spec k i) (get_or tables k [])) (numbers (count i))

-- ---- indexed sets

sets_fit_in : (spec : Spec) (views : List View) (relations : List Relation) (k : ℕ)
    → All (IsColumnSet (length (attrs_at (map (view_head spec) views ++ map complement_head relations) k)))
    (get_or (map (λ v. index_sets spec v.head) views ++ map (λ r. index_sets spec (names_of r.attrs)) relations) k [])
sets_fit_in spec [] [] k = All-nil (IsColumnSet 0)
sets_fit_in spec [] (r ∷ rs) zero =
    subst (λ n. All (IsColumnSet n) (index_sets spec (names_of r.attrs))) (length-map r.attrs (λ a. a.name)) (column_sets spec (names_of r.attrs))
sets_fit_in spec [] (r ∷ rs) (suc k) = sets_fit_in spec [] rs k
sets_fit_in spec (v ∷ vs) rs zero =
    subst (λ n. All (IsColumnSet n) (index_sets spec v.head)) (sym (length-map v.head _)) (column_sets spec v.head)
sets_fit_in spec (v ∷ vs) rs (suc k) = sets_fit_in spec vs rs k

pub sets_fit : (spec : Spec) (k : ℕ) → All (IsColumnSet (length (attrs_at (stored_heads spec) k))) (get_or (indexes spec) k [])
sets_fit spec k = sets_fit_in spec spec.views spec.relations k
