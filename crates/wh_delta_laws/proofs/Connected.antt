-- Orders that go outward, and the one that takes the first relation that it can.
use Rattle.std.proofs.Common.{◌≡◌, ◌≢◌, ◌⊎◌, ◌↔◌, ℕ, ◌<◌, Bool, true, false, not, nat_eq, List, [], ◌∷◌, ◌++◌, map, filter, length, Option, Some, None, Contains, refl, sym, ◌∙◌, ap, subst, inl, inr, if◌then◌else◌, append_assoc}
use Rattle.std.specs.List.{list_all, IsDistinct}
use Rattle.std.proofs.lemmas.Bool.{true≢false, and_parts, and_from}
use Rattle.std.proofs.lemmas.List.{append-nil}
use Rattle.std.proofs.lemmas.List.Elements.{Contains-append_left, Contains-append_right, Contains-append_cases}
use Rattle.std.proofs.lemmas.Map.Keys.{IsDistinct-push}
use Rattle.std.specs.Cmp.{nat_eq_equiv}
use Rattle.wh_base.specs.Columns.{is_in, shared}
use Rattle.wh_base.specs.Tables.{join_all}
use Rattle.wh_schema.specs.declared.spec.Spec.{Spec}
use Rattle.wh_schema.specs.declared.spec.View.{View}
use Rattle.wh_schema.specs.Reconstruction.{is_taken, take_next}
use Rattle.wh_schema.specs.Warehouse.{State, columns_of, table_of}
use Rattle.wh_laws.proofs.Lists.{Contains-nil, Contains-here, Contains-cases, any_from, any_in, every_from, every_in, map_in}
use Rattle.wh_laws.proofs.Equality.{Name, is_in_decides, is_false, is_not, is_not_in, shared_in}
use Rattle.wh_laws.proofs.Joins.{column_in}
use Rattle.wh_laws.proofs.Order.{taken_decides, number_is_in, step, iterate_keeps, iterate_reaches, filter_less, filter_at_most}
use Rattle.wh_delta_laws.specs.Connected.{shares_attribute, touches, GoesOutward, IsOrderFrom, IsConnected, is_next, reached, outward_order}

-- ---- attributes that are shared

pub record Shares (spec : Spec) (i k : ℕ) : Type 0 where
  pub name : Name
  pub left : Contains (columns_of spec i) name
  pub right : Contains (columns_of spec k) name

pub shares_from : (spec : Spec) (i k : ℕ) → shares_attribute spec i k ≡ true → Shares spec i k
shares_from spec i k e =
    let a = any_from (is_in (columns_of spec i)) (columns_of spec k) e in
    record { name = a.0; left = (is_in_decides (columns_of spec i) a.0).0 a.2; right = a.1 }

shares_in : (spec : Spec) (i k : ℕ) → Shares spec i k → shares_attribute spec i k ≡ true
shares_in spec i k s = any_in (is_in (columns_of spec i)) (columns_of spec k) s.name s.right ((is_in_decides (columns_of spec i) s.name).1 s.left)

shares_back : (spec : Spec) (i k : ℕ) → shares_attribute spec i k ≡ true → shares_attribute spec k i ≡ true
shares_back spec i k e = let s = shares_from spec i k e in shares_in spec k i (record { name = s.name; left = s.right; right = s.left })

pub touches_from : (spec : Spec) (taken : List ℕ) (k : ℕ) → touches spec taken k ≡ true → (i : ℕ) × Contains taken i × (shares_attribute spec i k ≡ true)
touches_from spec taken k e = any_from (λ i. shares_attribute spec i k) taken e

touches_in : (spec : Spec) (taken : List ℕ) (i k : ℕ) → Contains taken i → shares_attribute spec i k ≡ true → touches spec taken k ≡ true
touches_in spec taken i k h e = any_in (λ j. shares_attribute spec j k) taken i h e

-- ---- lists that go outward

outward_push : (spec : Spec) (taken rest : List ℕ) (k : ℕ) → GoesOutward spec taken rest → touches spec (taken ++ rest) k ≡ true → GoesOutward spec taken (rest ++ k ∷ [])
outward_push spec taken [] k g t = let P : List ℕ → Type 0 = λ z. touches spec z k ≡ true in (subst P (append-nil taken) t, tt)
outward_push spec taken (r ∷ rs) k g t =
    let P : List ℕ → Type 0 = λ z. touches spec z k ≡ true in
    (g.0, outward_push spec (taken ++ r ∷ []) rs k g.1 (subst P (sym (append_assoc taken (r ∷ []) rs)) t))

-- the relation at a place of such a list shares an attribute with one before it
outward_at : (spec : Spec) (taken before : List ℕ) (k : ℕ) (after : List ℕ) → GoesOutward spec taken (before ++ k ∷ after) → touches spec (taken ++ before) k ≡ true
outward_at spec taken [] k after g = let P : List ℕ → Type 0 = λ z. touches spec z k ≡ true in subst P (sym (append-nil taken)) g.0
outward_at spec taken (b ∷ bs) k after g =
    let P : List ℕ → Type 0 = λ z. touches spec z k ≡ true in
    subst P (append_assoc taken (b ∷ []) bs) (outward_at spec (taken ++ b ∷ []) bs k after g.1)

pub order_shares : (spec : Spec) (v : View) (first : ℕ) (order : List ℕ) → IsOrderFrom spec v first order
    → (s : State) (before : List ℕ) (k : ℕ) (after : List ℕ) → order ≡ before ++ k ∷ after → before ≢ []
    → shared (join_all (map (table_of spec s) before)).columns (columns_of spec k) ≢ []
order_shares spec v first order o s [] k after e some = absurd (some refl)
order_shares spec v first order o s (b ∷ bs) k after e some =
    let whole : first ∷ o.rest ≡ b ∷ (bs ++ k ∷ after) = sym o.begins ∙ e in
    let head : first ≡ b = cc whole in
    let tail : o.rest ≡ bs ++ k ∷ after = cc whole in
    let P : List ℕ → Type 0 = λ z. GoesOutward spec (first ∷ []) z in
    let Q : ℕ → Type 0 = λ z. touches spec (z ∷ bs) k ≡ true in
    let t : touches spec (b ∷ bs) k ≡ true = subst Q head (outward_at spec (first ∷ []) bs k after (subst P tail o.outward)) in
    let i = touches_from spec (b ∷ bs) k t in
    let n = shares_from spec i.0 k i.2 in
    let columns = (join_all (map (table_of spec s) (b ∷ bs))).columns in
    let there : Contains columns n.name = column_in (map (table_of spec s) (b ∷ bs)) (table_of spec s i.0) n.name (map_in (table_of spec s) (b ∷ bs) i.0 i.1) n.left in
    let R : List Name → Type 0 = λ z. Contains z n.name in
    λ none. Contains-nil n.name (subst R none (shared_in columns (columns_of spec k) n.name there n.right))

-- ---- the relations that are reached

none_distinct : IsDistinct nat_eq []
unfolding IsDistinct
none_distinct = tt

module _ (spec : Spec) (relations : List ℕ) where
  -- no further relation is next
  abbrev IsClosed : List ℕ → Type 0
  IsClosed taken = (r : ℕ) → Contains relations r → is_next spec taken r ≡ false

  left_over : List ℕ → ℕ
  left_over taken = length (filter (λ r. not (is_taken taken r)) relations)

  next_new : (taken : List ℕ) (k : ℕ) → is_next spec taken k ≡ true → Contains taken k → ⊥
  next_new taken k e = is_not (is_taken taken k) (taken_decides taken k) (and_parts (not (is_taken taken k)) (touches spec taken k) e).0

  next_touches : (taken : List ℕ) (k : ℕ) → is_next spec taken k ≡ true → touches spec taken k ≡ true
  next_touches taken k e = (and_parts (not (is_taken taken k)) (touches spec taken k) e).1

  next_in : (taken : List ℕ) (k : ℕ) → (Contains taken k → ⊥) → touches spec taken k ≡ true → is_next spec taken k ≡ true
  next_in taken k n t = and_from (not (is_taken taken k)) (touches spec taken k) (is_not_in (is_taken taken k) (taken_decides taken k) n) t

  fewer_left : (taken : List ℕ) (k : ℕ) → Contains relations k → (Contains taken k → ⊥) → left_over (taken ++ k ∷ []) < left_over taken
  unfolding left_over
  fewer_left taken k h n =
      let more = taken ++ k ∷ [] in
      filter_less (λ q. not (is_taken more q)) (λ q. not (is_taken taken q))
      (λ q e. is_not_in (is_taken taken q) (taken_decides taken q) (λ m. is_not (is_taken more q) (taken_decides more q) e (Contains-append_left taken (k ∷ []) q m)))
      relations k h
      (ap not ((taken_decides more k).1 (Contains-append_right taken (k ∷ []) k (Contains-here k []))))
      (is_not_in (is_taken taken k) (taken_decides taken k) n)

  closed_kept : (taken : List ℕ) → IsClosed taken → IsClosed (take_next (is_next spec) relations taken)
  closed_kept taken h =
      elim (step (is_next spec) relations taken) [
        | inl a ↦ absurd (true≢false (sym a.passes ∙ h a.number a.is_candidate))
        | inr a ↦ subst IsClosed (sym a.is) h
      ]

  nearer : (taken : List ℕ) → IsClosed taken ⊎ (left_over (take_next (is_next spec) relations taken) < left_over taken)
  nearer taken =
      let P : List ℕ → Type 0 = λ t. left_over t < left_over taken in
      elim (step (is_next spec) relations taken) [
        | inl a ↦ inr (subst P (sym a.is) (fewer_left taken a.number a.is_candidate (next_new taken a.number a.passes)))
        | inr a ↦ inl a.fail
      ]

  reached_closed : (first : ℕ) → IsClosed (reached spec relations first)
  unfolding left_over
  reached_closed first =
      iterate_reaches IsClosed left_over (take_next (is_next spec) relations) closed_kept nearer (length relations) (first ∷ [])
      (filter_at_most (λ r. not (is_taken (first ∷ []) r)) relations)

  -- what is taken goes outward from the first
  record Outgoing (first : ℕ) (taken : List ℕ) : Type 0 where
    rest : List ℕ
    begins : taken ≡ first ∷ rest
    outward : GoesOutward spec (first ∷ []) rest
    distinct : IsDistinct nat_eq taken
    members : (i : ℕ) → Contains taken i → Contains relations i

  outgoing_push : (first : ℕ) (taken : List ℕ) (k : ℕ) → Outgoing first taken → Contains relations k → is_next spec taken k ≡ true → Outgoing first (taken ++ k ∷ [])
  outgoing_push first taken k o h e =
      let P : List ℕ → Type 0 = λ z. touches spec z k ≡ true in
      record {
        rest = o.rest ++ k ∷ [];
        begins = ap (λ z. z ++ k ∷ []) o.begins;
        outward = outward_push spec (first ∷ []) o.rest k o.outward (subst P o.begins (next_touches taken k e));
        distinct = IsDistinct-push nat_eq_equiv taken k o.distinct (is_false (is_taken taken k) (taken_decides taken k) (next_new taken k e));
        members = λ i m. elim (Contains-append_cases taken (k ∷ []) i m) [
          | inl a ↦ o.members i a
          | inr a ↦ elim (Contains-cases k i [] a) [ inl q ↦ subst (Contains relations) q h | inr z ↦ absurd (Contains-nil i z) ]
        ];
      }

  outgoing_kept : (first : ℕ) (taken : List ℕ) → Outgoing first taken → Outgoing first (take_next (is_next spec) relations taken)
  outgoing_kept first taken o =
      elim (step (is_next spec) relations taken) [
        | inl a ↦ subst (Outgoing first) (sym a.is) (outgoing_push first taken a.number o a.is_candidate a.passes)
        | inr a ↦ subst (Outgoing first) (sym a.is) o
      ]

  reached_outgoing : (first : ℕ) → Contains relations first → Outgoing first (reached spec relations first)
  reached_outgoing first h =
      iterate_keeps (Outgoing first) (take_next (is_next spec) relations) (outgoing_kept first) (length relations) (first ∷ [])
      (record {
        rest = [];
        begins = refl;
        outward = tt;
        distinct = IsDistinct-push nat_eq_equiv [] first none_distinct refl;
        members = λ i m. elim (Contains-cases first i [] m) [ inl q ↦ subst (Contains relations) q h | inr z ↦ absurd (Contains-nil i z) ];
      })

  -- ---- a list that goes outward lies in a closed set, or beside it

  module _ (taken : List ℕ) (closed : IsClosed taken) where
    abbrev AllOrNone : List ℕ → Type 0
    AllOrNone l = ((i : ℕ) → Contains l i → Contains taken i) ⊎ ((i : ℕ) → Contains l i → Contains taken i → ⊥)

    -- a relation of the view that shares an attribute with a taken one is taken
    taken_on : (i k : ℕ) → Contains taken i → Contains relations k → shares_attribute spec i k ≡ true → Contains taken k
    taken_on i k h m e =
        elim (number_is_in taken k) [
          | inl a ↦ a
          | inr n ↦ absurd (true≢false (sym (next_in taken k n (touches_in spec taken i k h e)) ∙ closed k m))
        ]

    all_or_none_push : (l : List ℕ) (k : ℕ) → ((i : ℕ) → Contains l i → Contains relations i) → Contains relations k → touches spec l k ≡ true → AllOrNone l → AllOrNone (l ++ k ∷ [])
    all_or_none_push l k below m t (inl all) =
        let a = touches_from spec l k t in
        let here = taken_on a.0 k (all a.0 a.1) m a.2 in
        inl (λ i h. elim (Contains-append_cases l (k ∷ []) i h) [
          | inl b ↦ all i b
          | inr b ↦ elim (Contains-cases k i [] b) [ inl q ↦ subst (Contains taken) q here | inr z ↦ absurd (Contains-nil i z) ]
        ])
    all_or_none_push l k below m t (inr none) =
        let a = touches_from spec l k t in
        let absent : Contains taken k → ⊥ = λ h. none a.0 a.1 (taken_on k a.0 h (below a.0 a.1) (shares_back spec a.0 k a.2)) in
        inr (λ i h. elim (Contains-append_cases l (k ∷ []) i h) [
          | inl b ↦ none i b
          | inr b ↦ elim (Contains-cases k i [] b) [ inl q ↦ λ c. absent (subst (Contains taken) (sym q) c) | inr z ↦ absurd (Contains-nil i z) ]
        ])

    all_or_none : (l rest : List ℕ) → ((i : ℕ) → Contains (l ++ rest) i → Contains relations i) → GoesOutward spec l rest → AllOrNone l → AllOrNone (l ++ rest)
    all_or_none l [] below g a = subst AllOrNone (sym (append-nil l)) a
    all_or_none l (k ∷ ks) below g a =
        let whole = append_assoc l (k ∷ []) ks in
        let P : List ℕ → Type 0 = λ z. (i : ℕ) → Contains z i → Contains relations i in
        let here = below k (Contains-append_right l (k ∷ ks) k (Contains-here k ks)) in
        let next = all_or_none_push l k (λ i h. below i (Contains-append_left l (k ∷ ks) i h)) here g.0 a in
        subst AllOrNone whole (all_or_none (l ++ k ∷ []) ks (subst P (sym whole) below) g.1 next)

-- ---- the order that is found

-- all relations of a connected view are reached
reached_all : (spec : Spec) (v : View) → IsConnected spec v → (first : ℕ) → Contains v.relations first → (i : ℕ) → Contains v.relations i → Contains (reached spec v.relations first) i
reached_all spec v connected first h i m =
    let taken = reached spec v.relations first in
    let closed = reached_closed spec v.relations first in
    let o = connected.2 in
    let order = connected.1 in
    let start = connected.0 in
    let P : List ℕ → Type 0 = λ z. (k : ℕ) → Contains z k → Contains v.relations k in
    let Q : List ℕ → Type 0 = AllOrNone spec v.relations taken closed in
    let one : Q (start ∷ []) = elim (number_is_in taken start) [
      | inl a ↦ inl (λ k c. elim (Contains-cases start k [] c) [ inl q ↦ subst (Contains taken) q a | inr z ↦ absurd (Contains-nil k z) ])
      | inr n ↦ inr (λ k c. elim (Contains-cases start k [] c) [ inl q ↦ λ b. n (subst (Contains taken) (sym q) b) | inr z ↦ absurd (Contains-nil k z) ])
    ] in
    let below : P (start ∷ o.rest) = subst P o.begins (λ k c. (o.members k).0 c) in
    let whole : Q order = subst Q (sym o.begins) (all_or_none spec v.relations taken closed (start ∷ []) o.rest below o.outward one) in
    let out = reached_outgoing spec v.relations first h in
    let first_taken : Contains taken first = let R : List ℕ → Type 0 = λ z. Contains z first in subst R (sym out.begins) (Contains-here first out.rest) in
    elim whole [
      | inl all ↦ all i ((o.members i).1 m)
      | inr none ↦ absurd (none first ((o.members first).1 h) first_taken)
    ]

-- by cases on the test of the order
found_from : (order found : List ℕ) (b : Bool) (B : Type 0) → (b ≡ true → order ≡ found → B) → (if b then Some order else None) ≡ Some found → B
found_from order found true B k e = k refl (cc e)
found_from order found false B k e = cc e

found_some : (order : List ℕ) (b : Bool) → b ≡ true → (if b then Some order else None) ≡ Some order
found_some order true e = refl
found_some order false e = absurd (true≢false (sym e))

is_found : (order : List ℕ) (b : Bool) → (if b then Some order else None) ≢ None → (if b then Some order else None) ≡ Some order
is_found order true n = refl
is_found order false n = absurd (n refl)

not_none : (o : Option (List ℕ)) (order : List ℕ) → o ≡ Some order → o ≢ None
not_none o order e n = let f : Some order ≡ None = sym e ∙ n in cc f

pub outward_is_order : (spec : Spec) (v : View) (first : ℕ) → Contains v.relations first
    → (order : List ℕ) → outward_order spec v first ≡ Some order → IsOrderFrom spec v first order
outward_is_order spec v first h order e =
    let taken = reached spec v.relations first in
    let o = reached_outgoing spec v.relations first h in
    found_from taken order (list_all (is_taken taken) v.relations) (IsOrderFrom spec v first order)
    (λ all is. subst (IsOrderFrom spec v first) is (record {
      rest = o.rest;
      begins = o.begins;
      outward = o.outward;
      distinct = o.distinct;
      members = λ i. (o.members i, λ m. (taken_decides taken i).0 (every_from (is_taken taken) v.relations all i m));
    }))
    e

pub connected_is_found : (spec : Spec) (v : View) → IsConnected spec v → (first : ℕ) → Contains v.relations first → outward_order spec v first ≡ Some (reached spec v.relations first)
connected_is_found spec v connected first h =
    let taken = reached spec v.relations first in
    found_some taken (list_all (is_taken taken) v.relations)
    (every_in (is_taken taken) v.relations (λ i m. (taken_decides taken i).1 (reached_all spec v connected first h i m)))

pub connected_has_orders : (spec : Spec) (v : View) → IsConnected spec v → (first : ℕ) → Contains v.relations first → (order : List ℕ) × IsOrderFrom spec v first order
connected_has_orders spec v connected first h =
    let order = reached spec v.relations first in
    (order, outward_is_order spec v first h order (connected_is_found spec v connected first h))

pub outward_is_exact : (spec : Spec) (v : View) (first : ℕ) → Contains v.relations first → (outward_order spec v first ≢ None) ↔ IsConnected spec v
outward_is_exact spec v first h = (
  λ n.
      let order = reached spec v.relations first in
      (first, order, outward_is_order spec v first h order (is_found order (list_all (is_taken order) v.relations) n)),
  λ connected. not_none (outward_order spec v first) (reached spec v.relations first) (connected_is_found spec v connected first h),
)
