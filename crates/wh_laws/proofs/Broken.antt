-- The broken constraint is the first in number, with its least value.
use Rattle.std.proofs.Common.{◌≡◌, ◌⊎◌, ℕ, zero, suc, ◌<◌, ◌+◌, ◌-◌, true, List, [], ◌∷◌, ◌++◌, map, length, get_or, Option, Some, None, Contains, refl, sym, ◌∙◌, ap, subst, inl, inr, arith, zero-lt-suc, suc-le-suc, le_of_suc-le-suc, Less}
use Rattle.std.proofs.lemmas.Bool.{cases_lt}
use Rattle.std.proofs.lemmas.List.{get_or_append_left, get_or-append-add, get_or-map, length-append, length-map}
use Rattle.std.specs.List.Sorted.{IsStrictlySortedBy}
use Rattle.std.proofs.lemmas.List.Elements.{Contains-get_or, All-contains, All-from_recursion}
use Rattle.std.proofs.lemmas.Map.Keys.{sorted_head}
use Rattle.wh_base.specs.RowSet.{has, in_order, IsAscending}
use Rattle.wh_base.specs.Value.{row_cmp}
use Rattle.wh_base.proofs.InOrder.{Contains-in_order, Contains-from_in_order, IsAscending-in_order}
use Rattle.wh_schema.specs.declared.broken.Broken.{Broken}
use Rattle.wh_schema.specs.declared.spec.Spec.{Spec}
use Rattle.wh_schema.specs.Constraints.{Legal, repeated_keys, missing_values, breaks, least_or, first_break, broken}
use Rattle.wh_schema.specs.Warehouse.{Row, State, numbers, no_inclusion, inclusion_at}
use Rattle.wh_laws.specs.Laws.{IsFirstBreak, KeyIsCarried, InclusionIsCarried}
use Rattle.wh_laws.proofs.Lists.{Contains-here, Contains-cases}
use Rattle.wh_laws.proofs.Equality.{has_decides}
use Rattle.wh_laws.proofs.Changes.{empty_in_order, key_carried, inclusion_carried}
use Rattle.wh_laws.proofs.Stored.{length_numbers_map, numbers_map_at}

the : Option Broken → Broken
the None = record { constraint = 0; value = [] }
the (Some b) = b

-- the first of rows in order
first_row : (rows : List Row) (x : Row) (xs : List Row) → in_order rows ≡ x ∷ xs → (has rows x ≡ true) × ((u : Row) → has rows u ≡ true → (x ≡ u) ⊎ (row_cmp x u ≡ Less))
first_row rows x xs e =
    let P : List Row → Type 0 = λ z. Contains z x in
    let up : IsStrictlySortedBy row_cmp (x ∷ xs) = (let Q : List Row → Type 0 = IsAscending in subst Q e (IsAscending-in_order rows)) in (
      (has_decides rows x).1 (Contains-from_in_order rows x (subst P (sym e) (Contains-here x xs))),
      λ u h.
          let R : List Row → Type 0 = λ z. Contains z u in
          elim (Contains-cases x u xs (subst R e (Contains-in_order rows u ((has_decides rows u).0 h)))) [
            | inl q ↦ inl q
            | inr k ↦ inr (All-contains (λ y. row_cmp x y ≡ Less) xs u (All-from_recursion (λ y. row_cmp x y ≡ Less) xs (sorted_head row_cmp x xs up)) k)
          ],
    )

below_first : (rows : List Row) (more : List (List Row)) (place : ℕ) → rows ≡ [] → ((q : ℕ) → q < place → get_or more q [] ≡ []) → (q : ℕ) → q < suc place → get_or (rows ∷ more) q [] ≡ []
below_first rows more place e h zero l = e
below_first rows more place e h (suc q) l = h q (le_of_suc-le-suc l)

later : (n : ℕ) (rows : List Row) (more : List (List Row)) (b : Broken) → rows ≡ [] → IsFirstBreak (n + 1) more b → IsFirstBreak n (rows ∷ more) b
later n rows more b e f = record {
  place = suc f.place;
  within = suc-le-suc f.within;
  number = omega (arith, f.number);
  before = below_first rows more f.place e f.before;
  value = f.value;
  least = f.least;
}

at_order : (n : ℕ) (rows : List Row) (more : List (List Row)) (b : Broken) → (first_break (n + 1) more ≡ Some b → IsFirstBreak (n + 1) more b)
    → (o : List Row) → in_order rows ≡ o → least_or n o (first_break (n + 1) more) ≡ Some b → IsFirstBreak n (rows ∷ more) b
unfolding the
at_order n rows more b ih [] e f = later n rows more b (empty_in_order rows e) (ih f)
at_order n rows more b ih (x ∷ xs) e f =
    let a = first_row rows x xs e in
    let same : record { constraint = n; value = x } ≡ b = ap the f in
    let number : n ≡ b.constraint = ap (λ (c : Broken). c.constraint) same in
    let value : x ≡ b.value = ap (λ (c : Broken). c.value) same in
    let P : Row → Type 0 = λ z. has rows z ≡ true in
    let Q : Row → Type 0 = λ z. (u : Row) → has rows u ≡ true → (z ≡ u) ⊎ (row_cmp z u ≡ Less) in
    record {
      place = 0;
      within = zero-lt-suc (length more);
      number = omega (arith, number);
      before = λ q l. absurd (omega arith);
      value = subst P value a.0;
      least = subst Q value a.1;
    }

first_break_is : (n : ℕ) (lists : List (List Row)) (b : Broken) → first_break n lists ≡ Some b → IsFirstBreak n lists b
first_break_is n [] b f = cc f
first_break_is n (rows ∷ more) b f = at_order n rows more b (first_break_is (n + 1) more b) (in_order rows) refl f

pub broken_first : (spec : Spec) (s : State) (b : Broken) → broken spec s ≡ Some b → IsFirstBreak 1 (breaks spec s) b
broken_first spec s b e = first_break_is 1 (breaks spec s) b e

-- ---- carried by a row that changed

module _ (spec : Spec) (t : State) where
  key_breaks : List (List Row)
  key_breaks = map (repeated_keys spec t) (numbers (length spec.relations))

  inclusion_breaks : List (List Row)
  inclusion_breaks = map (missing_values spec t) spec.inclusions

  key_breaks_length : length key_breaks ≡ length spec.relations
  unfolding key_breaks
  key_breaks_length = length_numbers_map (repeated_keys spec t) (length spec.relations)

  breaks_length : length (breaks spec t) ≡ length spec.relations + length spec.inclusions
  unfolding key_breaks inclusion_breaks
  breaks_length =
      length-append key_breaks inclusion_breaks
      ∙ ap (λ n. n + length inclusion_breaks) key_breaks_length ∙ ap (λ n. length spec.relations + n) (length-map spec.inclusions (missing_values spec t))

  breaks_at_key : (i : ℕ) → i < length spec.relations → get_or (breaks spec t) i [] ≡ repeated_keys spec t i
  unfolding key_breaks inclusion_breaks
  breaks_at_key i l =
      let m : i < length key_breaks = omega (arith, key_breaks_length) in
      get_or_append_left key_breaks inclusion_breaks [] i m ∙ numbers_map_at (repeated_keys spec t) (length spec.relations) i [] l

  breaks_at_inclusion : (k : ℕ) → k < length spec.inclusions → get_or (breaks spec t) (length spec.relations + k) [] ≡ missing_values spec t (inclusion_at spec k)
  unfolding key_breaks inclusion_breaks
  breaks_at_inclusion k l =
      ap (λ n. get_or (key_breaks ++ inclusion_breaks) (n + k) []) (sym key_breaks_length) ∙ get_or-append-add key_breaks inclusion_breaks k []
      ∙ get_or-map (missing_values spec t) spec.inclusions k no_inclusion [] l

  pub broken_carried : (s : State) → Legal spec s → (b : Broken) → broken spec t ≡ Some b → KeyIsCarried spec s t b ⊎ InclusionIsCarried spec s t b
  broken_carried s legal b e =
      let f = broken_first spec t b e in
      let P : List Row → Type 0 = λ rows. has rows b.value ≡ true in
      elim (cases_lt f.place (length spec.relations)) [
        | inl l ↦ inl (record {
          relation = f.place;
          within = l;
          number = f.number;
          carried = key_carried spec s t legal f.place l b.value (subst P (breaks_at_key f.place l) f.value);
        })
        | inr l ↦
            let k = f.place - length spec.relations in
            let at : length spec.relations + k ≡ f.place = omega arith in
            let m : k < length spec.inclusions = omega (arith, breaks_length, f.within) in
            let here : get_or (breaks spec t) f.place [] ≡ missing_values spec t (inclusion_at spec k) = ap (λ n. get_or (breaks spec t) n []) (sym at) ∙ breaks_at_inclusion k m in
            inr (record {
              inclusion = k;
              within = m;
              number = omega (arith, f.number);
              carried = inclusion_carried spec s t legal (inclusion_at spec k) (Contains-get_or spec.inclusions k _ m) b.value (subst P here f.value);
            })
      ]
