use Rattle.std.specs.Prelude.{◌≡◌, List, [], ◌∷◌, true, refl, Decides}
use Rattle.std.specs.declared.cmp.Ordering.{Ordering}
use Rattle.std.specs.declared.cmp.Ordering.TheVariants.{Less, Equal, Greater}
use Rattle.std.proofs.Common.{ap, sym, subst, ◌∙◌}
use Rattle.std.specs.Ordering.{eq_by_cmp, ordering_reverse, ordering_then}
use Rattle.std.specs.Cmp.{IsTotalOrder, IsEquivalence, Equal-is, eq_by_cmp_equiv}
use Rattle.std.specs.Cmp.Lexicographic.{slice_cmp, lists_total, lists_equiv, lists_ties}
use Rattle.std.proofs.lemmas.Cmp.{int_cmp_total, nat_list_cmp_total}
use Rattle.std.proofs.lemmas.Map.Lookups.{CmpEqualImpliesEq, exact_signed, exact_bytes}
use Rattle.wh_base.specs.declared.value.Value.{Value}
use Rattle.wh_base.specs.declared.value.Value.TheVariants.{Int, Text}
use Rattle.wh_base.specs.Value.{value_cmp, value_eq, value_hash_input, row_cmp, row_eq}

value_antisymm : (x y : Value) → value_cmp x y ≡ ordering_reverse (value_cmp y x)
value_antisymm (Int x) (Int y) = int_cmp_total.antisymm x y
value_antisymm (Int x) (Text y) = refl
value_antisymm (Text x) (Int y) = refl
value_antisymm (Text x) (Text y) = nat_list_cmp_total.antisymm x y

value_trans : (x y z : Value) → value_cmp x y ≡ Less → value_cmp y z ≡ Less → value_cmp x z ≡ Less
value_trans (Int x) (Int y) (Int z) p q = int_cmp_total.trans x y z p q
value_trans (Int x) (Int y) (Text z) p q = refl
value_trans (Int x) (Text y) (Int z) p q = cc
value_trans (Int x) (Text y) (Text z) p q = refl
value_trans (Text x) (Int y) z p q = cc
value_trans (Text x) (Text y) (Int z) p q = cc
value_trans (Text x) (Text y) (Text z) p q = nat_list_cmp_total.trans x y z p q

value_congr : (x y z : Value) → value_cmp x y ≡ Equal → value_cmp x z ≡ value_cmp y z
value_congr (Int x) (Int y) (Int z) p = int_cmp_total.congr x y z p
value_congr (Int x) (Int y) (Text z) p = refl
value_congr (Int x) (Text y) z p = cc
value_congr (Text x) (Int y) z p = cc
value_congr (Text x) (Text y) (Int z) p = refl
value_congr (Text x) (Text y) (Text z) p = nat_list_cmp_total.congr x y z p

pub value_cmp_total : IsTotalOrder value_cmp
value_cmp_total = record { antisymm = value_antisymm; trans = value_trans; congr = value_congr }

-- values that the order does not tell apart are equal
pub value_cmp_exact : CmpEqualImpliesEq value_cmp
value_cmp_exact (Int x) (Int y) p = ap Int (exact_signed x y p)
value_cmp_exact (Int x) (Text y) p = cc
value_cmp_exact (Text x) (Int y) p = cc
value_cmp_exact (Text x) (Text y) p = ap Text (exact_bytes x y p)

-- so is each order of lists over an order with that property
pub lists_exact : {K : Type 0} (R : K → K → Ordering) → CmpEqualImpliesEq R → CmpEqualImpliesEq (slice_cmp R)
lists_exact R exact [] [] p = refl
lists_exact R exact [] (y ∷ ys) p = cc
lists_exact R exact (x ∷ xs) [] p = cc
lists_exact {K} R exact (x ∷ xs) (y ∷ ys) p =
    let first : (o : Ordering) → ordering_then o (slice_cmp R xs ys) ≡ Equal → (o ≡ Equal) × (slice_cmp R xs ys ≡ Equal) =
    elim [ Less ↦ λ e. cc | Equal ↦ λ e. (refl, e) | Greater ↦ λ e. cc ] in
    let both = first (R x y) p in
    λ i. exact x y both.0 i ∷ lists_exact R exact xs ys both.1 i

pub row_cmp_total : IsTotalOrder row_cmp
row_cmp_total = lists_total value_cmp_total

pub row_cmp_exact : CmpEqualImpliesEq row_cmp
row_cmp_exact = lists_exact value_cmp value_cmp_exact

-- ---- `==`

pub value_eq_equiv : IsEquivalence value_eq
value_eq_equiv = eq_by_cmp_equiv value_cmp_total

pub value_eq_exact : (x y : Value) → value_eq x y ≡ true → x ≡ y
value_eq_exact x y h = value_cmp_exact x y ((Equal-is (value_cmp x y)).0 h)

pub row_eq_equiv : IsEquivalence row_eq
row_eq_equiv = lists_equiv value_eq_equiv

pub row_ties : (x y : List Value) → row_eq x y ≡ eq_by_cmp row_cmp x y
row_ties = lists_ties value_cmp (λ x y. refl)

pub row_eq_exact : (x y : List Value) → row_eq x y ≡ true → x ≡ y
row_eq_exact x y h = row_cmp_exact x y ((Equal-is (row_cmp x y)).0 (sym (row_ties x y) ∙ h))

pub value_eq-Decides : (x y : Value) → Decides (value_eq x y) (x ≡ y)
value_eq-Decides x y = (value_eq_exact x y, λ e. subst (λ z. value_eq x z ≡ true) e (value_eq_equiv.refl x))

pub row_eq-Decides : (x y : List Value) → Decides (row_eq x y) (x ≡ y)
row_eq-Decides x y = (row_eq_exact x y, λ e. subst (λ z. row_eq x z ≡ true) e (row_eq_equiv.refl x))

-- equal values are hashed alike
pub value_alike : (x y : Value) → value_eq x y ≡ true → value_hash_input x ≡ value_hash_input y
value_alike x y h = ap value_hash_input (value_eq_exact x y h)
