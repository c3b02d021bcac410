-- Tables with the same rows give back the same rows, and the stored tables of a state give back that state.
use Rattle.std.proofs.Common.{◌≡◌, ℕ, ◌+◌, ◌-◌, ◌<◌, ◌≤◌, Bool, true, false, if◌then◌else◌, nat_lt, List, [], ◌∷◌, length, get_or, set, fold, replicate, refl, sym, ◌∙◌, subst, inl, inr, arith}
use Rattle.std.proofs.lemmas.Bool.{cases_eq, cases_lt}
use Rattle.std.proofs.lemmas.Bool.Decides.{nat_tests}
use Rattle.std.proofs.lemmas.List.{get_or-set_same, get_or-set_other, get_or_past, length-set, length-replicate}
use Rattle.wh_base.specs.RowSet.{SameRows}
use Rattle.wh_base.proofs.InOrder.{SameRows-in_order}
use Rattle.wh_base.proofs.RowSets.{SameRows-append}
use Rattle.wh_laws.proofs.Reconstruction.{covered_same, reconstruction_gives, same_rows_is, same_rows_trans}
use Rattle.wh_laws.proofs.Stored.{stored_view}
use Rattle.wh_laws.specs.Laws.{LegalState}
use Rattle.wh_schema.specs.declared.spec.Spec.{Spec}
use Rattle.wh_schema.specs.Reconstruction.{SameTables, given, order, reconstructed, reconstructed_rows, reconstruct_next}
use Rattle.wh_schema.specs.Warehouse.{Row, State, stored, view_table}
use Rattle.wh_answer.specs.Answer.{SameStored, is_source, source_rows, state_rows}

-- ---- reconstruction goes by sets

-- states that are given back alike so far
record Alike (n : ℕ) (a b : State) : Type 0 where
  pub left_long : length a ≡ n
  pub right_long : length b ≡ n
  pub same : SameTables a b

set_alike : (n : ℕ) (a b : State) (r : ℕ) (x y : List Row) → (r < n → SameRows x y) → Alike n a b → Alike n (set a r x) (set b r y)
set_alike n a b r x y h k = record {
  left_long = length-set a r x ∙ k.left_long;
  right_long = length-set b r y ∙ k.right_long;
  same = λ i. elim (cases_eq i r) [
    | inl e ↦
        let P : ℕ → Type 0 = λ j. SameRows (get_or (set a r x) j []) (get_or (set b r y) j []) in
        subst P (sym e) (elim (cases_lt r n) [
          | inl l ↦
              same_rows_trans _ _ _ (same_rows_is _ _ (get_or-set_same a r x [] (omega (arith, l, k.left_long))))
              (same_rows_trans _ _ _ (h l) (same_rows_is _ _ (sym (get_or-set_same b r y [] (omega (arith, l, k.right_long))))))
          | inr l ↦
              let past_left : length (set a r x) ≤ r = omega (arith, l, length-set a r x, k.left_long) in
              let past_right : length (set b r y) ≤ r = omega (arith, l, length-set b r y, k.right_long) in
              same_rows_is _ _ (get_or_past (set a r x) r [] past_left ∙ sym (get_or_past (set b r y) r [] past_right))
        ])
    | inr d ↦ same_rows_trans _ _ _ (same_rows_is _ _ (get_or-set_other a r i x [] d)) (same_rows_trans _ _ _ (k.same i) (same_rows_is _ _ (sym (get_or-set_other b r i y [] d))))
  ];
}

module _ (spec : Spec) (ts us : List (List Row)) (h : SameStored spec ts us) where
  next_alike : (a b : State) (r : ℕ) → Alike (length spec.relations) a b → Alike (length spec.relations) (reconstruct_next spec ts a r) (reconstruct_next spec us b r)
  next_alike a b r k =
      set_alike (length spec.relations) a b r (reconstructed_rows spec ts a r) (reconstructed_rows spec us b r)
      (λ l. SameRows-append _ _ _ _ (h (length spec.views + r) (omega (arith, l))) (covered_same spec r (given spec ts a) (given spec us b) (record {
        views = λ j m. record { columns = refl; rows = h j (omega (arith, m)) };
        sources = λ c m e. record { columns = refl; rows = k.same c.from };
      })))
      k

  folded_alike : (rs : List ℕ) (a b : State) → Alike (length spec.relations) a b → Alike (length spec.relations) (fold (reconstruct_next spec ts) a rs) (fold (reconstruct_next spec us) b rs)
  folded_alike [] a b k = k
  folded_alike (r ∷ rs) a b k = folded_alike rs (reconstruct_next spec ts a r) (reconstruct_next spec us b r) (next_alike a b r k)

  pub reconstructed_same : SameTables (reconstructed spec ts) (reconstructed spec us)
  reconstructed_same =
      let none = replicate (length spec.relations) [] in
      let long = length-replicate (length spec.relations) [] in
      (folded_alike (order spec) none none (record { left_long = long; right_long = long; same = λ n r. refl })).same

  at_number : (n : ℕ) (b : Bool) → nat_lt n (length spec.relations) ≡ b → nat_lt n (length spec.relations + length spec.views) ≡ true
      → SameRows (if b then get_or (reconstructed spec ts) n [] else get_or ts (n - length spec.relations) []) (if b then get_or (reconstructed spec us) n [] else get_or us (n - length spec.relations) [])
  at_number n true e within = reconstructed_same n
  at_number n false e within = h (n - length spec.relations) (grind (arith, nat_tests))

  pub sources_same : (n : ℕ) → is_source spec n ≡ true → SameRows (source_rows spec ts n) (source_rows spec us n)
  sources_same n within = at_number n (nat_lt n (length spec.relations)) refl within

-- ---- the sources of a legal state

module _ (spec : Spec) (s : State) (legal : LegalState spec s) where
  given_back : (n : ℕ) → n < length spec.relations → SameRows (get_or (reconstructed spec (stored spec s)) n []) (get_or s n [])
  given_back = reconstruction_gives spec s legal.rules legal.state legal.legal (stored spec s) (λ k. same_rows_is _ _ refl)

  at_source : (n : ℕ) (b : Bool) → nat_lt n (length spec.relations) ≡ b → nat_lt n (length spec.relations + length spec.views) ≡ true
      → SameRows (if b then get_or (reconstructed spec (stored spec s)) n [] else get_or (stored spec s) (n - length spec.relations) []) (if b then get_or s n [] else (view_table spec s (n - length spec.relations)).rows)
  at_source n true e within = given_back n (grind (arith, nat_tests))
  at_source n false e within =
      let below : n - length spec.relations < length spec.views = grind (arith, nat_tests) in
      same_rows_trans _ _ _ (same_rows_is _ _ (stored_view spec s (n - length spec.relations) below)) (SameRows-in_order (view_table spec s (n - length spec.relations)).rows)

  pub sources_of_state : (n : ℕ) → is_source spec n ≡ true → SameRows (source_rows spec (stored spec s) n) (state_rows spec s n)
  sources_of_state n within = at_source n (nat_lt n (length spec.relations)) refl within
