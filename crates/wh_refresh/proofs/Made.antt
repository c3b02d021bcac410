-- What making a change leaves of a warehouse, of its place and of the two files.
use Rattle.std.proofs.Common.{◌≡◌, ℕ, ◌+◌, ◌-◌, ◌<◌, ◌≤◌, ◌^◌, ◌==◌, true, List, [], ◌++◌, length, get_or, Option, None, Some, Result, Ok, Err, inl, inr, refl, sym, ap, subst, ◌∙◌, nat_eq, arith}
use Rattle.std.proofs.lemmas.Bool.{eqb-true}
use Rattle.std.specs.Prelude.{IfSome}
use Rattle.std.specs.List.{AllByRecursion, list_all}
use Rattle.wh_base.specs.declared.value.Delta.{Delta}
use Rattle.wh_base.specs.RowSet.{IsAscending, SameRows}
use Rattle.wh_base.specs.Tables.{without}
use Rattle.wh_codec.specs.Body.{IsSpelledDelta, IsSpelledValue}
use Rattle.wh_io.specs.Crash.{IsSettled, LeavesOnly}
use Rattle.wh_schema.specs.Changes.{Line}
use Rattle.wh_schema.specs.declared.spec.Spec.{Spec}
use Rattle.wh_schema.specs.Warehouse.{Row, numbers}
use Rattle.wh_store.specs.declared.warehouse.NetChange.{NetChange}
use Rattle.wh_store.specs.declared.warehouse.Place.{Place}
use Rattle.wh_store.specs.declared.warehouse.Warehouse.{Warehouse}
use Rattle.wh_store.specs.declared.warehouse.Which.{Which}
use Rattle.wh_store.specs.declared.warehouse.Which.TheVariants.{First, Second}
use Rattle.wh_store.specs.Commit.{AreChanged, AreKept, IsHeldBeforeOrAfter, Matches, MayFollow, ReadyChange, active_of, change_body, held_with}
use Rattle.wh_store.specs.Image.{Active, Image, are_stored_deltas, fit_stored, fits_stored, holding, no_delta, row_limit, stored_count}
use Rattle.wh_store.specs.Warehouse.{HoldsValues, IsWarehouseOf, table_at}
use Rattle.wh_store.proofs.StoredLemmas.{and_true}
use Rattle.wh_refresh.specs.declared.fault.RefreshFault.{RefreshFault}
use Rattle.wh_refresh.specs.declared.fault.RefreshFault.TheVariants as fault
use Rattle.wh_refresh.specs.Net.{IsFull, IsNet, IsReady, IsRefused, own_image}
use Rattle.wh_refresh.specs.Refresh.{IsRefreshed, refreshed, stored_changes}
use Rattle.wh_refresh.proofs.Given.{held_ascends, held_fits}
use Rattle.wh_refresh.proofs.Nets.{changes_same, full_is, made_is, refused_is, sources_same}
use Rattle.wh_refresh.proofs.OwnImage.{own_tables}

abbrev accepted_as : List Delta → Result (List Delta) RefreshFault
accepted_as deltas = Ok deltas

-- ---- the answer

module _ (w : Warehouse) (p : Place) (a b : List ℕ) (active : Active) (m : Matches active a b w p) (lines : List Line) where
  tables_are : (own_image w).tables ≡ active.image.tables
  tables_are =
      let spec = active.image.spec in
      let tables = active.image.tables in
      own_tables active.image w m.warehouse
      (eqb-true (length tables) (stored_count spec) (and_true (nat_eq (length tables) (stored_count spec)) (list_all (λ k. fits_stored spec k (get_or tables k [])) (numbers (stored_count spec))) (held_fits a b active m.holds)).0)
      (held_ascends a b active m.holds)

  pub refused_answer : (f : RefreshFault) → IsRefused (own_image w) lines f → IsRefreshed active.image lines (Err f)
  refused_answer f h = refused_is w active.image m.warehouse.spec tables_are lines f h

  module _ (net : NetChange) (is : IsNet (own_image w) lines net) where
    pub full_answer : (f : RefreshFault) → IsFull w p net.stored f → IsRefreshed active.image lines (Err f)
    full_answer f h = full_is w active.image m.warehouse.spec tables_are lines net is m.warehouse.seq p m.place.end f h

    pub changes_are : net.stored ≡ stored_changes active.image lines
    changes_are = is.stored_is ∙ changes_same w active.image m.warehouse.spec tables_are lines

    pub made_answer : w.seq < 2 ^ 64 - 1 → p.journal.end + 10 + length (change_body (w.seq + 1) net.stored) ≤ 2 ^ 40 → IsRefreshed active.image lines (Err fault.DiskFault)
    made_answer low short = made_is w active.image m.warehouse.spec tables_are lines net is m.warehouse.seq low (omega (arith, short, m.place.end))

    pub net_answer : w.seq < 2 ^ 64 - 1 → p.journal.end + 10 + length (change_body (w.seq + 1) net.stored) ≤ 2 ^ 40 → IsRefreshed active.image lines (Ok net)
    net_answer low short = (
      made_answer low short ∙ ap accepted_as (sym changes_are),
      is.source ∙ sources_same w active.image m.warehouse.spec tables_are lines,
    )

    pub may_follow : AllByRecursion IsSpelledDelta net.stored → length net.stored < 2 ^ 32 → are_stored_deltas w.plan.spec (own_image w).tables net.stored ≡ true → MayFollow active.image net.stored
    may_follow spelled count allowed = record {
      spelled = spelled;
      count = count;
      allowed = (λ j. are_stored_deltas (sym m.warehouse.spec j) (sym tables_are j) net.stored) ∙ allowed;
    }

-- ---- what is ready

module _ (w w1 : Warehouse) (p : Place) (deltas : List Delta) (r : ReadyChange) (is : IsReady w1 p deltas r) (seq : w1.seq ≡ w.seq) where
  pub ready_low : w.seq < 2 ^ 64 - 1
  ready_low = omega (arith, is.seq, seq)

  pub ready_body : r.body ≡ change_body (w.seq + 1) deltas
  ready_body = is.body ∙ (λ j. change_body (seq j + 1) (is.deltas_are j))

  pub ready_short : p.journal.end + 10 + length (change_body (w.seq + 1) deltas) ≤ 2 ^ 40
  ready_short = subst (λ (body : List ℕ). p.journal.end + 10 + length body ≤ 2 ^ 40) ready_body is.fits

-- ---- the warehouse

pub values_kept : (w w1 : Warehouse) → AreKept w.tables w1.tables → w1.plan ≡ w.plan → HoldsValues w → HoldsValues w1
values_kept w w1 kept plan values = record {
  fits = λ k below. subst (λ (rows : List Row). fits_stored w1.plan.spec k rows ≡ true) (sym (kept.rows k))
      (subst (λ (spec : Spec). fits_stored spec k (table_at w.tables k).rows ≡ true) (sym (ap (λ q. q.spec) plan)) (values.fits k (within k below)));
  spelled = λ k below. subst (AllByRecursion (AllByRecursion IsSpelledValue)) (sym (kept.rows k)) (values.spelled k (within k below));
  under = λ k below. subst (λ (rows : List Row). length rows ≤ row_limit) (sym (kept.rows k)) (values.under k (within k below));
}
  where
    within : (k : ℕ) → k < stored_count w1.plan.spec → k < stored_count w.plan.spec
    within k below = subst (λ (spec : Spec). k < stored_count spec) (ap (λ q. q.spec) plan) below

pub values_same : (w1 w2 : Warehouse) → w2.plan ≡ w1.plan → w2.tables ≡ w1.tables → w2.seq ≡ w1.seq → HoldsValues w1 → HoldsValues w2
values_same w1 w2 plan tables seq values = subst HoldsValues (λ j. record { plan = sym plan j; tables = sym tables j; seq = sym seq j }) values

pub image_same : (i : Image) (w1 w2 : Warehouse) → w2.plan ≡ w1.plan → w2.tables ≡ w1.tables → w2.seq ≡ w1.seq → IsWarehouseOf i w1 → IsWarehouseOf i w2
image_same i w1 w2 plan tables seq is = subst (IsWarehouseOf i) (λ j. record { plan = sym plan j; tables = sym tables j; seq = sym seq j }) is

pub changed_from : (w w1 w2 : Warehouse) (deltas : List Delta) → AreKept w.tables w1.tables → AreChanged w1.tables deltas w2.tables → AreChanged w.tables deltas w2.tables
changed_from w w1 w2 deltas kept changed = record {
  count = changed.count ∙ kept.count;
  rows = λ k below. subst (λ (rows : List Row). SameRows (table_at w2.tables k).rows (without rows (get_or deltas k no_delta).deleted ++ (get_or deltas k no_delta).inserted)) (kept.rows k) (changed.rows k (omega (arith, below, kept.count)));
  distinct = λ k below. changed.distinct k (omega (arith, below, kept.count));
  widths = λ k. changed.widths k ∙ kept.widths k;
  indexes = λ k. changed.indexes k ∙ kept.indexes k;
}

-- ---- the files

pub told_two : (x y : Option (List ℕ)) (P Q : List ℕ → List ℕ → Type 0) → ((a b : List ℕ) → P a b → Q a b) → IfSome x (λ a. IfSome y (λ b. P a b)) → IfSome x (λ a. IfSome y (λ b. Q a b))
told_two None y P Q f h = tt
told_two (Some a) None P Q f h = tt
told_two (Some a) (Some b) P Q f h = f a b h

pub told_four : (x y u v : Option (List ℕ)) (P Q : List ℕ → List ℕ → List ℕ → List ℕ → Type 0) → ((a b c d : List ℕ) → P a b c d → Q a b c d)
    → IfSome x (λ a. IfSome y (λ b. IfSome u (λ c. IfSome v (λ d. P a b c d)))) → IfSome x (λ a. IfSome y (λ b. IfSome u (λ c. IfSome v (λ d. Q a b c d))))
told_four None y u v P Q f h = tt
told_four (Some a) None u v P Q f h = tt
told_four (Some a) (Some b) None v P Q f h = tt
told_four (Some a) (Some b) (Some c) None P Q f h = tt
told_four (Some a) (Some b) (Some c) (Some d) P Q f h = f a b c d h

-- where nothing is pending and nothing is done, a crash leaves what is held
module _ (w : Warehouse) (p : Place) (changes : Active → List Delta) where
  held_still : (which : Which) (x y : Option (List ℕ)) (images : List ℕ → Type 0) → IsSettled (active_of which x y) images → p.which ≡ which
      → IfSome x (λ a. IfSome y (λ b. (active : Active) → Matches active a b w p → (c : List ℕ) → images c → held_with active.which c a b ≡ Ok (Some active)))
  held_still First None y images settled is = tt
  held_still First (Some a) None images settled is = tt
  held_still First (Some a) (Some b) images settled is = λ active m c left.
      ap (λ (x : Which). held_with x c a b) (sym m.place.which ∙ is) ∙ ap (λ (bytes : List ℕ). holding bytes b) (settled c left) ∙ m.holds
  held_still Second None y images settled is = tt
  held_still Second (Some a) None images settled is = tt
  held_still Second (Some a) (Some b) images settled is = λ active m c left.
      ap (λ (x : Which). held_with x c a b) (sym m.place.which ∙ is) ∙ ap (λ (bytes : List ℕ). holding a bytes) (settled c left) ∙ m.holds

  module _ {D : Type 0} (content : D → Option (List ℕ)) (images : D → List ℕ → Type 0) (moment : D → ℕ) (images_since : D → ℕ → List ℕ → Type 0)
      (only_now : (disk : D) (c : List ℕ) → images_since disk (moment disk) c → images disk c) (first second : D) where
    settled_of : (which : Which) → IsSettled (content (active_of which first second)) (images (active_of which first second)) → IsSettled (active_of which (content first) (content second)) (images (active_of which first second))
    settled_of First h = h
    settled_of Second h = h

    pub nothing_done : IsSettled (content (active_of p.which first second)) (images (active_of p.which first second))
        → IfSome (content first) (λ a. IfSome (content second) (λ b. (active : Active) → Matches active a b w p
        → LeavesOnly moment images_since (active_of p.which first second) (active_of p.which first second) (IsHeldBeforeOrAfter active (changes active) a b)))
    nothing_done settled =
        let disk = active_of p.which first second in
        told_two (content first) (content second)
        (λ a b. (active : Active) → Matches active a b w p → (c : List ℕ) → images disk c → held_with active.which c a b ≡ Ok (Some active))
        (λ a b. (active : Active) → Matches active a b w p → LeavesOnly moment images_since disk disk (IsHeldBeforeOrAfter active (changes active) a b))
        (λ a b held active m. record {
          later = omega arith;
          each = λ c left. inl (held active m c (only_now disk c left));
          before = λ t c low left. inl left;
        })
        (held_still p.which (content first) (content second) (images disk) (settled_of p.which settled) refl)
