-- Runs in which only one of the two files is written, one after another, and what crashes leave of them.
use Rattle.std.proofs.Common.{◌≡◌, ℕ, ◌≤◌, List, Option, Some, Result, Ok, Err, sym, ◌∙◌, ap, subst}
use Rattle.wh_io.specs.Crash.{LeavesOnly}
use Rattle.wh_io.specs.Files.{Held}
use Rattle.wh_io.proofs.Moments.{leaves_map, leaves_then}
use Rattle.wh_store.specs.declared.warehouse.Which.{Which}
use Rattle.wh_store.specs.declared.warehouse.Which.TheVariants.{First, Second}
use Rattle.wh_store.specs.Commit.{active_of, other_of}
use Rattle.wh_store.specs.Image.{Active, Holding, holding}
use Rattle.wh_command.specs.declared.stop.Stop.{Stop}
use Rattle.wh_command.specs.Disks.{BothRest, CrashReaches, WritesOnly, beside}
use Rattle.wh_command.specs.Outcome.{IsReached, Outcome}
use Rattle.wh_command.specs.Refresh.{WritesActive, WritesChanges}
use Rattle.wh_command.proofs.Stores.{CountsNow, Stays}

module _ {D : Type 0} (content : D → Option (List ℕ)) (images : D → List ℕ → Type 0) (moment : D → ℕ) (images_since : D → ℕ → List ℕ → Type 0) where
  abbrev Wrote : Which → (Holding → Type 0) → D → D → D → D → Type 0
  Wrote which P first_old first_new second_old second_new = WritesOnly content images moment images_since which P first_old first_new second_old second_new

  abbrev WroteIn : Result Active Stop → (Holding → Type 0) → D → D → D → D → Type 0
  WroteIn found P first_old first_new second_old second_new = WritesActive content images moment images_since found P first_old first_new second_old second_new

  -- ---- what has P has Q

  module _ (P Q : Holding → Type 0) (step : (w : Holding) → P w → Q w) (first_old first_new second_old second_new : D) where
    pub wrote_map : (which : Which) → Wrote which P first_old first_new second_old second_new → Wrote which Q first_old first_new second_old second_new
    wrote_map which wrote = record {
      other = wrote.other;
      this = λ bytes told.
          leaves_map moment images_since (active_of which first_old second_old) (active_of which first_new second_new) (λ (c : List ℕ). P (beside which c bytes)) (λ (c : List ℕ). Q (beside which c bytes))
          (λ c here. step (beside which c bytes) here) (wrote.this bytes told);
    }

    pub wrote_in_map : (found : Result Active Stop) → WroteIn found P first_old first_new second_old second_new → WroteIn found Q first_old first_new second_old second_new
    wrote_in_map (Ok active) wrote = wrote_map active.which wrote
    wrote_in_map (Err stop) wrote = wrote

  -- ---- over two disks that stand for a state

  module _ (first_old first_new second_old second_new : D) (start : Holding) (rest : BothRest content images first_old second_old start) where
    pub crash_from : (which : Which) (outcome : Outcome) → Wrote which (IsReached outcome) first_old first_new second_old second_new → CrashReaches moment images_since outcome first_old first_new second_old second_new
    crash_from First outcome wrote = λ c d left_c left_d.
        let same : d ≡ rest.b = rest.settled_second d (wrote.other.each d left_d) in
        subst (λ (e : List ℕ). IsReached outcome (holding c e)) (sym same) ((wrote.this rest.b rest.told_second).each c left_c)
    crash_from Second outcome wrote = λ c d left_c left_d.
        let same : c ≡ rest.a = rest.settled_first c (wrote.other.each c left_c) in
        subst (λ (e : List ℕ). IsReached outcome (holding e d)) (sym same) ((wrote.this rest.a rest.told_first).each d left_d)

    -- neither was written
    pub wrote_none : (P : Holding → Type 0) → P start → Stays content images moment images_since first_old first_new → Stays content images moment images_since second_old second_new
        → (which : Which) → Wrote which P first_old first_new second_old second_new
    wrote_none P here first_stays second_stays First = record {
      other = second_stays;
      this = λ bytes told.
          let same : rest.b ≡ bytes = cc (rest.told_second, told) in
          leaves_map moment images_since first_old first_new (images first_old) (λ (c : List ℕ). P (holding c bytes))
          (λ c left. subst P (sym ((λ i. holding (rest.settled_first c left i) (sym same i)) ∙ rest.is)) here) first_stays;
    }
    wrote_none P here first_stays second_stays Second = record {
      other = first_stays;
      this = λ bytes told.
          let same : rest.a ≡ bytes = cc (rest.told_first, told) in
          leaves_map moment images_since second_old second_new (images second_old) (λ (d : List ℕ). P (holding bytes d))
          (λ d left. subst P (sym ((λ i. holding (sym same i) (rest.settled_second d left i)) ∙ rest.is)) here) second_stays;
    }

  -- ---- one run after another

  module _ (counts : (d : D) → CountsNow content images moment images_since d) where
    pub stays_then : (old mid new : D) → Stays content images moment images_since old mid → Stays content images moment images_since mid new → Stays content images moment images_since old new
    stays_then old mid new one two =
        leaves_then moment images_since old mid new (images old) one
        (leaves_map moment images_since mid new (images mid) (images old) (λ c left. one.each c (counts mid (moment old) c one.later left)) two)

    module _ (first_old first_mid first_new second_old second_mid second_new : D) (P : Holding → Type 0) where
      pub wrote_then : (which : Which) → content (other_of which first_mid second_mid) ≡ content (other_of which first_old second_old) → Wrote which P first_old first_mid second_old second_mid → Wrote which P first_mid first_new second_mid second_new
          → Wrote which P first_old first_new second_old second_new
      wrote_then which same one two = record {
        other = stays_then (other_of which first_old second_old) (other_of which first_mid second_mid) (other_of which first_new second_new) one.other two.other;
        this = λ bytes told.
            leaves_then moment images_since (active_of which first_old second_old) (active_of which first_mid second_mid) (active_of which first_new second_new) (λ (c : List ℕ). P (beside which c bytes)) (one.this bytes told)
            (two.this bytes (same ∙ told));
      }

      -- change files, and then a run that writes neither
      pub wrote_in_then : (held : Held) (names : List (List ℕ)) (found : Result Active Stop) → WritesChanges content held names found first_old first_mid second_old second_mid → WroteIn found P first_old first_mid second_old second_mid
          → Stays content images moment images_since first_mid first_new → Stays content images moment images_since second_mid second_new → ((which : Which) → Wrote which P first_mid first_new second_mid second_new)
          → WroteIn found P first_old first_new second_old second_new
      wrote_in_then held names (Ok active) bytes one first_stays second_stays none = wrote_then active.which bytes.1 one (none active.which)
      wrote_in_then held names (Err stop) bytes one first_stays second_stays none = (stays_then first_old first_mid first_new one.0 first_stays, stays_then second_old second_mid second_new one.1 second_stays)

  -- ---- the bytes

  module _ (first_old first_mid first_new second_old second_mid second_new : D) (first_same : content first_new ≡ content first_mid) (second_same : content second_new ≡ content second_mid) where
    active_same : (which : Which) → content (active_of which first_new second_new) ≡ content (active_of which first_mid second_mid)
    active_same First = first_same
    active_same Second = second_same

    other_same : (which : Which) → content (other_of which first_new second_new) ≡ content (other_of which first_mid second_mid)
    other_same First = second_same
    other_same Second = first_same

    pub changes_same : (held : Held) (names : List (List ℕ)) (found : Result Active Stop) → WritesChanges content held names found first_old first_mid second_old second_mid → WritesChanges content held names found first_old first_new second_old second_new
    changes_same held names (Ok active) bytes = (active_same active.which ∙ bytes.0, other_same active.which ∙ bytes.1)
    changes_same held names (Err stop) bytes = (first_same ∙ bytes.0, second_same ∙ bytes.1)
