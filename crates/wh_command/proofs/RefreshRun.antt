-- The whole command `refresh`: the store is opened, and the files are taken.
use Rattle.std.proofs.Common.{◌≡◌, ℕ, true≢false, false, List, Option, None, Some, IfSome, Result, Ok, Err, OnOk, refl, sym, ◌∙◌, ap, subst, arith}
use Rattle.std.specs.Option.{option_map}
use Rattle.wh_io.specs.Crash.{LeavesOnly}
use Rattle.wh_io.specs.Files.{Held}
use Rattle.wh_io.proofs.Gained.{gained_nothing}
use Rattle.wh_io.proofs.Moments.{leaves_map, leaves_then}
use Rattle.wh_store.specs.declared.warehouse.Place.{Place}
use Rattle.wh_store.specs.declared.warehouse.Warehouse.{Warehouse}
use Rattle.wh_store.specs.declared.warehouse.Which.{Which}
use Rattle.wh_store.specs.declared.warehouse.Which.TheVariants.{First, Second}
use Rattle.wh_store.specs.Commit.{active_of, other_of}
use Rattle.wh_store.specs.Image.{Active, Holding, holding}
use Rattle.wh_store.specs.Store.{IsOpened}
use Rattle.wh_command.specs.declared.status.Status.{Status}
use Rattle.wh_command.specs.declared.stop.Stop.{Stop}
use Rattle.wh_command.specs.declared.stop.Stop.TheVariants.{ReadFault, WriteFault, DiskFault, NoMemory}
use Rattle.wh_command.specs.Disks.{BothRest, CrashReaches, WritesOnly}
use Rattle.wh_command.specs.Ends.{EndsWhole}
use Rattle.wh_command.specs.Outcome.{Outcome, IsReached, state_after}
use Rattle.wh_command.specs.Refresh.{EndsRefresh, WritesActive, WritesChanges, file_after, finish_over, opened_active, pieces_over, refresh_outcome}
use Rattle.wh_command.specs.RefreshSteps.{IsPlaced, Moves, StandsAt, TakesAll}
use Rattle.wh_command.specs.Steps.{UnlessOutside, is_outside, is_read_fault, is_write_fault}
use Rattle.wh_command.proofs.Stores.{CountsNow, Stays, crash_still, leave_still, rest_still, settled_on}
use Rattle.wh_command.proofs.Written.{crash_from, wrote_none}

module _ {D : Type 0} (content : D → Option (List ℕ)) (images : D → List ℕ → Type 0) (moment : D → ℕ) (images_since : D → ℕ → List ℕ → Type 0) (names : List (List ℕ)) (first_old first_mid second_old second_mid : D)
    (first_same : content first_mid ≡ content first_old) (second_same : content second_mid ≡ content second_old) (first_stays : Stays content images moment images_since first_old first_mid) (second_stays : Stays content images moment images_since second_old second_mid)
    (first_counts : CountsNow content images moment images_since first_mid) (second_counts : CountsNow content images moment images_since second_mid) where
  abbrev Opened : Result (Warehouse × Place) Stop → Type 0
  Opened result = IfSome (content first_old) (λ a. IfSome (content second_old) (λ b. IsPlaced a b result))

  abbrev Ended : Held → Holding → D → D → Option (List ℕ) → Option (List ℕ) → Result Status Stop → Type 0
  Ended h start first_new second_new before after finish = EndsRefresh content images moment images_since h names start first_old first_new second_old second_new before after finish

  opened_at : (result : Result (Warehouse × Place) Stop) (start : Holding) (rest : BothRest content images first_old second_old start) → Opened result → IsPlaced rest.a rest.b result
  opened_at result start rest h =
      subst (λ (o : Option (List ℕ)). IfSome o (λ b. IsPlaced rest.a b result)) rest.told_second
      (subst (λ (o : Option (List ℕ)). IfSome o (λ a. IfSome (content second_old) (λ b. IsPlaced a b result))) rest.told_first h)

  -- ---- the store was not opened

  module _ (h : Held) (start : Holding) (rest : BothRest content images first_old second_old start) (before : Option (List ℕ)) where
    abbrev outcome : Outcome
    outcome = refresh_outcome h names start

    still : BothRest content images first_mid second_mid start
    still = rest_still content images moment images_since first_old first_mid second_old second_mid start rest second_same second_stays second_counts first_same first_stays first_counts

    crash : CrashReaches moment images_since outcome first_old first_mid second_old second_mid
    crash = crash_still content images moment images_since first_old first_mid second_old second_mid start rest second_same second_stays second_counts first_same first_stays first_counts outcome refl

    unwritten : WritesActive content images moment images_since (opened_active start) (IsReached outcome) first_old first_mid second_old second_mid
    unwritten = by (opened_active start)
      where
        none : (which : Which) → WritesOnly content images moment images_since which (IsReached outcome) first_old first_mid second_old second_mid
        none = wrote_none content images moment images_since first_old first_mid second_old second_mid start rest (IsReached outcome) (record { j = 0; within = omega arith; is = refl }) first_stays second_stays

        by : (r : Result Active Stop) → WritesActive content images moment images_since r (IsReached outcome) first_old first_mid second_old second_mid
        by (Ok active) = none active.which
        by (Err stop) = (first_stays, second_stays)

    refuses : (stop : Stop) → opened_active start ≡ Err stop → EndsWhole outcome (BothRest content images first_mid second_mid) before before (Err stop)
    refuses stop is = by (opened_active start) is
      where
        by : (r : Result Active Stop) → r ≡ Err stop → EndsWhole (record { start = start; pieces = pieces_over h names r; finish = finish_over h names r }) (BothRest content images first_mid second_mid) before before (Err stop)
        by (Ok active) is = absurd (cc (is))
        by (Err other) is =
            let same : other ≡ stop = cc (is) in
            record {
              finish_is = subst (λ (s : Stop). finish_over h names (Err other) ≡ Err s) same refl;
              printed = sym (gained_nothing before);
              state = still;
            }

    unopened : (stop : Stop) → is_read_fault {T = Unit {0}} (Err stop) ≡ false → is_write_fault {T = Unit {0}} (Err stop) ≡ false → UnlessOutside (is_outside stop) (opened_active start ≡ Err stop) → Ended h start first_mid second_mid before before (Err stop)
    unopened (ReadFault file) read write is = absurd (true≢false read)
    unopened WriteFault read write is = absurd (true≢false write)
    unopened DiskFault read write is = record {
      ends = record {
        k = 0;
        within = omega arith;
        printed = sym (gained_nothing before);
        state =
            leave_still content images moment images_since first_old first_mid second_old second_mid start rest second_same second_stays second_counts first_same first_stays first_counts (state_after outcome.start outcome.pieces 1);
      };
      crash = crash;
      disks = unwritten;
      under_way = tt;
      bytes = tt;
    }
    unopened NoMemory read write is = record { ends = record { k = 0; within = omega arith; printed = sym (gained_nothing before); state = still }; crash = crash; disks = unwritten; under_way = tt; bytes = tt }
    unopened other read write is = record { ends = refuses other is; crash = crash; disks = unwritten; under_way = tt; bytes = tt }

  pub not_opened : (held : Option Held) (stop : Stop) (before : Option (List ℕ)) → is_read_fault {T = Unit {0}} (Err stop) ≡ false → is_write_fault {T = Unit {0}} (Err stop) ≡ false → Opened (Err stop)
      → IfSome held (λ h. (start : Holding) → BothRest content images first_old second_old start → Ended h start first_mid second_mid before before (Err stop))
  not_opened None stop before read write h = tt
  not_opened (Some held) stop before read write h = λ start rest.
      unopened held start rest before stop read write
      (subst (λ (s : Holding). UnlessOutside (is_outside stop) (opened_active s ≡ Err stop)) rest.is (opened_at (Err stop) start rest h))

  -- ---- it was opened

  module _ (opened : Warehouse × Place) (first_new second_new : D) (before after : Option (List ℕ)) (finish : Result Status Stop) where
    module _ (h : Held) (start : Holding) (rest : BothRest content images first_old second_old start) (found : IsOpened rest.a rest.b (holding rest.a rest.b) opened) where
      stands : StandsAt content images first_mid second_mid found.active opened.0 opened.1
      stands = record {
        a = rest.a;
        b = rest.b;
        told_first = first_same ∙ rest.told_first;
        told_second = second_same ∙ rest.told_second;
        settled_first = settled_on content images moment images_since first_old first_mid rest.a rest.settled_first first_stays first_counts;
        settled_second = settled_on content images moment images_since second_old second_mid rest.b rest.settled_second second_stays second_counts;
        matches = record { holds = found.holds; warehouse = found.warehouse; place = found.place };
      }

      start_is : start ≡ Ok (Some found.active)
      start_is = sym rest.is ∙ found.holds

      -- which of the two is written, and what a crash leaves
      written_by : (which : Which) (outcome : Outcome) → holding rest.a rest.b ≡ outcome.start → Moves content moment images_since which (IsReached outcome) first_mid first_new second_mid second_new
          → WritesOnly content images moment images_since which (IsReached outcome) first_old first_new second_old second_new
      written_by First outcome begins moves = record {
        other = subst (λ (e : D). LeavesOnly moment images_since second_old e (images second_old)) (sym moves.other_same) second_stays;
        this = λ bytes told.
            let same : rest.b ≡ bytes = cc (rest.told_second, told) in
            let early : LeavesOnly moment images_since first_old first_mid (λ (c : List ℕ). IsReached outcome (holding c rest.b)) =
            leaves_map moment images_since first_old first_mid (images first_old) (λ (c : List ℕ). IsReached outcome (holding c rest.b))
            (λ c left. record { j = 0; within = omega arith; is = ap (λ (e : List ℕ). holding e rest.b) (rest.settled_first c left) ∙ begins }) first_stays in
            let whole = leaves_then moment images_since first_old first_mid first_new (λ (c : List ℕ). IsReached outcome (holding c rest.b)) early (moves.crash rest.b (second_same ∙ rest.told_second)) in
            subst (λ (e : List ℕ). LeavesOnly moment images_since first_old first_new (λ (c : List ℕ). IsReached outcome (holding c e))) same whole;
      }
      written_by Second outcome begins moves = record {
        other = subst (λ (e : D). LeavesOnly moment images_since first_old e (images first_old)) (sym moves.other_same) first_stays;
        this = λ bytes told.
            let same : rest.a ≡ bytes = cc (rest.told_first, told) in
            let early : LeavesOnly moment images_since second_old second_mid (λ (d : List ℕ). IsReached outcome (holding rest.a d)) =
            leaves_map moment images_since second_old second_mid (images second_old) (λ (d : List ℕ). IsReached outcome (holding rest.a d))
            (λ d left. record { j = 0; within = omega arith; is = ap (λ (e : List ℕ). holding rest.a e) (rest.settled_second d left) ∙ begins }) second_stays in
            let whole = leaves_then moment images_since second_old second_mid second_new (λ (d : List ℕ). IsReached outcome (holding rest.a d)) early (moves.crash rest.a (first_same ∙ rest.told_first)) in
            subst (λ (e : List ℕ). LeavesOnly moment images_since second_old second_new (λ (d : List ℕ). IsReached outcome (holding e d))) same whole;
      }

      content_active : (which : Which) → content (active_of which first_mid second_mid) ≡ content (active_of which first_old second_old)
      content_active First = first_same
      content_active Second = second_same

      content_other : (which : Which) → content (other_of which first_mid second_mid) ≡ content (other_of which first_old second_old)
      content_other First = second_same
      content_other Second = first_same

      on_ok : (finish : Result Status Stop) (P Q : Type 0) → (P → Q) → OnOk finish P → OnOk finish Q
      on_ok (Ok answer) P Q step p = step p
      on_ok (Err stop) P Q step p = tt

      over_active : TakesAll content images moment images_since h names found.active first_mid first_new second_mid second_new before after finish → Ended h (Ok (Some found.active)) first_new second_new before after finish
      over_active run =
          let outcome = refresh_outcome h names (Ok (Some found.active)) in
          let written = written_by found.active.which outcome found.holds run.moves in
          record {
            ends = run.ends;
            crash = crash_from content images moment images_since first_old first_new second_old second_new start rest found.active.which outcome written;
            disks = written;
            under_way = run.under_way;
            bytes = on_ok finish _ (WritesChanges content h names (Ok found.active) first_old first_new second_old second_new)
                (λ bytes. (bytes ∙ ap (option_map (file_after h found.active names)) (content_active found.active.which), ap content run.moves.other_same ∙ content_other found.active.which)) run.bytes;
          }

      pub opened_run : ((active : Active) → StandsAt content images first_mid second_mid active opened.0 opened.1 → TakesAll content images moment images_since h names active first_mid first_new second_mid second_new before after finish)
          → Ended h start first_new second_new before after finish
      opened_run runs = subst (λ (s : Holding). Ended h s first_new second_new before after finish) (sym start_is) (over_active (runs found.active stands))

    pub opened_well : (held files_mid : Option Held) → files_mid ≡ held → Opened (Ok opened)
        → ((h : Held) (active : Active) → files_mid ≡ Some h → StandsAt content images first_mid second_mid active opened.0 opened.1 → TakesAll content images moment images_since h names active first_mid first_new second_mid second_new before after finish)
        → IfSome held (λ h. (start : Holding) → BothRest content images first_old second_old start → Ended h start first_new second_new before after finish)
    opened_well None files_mid same h runs = tt
    opened_well (Some held) files_mid same h runs = λ start rest. opened_run held start rest (opened_at (Ok opened) start rest h) (λ active stands. runs held active same stands)
