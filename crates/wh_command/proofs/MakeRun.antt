-- A store is loaded, change files are taken, and the store is reported: how that ends, and what a crash leaves.
use Rattle.std.proofs.Common.{◌≡◌, ◌⊎◌, inl, inr, ⊎_elim, ℕ, ◌≤◌, Bool, true, false, List, [], ◌∷◌, Option, None, Some, IfSome, Result, Ok, Err, OnOk, refl, sym, ◌∙◌, ap, subst, arith}
use Rattle.std.specs.Option.{option_map}
use Rattle.wh_gen.specs.Case.{CaseTexts, made_case}
use Rattle.wh_gen.specs.Files.{case_dir, case_held, case_spec, change_names}
use Rattle.wh_io.specs.Causes.{IsCounted}
use Rattle.wh_io.specs.Files.{Held}
use Rattle.wh_io.proofs.Gained.{gained_nothing}
use Rattle.wh_store.specs.declared.warehouse.Which.{Which}
use Rattle.wh_store.specs.declared.warehouse.Which.TheVariants.{First}
use Rattle.wh_store.specs.Image.{Active, Holding, holding}
use Rattle.wh_store.specs.Store.{loaded}
use Rattle.wh_command.specs.declared.show.Shown.{Shown}
use Rattle.wh_command.specs.declared.status.Status.{Status}
use Rattle.wh_command.specs.declared.status.Status.TheVariants as status
use Rattle.wh_command.specs.declared.stop.Stop.{Stop}
use Rattle.wh_command.specs.declared.stop.Stop.TheVariants.{NoMemory}
use Rattle.wh_command.specs.Ask.{EndsAsk}
use Rattle.wh_command.specs.Disks.{BothLeave, BothRest, WritesOnly}
use Rattle.wh_command.specs.Ends.{Ends, EndsWhole}
use Rattle.wh_command.specs.Load.{EndsLoad, HoldsSnapshot, loaded_state, loading, loads}
use Rattle.wh_command.specs.Make.{EndsCase, EndsChanges, EndsMake, HoldsCase, HoldsChanged, case_outcome, changes_outcome, made_files}
use Rattle.wh_command.specs.Outcome.{IsReached, Outcome, followed, last_state}
use Rattle.wh_command.specs.Refresh.{EndsRefresh, WritesChanges, file_after, opened_active, refresh_outcome, refresh_pieces, taken}
use Rattle.wh_command.specs.Report.{report_outcome}
use Rattle.wh_command.proofs.Follow.{ends_first, ends_next, reached_first, reached_next}
use Rattle.wh_command.proofs.Starts.{case_start, changes_start, report_start}
use Rattle.wh_command.proofs.Stores.{CountsNow, Stays}
use Rattle.wh_command.proofs.Written.{changes_same, crash_from, wrote_in_map, wrote_in_then, wrote_map, wrote_none, wrote_then}

on_ok : (finish : Result Status Stop) (P : Type 0) → P → OnOk finish P
on_ok (Ok status) P holds = holds
on_ok (Err stop) P holds = tt

on_ok_map : (finish : Result Status Stop) (P Q : Type 0) → (P → Q) → OnOk finish P → OnOk finish Q
on_ok_map (Ok status) P Q step holds = step holds
on_ok_map (Err stop) P Q step holds = tt

module _ {D : Type 0} (content : D → Option (List ℕ)) (images : D → List ℕ → Type 0) (moment : D → ℕ) (images_since : D → ℕ → List ℕ → Type 0) where
  -- where one state is left, that or another is
  leave_more : (first second : D) (v w : Holding) → BothLeave images first second v v → BothLeave images first second v w
  leave_more first second v w leaves = λ a b left_a left_b. ⊎_elim (λ is. inl is) (λ is. inl is) (leaves a b left_a left_b)

  module _ (names : List (List ℕ)) where
    -- ---- change files, and the report

    module _ (h : Held) (start : Holding) (first_old second_old : D) (before : Option (List ℕ)) where
      abbrev Taken : Outcome
      Taken = refresh_outcome h names start

      abbrev Changed : Outcome
      Changed = changes_outcome h names start

      abbrev Ran : D → D → Option (List ℕ) → Result Status Stop → Type 0
      Ran first_new second_new after finish = EndsChanges content images moment images_since h names start first_old first_new second_old second_new before after finish

      module _ (first_mid second_mid : D) (middle : Option (List ℕ)) where
        abbrev Took : Result Status Stop → Type 0
        Took finish = EndsRefresh content images moment images_since h names start first_old first_mid second_old second_mid before middle finish

        pub changes_stop : (stop : Stop) → Took (Err stop) → Ran first_mid second_mid middle (Err stop)
        changes_stop stop took = record {
          ends = ends_first Taken report_outcome (BothRest content images first_mid second_mid) (BothLeave images first_mid second_mid) (leave_more first_mid second_mid) before middle stop took.ends;
          disks = wrote_in_map content images moment images_since (IsReached Taken) (IsReached Changed) (reached_first Taken report_outcome) first_old first_mid second_old second_mid (opened_active start) took.disks;
          bytes = tt;
        }

        module _ (counts : (d : D) → CountsNow content images moment images_since d) (first_new second_new : D) (after : Option (List ℕ)) (finish : Result Status Stop) (first_same : content first_new ≡ content first_mid) (second_same : content second_new ≡ content second_mid)
            (first_stays : Stays content images moment images_since first_mid first_new) (second_stays : Stays content images moment images_since second_mid second_new) where
          pub changes_on : (status : Status) → Took (Ok status) → ((w : Holding) → BothRest content images first_mid second_mid w → EndsAsk content images moment images_since (report_outcome w) first_mid first_new second_mid second_new middle after finish)
              → Ran first_new second_new after finish
          changes_on status took told =
              let whole : EndsWhole Taken (BothRest content images first_mid second_mid) before middle (Ok status) = took.ends in
              let last : Holding = last_state Taken.start Taken.pieces in
              let begins : (report_outcome last).start ≡ last = report_start last in
              let here : IsReached Changed last =
              reached_next Taken report_outcome status whole.finish_is begins last (record { j = 0; within = omega arith; is = sym begins }) in
              let early = wrote_in_map content images moment images_since (IsReached Taken) (IsReached Changed) (reached_first Taken report_outcome) first_old first_mid second_old second_mid (opened_active start) took.disks in
              record {
                ends = ends_next Taken report_outcome (BothRest content images first_new second_new) (BothLeave images first_new second_new) before middle after status whole.finish_is whole.printed begins finish (told last whole.state).ends;
                disks =
                    wrote_in_then content images moment images_since counts first_old first_mid first_new second_old second_mid second_new (IsReached Changed) h names (opened_active start) took.bytes early first_stays second_stays
                    (wrote_none content images moment images_since first_mid first_new second_mid second_new last whole.state (IsReached Changed) here first_stays second_stays);
                bytes = on_ok finish _ (changes_same content images moment images_since first_old first_mid first_new second_old second_mid second_new first_same second_same h names (opened_active start) took.bytes);
              }

    -- ---- a load, and then these

    module _ (spec_name dir : List ℕ) (h : Held) (start : Holding) (first_old second_old : D) (rest : BothRest content images first_old second_old start) (before : Option (List ℕ)) where
      abbrev Whole : Result Shown Stop → Outcome
      Whole found = followed (loads start found) (changes_outcome h names)

      module _ (first_mid second_mid : D) (middle : Option (List ℕ)) where
        abbrev Loaded : Result Status Stop → Type 0
        Loaded finish = EndsLoad content images moment images_since h spec_name dir start first_old first_mid second_old second_mid before middle finish

        -- the states of a load are states of the whole
        early : (found : Result Shown Stop) → WritesOnly content images moment images_since First (IsReached (loads start found)) first_old first_mid second_old second_mid
            → WritesOnly content images moment images_since First (IsReached (Whole found)) first_old first_mid second_old second_mid
        early found disks =
            wrote_map content images moment images_since (IsReached (loads start found)) (IsReached (Whole found)) (reached_first (loads start found) (changes_outcome h names)) first_old first_mid second_old second_mid First disks

        pub case_stop : (stop : Stop) → Loaded (Err stop) → EndsCase content images moment images_since h spec_name dir names start first_old first_mid second_old second_mid before middle (Err stop)
        case_stop stop load = record {
          ends =
              ends_first (loads start (loading h spec_name dir start)) (changes_outcome h names) (BothRest content images first_mid second_mid) (BothLeave images first_mid second_mid) (leave_more first_mid second_mid) before middle stop load.ends;
          crash = crash_from content images moment images_since first_old first_mid second_old second_mid start rest First (Whole (loading h spec_name dir start)) (early (loading h spec_name dir start) load.disks);
          bytes = tt;
        }

        module _ (counts : (d : D) → CountsNow content images moment images_since d) (first_new second_new : D) (after : Option (List ℕ)) (finish : Result Status Stop) (same : content second_mid ≡ content second_old)
            (changes : (w : Holding) → BothRest content images first_mid second_mid w → EndsChanges content images moment images_since h names w first_mid first_new second_mid second_new middle after finish) where
          -- the parts of a run, over what was loaded
          record Parts (found : Result Shown Stop) : Type 0 where
            ends : Ends (Whole found) (BothRest content images first_new second_new) (BothLeave images first_new second_new) before after finish
            disks : WritesOnly content images moment images_since First (IsReached (Whole found)) first_old first_new second_old second_new
            bytes : OnOk finish (HoldsChanged h names found (content first_new) × (content second_new ≡ content second_old))

          parts : (status : Status) (found : Result Shown Stop) → EndsWhole (loads start found) (BothRest content images first_mid second_mid) before middle (Ok status)
              → WritesOnly content images moment images_since First (IsReached (loads start found)) first_old first_mid second_old second_mid → HoldsSnapshot found (content first_mid) → Parts found
          parts status (Err stop) ends disks file = absurd file
          parts status (Ok s) ends disks file =
              let begins = changes_start h names (loaded_state s) in
              let run = changes (loaded_state s) ends.state in
              record {
                ends =
                    ends_next (loads start (Ok s)) (changes_outcome h names) (BothRest content images first_new second_new) (BothLeave images first_new second_new) before middle after status ends.finish_is ends.printed begins finish run.ends;
                disks =
                    wrote_then content images moment images_since counts first_old first_mid first_new second_old second_mid second_new (IsReached (Whole (Ok s))) First same (early (Ok s) disks)
                    (wrote_map content images moment images_since (IsReached (changes_outcome h names (loaded_state s))) (IsReached (Whole (Ok s))) (reached_next (loads start (Ok s)) (changes_outcome h names) status ends.finish_is begins)
                    first_mid first_new second_mid second_new First run.disks);
                bytes =
                    on_ok_map finish (WritesChanges content h names (Ok (loaded s.spec s.tables)) first_mid first_new second_mid second_new) (HoldsChanged h names (Ok s) (content first_new) × (content second_new ≡ content second_old))
                    (λ bytes. (bytes.0 ∙ ap (option_map (file_after h (loaded s.spec s.tables) names)) file, bytes.1 ∙ same)) run.bytes;
              }

          pub case_on : (status : Status) → Loaded (Ok status) → EndsCase content images moment images_since h spec_name dir names start first_old first_new second_old second_new before after finish
          case_on status load =
              let all = parts status (loading h spec_name dir start) load.ends load.disks load.file in
              record {
                ends = all.ends;
                crash = crash_from content images moment images_since first_old first_new second_old second_new start rest First (Whole (loading h spec_name dir start)) all.disks;
                bytes = all.bytes;
              }

  -- ---- from the clauses of the calls

  module _ (names : List (List ℕ)) (first_old first_mid second_old second_mid : D) (before middle : Option (List ℕ)) where
    abbrev Refreshed : Option Held → Result Status Stop → Type 0
    Refreshed held finish = IfSome held (λ (h : Held). (start : Holding) → BothRest content images first_old second_old start → EndsRefresh content images moment images_since h names start first_old first_mid second_old second_mid before middle finish)

    abbrev Changes : Option Held → D → D → Option (List ℕ) → Result Status Stop → Type 0
    Changes held first_new second_new after finish =
        IfSome held (λ (h : Held). (start : Holding) → BothRest content images first_old second_old start → EndsChanges content images moment images_since h names start first_old first_new second_old second_new before after finish)

    pub refresh_stops : (held : Option Held) (stop : Stop) → Refreshed held (Err stop) → Changes held first_mid second_mid middle (Err stop)
    refresh_stops None stop run = tt
    refresh_stops (Some h) stop run = λ start rest. changes_stop names h start first_old second_old before first_mid second_mid middle stop (run start rest)

    pub refresh_reports : (counts : (d : D) → CountsNow content images moment images_since d) (first_new second_new : D) (after : Option (List ℕ)) (finish : Result Status Stop) → content first_new ≡ content first_mid → content second_new ≡ content second_mid
        → Stays content images moment images_since first_mid first_new → Stays content images moment images_since second_mid second_new
        → ((w : Holding) → BothRest content images first_mid second_mid w → EndsAsk content images moment images_since (report_outcome w) first_mid first_new second_mid second_new middle after finish)
        → (held : Option Held) (status : Status) → Refreshed held (Ok status) → Changes held first_new second_new after finish
    refresh_reports counts first_new second_new after finish first_same second_same first_stays second_stays told None status run = tt
    refresh_reports counts first_new second_new after finish first_same second_same first_stays second_stays told (Some h) status run = λ start rest.
        changes_on names h start first_old second_old before first_mid second_mid middle counts first_new second_new after finish first_same second_same first_stays second_stays status (run start rest) told

    module _ (spec_name dir : List ℕ) where
      abbrev Loads : Option Held → Result Status Stop → Type 0
      Loads held finish = IfSome held (λ (h : Held). (start : Holding) → BothRest content images first_old second_old start → EndsLoad content images moment images_since h spec_name dir start first_old first_mid second_old second_mid before middle finish)

      abbrev Cases : Option Held → D → D → Option (List ℕ) → Result Status Stop → Type 0
      Cases held first_new second_new after finish =
          IfSome held (λ (h : Held). (start : Holding) → BothRest content images first_old second_old start → EndsCase content images moment images_since h spec_name dir names start first_old first_new second_old second_new before after finish)

      pub load_stops_all : (held : Option Held) (stop : Stop) → Loads held (Err stop) → Cases held first_mid second_mid middle (Err stop)
      load_stops_all None stop load = tt
      load_stops_all (Some h) stop load = λ start rest. case_stop names spec_name dir h start first_old second_old rest before first_mid second_mid middle stop (load start rest)

      pub load_goes_on : (counts : (d : D) → CountsNow content images moment images_since d) (first_new second_new : D) (after : Option (List ℕ)) (finish : Result Status Stop) → content second_mid ≡ content second_old → (held held_mid : Option Held) → held_mid ≡ held
          → IfSome held_mid (λ (h : Held). (w : Holding) → BothRest content images first_mid second_mid w → EndsChanges content images moment images_since h names w first_mid first_new second_mid second_new middle after finish)
          → (status : Status) → Loads held (Ok status) → Cases held first_new second_new after finish
      load_goes_on counts first_new second_new after finish same None held_mid held_same changes status load = tt
      load_goes_on counts first_new second_new after finish same (Some h) held_mid held_same changes status load = λ start rest.
          case_on names spec_name dir h start first_old second_old rest before first_mid second_mid middle counts first_new second_new after finish same
          (subst
          (λ (o : Option Held). IfSome o (λ (h : Held). (w : Holding) → BothRest content images first_mid second_mid w → EndsChanges content images moment images_since h names w first_mid first_new second_mid second_new middle after finish))
          held_same changes)
          status (load start rest)

  -- ---- a generated case

  module _ (number size : ℕ) (first_old first_new second_old second_new : D) (before after : Option (List ℕ)) where
    pub case_made : (texts : CaseTexts) (names : List (List ℕ)) (finish : Result Status Stop) → texts ≡ made_case number size → names ≡ change_names
        → ((start : Holding) → BothRest content images first_old second_old start → EndsCase content images moment images_since (case_held texts) case_spec case_dir names start first_old first_new second_old second_new before after finish)
        → (start : Holding) → BothRest content images first_old second_old start → EndsMake content images moment images_since number size start first_old first_new second_old second_new before after finish
    case_made texts names finish texts_are names_are ends start rest =
        subst (λ (t : CaseTexts). EndsCase content images moment images_since (case_held t) case_spec case_dir change_names start first_old first_new second_old second_new before after finish) texts_are
        (subst (λ (l : List (List ℕ)). EndsCase content images moment images_since (case_held texts) case_spec case_dir l start first_old first_new second_old second_new before after finish) names_are (ends start rest))

  -- there was no memory for it
  pub case_unmade : (number size : ℕ) (first second : D) (before : Option (List ℕ)) → ((d : D) (c : List ℕ) → images_since d (moment d) c → images d c)
      → (start : Holding) → BothRest content images first second start → EndsMake content images moment images_since number size start first first second second before before (Err NoMemory)
  case_unmade number size first second before only_now start rest =
      let begins = case_start (made_files number size) case_spec case_dir change_names start in
      record {
        ends = record { k = 0; within = omega arith; printed = sym (gained_nothing before); state = subst (BothRest content images first second) (sym begins) rest };
        crash = λ c d left_c left_d. record {
          j = 0;
          within = omega arith;
          is = (λ i. holding (rest.settled_first c (only_now first c left_c) i) (rest.settled_second d (only_now second d left_d) i)) ∙ rest.is ∙ sym begins;
        };
        bytes = tt;
      }

-- a read of files that never fail
pub never_fails : (failed : Bool) → IsCounted failed 0 0 → failed ≡ false
never_fails true rose = absurd (omega (arith, rose.counted))
never_fails false same = refl

-- ---- a case is refused by its load alone

-- what change files leave is held
last_held : (held : Held) (names : List (List ℕ)) (active : Active) → (last : Active) × (last_state (Ok (Some active)) (refresh_pieces held active names) ≡ Ok (Some last))
last_held held [] active = (active, refl)
last_held held (name ∷ names) active = last_held held names (taken held active name).active

changes_done : (held : Held) (names : List (List ℕ)) (active : Active) → (changes_outcome held names (Ok (Some active))).finish ≡ Ok status.Ok
changes_done held names active = let last = last_held held names active in ap (λ (w : Holding). (report_outcome w).finish) last.1

pub case_no_pieces : (held : Held) (spec_name dir : List ℕ) (names : List (List ℕ)) (start : Holding) (stop : Stop) → (case_outcome held spec_name dir names start).finish ≡ Err stop → (case_outcome held spec_name dir names start).pieces ≡ []
case_no_pieces held spec_name dir names start stop is = by (loading held spec_name dir start) is
  where
    by : (found : Result Shown Stop) → (followed (loads start found) (changes_outcome held names)).finish ≡ Err stop → (followed (loads start found) (changes_outcome held names)).pieces ≡ []
    by (Ok s) is = let done = changes_done held names (loaded s.spec s.tables) in absurd (cc (done, is))
    by (Err e) is = refl
