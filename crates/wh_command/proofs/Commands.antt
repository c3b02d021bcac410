-- A command's own clauses, as claims of a run over both disks.
use Rattle.std.proofs.Common.{◌≡◌, ℕ, ◌+◌, ◌≤◌, Bool, true, false, true≢false, List, length, Option, None, Some, IfSome, IfOk, Result, Ok, Err, refl, sym, ◌∙◌, subst, arith}
use Rattle.wh_gen.specs.Files.{case_dir, case_spec, change_names}
use Rattle.wh_io.specs.Files.{Held}
use Rattle.wh_store.specs.Image.{Holding, holding}
use Rattle.wh_command.specs.declared.status.Status.{Status}
use Rattle.wh_command.specs.declared.stop.Stop.{Stop}
use Rattle.wh_command.specs.declared.stop.Stop.TheVariants.{Usage}
use Rattle.wh_command.specs.Ask.{EndsAsk, answered, one_text, query_in, relation_in}
use Rattle.wh_command.specs.Commands.{Command, show, plan, load, refresh, query, dump, audit, report, make, expected, expected_of, is_apart, IsEndStatus}
use Rattle.wh_command.specs.Disks.{BothRest, BothLeave, CrashReaches}
use Rattle.wh_command.specs.Ends.{Ends, EndsBy, Way, whole, between, in_text, in_commit, way_of}
use Rattle.wh_command.specs.Inputs.{IsNextFile}
use Rattle.wh_command.specs.Load.{loading, EndsLoad}
use Rattle.wh_command.specs.Make.{EndsMake, made_files}
use Rattle.wh_command.specs.Outcome.{Outcome, stays}
use Rattle.wh_command.specs.Plan.{plan_texts}
use Rattle.wh_command.specs.Refresh.{EndsRefresh}
use Rattle.wh_command.specs.Report.{audited, reported}
use Rattle.wh_command.specs.Run.{View, EndsFrom, EndsAs, Finishes, Crashes, IsReadBy, LeavesBytes, ReadsOnce}
use Rattle.wh_command.specs.Show.{show_texts}
use Rattle.wh_command.specs.Steps.{NamesRead, is_usage, is_store_stop}
use Rattle.wh_command.proofs.Loads.{loads_start}
use Rattle.wh_command.proofs.Starts.{case_start, stays_start}

-- ---- another claim on the state

module _ (outcome : Outcome) (R Q : Holding → Type 0) (L M : Holding → Holding → Type 0) (rests : (w : Holding) → R w → Q w) (leaves : (v w : Holding) → L v w → M v w) (before after : Option (List ℕ)) where
  by_map : (way : Way) (finish : Result Status Stop) → EndsBy way outcome R L before after finish → EndsBy way outcome Q M before after finish
  by_map whole finish ends = record { finish_is = ends.finish_is; printed = ends.printed; state = rests _ ends.state }
  by_map between finish ends = record { k = ends.k; within = ends.within; printed = ends.printed; state = rests _ ends.state }
  by_map in_text finish ends = record { k = ends.k; within = ends.within; printed = ends.printed; state = rests _ ends.state }
  by_map in_commit finish ends = record { k = ends.k; within = ends.within; printed = ends.printed; state = leaves _ _ ends.state }

  pub ends_map : (finish : Result Status Stop) → Ends outcome R L before after finish → Ends outcome Q M before after finish
  ends_map finish ends = by_map (way_of finish) finish ends

-- ---- where an outcome begins

pub command_start : (command : Command) (h : Held) (w : Holding) → (expected command h w).start ≡ w
command_start (show spec_name dir) h w = stays_start w (show_texts h spec_name dir)
command_start (plan spec_name) h w = stays_start w (plan_texts h spec_name)
command_start (load spec_name dir) h w = loads_start w (loading h spec_name dir w)
command_start (refresh names) h w = refl
command_start (query text) h w = stays_start w (one_text (answered w (query_in text)))
command_start (dump word) h w = stays_start w (one_text (answered w (relation_in word)))
command_start (audit word file) h w = stays_start w (one_text (audited h word file w))
command_start report h w = stays_start w (one_text (reported w))
command_start (make number size) h w = case_start (made_files number size) case_spec case_dir change_names w

pub expected_start : (named : Option Command) (h : Held) (w : Holding) → (expected_of named h w).start ≡ w
expected_start None h w = refl
expected_start (Some command) h w = command_start command h w

-- ---- a command that works apart from the store

abbrev pub FromApart : Command → Option Held → Option (List ℕ) → Option (List ℕ) → Result Status Stop → Type 0
FromApart command held before after finish = IfSome held (λ (h : Held). (start : Holding) → EndsFrom command h start (λ (w : Holding). w ≡ start) (λ (_ _ : Holding). ⊥) before after finish)

pub show_from : (spec_name dir : List ℕ) (held : Option Held) (before after : Option (List ℕ)) (finish : Result Status Stop)
    → IfSome held (λ (h : Held). (start : Holding) → Ends (stays start (show_texts h spec_name dir)) (λ (w : Holding). w ≡ start) (λ (_ _ : Holding). ⊥) before after finish)
    → IfSome held (λ (h : Held). NamesRead (IsNextFile h spec_name dir) finish) → FromApart (show spec_name dir) held before after finish
show_from spec_name dir None before after finish ends names = tt
show_from spec_name dir (Some h) before after finish ends names = λ start. record { ends = ends start; names = names }

pub plan_from : (spec_name : List ℕ) (held : Option Held) (before after : Option (List ℕ)) (finish : Result Status Stop)
    → IfSome held (λ (h : Held). (start : Holding) → Ends (stays start (plan_texts h spec_name)) (λ (w : Holding). w ≡ start) (λ (_ _ : Holding). ⊥) before after finish)
    → NamesRead (λ (file : List ℕ). file ≡ spec_name) finish → FromApart (plan spec_name) held before after finish
plan_from spec_name None before after finish ends names = tt
plan_from spec_name (Some h) before after finish ends names = λ start. record { ends = ends start; names = names }

apart_bytes : {D : Type 0} (content : D → Option (List ℕ)) (command : Command) (h : Held) (start : Holding) (before after : View D) (finish : Result Status Stop) → is_apart command ≡ true → LeavesBytes content command h start before after finish
apart_bytes content (show spec_name dir) h start before after finish apart = tt
apart_bytes content (plan spec_name) h start before after finish apart = tt
apart_bytes content (load spec_name dir) h start before after finish apart = absurd (cc (apart))
apart_bytes content (refresh names) h start before after finish apart = absurd (cc (apart))
apart_bytes content (query text) h start before after finish apart = absurd (cc (apart))
apart_bytes content (dump word) h start before after finish apart = absurd (cc (apart))
apart_bytes content (audit word file) h start before after finish apart = absurd (cc (apart))
apart_bytes content report h start before after finish apart = absurd (cc (apart))
apart_bytes content (make number size) h start before after finish apart = absurd (cc (apart))

module _ {D : Type 0} (content : D → Option (List ℕ)) (images : D → List ℕ → Type 0) (first second : D) where
  over_disks : (command : Command) (held : Option Held) (before after : Option (List ℕ)) (finish : Result Status Stop) → FromApart command held before after finish
      → IfSome held (λ (h : Held). (start : Holding) → BothRest content images first second start → EndsFrom command h start (BothRest content images first second) (BothLeave images first second) before after finish)
  over_disks command None before after finish from = tt
  over_disks command (Some h) before after finish from = λ start rest. record {
    ends = ends_map (expected command h start) _ _ _ _ (λ w is. subst (BothRest content images first second) (sym is) rest) (λ v w none. absurd none) before after finish (from start).ends;
    names = (from start).names;
  }

  bytes_apart : (command : Command) (held : Option Held) (before after : View D) (finish : Result Status Stop) → is_apart command ≡ true
      → IfSome held (λ (h : Held). (start : Holding) → BothRest content images before.first before.second start → LeavesBytes content command h start before after finish)
  bytes_apart command None before after finish apart = tt
  bytes_apart command (Some h) before after finish apart = λ start rest. apart_bytes content command h start before after finish apart

  -- its words finish as it does
  pub apart_finishes : (named : Option Command) (command : Command) (held held_after : Option Held) (before after : Option (List ℕ)) (finish : Result Status Stop) → named ≡ Some command → is_apart command ≡ true
      → is_usage finish ≡ false → IfOk finish (IsEndStatus command) → is_store_stop finish ≡ false → FromApart command held before after finish
      → Finishes content images named (record { held = held; out = before; first = first; second = second }) (record { held = held_after; out = after; first = first; second = second }) finish
  apart_finishes named command held held_after before after finish is apart no_usage done no_store from =
      let ends : EndsAs content images command (record { held = held; out = before; first = first; second = second }) (record { held = held_after; out = after; first = first; second = second }) finish = record {
        no_usage = no_usage;
        done = done;
        from = over_disks command held before after finish from;
        apart = λ _. record { no_store = no_store; first = refl; second = refl; from = from };
        bytes = bytes_apart command held (record { held = held; out = before; first = first; second = second }) (record { held = held_after; out = after; first = first; second = second }) finish apart;
      } in
      subst (λ (o : Option Command). Finishes content images o (record { held = held; out = before; first = first; second = second }) (record { held = held_after; out = after; first = first; second = second }) finish) (sym is) ends

  -- a crash leaves what the disks held
  pub apart_crashes : (moment : D → ℕ) (images_since : D → ℕ → List ℕ → Type 0) (named : Option Command) (held : Option Held) → ((c : List ℕ) → images_since first (moment first) c → images first c)
      → ((c : List ℕ) → images_since second (moment second) c → images second c) → Crashes content images moment images_since named held first first second second
  apart_crashes moment images_since named None only_first only_second = tt
  apart_crashes moment images_since named (Some h) only_first only_second = λ start rest c d left_c left_d. record {
    j = 0;
    within = omega arith;
    is = (λ i. holding (rest.settled_first c (only_first c left_c) i) (rest.settled_second d (only_second d left_d) i)) ∙ rest.is ∙ sym (expected_start named h start);
  }

-- ---- the command `load`

module _ {D : Type 0} (content : D → Option (List ℕ)) (images : D → List ℕ → Type 0) (moment : D → ℕ) (images_since : D → ℕ → List ℕ → Type 0) (spec_name dir : List ℕ) (first_old first_new second_old second_new : D) (before after : Option (List ℕ)) (finish : Result Status Stop) where
  abbrev Loads : Option Held → Type 0
  Loads held = IfSome held (λ (h : Held). (start : Holding) → BothRest content images first_old second_old start → EndsLoad content images moment images_since h spec_name dir start first_old first_new second_old second_new before after finish)

  abbrev view_old : Option Held → View D
  view_old held = record { held = held; out = before; first = first_old; second = second_old }

  abbrev view_new : Option Held → View D
  view_new held = record { held = held; out = after; first = first_new; second = second_new }

  load_from : (held : Option Held) → Loads held
      → IfSome held (λ (h : Held). (start : Holding) → BothRest content images first_old second_old start → EndsFrom (load spec_name dir) h start (BothRest content images first_new second_new) (BothLeave images first_new second_new) before after finish)
  load_from None ends = tt
  load_from (Some h) ends = λ start rest. record { ends = (ends start rest).ends; names = (ends start rest).names }

  load_bytes : (held held_after : Option Held) → content second_new ≡ content second_old → Loads held
      → IfSome held (λ (h : Held). (start : Holding) → BothRest content images first_old second_old start → LeavesBytes content (load spec_name dir) h start (view_old held) (view_new held_after) finish)
  load_bytes None held_after same ends = tt
  load_bytes (Some h) held_after same ends = λ start rest. ((ends start rest).file, same)

  pub load_finishes : (named : Option Command) (held held_after : Option Held) → named ≡ Some (load spec_name dir) → is_usage finish ≡ false → IfOk finish (IsEndStatus (load spec_name dir)) → content second_new ≡ content second_old → Loads held
      → Finishes content images named (view_old held) (view_new held_after) finish
  load_finishes named held held_after is no_usage done same ends =
      let ends_as : EndsAs content images (load spec_name dir) (view_old held) (view_new held_after) finish = record {
        no_usage = no_usage;
        done = done;
        from = load_from held ends;
        apart = λ apart. absurd (cc (apart));
        bytes = load_bytes held held_after same ends;
      } in
      subst (λ (o : Option Command). Finishes content images o (view_old held) (view_new held_after) finish) (sym is) ends_as

  pub load_crashes : (named : Option Command) (held : Option Held) → named ≡ Some (load spec_name dir) → Loads held → Crashes content images moment images_since named held first_old first_new second_old second_new
  load_crashes named None is ends = tt
  load_crashes named (Some h) is ends = λ start rest.
      subst (λ (o : Option Command). CrashReaches moment images_since (expected_of o h start) first_old first_new second_old second_new) (sym is) (ends start rest).crash

-- ---- the command `refresh`

module _ {D : Type 0} (content : D → Option (List ℕ)) (images : D → List ℕ → Type 0) (moment : D → ℕ) (images_since : D → ℕ → List ℕ → Type 0) (names : List (List ℕ)) (first_old first_new second_old second_new : D) (before after : Option (List ℕ)) (finish : Result Status Stop) where
  abbrev Refreshes : Option Held → Type 0
  Refreshes held = IfSome held (λ (h : Held). (start : Holding) → BothRest content images first_old second_old start → EndsRefresh content images moment images_since h names start first_old first_new second_old second_new before after finish)

  abbrev taken_old : Option Held → View D
  taken_old held = record { held = held; out = before; first = first_old; second = second_old }

  abbrev taken_new : Option Held → View D
  taken_new held = record { held = held; out = after; first = first_new; second = second_new }

  refresh_from : (held : Option Held) → Refreshes held
      → IfSome held (λ (h : Held). (start : Holding) → BothRest content images first_old second_old start → EndsFrom (refresh names) h start (BothRest content images first_new second_new) (BothLeave images first_new second_new) before after finish)
  refresh_from None ends = tt
  refresh_from (Some h) ends = λ start rest. record { ends = (ends start rest).ends; names = (ends start rest).under_way }

  refresh_bytes : (held held_after : Option Held) → Refreshes held
      → IfSome held (λ (h : Held). (start : Holding) → BothRest content images first_old second_old start → LeavesBytes content (refresh names) h start (taken_old held) (taken_new held_after) finish)
  refresh_bytes None held_after ends = tt
  refresh_bytes (Some h) held_after ends = λ start rest. (ends start rest).bytes

  pub refresh_finishes : (named : Option Command) (held held_after : Option Held) → named ≡ Some (refresh names) → is_usage finish ≡ false → IfOk finish (IsEndStatus (refresh names)) → Refreshes held
      → Finishes content images named (taken_old held) (taken_new held_after) finish
  refresh_finishes named held held_after is no_usage done ends =
      let ends_as : EndsAs content images (refresh names) (taken_old held) (taken_new held_after) finish = record {
        no_usage = no_usage;
        done = done;
        from = refresh_from held ends;
        apart = λ apart. absurd (cc (apart));
        bytes = refresh_bytes held held_after ends;
      } in
      subst (λ (o : Option Command). Finishes content images o (taken_old held) (taken_new held_after) finish) (sym is) ends_as

  pub refresh_crashes : (named : Option Command) (held : Option Held) → named ≡ Some (refresh names) → Refreshes held → Crashes content images moment images_since named held first_old first_new second_old second_new
  refresh_crashes named None is ends = tt
  refresh_crashes named (Some h) is ends = λ start rest.
      subst (λ (o : Option Command). CrashReaches moment images_since (expected_of o h start) first_old first_new second_old second_new) (sym is) (ends start rest).crash

-- what is read of the disks
abbrev is_refresh : Command → Bool
is_refresh (refresh names) = true
is_refresh other = false

module _ {D : Type 0} (content : D → Option (List ℕ)) (reads : D → ℕ) (first_old first_new second_old second_new : D) where
  abbrev Reads : Option Command → Type 0
  Reads named = ReadsOnce content reads named first_old first_new second_old second_new

  other_reads : (command : Command) → is_refresh command ≡ false → Reads (Some command)
  other_reads (refresh names) other = absurd (cc (other))
  other_reads command other = tt

  pub no_reads : (named : Option Command) → named ≡ None → Reads named
  no_reads named is = subst Reads (sym is) tt

  pub reads_unless : (named : Option Command) (command : Command) → named ≡ Some command → is_refresh command ≡ false → Reads named
  reads_unless named command is other = subst Reads (sym is) (other_reads command other)

  pub named_reads : (command : Command) (named : Option Command) → Some command ≡ named → Reads (Some command) → Reads named
  named_reads command named is reads_once = subst Reads is reads_once

  pub refresh_reads : (named : Option Command) (names : List (List ℕ)) → named ≡ Some (refresh names) → IfSome (content first_old) (λ (a : List ℕ). reads first_new ≤ reads first_old + length a)
      → IfSome (content second_old) (λ (b : List ℕ). reads second_new ≤ reads second_old + length b) → Reads named
  refresh_reads named names is first second = subst Reads (sym is) (first, second)

-- ---- a command that asks of the store

pub each_held : (held : Option Held) (P : Held → Type 0) → ((h : Held) → P h) → IfSome held P
each_held None P all = tt
each_held (Some h) P all = all h

module _ {D : Type 0} (content : D → Option (List ℕ)) (images : D → List ℕ → Type 0) (moment : D → ℕ) (images_since : D → ℕ → List ℕ → Type 0) (first_old first_new second_old second_new : D) (before after : Option (List ℕ)) (finish : Result Status Stop) where
  abbrev asked_old : Option Held → View D
  asked_old held = record { held = held; out = before; first = first_old; second = second_old }

  abbrev asked_new : Option Held → View D
  asked_new held = record { held = held; out = after; first = first_new; second = second_new }

  module _ (command : Command) where
    abbrev AsksAs : Option Held → Type 0
    AsksAs held = IfSome held (λ (h : Held). (start : Holding) → BothRest content images first_old second_old start → EndsAsk content images moment images_since (expected command h start) first_old first_new second_old second_new before after finish)

    abbrev NamesAs : Option Held → Type 0
    NamesAs held = IfSome held (λ (h : Held). (start : Holding) → BothRest content images first_old second_old start → NamesRead (IsReadBy command h start before after) finish)

    asked_from : (held : Option Held) → AsksAs held → NamesAs held
        → IfSome held (λ (h : Held). (start : Holding) → BothRest content images first_old second_old start → EndsFrom command h start (BothRest content images first_new second_new) (BothLeave images first_new second_new) before after finish)
    asked_from None ends names = tt
    asked_from (Some h) ends names = λ start rest. record { ends = (ends start rest).ends; names = names start rest }

    asked_bytes : (held held_after : Option Held) → ((h : Held) (start : Holding) → LeavesBytes content command h start (asked_old held) (asked_new held_after) finish)
        → IfSome held (λ (h : Held). (start : Holding) → BothRest content images first_old second_old start → LeavesBytes content command h start (asked_old held) (asked_new held_after) finish)
    asked_bytes None held_after bytes = tt
    asked_bytes (Some h) held_after bytes = λ start rest. bytes h start

    pub asked_finishes : (named : Option Command) (held held_after : Option Held) → named ≡ Some command → is_apart command ≡ false → is_usage finish ≡ false → IfOk finish (IsEndStatus command)
        → ((h : Held) (start : Holding) → LeavesBytes content command h start (asked_old held) (asked_new held_after) finish) → AsksAs held → NamesAs held → Finishes content images named (asked_old held) (asked_new held_after) finish
    asked_finishes named held held_after is on_store no_usage done bytes ends names =
        let ends_as : EndsAs content images command (asked_old held) (asked_new held_after) finish = record {
          no_usage = no_usage;
          done = done;
          from = asked_from held ends names;
          apart = λ apart. absurd (true≢false (sym apart ∙ on_store));
          bytes = asked_bytes held held_after bytes;
        } in
        subst (λ (o : Option Command). Finishes content images o (asked_old held) (asked_new held_after) finish) (sym is) ends_as

    asked_leaves : (held : Option Held) → AsksAs held → Crashes content images moment images_since (Some command) held first_old first_new second_old second_new
    asked_leaves None ends = tt
    asked_leaves (Some h) ends = λ start rest. (ends start rest).crash

    pub asked_crashes : (named : Option Command) (held : Option Held) → named ≡ Some command → AsksAs held → Crashes content images moment images_since named held first_old first_new second_old second_new
    asked_crashes named held is ends = subst (λ (o : Option Command). Crashes content images moment images_since o held first_old first_new second_old second_new) (sym is) (asked_leaves held ends)

-- ---- the command `make`

module _ {D : Type 0} (content : D → Option (List ℕ)) (images : D → List ℕ → Type 0) (moment : D → ℕ) (images_since : D → ℕ → List ℕ → Type 0) (number size : ℕ) (first_old first_new second_old second_new : D) (before after : Option (List ℕ)) (finish : Result Status Stop)
    (ends : (start : Holding) → BothRest content images first_old second_old start → EndsMake content images moment images_since number size start first_old first_new second_old second_new before after finish) where
  abbrev made_old : Option Held → View D
  made_old held = record { held = held; out = before; first = first_old; second = second_old }

  abbrev made_new : Option Held → View D
  made_new held = record { held = held; out = after; first = first_new; second = second_new }

  pub make_finishes : (named : Option Command) (held held_after : Option Held) → named ≡ Some (make number size) → is_usage finish ≡ false → IfOk finish (IsEndStatus (make number size)) → NamesRead (λ (file : List ℕ). ⊥) finish
      → Finishes content images named (made_old held) (made_new held_after) finish
  make_finishes named held held_after is no_usage done names =
      let ends_as : EndsAs content images (make number size) (made_old held) (made_new held_after) finish = record {
        no_usage = no_usage;
        done = done;
        from = each_held held _ (λ h start rest. record { ends = (ends start rest).ends; names = names });
        apart = λ apart. absurd (cc (apart));
        bytes = each_held held _ (λ h start rest. (ends start rest).bytes);
      } in
      subst (λ (o : Option Command). Finishes content images o (made_old held) (made_new held_after) finish) (sym is) ends_as

  pub make_crashes : (named : Option Command) (held : Option Held) → named ≡ Some (make number size) → Crashes content images moment images_since named held first_old first_new second_old second_new
  make_crashes named held is =
      subst (λ (o : Option Command). Crashes content images moment images_since o held first_old first_new second_old second_new) (sym is) (each_held held _ (λ h start rest. (ends start rest).crash))

-- ---- words that name a command, and words that name none

pub named_finishes : {D : Type 0} (content : D → Option (List ℕ)) (images : D → List ℕ → Type 0) (command : Command) (named : Option Command) (before after : View D) (finish : Result Status Stop) → Some command ≡ named → EndsAs content images command before after finish
    → Finishes content images named before after finish
named_finishes content images command named before after finish is ends = subst (λ (o : Option Command). Finishes content images o before after finish) is ends

pub named_crashes : {D : Type 0} (content : D → Option (List ℕ)) (images : D → List ℕ → Type 0) (moment : D → ℕ) (images_since : D → ℕ → List ℕ → Type 0) (command : Command) (named : Option Command) (held : Option Held) (first_old first_new second_old second_new : D) → Some command ≡ named
    → Crashes content images moment images_since (Some command) held first_old first_new second_old second_new → Crashes content images moment images_since named held first_old first_new second_old second_new
named_crashes content images moment images_since command named held first_old first_new second_old second_new is leaves = subst (λ (o : Option Command). Crashes content images moment images_since o held first_old first_new second_old second_new) is leaves

pub none_finishes : {D : Type 0} (content : D → Option (List ℕ)) (images : D → List ℕ → Type 0) (named : Option Command) (view : View D) → named ≡ None → Finishes content images named view view (Err Usage)
none_finishes content images named view is = subst (λ (o : Option Command). Finishes content images o view view (Err Usage)) (sym is) (refl, refl, refl, refl)
