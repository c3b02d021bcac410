-- What may be left behind a history of runs.
use Rattle.std.proofs.Common.{◌≡◌, ◌⊎◌, inl, inr, ⊎_elim, ℕ, suc, Bool, true, false, List, [], ◌∷◌, length, take, refl, sym, ◌∙◌, ap, subst, arith}
use Rattle.std.proofs.lemmas.List.{take_all}
use Rattle.wh_io.specs.Crash.{IsImage}
use Rattle.wh_io.proofs.Gained.{gained_nothing}
use Rattle.wh_io.specs.Sink.{gained}
use Rattle.wh_runs.specs.Outcome.{Contents, empty, Finish, done, refused, read_fault, no_memory, write_fault, disk_fault, is_disk_fault, texts, contents_after, last_contents}
use Rattle.wh_runs.specs.Disks.{Form, Disks, Leaves, Rests, CrashPair}
use Rattle.wh_runs.specs.Program.{Program, Step, steps_over, expected, led, pieces_by, IsSound}
use Rattle.wh_runs.specs.Ends.{EndsDone, EndsRefused, EndsBetween, EndsInText, EndsInCommit, IsAround, Ends}
use Rattle.wh_runs.specs.Laws.{IsRunOver, IsLedBy, Headline}
use Rattle.wh_runs.specs.History.{Stop, exits, cut, Run, IsRun, IsCut, Begins, BeginsOn, IsHistory, IsLeft, first_steps, MadeWhole, MadeNothing, MadeBetween, MadeInText, MadeInCommit, MadeBy, Makes, IsMade}
use Rattle.wh_runs.proofs.Means.{led_none, take_none, refused_steps, means, means_last}
use Rattle.wh_runs.proofs.Kept.{left_at_rest, no_more, told_left, rests_on, stands_on}
use Rattle.wh_runs.proofs.OneRun.{ends_of, commits_on, crash_reaches}

carry : {D : Type 0} (form : Form D) (stop : Stop) (after before : Disks D) (start c : Contents) → Begins form after stop before start → Leaves form before c → IsLeft form after stop c
carry form exits after before start c begins left = no_more form after before c begins.1 left
carry form (cut pair) after before start c begins left = left_at_rest form before c pair begins.0 left

module _ {F D : Type 0} (form : Form D) (program : Program) (sound : IsSound program) (run : Run F D program) (Older : program.format.Meaning → Type 0)
    (entry : (c : Contents) → Leaves form run.seen.before.disks c → Older (program.format.meaning c))
    (runs : IsRunOver form program run.command run.held run.start run.seen run.finish) (at_start : Older (program.format.meaning run.start)) where
  abbrev Behind : (program.format.Meaning → program.format.Meaning → Type 0) → Contents → Type 0
  Behind Made c = (s : program.format.Meaning) × Older s × Made s (program.format.meaning c)

  abbrev outcome_start : program.format.Meaning
  outcome_start = program.format.meaning run.start

  -- ---- a command on the two files

  module _ (apart : (program.profile run.command).is_apart ≡ false) where
    -- its first k pieces lead to it
    led_to : (k : ℕ) (c : Contents) → program.format.meaning c ≡ program.format.meaning (contents_after run.start (expected program run.command run.held run.start).pieces k)
        → program.format.meaning c ≡ first_steps program run outcome_start k
    led_to k c is = is ∙ means program sound run.command run.held run.start runs.premise_met k

    rests_to : (k : ℕ) (c : Contents) → Rests form run.seen.after.disks (contents_after run.start (expected program run.command run.held run.start).pieces k) → Leaves form run.seen.after.disks c
        → program.format.meaning c ≡ first_steps program run outcome_start k
    rests_to k c rests left = led_to k c (ap program.format.meaning (left_at_rest form run.seen.after.disks c _ rests left))

    -- nothing was done
    none_to : (k : ℕ) (m : program.format.Meaning) → k ≡ 0 → m ≡ first_steps program run m k
    none_to k m none = subst (λ (j : ℕ). m ≡ first_steps program run m j) (sym none) refl

    whole : (status : program.Status) → EndsDone form (expected program run.command run.held run.start) run.seen status → (c : Contents) → Leaves form run.seen.after.disks c → Behind (MadeWhole program run) c
    whole status ends c left = (
      outcome_start,
      at_start,
      record {
        printed = ends.printed;
        is = ap program.format.meaning (left_at_rest form run.seen.after.disks c _ (rests_on form (program.profile run.command).is_apart run.seen.before.disks run.seen.after.disks _ apart ends.state) left)
            ∙ means_last program sound run.command run.held run.start runs.premise_met;
      },
    )

    between : EndsBetween form (expected program run.command run.held run.start) run.seen → (c : Contents) → Leaves form run.seen.after.disks c → Behind (MadeBetween program run) c
    between ends c left =
        ⊎_elim (λ rests. (outcome_start, at_start, record { k = ends.k; within = ends.within; printed = ends.printed; is = rests_to ends.k c rests left }))
        (λ kept. (
          program.format.meaning c,
          entry c (no_more form run.seen.before.disks run.seen.after.disks c kept.1.no_more left),
          record { k = ends.k; within = ends.within; printed = ends.printed; is = none_to ends.k (program.format.meaning c) kept.0 },
        ))
        (stands_on form (program.profile run.command).is_apart run.seen.before.disks run.seen.after.disks _ ends.k apart ends.state)

    in_text : EndsInText form (expected program run.command run.held run.start) run.seen → (c : Contents) → Leaves form run.seen.after.disks c → Behind (MadeInText program run) c
    in_text ends c left = (
      outcome_start,
      at_start,
      record {
        k = ends.k;
        within = ends.within;
        printed = ends.printed;
        is = rests_to (suc ends.k) c (rests_on form (program.profile run.command).is_apart run.seen.before.disks run.seen.after.disks _ apart ends.state) left;
      },
    )

    in_commit : EndsInCommit program.format.meaning form (expected program run.command run.held run.start) run.seen → (c : Contents) → Leaves form run.seen.after.disks c → Behind (MadeInCommit program run) c
    in_commit ends c left = by_case (commits_on form program run.command run.held run.start run.seen (program.profile run.command).is_apart ends.k c apart ends.state left)
      where
        by_case : IsAround program.format.meaning form (expected program run.command run.held run.start) run.seen.before.disks ends.k c → Behind (MadeInCommit program run) c
        by_case (inl is) = (outcome_start, at_start, record { k = ends.k; within = ends.within; printed = ends.printed; is = inl (led_to ends.k c is) })
        by_case (inr (inl is)) = (outcome_start, at_start, record { k = ends.k; within = ends.within; printed = ends.printed; is = inr (led_to (suc ends.k) c is) })
        by_case (inr (inr kept)) = (program.format.meaning c, entry c kept.1, record { k = ends.k; within = ends.within; printed = ends.printed; is = inl (none_to ends.k (program.format.meaning c) kept.0) })

    -- a refusal has no pieces, so nothing was printed and the contents are as at entry
    turned : (reason : program.Refusal) → EndsRefused form (expected program run.command run.held run.start) run.seen reason → (c : Contents) → Leaves form run.seen.after.disks c → Behind (MadeNothing program run) c
    turned reason ends c left =
        let none = refused_steps program run.command run.held run.start reason ends.is in
        let printed = ends.printed
        ∙ ap (λ (steps : List (Step program.format.Change)). gained run.seen.before.out (texts (pieces_by program.format (program.profile run.command).manner steps run.start))) none
        ∙ gained_nothing run.seen.before.out in
        let same = ap (λ (steps : List (Step program.format.Change)). last_contents run.start (pieces_by program.format (program.profile run.command).manner steps run.start)) none in
        ⊎_elim (λ rests. (outcome_start, at_start, record { printed = printed; is = ap program.format.meaning (left_at_rest form run.seen.after.disks c _ rests left ∙ same) }))
        (λ kept. (program.format.meaning c, entry c (no_more form run.seen.before.disks run.seen.after.disks c kept.1.no_more left), record { printed = printed; is = refl }))
        (stands_on form (program.profile run.command).is_apart run.seen.before.disks run.seen.after.disks _ _ apart ends.state)

    on_files : (finish : Finish program.Status program.Refusal) → Ends program.format.meaning form (expected program run.command run.held run.start) run.seen finish
        → (c : Contents) → Leaves form run.seen.after.disks c → Behind (MadeBy program run finish) c
    on_files (done status) ends c left = whole status ends c left
    on_files (refused reason) ends c left = turned reason ends c left
    on_files (read_fault name) ends c left = between ends.between c left
    on_files no_memory ends c left = between ends c left
    on_files write_fault ends c left = in_text ends c left
    on_files disk_fault ends c left = in_commit ends c left

  -- ---- a command that leaves the two files alone

  module _ (apart : (program.profile run.command).is_apart ≡ true) (c : Contents) (left : Leaves form run.seen.after.disks c) where
    left_before : Leaves form run.seen.before.disks c
    left_before = subst (λ (disks : Disks D). Leaves form disks c) (runs.answers.apart apart).disks left

    abbrev here : program.format.Meaning
    here = program.format.meaning c

    older : Older here
    older = entry c left_before

    led_nowhere : (k : ℕ) → here ≡ first_steps program run here k
    led_nowhere k = sym (led_none program.format (take k (steps_over program run.command run.held here)) here (take_none k (steps_over program run.command run.held here) (sound.apart run.command apart run.held here)))

    all_nowhere : here ≡ led program.format here (steps_over program run.command run.held here)
    all_nowhere = sym (led_none program.format (steps_over program run.command run.held here) here (sound.apart run.command apart run.held here))

    nothing_printed : (reason : program.Refusal) → EndsRefused form (expected program run.command run.held run.start) run.seen reason → run.seen.after.out ≡ run.seen.before.out
    nothing_printed reason ends =
        ends.printed
        ∙ ap (λ (steps : List (Step program.format.Change)). gained run.seen.before.out (texts (pieces_by program.format (program.profile run.command).manner steps run.start)))
        (refused_steps program run.command run.held run.start reason ends.is)
        ∙ gained_nothing run.seen.before.out

    off_files : (finish : Finish program.Status program.Refusal) → is_disk_fault finish ≡ false → Ends program.format.meaning form (expected program run.command run.held run.start) run.seen finish
        → Behind (MadeBy program run finish) c
    off_files (done status) blames ends = (here, older, record { printed = ends.printed; is = all_nowhere })
    off_files (refused reason) blames ends = (here, older, record { printed = nothing_printed reason ends; is = refl })
    off_files (read_fault name) blames ends = (here, older, record { k = ends.between.k; within = ends.between.within; printed = ends.between.printed; is = led_nowhere ends.between.k })
    off_files no_memory blames ends = (here, older, record { k = ends.k; within = ends.within; printed = ends.printed; is = led_nowhere ends.k })
    off_files write_fault blames ends = (here, older, record { k = ends.k; within = ends.within; printed = ends.printed; is = led_nowhere (suc ends.k) })
    off_files disk_fault blames ends = absurd (cc (blames))

  -- ---- any command

  ended : (b : Bool) → (program.profile run.command).is_apart ≡ b → (c : Contents) → Leaves form run.seen.after.disks c → Behind (MadeBy program run run.finish) c
  ended true apart c left = off_files apart c left run.finish (runs.answers.apart apart).no_disk_fault (ends_of form program run.command run.held run.start run.seen run.finish runs)
  ended false apart c left = on_files apart run.finish (ends_of form program run.command run.held run.start run.seen run.finish runs) c left

  crashed : (pair c : Contents) → CrashPair form (program.format.active run.start) run.start run.seen.before.disks run.seen.after.disks pair → c ≡ pair → Behind (Makes program run (cut pair)) c
  crashed pair c is_cut is = subst (λ (x : Contents). Behind (Makes program run (cut pair)) x) (sym is) (by_case (crash_reaches form program run.command run.held run.start run.seen sound run.finish runs pair is_cut))
    where
      by_case : ((k : ℕ) × IsLedBy program run.command run.held run.start k pair) ⊎ Leaves form run.seen.before.disks pair → Behind (Makes program run (cut pair)) pair
      by_case (inl led) = (outcome_start, at_start, led)
      by_case (inr left) = (program.format.meaning pair, entry pair left, (0, refl))

  pub stopped : (stop : Stop) → IsCut form program run stop → (c : Contents) → IsLeft form run.seen.after.disks stop c → Behind (Makes program run stop) c
  stopped exits is_cut c left = ended (program.profile run.command).is_apart refl c left
  stopped (cut pair) is_cut c left = crashed pair c is_cut left

-- ---- what only these commands have written

module _ {F D : Type 0} (program : Program) (sound : IsSound program) (run : Run F D program) where
  first_stands : (s m : program.format.Meaning) (k : ℕ) → program.stands s → m ≡ first_steps program run s k → program.stands m
  first_stands s m k stands is = subst program.stands (sym is) (sound.stays run.command run.held s k stands)

  all_stand : (s m : program.format.Meaning) → program.stands s → m ≡ led program.format s (steps_over program run.command run.held s) → program.stands m
  all_stand s m stands is =
      let steps = steps_over program run.command run.held s in
      first_stands s m (length steps) stands (is ∙ ap (led program.format s) (sym (take_all (length steps) steps (omega arith))))

  by_stand : (finish : Finish program.Status program.Refusal) (s m : program.format.Meaning) → program.stands s → MadeBy program run finish s m → program.stands m
  by_stand (done status) s m stands made = all_stand s m stands made.is
  by_stand (refused reason) s m stands made = subst program.stands (sym made.is) stands
  by_stand (read_fault name) s m stands made = first_stands s m made.k stands made.is
  by_stand no_memory s m stands made = first_stands s m made.k stands made.is
  by_stand write_fault s m stands made = first_stands s m (suc made.k) stands made.is
  by_stand disk_fault s m stands made = ⊎_elim (λ is. first_stands s m made.k stands is) (λ is. first_stands s m (suc made.k) stands is) made.is

  pub made_stands : (stop : Stop) (s m : program.format.Meaning) → program.stands s → Makes program run stop s m → program.stands m
  made_stands exits s m stands made = by_stand run.finish s m stands made
  made_stands (cut pair) s m stands made = first_stands s m made.0 stands made.1

-- ---- any history

module _ {F D : Type 0} (form : Form D) (is_left : (d : D) → IsImage (form.content d) (form.images d)) (program : Program) (sound : IsSound program) where
  -- made of nothing by these runs, and so what such files mean
  abbrev IsMadeSo : List (Run F D program) → program.format.Meaning → Type 0
  IsMadeSo runs m = IsMade program runs m × program.stands m

  runs_over : (run : Run F D program) → IsRun form program run → ((c : Contents) → Leaves form run.seen.before.disks c → program.stands (program.format.meaning c))
      → IsRunOver form program run.command run.held run.start run.seen run.finish
  runs_over run is entry = record {
    files_told = is.held;
    disks_told = is.told;
    premise_met = sound.meets run.command (program.format.meaning run.start) (entry run.start (told_left form is_left run.seen.before.disks run.start is.told));
    answers = is.answers;
  }

  behind : (run : Run F D program) (older : List (Run F D program)) → IsRun form program run → IsCut form program run run.stop
      → ((c : Contents) → Leaves form run.seen.before.disks c → IsMadeSo older (program.format.meaning c))
      → (c : Contents) → IsLeft form run.seen.after.disks run.stop c → IsMadeSo (run ∷ older) (program.format.meaning c)
  behind run older is is_cut entry c left =
      let over = runs_over run is (λ d at_entry. (entry d at_entry).1) in
      let step = stopped form program sound run (IsMadeSo older) entry over (entry run.start (told_left form is_left run.seen.before.disks run.start is.told)) run.stop is_cut c left in
      ((step.0, step.1.0, step.2), made_stands program sound run run.stop step.0 (program.format.meaning c) step.1.1 step.2)

  made : (runs : List (Run F D program)) → IsHistory form program runs → (before : Disks D) (start : Contents) → BeginsOn form program runs before start
      → (c : Contents) → Leaves form before c → IsMadeSo runs (program.format.meaning c)
  made [] history before start begins c left =
      let is = ap program.format.meaning (left_at_rest form before c empty begins.0 left) in
      (is, subst program.stands (sym is) sound.begins)
  made (run ∷ older) history before start begins c left =
      behind run older history.0 history.2 (made older history.3 run.seen.before.disks run.start history.1) c (carry form run.stop run.seen.after.disks before start c begins left)

  pub headline : Headline F form program
  headline = record {
    left = λ run older history c left. (behind run older history.0 history.2 (made older history.3 run.seen.before.disks run.start history.1) c left).0;
    stands = λ run older history c left. (behind run older history.0 history.2 (made older history.3 run.seen.before.disks run.start history.1) c left).1;
    start = λ run older history. (made older history.3 run.seen.before.disks run.start history.1 run.start (told_left form is_left run.seen.before.disks run.start history.0.told)).0;
    premise = λ run older history. sound.meets run.command (program.format.meaning run.start)
        (made older history.3 run.seen.before.disks run.start history.1 run.start (told_left form is_left run.seen.before.disks run.start history.0.told)).1;
  }
