-- What follows of one run.
use Rattle.std.proofs.Common.{◌≡◌, ◌⊎◌, inl, inr, ⊎_elim, ℕ, suc, Bool, true, false, List, [], ◌++◌, length, take, refl, sym, ◌∙◌, ap, subst, arith}
use Rattle.std.proofs.lemmas.List.{take_all}
use Rattle.wh_io.specs.Causes.{Rose}
use Rattle.wh_io.specs.Crash.{IsImage}
use Rattle.wh_io.specs.Files.{Held}
use Rattle.wh_io.specs.Sink.{gained, GainsPrefix}
use Rattle.wh_io.proofs.Gained.{gained_nothing, prefix_whole, prefix_then, prefix_within}
use Rattle.wh_runs.specs.Outcome.{Contents, Piece, Finish, done, refused, read_fault, no_memory, write_fault, disk_fault, is_disk_fault, texts, text_at, contents_after, last_contents}
use Rattle.wh_runs.specs.Disks.{Form, Disks, Tells, Leaves, Rests, Keeps, CrashPair}
use Rattle.wh_runs.specs.Program.{Program, Step, steps_over, expected, HaveNoChange, IsSound}
use Rattle.wh_runs.specs.Ends.{Seen, RestsOn, StandsOn, CommitsOn, IsAround, Ends}
use Rattle.wh_runs.specs.Answers.{IsKnown}
use Rattle.wh_runs.specs.Laws.{IsRunOver, IsLedBy, IsAcknowledged, IsUntouched, IsFaultless, HasNoFault}
use Rattle.wh_runs.proofs.Means.{last_is, texts_more, contents_none, last_none, means}
use Rattle.wh_runs.proofs.Kept.{left_at_rest, no_more, rests_on, stands_on, rests_on_keeps, stands_on_keeps}

known : {D : Type 0} (form : Form D) (apart : Bool) (disks : Disks D) (start : Contents) → Tells form disks start → IsKnown apart form disks start
known form true disks start told = tt
known form false disks start told = told

-- a count that is as before did not rise
not_rose : (before now : ℕ) → IsFaultless before now → Rose before now → ⊥
not_rose before now faultless rose = omega (arith, faultless.counts, faultless.same, rose.counted)

module _ {F D : Type 0} (form : Form D) (program : Program) (command : program.Command) (held : Held) (start : Contents) (seen : Seen F D) where
  abbrev steps : List (Step program.format.Change)
  steps = steps_over program command held (program.format.meaning start)

  abbrev pieces : List Piece
  pieces = (expected program command held start).pieces

  pub commits_on : (b : Bool) (k : ℕ) (c : Contents) → b ≡ false → CommitsOn b program.format.meaning form (expected program command held start) seen.before.disks seen.after.disks k
      → Leaves form seen.after.disks c → IsAround program.format.meaning form (expected program command held start) seen.before.disks k c
  commits_on true k c is state left = absurd state
  commits_on false k c is state left = state c left

  pub ends_of : (finish : Finish program.Status program.Refusal) → IsRunOver form program command held start seen finish
      → Ends program.format.meaning form (expected program command held start) seen finish
  ends_of finish run = run.answers.ends held start run.files_told (known form (program.profile command).is_apart seen.before.disks start run.disks_told) run.premise_met

  pub quiet : IsSound program → (name : List ℕ) → (program.profile command).reads_files ≡ false → IsRunOver form program command held start seen (read_fault name) → ⊥
  quiet sound name none run = let ends = ends_of (read_fault name) run in sound.quiet command none held (program.format.meaning start) ends.between.k name ends.named

  pub faultless : (finish : Finish program.Status program.Refusal) → IsRunOver form program command held start seen finish → HasNoFault form seen
      → ((expected program command held start).finish ≡ finish) ⊎ (finish ≡ no_memory)
  faultless (done status) run none = inl (ends_of (done status) run).is
  faultless (refused reason) run none = inl (ends_of (refused reason) run).is
  faultless (read_fault name) run none = absurd (not_rose _ _ none.files run.answers.read_cause)
  faultless no_memory run none = inr refl
  faultless write_fault run none = absurd (not_rose _ _ none.out run.answers.write_cause)
  faultless disk_fault run none =
      absurd (⊎_elim (λ first. not_rose _ _ none.first first.0) (λ second. not_rose _ _ none.second second.1) run.answers.disk_cause)

  -- ---- commands that change nothing

  module _ (is_left : (d : D) → IsImage (form.content d) (form.images d)) (told : Tells form seen.before.disks start) (none : HaveNoChange steps) where
    abbrev Kept : Type 0
    Kept = Keeps form seen.before.disks seen.after.disks start

    kept_rest : (c : Contents) → c ≡ start → RestsOn (program.profile command).is_apart form seen.before.disks seen.after.disks c → Kept
    kept_rest c is state = rests_on_keeps form is_left seen.before.disks seen.after.disks start told (program.profile command).is_apart c is state

    kept_stand : (c : Contents) (k : ℕ) → c ≡ start → StandsOn (program.profile command).is_apart form seen.before.disks seen.after.disks c k → Kept
    kept_stand c k is state = stands_on_keeps form is_left seen.before.disks seen.after.disks start told (program.profile command).is_apart c k is state

    all_none : last_contents start pieces ≡ start
    all_none = last_none program.format (program.profile command).manner steps start none

    first_none : (k : ℕ) → contents_after start pieces k ≡ start
    first_none k = contents_none program.format (program.profile command).manner steps start k none

    pub asking : (finish : Finish program.Status program.Refusal) → is_disk_fault finish ≡ false → Ends program.format.meaning form (expected program command held start) seen finish → Kept
    asking (done status) no_fault ends = kept_rest _ all_none ends.state
    asking (refused reason) no_fault ends = kept_stand _ _ all_none ends.state
    asking (read_fault name) no_fault ends = kept_stand _ _ (first_none ends.between.k) ends.between.state
    asking no_memory no_fault ends = kept_stand _ _ (first_none ends.k) ends.state
    asking write_fault no_fault ends = kept_rest _ (first_none (suc ends.k)) ends.state
    asking disk_fault no_fault ends = absurd (cc (no_fault))

  -- ---- crashes

  module _ (sound : IsSound program) where
    pub crash_reaches : (finish : Finish program.Status program.Refusal) → IsRunOver form program command held start seen finish
        → (c : Contents) → CrashPair form (program.format.active start) start seen.before.disks seen.after.disks c
        → ((k : ℕ) × IsLedBy program command held start k c) ⊎ Leaves form seen.before.disks c
    crash_reaches finish run c pair =
        ⊎_elim (λ reached. inl (reached.j, reached.is ∙ means program sound command held start run.premise_met reached.j)) (λ left. inr left)
        (run.answers.crash held start run.files_told run.disks_told run.premise_met c pair)

    module _ (apart : (program.profile command).is_apart ≡ false) (premise : (program.profile command).premise (program.format.meaning start)) where
      abbrev Behind : Contents → Type 0
      Behind c = IsAcknowledged program command held start seen c ⊎ IsUntouched form seen c

      at_k : (k : ℕ) (c : Contents) → program.format.meaning c ≡ program.format.meaning (contents_after start pieces k)
          → GainsPrefix seen.before.out seen.after.out (texts (take k pieces)) → IsAcknowledged program command held start seen c
      at_k k c is printed = record { k = k; is = is ∙ means program sound command held start premise k; printed = printed }

      all_taken : take (length pieces) pieces ≡ pieces
      all_taken = take_all (length pieces) pieces (omega arith)

      more_printed : (k : ℕ) → GainsPrefix seen.before.out seen.after.out (texts (take k pieces) ++ text_at pieces k) → GainsPrefix seen.before.out seen.after.out (texts (take (suc k) pieces))
      more_printed k printed = subst (GainsPrefix seen.before.out seen.after.out) (sym (texts_more pieces k)) printed

      untouched : (k : ℕ) (c : Contents) → k ≡ 0 → seen.after.out ≡ gained seen.before.out (texts (take k pieces)) → Leaves form seen.before.disks c → IsUntouched form seen c
      untouched k c none printed left = record {
        left = left;
        printed = printed ∙ ap (λ (j : ℕ). gained seen.before.out (texts (take j pieces))) none ∙ gained_nothing seen.before.out;
      }

      at_rest : (k : ℕ) (c : Contents) → Rests form seen.after.disks (contents_after start pieces k) → Leaves form seen.after.disks c
          → GainsPrefix seen.before.out seen.after.out (texts (take k pieces)) → Behind c
      at_rest k c rests left printed = inl (at_k k c (ap program.format.meaning (left_at_rest form seen.after.disks c _ rests left)) printed)

      standing : (k : ℕ) (c : Contents) → StandsOn (program.profile command).is_apart form seen.before.disks seen.after.disks (contents_after start pieces k) k
          → seen.after.out ≡ gained seen.before.out (texts (take k pieces)) → Leaves form seen.after.disks c → Behind c
      standing k c state printed left =
          ⊎_elim (λ rests. at_rest k c rests left (prefix_whole seen.before.out seen.after.out (texts (take k pieces)) printed))
          (λ kept. inr (untouched k c kept.0 printed (no_more form seen.before.disks seen.after.disks c kept.1.no_more left)))
          (stands_on form (program.profile command).is_apart seen.before.disks seen.after.disks _ k apart state)

      all_printed : seen.after.out ≡ gained seen.before.out (texts pieces) → seen.after.out ≡ gained seen.before.out (texts (take (length pieces) pieces))
      all_printed printed = printed ∙ ap (λ (l : List Piece). gained seen.before.out (texts l)) (sym all_taken)

      around : (k : ℕ) (c : Contents) → seen.after.out ≡ gained seen.before.out (texts (take k pieces))
          → IsAround program.format.meaning form (expected program command held start) seen.before.disks k c → Behind c
      around k c printed (inl is) = inl (at_k k c is (prefix_whole seen.before.out seen.after.out (texts (take k pieces)) printed))
      around k c printed (inr (inl is)) = inl (at_k (suc k) c is
          (more_printed k (prefix_within seen.before.out seen.after.out (texts (take k pieces)) (text_at pieces k) (prefix_whole seen.before.out seen.after.out (texts (take k pieces)) printed))))
      around k c printed (inr (inr kept)) = inr (untouched k c kept.0 printed kept.1)

      pub acknowledged : (finish : Finish program.Status program.Refusal) → Ends program.format.meaning form (expected program command held start) seen finish
          → (c : Contents) → Leaves form seen.after.disks c → Behind c
      acknowledged (done status) ends c left =
          at_rest (length pieces) c (subst (Rests form seen.after.disks) (sym (last_is start pieces)) (rests_on form (program.profile command).is_apart seen.before.disks seen.after.disks _ apart ends.state)) left
          (prefix_whole seen.before.out seen.after.out (texts (take (length pieces) pieces)) (all_printed ends.printed))
      acknowledged (refused reason) ends c left =
          standing (length pieces) c (subst (λ (x : Contents). StandsOn (program.profile command).is_apart form seen.before.disks seen.after.disks x (length pieces)) (sym (last_is start pieces)) ends.state) (all_printed ends.printed) left
      acknowledged (read_fault name) ends c left = standing ends.between.k c ends.between.state ends.between.printed left
      acknowledged no_memory ends c left = standing ends.k c ends.state ends.printed left
      acknowledged write_fault ends c left =
          at_rest (suc ends.k) c (rests_on form (program.profile command).is_apart seen.before.disks seen.after.disks _ apart ends.state) left
          (more_printed ends.k (prefix_then seen.before.out (gained seen.before.out (texts (take ends.k pieces))) seen.after.out (texts (take ends.k pieces)) (text_at pieces ends.k) refl ends.printed))
      acknowledged disk_fault ends c left = around ends.k c ends.printed (commits_on (program.profile command).is_apart ends.k c apart ends.state left)

  -- ---- where nothing is pending at entry

  module _ (rests : Rests form seen.before.disks start) where
    pub left_is : (c : Contents) → Leaves form seen.before.disks c → IsLedBy program command held start 0 c
    left_is c left = ap program.format.meaning (left_at_rest form seen.before.disks c start rests left)

    pub settled : (c : Contents) → ((k : ℕ) × IsLedBy program command held start k c) ⊎ Leaves form seen.before.disks c → (k : ℕ) × IsLedBy program command held start k c
    settled c reached = ⊎_elim (λ led. led) (λ left. (0, left_is c left)) reached

    pub settled_acknowledged : (c : Contents) → IsAcknowledged program command held start seen c ⊎ IsUntouched form seen c → IsAcknowledged program command held start seen c
    settled_acknowledged c behind =
        ⊎_elim (λ acknowledged. acknowledged)
        (λ untouched. record { k = 0; is = left_is c untouched.left; printed = prefix_whole seen.before.out seen.after.out [] (untouched.printed ∙ sym (gained_nothing seen.before.out)) }) behind
