-- How what is asked of a run is shown.
use Rattle.std.proofs.Common.{◌≡◌, ◌∙◌, ◌⊎◌, inl, inr, ⊎_elim, ℕ, zero, suc, max, ◌<◌, ◌≤◌, Bool, false, List, [], ◌∷◌, length, take, Option, Some, refl, sym, ap, subst, arith}
use Rattle.wh_io.specs.Crash.{IsImage, Only}
use Rattle.wh_io.specs.Files.{Held}
use Rattle.wh_io.specs.Sink.{gained}
use Rattle.wh_io.proofs.Gained.{gained_nothing}
use Rattle.wh_io.proofs.Moments.{started}
use Rattle.wh_runs.specs.Outcome.{Contents, Finish, done, refused, read_fault, no_memory, write_fault, disk_fault, texts, last_contents}
use Rattle.wh_runs.specs.Disks.{Form, Disks, Tells, Leaves, Which, first_file, second_file, other, part, with_part, disk_at, CrashPair, at_entry, at_exit, while_other, while_last, Rests, Keeps}
use Rattle.wh_runs.specs.Shown.{WritesPairs, IsSafe, WritesLast, IsUnbegun, MayStop}
use Rattle.wh_runs.specs.Ends.{Seen, Ends, IsReached, StandsOn, CommitsOn}
use Rattle.wh_runs.specs.Program.{Program, Format, Manner, Step, steps_over, step_meaning, AreAllowed, expected, IsLed, IsSound, pieces_by}
use Rattle.wh_runs.specs.Opens.{IsUnwritten, AreUnwritten}
use Rattle.wh_runs.proofs.Kept.{told_left, no_more}
use Rattle.wh_runs.proofs.Means.{means, refused_steps}
use Rattle.wh_runs.proofs.Unwritten.{unwritten_then}

module _ {D : Type 0} (form : Form D) where
  leaves_by : (last : Which) (disks : Disks D) (c : Contents) → form.images (disk_at (other last) disks) (part (other last) c) → form.images (disk_at last disks) (part last c) → Leaves form disks c
  leaves_by first_file disks c a b = record { first = b; second = a }
  leaves_by second_file disks c a b = record { first = a; second = b }

  left_at : (last : Which) (disks : Disks D) (c : Contents) → Leaves form disks c → form.images (disk_at last disks) (part last c)
  left_at first_file disks c left = left.first
  left_at second_file disks c left = left.second

  unwritten_at : (before after : Disks D) → AreUnwritten form before after → (which : Which) → IsUnwritten form (disk_at which before) (disk_at which after)
  unwritten_at before after unwritten first_file = unwritten.first
  unwritten_at before after unwritten second_file = unwritten.second

  no_pair : (is_left : (d : D) → IsImage (form.content d) (form.images d)) (start : Contents) (before after : Disks D) → Tells form before start → AreUnwritten form before after
      → (last : Which) (c : Contents) → CrashPair form last start before after c → Leaves form before c
  no_pair is_left start before after told unwritten last c (at_entry left) = left
  no_pair is_left start before after told unwritten last c (at_exit left) = record { first = unwritten.first.within c.first left.first; second = unwritten.second.within c.second left.second }
  no_pair is_left start before after told unwritten last c (while_other since is) =
      leaves_by last before c ((unwritten_at before after unwritten (other last)).since.each _ since) (subst (form.images (disk_at last before)) (sym is) (left_at last before start (told_left form is_left before start told)))
  no_pair is_left start before after told unwritten last c (while_last other_told since new) = absurd (new ((unwritten_at before after unwritten last).since.each _ since))

  pub unwritten_safe : (is_left : (d : D) → IsImage (form.content d) (form.images d)) (start : Contents) (before after : Disks D) → Tells form before start → AreUnwritten form before after → IsSafe form start before after
  unwritten_safe is_left start before after told unwritten = record {
    kept = record {
      told = record { first = unwritten.first.same ∙ told.first; second = unwritten.second.same ∙ told.second };
      no_more = record { first = unwritten.first.within; second = unwritten.second.within };
    };
    crash = no_pair is_left start before after told unwritten;
  }

  pub same_unwritten : ((d : D) (c : List ℕ) → form.images_since d (form.moment d) c → form.images d c) → (before after : Disks D) → after ≡ before → AreUnwritten form before after
  same_unwritten only_now before after is = subst (λ (d : Disks D). AreUnwritten form before d) (sym is) (record { first = itself before.first; second = itself before.second })
    where
      itself : (d : D) → IsUnwritten form d d
      itself d = record { same = refl; within = λ c left. left; since = started form.images form.moment form.images_since d (form.images d) (only_now d) }

  -- ---- in place

  -- it differs in the last file alone
  beside : (last : Which) (c start : Contents) → part (other last) c ≡ part (other last) start → with_part last (part last c) start ≡ c
  beside first_file c start is = λ i. record { first = c.first; second = sym is i }
  beside second_file c start is = λ i. record { first = sym is i; second = c.second }

  other_rests : (last : Which) (disks : Disks D) (start : Contents) → Rests form disks start → Only (part (other last) start) (form.images (disk_at (other last) disks))
  other_rests first_file disks start rests = rests.second
  other_rests second_file disks start rests = rests.first

  other_told : (last : Which) (disks : Disks D) (start : Contents) → Rests form disks start → form.content (disk_at (other last) disks) ≡ Some (part (other last) start)
  other_told first_file disks start rests = rests.told.second
  other_told second_file disks start rests = rests.told.first

  other_left : (last : Which) (disks : Disks D) (c : Contents) → Leaves form disks c → form.images (disk_at (other last) disks) (part (other last) c)
  other_left first_file disks c left = left.second
  other_left second_file disks c left = left.first

  same_bytes : (o : Option (List ℕ)) (x y : List ℕ) → o ≡ Some x → o ≡ Some y → x ≡ y
  same_bytes o x y a b = cc (a, b)

  module _ (is_left : (d : D) → IsImage (form.content d) (form.images d)) (counts_now : (d : D) (t : ℕ) (c : List ℕ) → t ≤ form.moment d → form.images d c → form.images_since d t c)
      (last : Which) (start : Contents) (before mid after : Disks D) (P : Contents → Type 0) (told : Tells form before start) (opened : AreUnwritten form before mid) (rests : Rests form mid start)
      (writes : WritesLast form last start mid after P) where
    -- the pair is the bytes of the last file beside what the other one held
    has : (c : Contents) → part (other last) c ≡ part (other last) start → P (with_part last (part last c) start) → P c
    has c is p = subst P (beside last c start is) p

    pub in_place : (c : Contents) → CrashPair form last start before after c → P c ⊎ Leaves form before c
    in_place c (at_entry left) = inr left
    in_place c (at_exit left) =
        inl (has c (other_rests last mid start rests _ (writes.others.within _ (other_left last after c left)))
        (writes.this.each _ (counts_now (disk_at last after) (form.moment (disk_at last mid)) _ writes.this.later (left_at last after c left))))
    in_place c (while_other since is) =
        let whole = unwritten_then form (disk_at (other last) before) (disk_at (other last) mid) (disk_at (other last) after) (unwritten_at before mid opened (other last)) writes.others in
        inr (leaves_by last before c (whole.since.each _ since) (subst (form.images (disk_at last before)) (sym is) (left_at last before start (told_left form is_left before start told))))
    in_place c (while_last content since new) =
        let one = unwritten_at before mid opened last in
        ⊎_elim (λ past. absurd (new (one.since.each _ past)))
        (λ p. inl (has c (same_bytes _ _ _ content (writes.others.same ∙ other_told last mid start rests)) p))
        (writes.this.before (form.moment (disk_at last before)) (part last c) one.since.later since)

  -- ---- one file, and behind it the other

  module _ (is_left : (d : D) → IsImage (form.content d) (form.images d)) (last : Which) (start : Contents) (before mid after : Disks D) (P : Contents → Type 0)
      (told : Tells form before start) (opened : AreUnwritten form before mid) (writes : WritesPairs form last start mid after P) where
    one_other : (last : Which) (c : Contents) → part last c ≡ part last start → with_part (other last) (part (other last) c) start ≡ c
    one_other first_file c is = λ i. record { first = sym is i; second = c.second }
    one_other second_file c is = λ i. record { first = c.first; second = sym is i }

    both_parts : (last : Which) (c : Contents) → with_part last (part last c) (with_part (other last) (part (other last) c) start) ≡ c
    both_parts first_file c = refl
    both_parts second_file c = refl

    pub behind : (c : Contents) → CrashPair form last start before after c → P c ⊎ Leaves form before c
    behind c (at_entry left) = inr left
    behind c (at_exit left) = inl (writes.at_exit c left)
    behind c (while_other since is) =
        let one = unwritten_at before mid opened (other last) in
        ⊎_elim (λ past. inr (leaves_by last before c (one.since.each _ past) (subst (form.images (disk_at last before)) (sym is) (left_at last before start (told_left form is_left before start told)))))
        (λ p. inl (subst P (one_other last c is) p)) (writes.other_first.before (form.moment (disk_at (other last) before)) (part (other last) c) one.since.later since)
    behind c (while_last content since new) =
        let one = unwritten_at before mid opened last in
        ⊎_elim (λ past. absurd (new (one.since.each _ past))) (λ p. inl (subst P (both_parts last c) p))
        ((writes.then_last (part (other last) c) content).before (form.moment (disk_at last before)) (part last c) one.since.later since)

-- ---- what is reached is led to

take_allowed : (format : Format) (manner : Manner) (k : ℕ) (steps : List (Step format.Change)) (m : format.Meaning) → AreAllowed format manner steps m → AreAllowed format manner (take k steps) m
take_allowed format manner zero steps m allowed = tt
take_allowed format manner (suc k) [] m allowed = tt
take_allowed format manner (suc k) (step ∷ steps) m allowed = (allowed.0, take_allowed format manner k steps (step_meaning format step.change m) allowed.1)

pub reached_led : (program : Program) → IsSound program → (command : program.Command) (held : Held) (start c : Contents) → (program.profile command).premise (program.format.meaning start)
    → IsReached program.format.meaning (expected program command held start) c
    → IsLed program.format (program.profile command).manner (program.format.meaning start) (program.format.meaning c)
reached_led program sound command held start c premise reached =
    let m = program.format.meaning start in
    let steps = steps_over program command held m in
    record {
      steps = take reached.j steps;
      allowed = take_allowed program.format (program.profile command).manner reached.j steps m (sound.plans command held m premise);
      is = reached.is ∙ means program sound command held start premise reached.j;
    }

-- ---- before anything is done

module _ {F D : Type 0} (form : Form D) (program : Program) (command : program.Command) (held : Held) (start : Contents) (seen : Seen F D)
    (apart : (program.profile command).is_apart ≡ false) (unbegun : IsUnbegun form start seen) where
  nothing : seen.after.out ≡ gained seen.before.out []
  nothing = unbegun.printed ∙ sym (gained_nothing seen.before.out)

  stands : (c : Contents) (k : ℕ) → c ≡ start → k ≡ 0 → StandsOn (program.profile command).is_apart form seen.before.disks seen.after.disks c k
  stands c k is none = subst (λ (b : Bool). StandsOn b form seen.before.disks seen.after.disks c k) (sym apart) (inr (none, subst (Keeps form seen.before.disks seen.after.disks) (sym is) unbegun.kept))

  under_way : (n : ℕ) → 0 < max 1 n
  under_way zero = omega arith
  under_way (suc n) = omega arith

  pub unbegun_ends : (finish : Finish program.Status program.Refusal) → MayStop program command held start finish → Ends program.format.meaning form (expected program command held start) seen finish
  unbegun_ends (done status) may = absurd may
  unbegun_ends (refused reason) may =
      let none = refused_steps program command held start reason may in
      let pieces = λ (steps : List (Step program.format.Change)). pieces_by program.format (program.profile command).manner steps start in
      record {
        is = may;
        printed = nothing ∙ ap (λ (steps : List (Step program.format.Change)). gained seen.before.out (texts (pieces steps))) (sym none);
        state = stands _ _ (ap (λ (steps : List (Step program.format.Change)). last_contents start (pieces steps)) none) (ap (λ (steps : List (Step program.format.Change)). length (pieces steps)) none);
      }
  unbegun_ends (read_fault name) may = record { between = record { k = 0; within = under_way _; printed = nothing; state = stands start 0 refl refl }; named = may }
  unbegun_ends no_memory may = record { k = 0; within = under_way _; printed = nothing; state = stands start 0 refl refl }
  unbegun_ends write_fault may = absurd may
  unbegun_ends disk_fault may = record {
    k = 0;
    within = under_way _;
    printed = nothing;
    state = subst (λ (b : Bool). CommitsOn b program.format.meaning form (expected program command held start) seen.before.disks seen.after.disks 0) (sym apart)
        (λ c left. inr (inr (refl, no_more form seen.before.disks seen.after.disks c unbegun.kept.no_more left)));
  }
