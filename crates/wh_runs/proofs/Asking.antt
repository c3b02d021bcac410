-- The counter's question answers what it should.
use Rattle.std.proofs.Common.{◌≡◌, inr, ℕ, ◌%◌, zero, suc, List, [], ◌∷◌, false, Option, Result, Ok, Err, refl, sym, ◌∙◌, subst, arith}
use Rattle.wh_io.specs.Causes.{IsCounted, IsCountedPair}
use Rattle.wh_io.specs.Crash.{IsImage}
use Rattle.wh_io.specs.Files.{Held}
use Rattle.wh_io.specs.Sink.{gained, GainsPrefix}
use Rattle.wh_io.proofs.Gained.{gained_nothing}
use Rattle.wh_runs.specs.declared.counter.NoAnswer.{NoAnswer}
use Rattle.wh_runs.specs.declared.counter.NoAnswer.TheVariants.{NotCreated, WriteFault, DiskFault}
use Rattle.wh_runs.specs.Outcome.{Contents, Outcome, Finish, done, refused, read_fault, no_memory, write_fault, disk_fault, is_read_fault, is_write_fault, is_disk_fault}
use Rattle.wh_runs.specs.Disks.{Form, Disks, Keeps}
use Rattle.wh_runs.specs.Program.{in_place, steps_of, finish_of, pieces_by}
use Rattle.wh_runs.specs.Ends.{Seen, Ends}
use Rattle.wh_runs.specs.Answers.{Answers, OnDone}
use Rattle.wh_runs.specs.Asked.{ask_finish, Prints, RestsUnless, AnswersQuestion}
use Rattle.wh_runs.specs.Counter.{ask, Refusal, planned, format, counter, count_in}
use Rattle.wh_runs.specs.Opens.{AreUnwritten}
use Rattle.wh_runs.proofs.Showing.{unwritten_safe}
use Rattle.wh_runs.proofs.Kept.{no_more}

module _ {F D : Type 0} (form : Form D) (files : F) (held_now : Option Held) (faults : ℕ) (out out_after : Option (List ℕ)) (out_faults out_faults_after : ℕ) (before after : Disks D) where
  abbrev seen : Seen F D
  seen = record {
    before = record { files = files; held = held_now; files_faults = faults; out = out; out_faults = out_faults; disks = before };
    after = record { files = files; held = held_now; files_faults = faults; out = out_after; out_faults = out_faults_after; disks = after };
  }

  -- what the question comes to where the files count so
  abbrev outcome_at : Held → Contents → ℕ → Outcome (Unit {0}) Refusal
  outcome_at held start m = record {
    start = start;
    pieces = pieces_by format in_place (steps_of (planned ask held m)) start;
    finish = finish_of (planned ask held m);
    is_apart = false;
    may_read = λ k name. ⊥;
  }

  nothing : out_after ≡ out → out_after ≡ gained out []
  nothing same = same ∙ sym (gained_nothing out)

  ends_at : (held : Held) (start : Contents) (m : ℕ) (result : Result (Unit {0}) NoAnswer) → Prints out out_after m result → RestsUnless form after start result → Keeps form before after start
      → Ends count_in form (outcome_at held start m) seen (ask_finish result)
  ends_at held start (suc n) (Ok answer) printed rests keeps = record { is = refl; printed = printed; state = rests }
  ends_at held start zero (Ok answer) printed rests keeps = absurd printed
  ends_at held start (suc n) (Err WriteFault) printed rests keeps = record {
    k = 0;
    within = omega arith;
    printed = subst (λ (o : Option (List ℕ)). GainsPrefix o out_after (suc n % 256 ∷ [])) (sym (gained_nothing out)) printed;
    state = rests;
  }
  ends_at held start zero (Err WriteFault) printed rests keeps = absurd printed
  ends_at held start zero (Err NotCreated) printed rests keeps = record { is = refl; printed = nothing printed; state = inr (refl, keeps) }
  ends_at held start (suc n) (Err NotCreated) printed rests keeps = absurd printed
  ends_at held start zero (Err DiskFault) printed rests keeps = record {
    k = 0;
    within = omega arith;
    printed = nothing printed;
    state = λ c left. inr (inr (refl, no_more form before after c keeps.no_more left));
  }
  ends_at held start (suc n) (Err DiskFault) printed rests keeps = record {
    k = 0;
    within = omega arith;
    printed = nothing printed;
    state = λ c left. inr (inr (refl, no_more form before after c keeps.no_more left));
  }

  no_read : (result : Result (Unit {0}) NoAnswer) → IsCounted (is_read_fault (ask_finish result)) faults faults
  no_read (Ok answer) = refl
  no_read (Err NotCreated) = refl
  no_read (Err WriteFault) = refl
  no_read (Err DiskFault) = refl

  any_status : (finish : Finish (Unit {0}) Refusal) → OnDone (λ status. Unit {0}) finish
  any_status (done status) = tt
  any_status (refused reason) = tt
  any_status (read_fault name) = tt
  any_status no_memory = tt
  any_status write_fault = tt
  any_status disk_fault = tt

  pub asked : ((d : D) → IsImage (form.content d) (form.images d)) → (result : Result (Unit {0}) NoAnswer) → AnswersQuestion form before after out out_after result → AreUnwritten form before after
      → IsCounted (is_write_fault (ask_finish result)) out_faults out_faults_after
      → IsCountedPair (is_disk_fault (ask_finish result)) (form.faults before.first) (form.faults after.first) (form.faults before.second) (form.faults after.second)
      → Answers form counter ask seen (ask_finish result)
  asked is_left result answer unwritten write disk =
      let safe = unwritten_safe form is_left in
      record {
        status = any_status (ask_finish result);
        read_cause = no_read result;
        write_cause = write;
        disk_cause = disk;
        held = refl;
        files = λ none. refl;
        apart = λ apart. absurd (cc (apart));
        reads = λ start told. tt;
        refusal = λ turned start told. inr (refl, (safe start before after told unwritten).kept);
        led = λ held start is told c pair. inr ((safe start before after told unwritten).crash _ c pair);
        ends = λ held start is told premise.
            ends_at held start (count_in start) result (answer start told).printed (answer start told).rests (safe start before after told unwritten).kept;
        crash = λ held start is told premise c pair. inr ((safe start before after told unwritten).crash _ c pair);
      }
