-- How the counter's question is answered.
use Rattle.std.specs.Prelude.{◌≡◌, ℕ, ◌%◌, zero, suc, List, [], ◌∷◌, Option, Result, Ok, Err}
use Rattle.wh_base.specs.declared.Failed.{Failed}
use Rattle.wh_io.specs.Sink.{gained, GainsPrefix}
use Rattle.wh_runs.specs.declared.counter.NoAnswer.{NoAnswer}
use Rattle.wh_runs.specs.declared.counter.NoAnswer.TheVariants.{NotCreated, WriteFault, DiskFault}
use Rattle.wh_runs.specs.Outcome.{Contents, Finish, done, refused, write_fault, disk_fault}
use Rattle.wh_runs.specs.Disks.{Form, Disks, Tells, Rests}
use Rattle.wh_runs.specs.Counter.{Refusal, not_created, count_in}

-- how a run of it ends
abbrev pub ask_finish : Result (Unit {0}) NoAnswer → Finish (Unit {0}) Refusal
ask_finish (Ok answer) = done tt
ask_finish (Err NotCreated) = refused not_created
ask_finish (Err WriteFault) = write_fault
ask_finish (Err DiskFault) = disk_fault

-- both files are settled and read, or a disk failed
abbrev pub IsCounted : {D : Type 0} → Form D → Disks D → Contents → Result ℕ Failed → Type 0
IsCounted form after c (Ok count) = (count ≡ count_in c) × Rests form after c
IsCounted form after c (Err failed) = Unit {0}

abbrev pub CountsBoth : {D : Type 0} → Form D → Disks D → Disks D → Result ℕ Failed → Type 0
CountsBoth form before after result = (c : Contents) → Tells form before c → IsCounted form after c result

-- what is printed, of files that count so
abbrev pub Prints : Option (List ℕ) → Option (List ℕ) → ℕ → Result (Unit {0}) NoAnswer → Type 0
Prints before after (suc n) (Ok answer) = after ≡ gained before (suc n % 256 ∷ [])
Prints before after (suc n) (Err WriteFault) = GainsPrefix before after (suc n % 256 ∷ [])
Prints before after zero (Err NotCreated) = after ≡ before
Prints before after count (Err DiskFault) = after ≡ before
Prints before after count other = ⊥

-- at any exit but that of a disk's fault nothing is pending
abbrev pub RestsUnless : {D : Type 0} → Form D → Disks D → Contents → Result (Unit {0}) NoAnswer → Type 0
RestsUnless form after c (Err DiskFault) = Unit {0}
RestsUnless form after c other = Rests form after c

pub record IsAnswered {D : Type 0} (form : Form D) (before after : Disks D) (out out_after : Option (List ℕ)) (result : Result (Unit {0}) NoAnswer) (c : Contents) : Type 0 where
  pub printed : Prints out out_after (count_in c) result
  pub rests : RestsUnless form after c result

abbrev pub AnswersQuestion : {D : Type 0} → Form D → Disks D → Disks D → Option (List ℕ) → Option (List ℕ) → Result (Unit {0}) NoAnswer → Type 0
AnswersQuestion form before after out out_after result = (c : Contents) → Tells form before c → IsAnswered form before after out out_after result c
