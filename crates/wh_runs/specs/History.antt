-- Histories of runs and kills, and what they make of two empty files.
use Rattle.std.specs.Prelude.{◌≡◌, ◌⊎◌, ℕ, suc, ◌<◌, List, [], ◌∷◌, length, take, Some}
use Rattle.wh_io.specs.Files.{Held}
use Rattle.wh_io.specs.Sink.{gained, GainsPrefix}
use Rattle.wh_runs.specs.Outcome.{Contents, empty, Piece, Finish, done, refused, read_fault, no_memory, write_fault, disk_fault, texts, text_at}
use Rattle.wh_runs.specs.Disks.{Form, Disks, Tells, Leaves, Rests, NoMore, CrashPair}
use Rattle.wh_runs.specs.Program.{Program, expected, steps_over, led}
use Rattle.wh_runs.specs.Ends.{Seen, IsUnderWay}
use Rattle.wh_runs.specs.Answers.{Answers}

-- a run came to its exit, or a crash cut it off and left this
pub data Stop : Type 0 where
  exits : Stop
  cut : Contents → Stop

-- A run: its command, what files of other names held, the contents at entry, what was seen and how it ended; and how it stopped. Of one that
-- was cut off the last three say how it would have ended: what a command answers is said of whole runs.
pub record Run (F D : Type 0) (program : Program) : Type 0 where
  pub command : program.Command
  pub held : Held
  pub start : Contents
  pub seen : Seen F D
  pub finish : Finish program.Status program.Refusal
  pub stop : Stop

-- ---- which lists of runs are histories

-- both the files of other names and the disks tell what they hold, and the run answers what it should
pub record IsRun {F D : Type 0} (form : Form D) (program : Program) (run : Run F D program) : Type 0 where
  pub held : run.seen.before.held ≡ Some run.held
  pub told : Tells form run.seen.before.disks run.start
  pub answers : Answers form program run.command run.seen run.finish

-- a crash that cuts a run off leaves one of its pairs
abbrev pub IsCut : {F D : Type 0} → Form D → (program : Program) → Run F D program → Stop → Type 0
IsCut form program run exits = Unit {0}
IsCut form program run (cut left) = CrashPair form (program.format.active run.start) run.start run.seen.before.disks run.seen.after.disks left

-- A run begins on what the one before left: after an exit with the same contents, of which no more may be left than before; after a cut with the
-- pair that was left, and nothing pending. Nothing is said of what the disks count, so a program that is started anew goes on.
abbrev pub Begins : {D : Type 0} → Form D → Disks D → Stop → Disks D → Contents → Type 0
Begins form left exits before start = Tells form left start × NoMore form left before
Begins form left (cut pair) before start = Rests form before pair × (start ≡ pair)

-- the first run begins with two empty files
abbrev pub BeginsOn : {F D : Type 0} → Form D → (program : Program) → List (Run F D program) → Disks D → Contents → Type 0
BeginsOn form program [] before start = Rests form before empty × (start ≡ empty)
BeginsOn form program (run ∷ older) before start = Begins form run.seen.after.disks run.stop before start

-- the newest run stands first
abbrev pub IsHistory : {F D : Type 0} → Form D → (program : Program) → List (Run F D program) → Type 0
IsHistory form program [] = Unit {0}
IsHistory form program (run ∷ older) =
    IsRun form program run × BeginsOn form program older run.seen.before.disks run.start × IsCut form program run run.stop × IsHistory form program older

-- what may be left behind a run
abbrev pub IsLeft : {D : Type 0} → Form D → Disks D → Stop → Contents → Type 0
IsLeft form after exits c = Leaves form after c
IsLeft form after (cut pair) c = c ≡ pair

-- ---- what a run makes of what the files meant

module _ {F D : Type 0} (program : Program) (run : Run F D program) where
  -- its pieces
  abbrev pub pieces_of : List Piece
  pieces_of = (expected program run.command run.held run.start).pieces

  -- where its first k steps lead
  abbrev pub first_steps : program.format.Meaning → ℕ → program.format.Meaning
  first_steps s k = led program.format s (take k (steps_over program run.command run.held s))

  -- exactly k texts were printed
  abbrev pub HasPrinted : ℕ → Type 0
  HasPrinted k = run.seen.after.out ≡ gained run.seen.before.out (texts (take k pieces_of))

  -- done: all texts were printed, and all its changes were made
  pub record MadeWhole (s m : program.format.Meaning) : Type 0 where
    pub printed : run.seen.after.out ≡ gained run.seen.before.out (texts pieces_of)
    pub is : m ≡ led program.format s (steps_over program run.command run.held s)

  -- refused: nothing was printed, and nothing was made
  pub record MadeNothing (s m : program.format.Meaning) : Type 0 where
    pub printed : run.seen.after.out ≡ run.seen.before.out
    pub is : m ≡ s

  -- cut off while something was still to do: the changes of exactly the texts that were printed
  pub record MadeBetween (s m : program.format.Meaning) : Type 0 where
    pub k : ℕ
    pub within : IsUnderWay (expected program run.command run.held run.start) k
    pub printed : HasPrinted k
    pub is : m ≡ first_steps s k

  -- cut off in a text: its change was made
  pub record MadeInText (s m : program.format.Meaning) : Type 0 where
    pub k : ℕ
    pub within : k < length pieces_of
    pub printed : GainsPrefix (gained run.seen.before.out (texts (take k pieces_of))) run.seen.after.out (text_at pieces_of k)
    pub is : m ≡ first_steps s (suc k)

  -- cut off by a disk: those of the texts that were printed, and at most the one under way
  pub record MadeInCommit (s m : program.format.Meaning) : Type 0 where
    pub k : ℕ
    pub within : IsUnderWay (expected program run.command run.held run.start) k
    pub printed : HasPrinted k
    pub is : (m ≡ first_steps s k) ⊎ (m ≡ first_steps s (suc k))

  -- what a run that came to its exit made
  abbrev pub MadeBy : Finish program.Status program.Refusal → program.format.Meaning → program.format.Meaning → Type 0
  MadeBy (done status) s m = MadeWhole s m
  MadeBy (refused reason) s m = MadeNothing s m
  MadeBy (read_fault name) s m = MadeBetween s m
  MadeBy no_memory s m = MadeBetween s m
  MadeBy write_fault s m = MadeInText s m
  MadeBy disk_fault s m = MadeInCommit s m

  -- and one that was cut off by a crash: some first changes
  abbrev pub Makes : Stop → program.format.Meaning → program.format.Meaning → Type 0
  Makes exits s m = MadeBy run.finish s m
  Makes (cut pair) s m = (k : ℕ) × (m ≡ first_steps s k)

-- Each run in its order made this of nothing. What may be left has an explanation of its own: after a fault of a disk the content may mean the
-- state with a change and an image the one without, and both are right, since the change was never told.
abbrev pub IsMade : {F D : Type 0} → (program : Program) → List (Run F D program) → program.format.Meaning → Type 0
IsMade program [] m = m ≡ program.format.meaning empty
IsMade program (run ∷ older) m = (s : program.format.Meaning) × IsMade program older s × Makes program run run.stop s m
