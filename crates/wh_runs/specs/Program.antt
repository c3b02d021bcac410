-- Commands over what two files are held to mean: what each comes to, and how its changes are written.
use Rattle.std.specs.Prelude.{◌≡◌, ℕ, Bool, true, false, List, [], ◌∷◌, take, Option, None, Some}
use Rattle.wh_io.specs.Files.{Held}
use Rattle.wh_runs.specs.Outcome.{Contents, empty, Piece, Finish, done, refused, Outcome}
use Rattle.wh_runs.specs.Disks.{Which, with_part, other}

-- ---- the two files

-- how the changes of a command are written: into the active file, or all into the other one, and then the active one is emptied
pub data Manner : Type 0 where
  in_place : Manner
  moves : Manner

-- What two files are held to mean, and how a change of that is written.
pub record Format : Type 1 where
  pub Meaning : Type 0
  pub Change : Type 0
  pub meaning : Contents → Meaning
  pub changed : Change → Meaning → Meaning
  -- which changes may be written in a manner, over what the files mean
  pub allowed : Manner → Change → Meaning → Type 0
  -- the file that counts
  pub active : Contents → Which
  -- the bytes of the active file once a change is written into it
  pub in_place : Change → Contents → List ℕ
  -- the bytes of the other file once all is moved into it, and of the one that counted
  pub moved : Change → Contents → List ℕ
  pub emptied : List ℕ

-- the contents once a change is written
abbrev pub put : (format : Format) → Manner → format.Change → Contents → Contents
put format in_place change c = with_part (format.active c) (format.in_place change c) c
put format moves change c = with_part (format.active c) format.emptied (with_part (other (format.active c)) (format.moved change c) c)

-- ---- what a command comes to over the meaning

-- a text for `out`, and the change that is made before it is written, if there is one
pub record Step (X : Type 0) : Type 0 where
  pub text : List ℕ
  pub change : Option X

-- steps, with the status at their end, or nothing but a refusal
pub data Plan (X S R : Type 0) : Type 0 where
  does : List (Step X) → S → Plan X S R
  refuses : R → Plan X S R

-- its steps, and how it finishes
abbrev pub steps_of : {X S R : Type 0} → Plan X S R → List (Step X)
steps_of (does steps status) = steps
steps_of (refuses reason) = []

abbrev pub finish_of : {X S R : Type 0} → Plan X S R → Finish S R
finish_of (does steps status) = done status
finish_of (refuses reason) = refused reason

-- what one step leads to
abbrev pub step_meaning : (format : Format) → Option format.Change → format.Meaning → format.Meaning
step_meaning format None m = m
step_meaning format (Some change) m = format.changed change m

-- what steps lead to
abbrev pub led : (format : Format) → format.Meaning → List (Step format.Change) → format.Meaning
led format m [] = m
led format m (step ∷ steps) = led format (step_meaning format step.change m) steps

-- the change of a step, if there is one, may be written
abbrev pub IsAllowed : (format : Format) → Manner → Option format.Change → format.Meaning → Type 0
IsAllowed format manner None m = Unit {0}
IsAllowed format manner (Some change) m = format.allowed manner change m

-- each change may be written over what the ones before it lead to
abbrev pub AreAllowed : (format : Format) → Manner → List (Step format.Change) → format.Meaning → Type 0
AreAllowed format manner [] m = Unit {0}
AreAllowed format manner (step ∷ steps) m = IsAllowed format manner step.change m × AreAllowed format manner steps (step_meaning format step.change m)

-- some changes, each of which may be written, lead from one meaning to another
pub record IsLed (format : Format) (manner : Manner) (m n : format.Meaning) : Type 0 where
  pub steps : List (Step format.Change)
  pub allowed : AreAllowed format manner steps m
  pub is : n ≡ led format m steps

-- they are texts alone
abbrev pub HaveNoChange : {X : Type 0} → List (Step X) → Type 0
HaveNoChange [] = Unit {0}
HaveNoChange (step ∷ steps) = (step.change ≡ None) × HaveNoChange steps

-- at most one of them has a change
abbrev pub HaveNoMore : {X : Type 0} → Option X → Type 0 → Type 0 → Type 0
HaveNoMore None One No = One
HaveNoMore (Some change) One No = No

abbrev pub HaveOneChange : {X : Type 0} → List (Step X) → Type 0
HaveOneChange [] = Unit {0}
HaveOneChange (step ∷ steps) = HaveNoMore step.change (HaveOneChange steps) (HaveNoChange steps)

-- ---- how it is written

-- the contents once a step is made, and the pieces of steps
abbrev pub step_contents : (format : Format) → Manner → Option format.Change → Contents → Contents
step_contents format manner None c = c
step_contents format manner (Some change) c = put format manner change c

abbrev pub pieces_by : (format : Format) → Manner → List (Step format.Change) → Contents → List Piece
pieces_by format manner [] c = []
pieces_by format manner (step ∷ steps) c =
    let next = step_contents format manner step.change c in
    record { text = step.text; contents = next } ∷ pieces_by format manner steps next

-- ---- commands

-- All in which commands differ. The plan goes over what the files mean, and apart from it stands how it is written.
pub record Profile (M X S R : Type 0) : Type 1 where
  -- what it comes to, over what files of other names hold and what the two files mean
  pub planned : Held → M → Plan X S R
  pub manner : Manner
  -- it neither reads nor writes the two files
  pub is_apart : Bool
  -- it may read files of other names, and which ones while piece k is under way
  pub reads_files : Bool
  pub may_read : Held → M → ℕ → List ℕ → Type 0
  -- how many bytes may be read of a disk at most, by the content of its file, where there is a bound
  pub read_limit : Option (List ℕ → ℕ)
  -- the statuses at its end
  pub ends_with : S → Type 0
  -- what the plan is told for
  pub premise : M → Type 0

-- A program's commands, over one format.
pub record Program : Type 1 where
  pub format : Format
  pub Status : Type 0
  pub Refusal : Type 0
  pub Command : Type 0
  pub profile : Command → Profile format.Meaning format.Change Status Refusal
  -- what files mean that only these commands have written
  pub stands : format.Meaning → Type 0

-- the steps of a command, over what the files mean
abbrev pub steps_over : (program : Program) → program.Command → Held → program.format.Meaning → List (Step program.format.Change)
steps_over program command held m = steps_of ((program.profile command).planned held m)

-- what a command comes to
abbrev pub expected : (program : Program) → program.Command → Held → Contents → Outcome program.Status program.Refusal
expected program command held start =
    let m = program.format.meaning start in
    record {
      start = start;
      pieces = pieces_by program.format (program.profile command).manner (steps_over program command held m) start;
      finish = finish_of ((program.profile command).planned held m);
      is_apart = (program.profile command).is_apart;
      may_read = (program.profile command).may_read held m;
    }

-- ---- what the user of this crate shows

-- The format keeps what it says, and the commands keep to it.
pub record IsSound (program : Program) : Type 0 where
  -- the bytes of a change that may be written mean the changed meaning
  pub means : (manner : Manner) (change : program.format.Change) (c : Contents) → program.format.allowed manner change (program.format.meaning c)
      → program.format.meaning (put program.format manner change c) ≡ program.format.changed change (program.format.meaning c)
  -- one that is written in place leaves the same file to count, and a command that moves makes one change at most: so of each command one file is
  -- the last that it writes
  pub keeps_active : (change : program.format.Change) (c : Contents) → program.format.allowed in_place change (program.format.meaning c)
      → program.format.active (put program.format in_place change c) ≡ program.format.active c
  pub moves_once : (command : program.Command) → (program.profile command).manner ≡ moves → (held : Held) (m : program.format.Meaning) → HaveOneChange (steps_over program command held m)
  -- a command plans only changes that may be written
  pub plans : (command : program.Command) (held : Held) (m : program.format.Meaning) → (program.profile command).premise m
      → AreAllowed program.format (program.profile command).manner (steps_over program command held m) m
  -- one that leaves the two files alone plans none
  pub apart : (command : program.Command) → (program.profile command).is_apart ≡ true → (held : Held) (m : program.format.Meaning) → HaveNoChange (steps_over program command held m)
  -- one that reads no files of other names may read none
  pub quiet : (command : program.Command) → (program.profile command).reads_files ≡ false
      → (held : Held) (m : program.format.Meaning) (k : ℕ) (name : List ℕ) → (program.profile command).may_read held m k name → ⊥
  -- two empty files mean what such files mean, and the first changes of a command keep it so
  pub begins : program.stands (program.format.meaning empty)
  pub stays : (command : program.Command) (held : Held) (m : program.format.Meaning) (k : ℕ) → program.stands m → program.stands (led program.format m (take k (steps_over program command held m)))
  -- of such files each command tells its plan
  pub meets : (command : program.Command) (m : program.format.Meaning) → program.stands m → (program.profile command).premise m
