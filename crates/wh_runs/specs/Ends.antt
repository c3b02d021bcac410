-- How a run of a command may end, and what a crash leaves.
use Rattle.std.specs.Prelude.{◌≡◌, ◌⊎◌, ℕ, suc, max, ◌≤◌, ◌<◌, Bool, true, false, List, length, take, Option}
use Rattle.wh_io.specs.Files.{Held}
use Rattle.wh_io.specs.Sink.{gained, GainsPrefix}
use Rattle.wh_runs.specs.Outcome.{Contents, Outcome, Finish, done, refused, read_fault, no_memory, write_fault, disk_fault, texts, text_at, contents_after, last_contents}
use Rattle.wh_runs.specs.Disks.{Form, Disks, Leaves, Rests, Stands, Which, CrashPair}

-- What is seen at one moment: the object that reads files by name, as a value of any type, with what it holds and how often it has failed;
-- what `out` has taken, and how often that has failed; and both disks.
pub record Scene (F D : Type 0) : Type 0 where
  pub files : F
  pub held : Option Held
  pub files_faults : ℕ
  pub out : Option (List ℕ)
  pub out_faults : ℕ
  pub disks : Disks D

-- at entry and at exit
pub record Seen (F D : Type 0) : Type 0 where
  pub before : Scene F D
  pub after : Scene F D

-- ---- the disks at an exit

-- nothing is pending, and these are the contents; a command that leaves the two files alone leaves both disks as they were
abbrev pub RestsOn : {D : Type 0} → Bool → Form D → Disks D → Disks D → Contents → Type 0
RestsOn true form before after c = after ≡ before
RestsOn false form before after c = Rests form after c

-- the same, but what was pending at entry may be so still where nothing was done
abbrev pub StandsOn : {D : Type 0} → Bool → Form D → Disks D → Disks D → Contents → ℕ → Type 0
StandsOn true form before after c k = after ≡ before
StandsOn false form before after c k = Stands form before after c k

-- ---- exits

-- it is done: all texts, and the last contents
pub record EndsDone {F D S R : Type 0} (form : Form D) (outcome : Outcome S R) (seen : Seen F D) (status : S) : Type 0 where
  pub is : outcome.finish ≡ done status
  pub printed : seen.after.out ≡ gained seen.before.out (texts outcome.pieces)
  pub state : RestsOn outcome.is_apart form seen.before.disks seen.after.disks (last_contents outcome.start outcome.pieces)

-- it is refused
pub record EndsRefused {F D S R : Type 0} (form : Form D) (outcome : Outcome S R) (seen : Seen F D) (reason : R) : Type 0 where
  pub is : outcome.finish ≡ refused reason
  pub printed : seen.after.out ≡ gained seen.before.out (texts outcome.pieces)
  pub state : StandsOn outcome.is_apart form seen.before.disks seen.after.disks (last_contents outcome.start outcome.pieces) (length outcome.pieces)

-- something was still to do once k pieces were done: another piece, or, of a command without pieces, its only answer
abbrev pub IsUnderWay : {S R : Type 0} → Outcome S R → ℕ → Type 0
IsUnderWay outcome k = k < max 1 (length outcome.pieces)

-- it was cut off once k pieces were done
pub record EndsBetween {F D S R : Type 0} (form : Form D) (outcome : Outcome S R) (seen : Seen F D) : Type 0 where
  pub k : ℕ
  pub within : IsUnderWay outcome k
  pub printed : seen.after.out ≡ gained seen.before.out (texts (take k outcome.pieces))
  pub state : StandsOn outcome.is_apart form seen.before.disks seen.after.disks (contents_after outcome.start outcome.pieces k) k

-- so, in reading a file that the piece under way reads
pub record EndsInReading {F D S R : Type 0} (form : Form D) (outcome : Outcome S R) (seen : Seen F D) (name : List ℕ) : Type 0 where
  pub between : EndsBetween form outcome seen
  pub named : outcome.may_read between.k name

-- It was cut off in the text of piece k, whose contents stand. A command on the two files settles them before its first text.
pub record EndsInText {F D S R : Type 0} (form : Form D) (outcome : Outcome S R) (seen : Seen F D) : Type 0 where
  pub k : ℕ
  pub within : k < length outcome.pieces
  pub printed : GainsPrefix (gained seen.before.out (texts (take k outcome.pieces))) seen.after.out (text_at outcome.pieces k)
  pub state : RestsOn outcome.is_apart form seen.before.disks seen.after.disks (contents_after outcome.start outcome.pieces (suc k))

-- it means what the contents after k pieces mean, or after k + 1; or nothing was done, and it might have been left at entry
abbrev pub IsAround : {D M S R : Type 0} → (Contents → M) → Form D → Outcome S R → Disks D → ℕ → Contents → Type 0
IsAround meaning form outcome before k c =
    (meaning c ≡ meaning (contents_after outcome.start outcome.pieces k)) ⊎ ((meaning c ≡ meaning (contents_after outcome.start outcome.pieces (suc k))) ⊎ ((k ≡ 0) × Leaves form before c))

-- Each pair that may be left is such a one. No fault of a disk meets a command that leaves the two files alone.
abbrev pub CommitsOn : {D M S R : Type 0} → Bool → (Contents → M) → Form D → Outcome S R → Disks D → Disks D → ℕ → Type 0
CommitsOn true meaning form outcome before after k = ⊥
CommitsOn false meaning form outcome before after k = (c : Contents) → Leaves form after c → IsAround meaning form outcome before k c

-- it was cut off on the way to the contents of piece k
pub record EndsInCommit {F D M S R : Type 0} (meaning : Contents → M) (form : Form D) (outcome : Outcome S R) (seen : Seen F D) : Type 0 where
  pub k : ℕ
  pub within : IsUnderWay outcome k
  pub printed : seen.after.out ≡ gained seen.before.out (texts (take k outcome.pieces))
  pub state : CommitsOn outcome.is_apart meaning form outcome seen.before.disks seen.after.disks k

-- how a run ended is one of the ways that its outcome allows
abbrev pub Ends : {F D M S R : Type 0} → (Contents → M) → Form D → Outcome S R → Seen F D → Finish S R → Type 0
Ends meaning form outcome seen (done status) = EndsDone form outcome seen status
Ends meaning form outcome seen (refused reason) = EndsRefused form outcome seen reason
Ends meaning form outcome seen (read_fault name) = EndsInReading form outcome seen name
Ends meaning form outcome seen no_memory = EndsBetween form outcome seen
Ends meaning form outcome seen write_fault = EndsInText form outcome seen
Ends meaning form outcome seen disk_fault = EndsInCommit meaning form outcome seen

-- ---- crashes

-- it means what the contents after some first pieces mean
pub record IsReached {M S R : Type 0} (meaning : Contents → M) (outcome : Outcome S R) (c : Contents) : Type 0 where
  pub j : ℕ
  pub within : j ≤ length outcome.pieces
  pub is : meaning c ≡ meaning (contents_after outcome.start outcome.pieces j)

-- A crash at one moment of a run leaves what some first pieces lead to, or what it might have left at entry.
abbrev pub Crashes : {D M S R : Type 0} → (Contents → M) → Form D → Which → Outcome S R → Disks D → Disks D → Type 0
Crashes meaning form last outcome before after = (c : Contents) → CrashPair form last outcome.start before after c → IsReached meaning outcome c ⊎ Leaves form before c
