-- What the calls on a journal do to its file.
use Rattle.std.specs.Prelude.{◌≡◌, ◌⊎◌, ℕ, ◌+◌, ◌<◌, Bool, true, false, List, [], ◌∷◌, ◌++◌, length, take, map, Some, Result, Ok, Err, if◌then◌else◌}
use Rattle.wh_base.specs.RoomyText.{RoomyText}
use Rattle.wh_journal.specs.declared.fault.JournalFault.{JournalFault}
use Rattle.wh_journal.specs.declared.fault.JournalFault.TheVariants as fault
use Rattle.wh_journal.specs.declared.journal.Journal.{Journal}
use Rattle.wh_journal.specs.declared.file.Mark.{Mark}
use Rattle.wh_journal.specs.declared.file.Mark.TheVariants as mark
use Rattle.wh_journal.specs.declared.found.Found.{Found}
use Rattle.wh_journal.specs.declared.found.Found.TheVariants.{Empty, Frames}
use Rattle.wh_journal.specs.File.{behind, walk, span, is_open, is_empty, frames_of, end_of, framed}

-- the file has its closed mark and its length where the journal says
pub record IsJournalOf (file : List ℕ) (journal : Journal) : Type 0 where
  pub end : end_of file ≡ Some journal.end
  pub length : length file ≡ journal.length

-- with one frame more
abbrev pub with_frame : Result (List (List ℕ)) ℕ → List ℕ → Result (List (List ℕ)) ℕ
with_frame (Ok bodies) body = Ok (bodies ++ body ∷ [])
with_frame (Err at) body = Err at

-- the file up to its closed mark, which is open now, then the frame and a closed mark
abbrev pub appended : List ℕ → ℕ → List ℕ → List ℕ
appended file end body = take end file ++ 1 ∷ framed body

-- the frames are those of the file, or these and one more
abbrev pub IsBeforeOrAfter : List ℕ → List ℕ → List ℕ → Type 0
IsBeforeOrAfter file body image = (frames_of image ≡ frames_of file) ⊎ (frames_of image ≡ with_frame (frames_of file) body)

-- whether the first byte is an open mark, or missing
abbrev pub is_unshut : List ℕ → Bool
is_unshut [] = true
is_unshut (mark ∷ bytes) = is_open mark

-- the file with a closed mark as its first byte: as it is, or 0 where that was an open mark or missing
abbrev pub shut : List ℕ → List ℕ
shut [] = 0 ∷ []
shut (mark ∷ bytes) = (if is_open mark then 0 else mark) ∷ bytes

-- that mark alone
abbrev pub cleared : List ℕ → List ℕ
cleared file = take 1 (shut file)

-- the file as it was, or an empty one
abbrev pub IsKeptOrEmpty : List ℕ → List ℕ → Type 0
IsKeptOrEmpty file image = (image ≡ file) ⊎ (is_empty image ≡ true)

abbrev pub bodies_of : List RoomyText → List (List ℕ)
bodies_of = map (λ text. text.bytes)

-- what stands at the front of some bytes
abbrev pub IsMark : List ℕ → Mark → Type 0
IsMark bytes (mark.Open body after) = (walk bytes ≡ behind body.now (walk after.now)) × (length bytes ≡ 9 + length body.now + length after.now)
IsMark bytes mark.Closed = walk bytes ≡ record { bodies = []; closed = true }
IsMark bytes mark.Wrong = walk bytes ≡ record { bodies = []; closed = false }

-- what a walk through a file answers
abbrev pub IsWalked : List ℕ → Result (List RoomyText × ℕ) JournalFault → Type 0
IsWalked file (Ok found) = (walk file ≡ record { bodies = bodies_of found.0; closed = true }) × (found.1 ≡ span (bodies_of found.0))
IsWalked file (Err (fault.Damaged at)) = ((walk file).closed ≡ false) × (at ≡ span (walk file).bodies)
IsWalked file (Err fault.DiskFault) = ⊥
IsWalked file (Err fault.NoMemory) = Unit {0}

-- one frame at least, and where the file can be appended to
pub record AreFound (file : List ℕ) (found : List RoomyText) (place : Journal) : Type 0 where
  pub frames : frames_of file ≡ Ok (bodies_of found)
  pub some : 0 < length found
  pub journal : IsJournalOf file place

-- What is found in a file: nothing, its frames, or where it is damaged.
abbrev pub IsFound : List ℕ → Result Found JournalFault → Type 0
IsFound file (Ok Empty) = is_empty file ≡ true
IsFound file (Ok (Frames bodies journal)) = AreFound file bodies journal
IsFound file (Err (fault.Damaged at)) = frames_of file ≡ Err at
IsFound file (Err fault.DiskFault) = Unit {0}
IsFound file (Err fault.NoMemory) = Unit {0}

-- the journal of what was found ends behind the frames
abbrev pub EndsBehind : Found → Type 0
EndsBehind Empty = Unit {0}
EndsBehind (Frames bodies journal) = journal.end ≡ span (bodies_of bodies)

-- a fault that blames no mark
abbrev pub IsNoDamage : JournalFault → Type 0
IsNoDamage (fault.Damaged at) = ⊥
IsNoDamage fault.DiskFault = Unit {0}
IsNoDamage fault.NoMemory = Unit {0}

abbrev pub is_disk_fault : {T : Type 0} → Result T JournalFault → Bool
is_disk_fault (Ok x) = false
is_disk_fault (Err (fault.Damaged at)) = false
is_disk_fault (Err fault.DiskFault) = true
is_disk_fault (Err fault.NoMemory) = false

-- a claim of a call that no disk fault ended
abbrev pub UnlessDiskFault : {T : Type 0} → Result T JournalFault → Type 0 → Type 0
UnlessDiskFault (Ok x) P = P
UnlessDiskFault (Err (fault.Damaged at)) P = P
UnlessDiskFault (Err fault.DiskFault) P = Unit {0}
UnlessDiskFault (Err fault.NoMemory) P = P
