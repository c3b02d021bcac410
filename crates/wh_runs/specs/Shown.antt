-- How what is asked of a run is shown, from what a command does: it writes neither file; it settles both, and then writes the one that counts,
-- or one and the other behind it; or it stops before anything is done.
use Rattle.std.specs.Prelude.{◌≡◌, ◌<◌, ℕ, zero, suc, Bool, true, false, List, ◌∷◌, length, Some}
use Rattle.wh_io.specs.Crash.{LeavesOnly}
use Rattle.wh_io.specs.Files.{Held}
use Rattle.wh_io.specs.Sink.{gained}
use Rattle.wh_runs.specs.Outcome.{Contents, Piece, Outcome, Finish, done, refused, read_fault, no_memory, write_fault, disk_fault}
use Rattle.wh_runs.specs.Disks.{Form, Disks, Tells, Leaves, Which, other, with_part, disk_at, CrashPair, Keeps, Rests}
use Rattle.wh_runs.specs.Ends.{Scene, Seen, Ends, IsReached, Crashes}
use Rattle.wh_runs.specs.Opens.{IsUnwritten, AreUnwritten}
use Rattle.wh_runs.specs.Program.{Program, expected, IsLed}

-- ---- commands that write neither file

-- Where neither file was written the bytes are as they were, and whatever a crash leaves might have been left at entry.
pub record IsSafe {D : Type 0} (form : Form D) (start : Contents) (before after : Disks D) : Type 0 where
  pub kept : Keeps form before after start
  pub crash : (last : Which) (c : Contents) → CrashPair form last start before after c → Leaves form before c

abbrev pub UnwrittenIsSafe : {D : Type 0} → Form D → Type 0
UnwrittenIsSafe form = (start : Contents) (before after : Disks _) → Tells form before start → AreUnwritten form before after → IsSafe form start before after

-- A disk that is as it was is not written.
abbrev pub SameIsUnwritten : {D : Type 0} → Form D → Type 0
SameIsUnwritten form = (before after : Disks _) → after ≡ before → AreUnwritten form before after

-- ---- commands that write in place

-- From `mid` on only the last file was written: crashes have left of it what, beside what the other one held, has P.
pub record WritesLast {D : Type 0} (form : Form D) (last : Which) (start : Contents) (mid after : Disks D) (P : Contents → Type 0) : Type 0 where
  pub others : IsUnwritten form (disk_at (other last) mid) (disk_at (other last) after)
  pub this : LeavesOnly form.moment form.images_since (disk_at last mid) (disk_at last after) (λ bytes. P (with_part last bytes start))

-- Such a command has what is asked of a crash.
abbrev pub CrashesInPlace : {D : Type 0} → Form D → Program → Type 0
CrashesInPlace form program = (command : program.Command) (held : Held) (start : Contents) (before mid after : Disks _)
    → Tells form before start → AreUnwritten form before mid → Rests form mid start
    → WritesLast form (program.format.active start) start mid after (IsReached program.format.meaning (expected program command held start))
    → Crashes program.format.meaning form (program.format.active start) (expected program command held start) before after

-- ---- commands that write one file, and behind it the other

-- From `mid` on one file is written, beside what the last one held; and then the last one, beside what the other one holds. What crashes left of
-- the one and of the other has P so, and so have the pairs that may be left at exit.
pub record WritesPairs {D : Type 0} (form : Form D) (last : Which) (start : Contents) (mid after : Disks D) (P : Contents → Type 0) : Type 0 where
  pub other_first : LeavesOnly form.moment form.images_since (disk_at (other last) mid) (disk_at (other last) after) (λ bytes. P (with_part (other last) bytes start))
  pub then_last : (held : List ℕ) → form.content (disk_at (other last) after) ≡ Some held
      → LeavesOnly form.moment form.images_since (disk_at last mid) (disk_at last after) (λ bytes. P (with_part last bytes (with_part (other last) held start)))
  pub at_exit : (c : Contents) → Leaves form after c → P c

-- Such a command has what is asked of a crash.
abbrev pub CrashesBehind : {D : Type 0} → Form D → Program → Type 0
CrashesBehind form program = (command : program.Command) (held : Held) (start : Contents) (before mid after : Disks _)
    → Tells form before start → AreUnwritten form before mid
    → WritesPairs form (program.format.active start) start mid after (IsReached program.format.meaning (expected program command held start))
    → Crashes program.format.meaning form (program.format.active start) (expected program command held start) before after

-- ---- any command

-- What some first pieces lead to is led to by changes that may be written.
abbrev pub ReachedIsLed : Program → Type 0
ReachedIsLed program = (command : program.Command) (held : Held) (start c : Contents) → (program.profile command).premise (program.format.meaning start)
    → IsReached program.format.meaning (expected program command held start) c
    → IsLed program.format (program.profile command).manner (program.format.meaning start) (program.format.meaning c)

-- ---- before anything is done

-- nothing is printed, and both files are as they were
pub record IsUnbegun {F D : Type 0} (form : Form D) (start : Contents) (seen : Seen F D) : Type 0 where
  pub printed : seen.after.out ≡ seen.before.out
  pub kept : Keeps form seen.before.disks seen.after.disks start

-- how a command may stop so
abbrev pub MayStop : (program : Program) → program.Command → Held → Contents → Finish program.Status program.Refusal → Type 0
MayStop program command held start (done status) = ⊥
MayStop program command held start (refused reason) = (expected program command held start).finish ≡ refused reason
MayStop program command held start (read_fault name) = (program.profile command).may_read held (program.format.meaning start) 0 name
MayStop program command held start no_memory = Unit {0}
MayStop program command held start write_fault = ⊥
MayStop program command held start disk_fault = Unit {0}

-- That is one of its ends.
abbrev pub UnbegunEnds : (F : Type 0) {D : Type 0} → Form D → Program → Type 0
UnbegunEnds F form program = (command : program.Command) (held : Held) (start : Contents) (seen : Seen F _) (finish : Finish program.Status program.Refusal)
    → (program.profile command).is_apart ≡ false → IsUnbegun form start seen → MayStop program command held start finish
    → Ends program.format.meaning form (expected program command held start) seen finish

-- ---- one piece after another

-- the number of a piece behind n others
abbrev pub behind : ℕ → ℕ → ℕ
behind zero k = k
behind (suc n) k = behind n (suc k)

-- what is left to do of a command on the two files, behind n pieces
abbrev pub left_over : (program : Program) → program.Command → Held → program.format.Meaning → ℕ → Contents → List Piece → Finish program.Status program.Refusal → Outcome program.Status program.Refusal
left_over program command held m n start pieces finish = record {
  start = start;
  pieces = pieces;
  finish = finish;
  is_apart = false;
  may_read = λ k. (program.profile command).may_read held m (behind n k);
}

-- something cut it off while there was more to do
abbrev pub is_cut : {S R : Type 0} → Finish S R → Bool
is_cut (done status) = false
is_cut (refused reason) = false
is_cut write_fault = false
is_cut other = true

-- One piece was done: its text is printed, and its contents stand with nothing pending. As what is left ends, so does the whole.
abbrev pub PieceFollows : (F : Type 0) {D : Type 0} → Form D → Program → Type 0
PieceFollows F form program = (command : program.Command) (held : Held) (m : program.format.Meaning) (n : ℕ) (start : Contents) (piece : Piece) (pieces : List Piece)
    (finish ended : Finish program.Status program.Refusal) (before mid after : Scene F _)
    → mid.out ≡ gained before.out piece.text → Rests form mid.disks piece.contents → (is_cut ended ≡ true → 0 < length pieces)
    → Ends program.format.meaning form (left_over program command held m (suc n) piece.contents pieces finish) (record { before = mid; after = after }) ended
    → Ends program.format.meaning form (left_over program command held m n start (piece ∷ pieces) finish) (record { before = before; after = after }) ended

-- What is left to do at the beginning is the whole.
abbrev pub WholeIsLeft : (F : Type 0) {D : Type 0} → Form D → Program → Type 0
WholeIsLeft F form program = (command : program.Command) (held : Held) (start : Contents) (seen : Seen F _) (ended : Finish program.Status program.Refusal)
    → (program.profile command).is_apart ≡ false
    → Ends program.format.meaning form (left_over program command held (program.format.meaning start) 0 start (expected program command held start).pieces (expected program command held start).finish) seen ended
    → Ends program.format.meaning form (expected program command held start) seen ended
