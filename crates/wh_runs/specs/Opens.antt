-- Both files are opened: what is pending is settled, and nothing is written.
use Rattle.std.specs.Prelude.{◌≡◌, ◌⊎◌, Result, Ok, Err}
use Rattle.wh_base.specs.declared.Failed.{Failed}
use Rattle.wh_io.specs.Crash.{IsSettled, LeavesOnly, Within}
use Rattle.wh_runs.specs.Outcome.{Contents}
use Rattle.wh_runs.specs.Disks.{Form, Disks, Tells, Leaves, Rests, Keeps, Which, CrashPair}

-- Of two disks that tell these contents: the bytes are as they were, and nothing is pending; or, where a disk failed, nothing may be left that
-- might not have been left before.
abbrev pub Opens : {D : Type 0} → Form D → Disks D → Disks D → Contents → Result (Unit {0}) Failed → Type 0
Opens form before after c (Ok done) = Rests form after c
Opens form before after c (Err failed) = Keeps form before after c

abbrev pub OpensBoth : {D : Type 0} → Form D → Disks D → Disks D → Result (Unit {0}) Failed → Type 0
OpensBoth form before after result = (c : Contents) → Tells form before c → Opens form before after c result

-- whatever a crash leaves meanwhile might have been left at entry
abbrev pub OpensSafely : {D : Type 0} → Form D → Disks D → Disks D → Type 0
OpensSafely form before after = (last : Which) (start c : Contents) → Tells form before start → CrashPair form last start before after c → Leaves form before c

-- of neither disk a byte is read
pub record ReadsNothing {D : Type 0} (form : Form D) (before after : Disks D) : Type 0 where
  pub first : form.reads after.first ≡ form.reads before.first
  pub second : form.reads after.second ≡ form.reads before.second

-- the second disk is as it was, unless nothing is pending on the first
abbrev pub FirstComesFirst : {D : Type 0} → Form D → Disks D → Disks D → Type 0
FirstComesFirst form before after = (after.second ≡ before.second) ⊎ IsSettled (form.content after.first) (form.images after.first)

-- a disk that was not written: the same is told, and nothing may be left, now or at any moment since, that might not have been left before
pub record IsUnwritten {D : Type 0} (form : Form D) (before after : D) : Type 0 where
  pub same : form.content after ≡ form.content before
  pub within : Within (form.images before) (form.images after)
  pub since : LeavesOnly form.moment form.images_since before after (form.images before)

pub record AreUnwritten {D : Type 0} (form : Form D) (before after : Disks D) : Type 0 where
  pub first : IsUnwritten form before.first after.first
  pub second : IsUnwritten form before.second after.second
