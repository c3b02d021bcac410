-- What two disks tell, and what a crash may leave of them.
use Rattle.std.specs.Prelude.{◌≡◌, ◌⊎◌, ℕ, List, Option, Some}
use Rattle.wh_io.specs.Crash.{Only, Within}
use Rattle.wh_io.specs.declared.disk.Disk.{Ghosts}
use Rattle.wh_runs.specs.Outcome.{Contents}

-- What a form of disk tells: the content, how often the device has failed, how many bytes were read, what a crash now may leave, the moment,
-- and what a crash since a moment may have left.
pub record Form (D : Type 0) : Type 1 where
  pub content : D → Option (List ℕ)
  pub faults : D → ℕ
  pub reads : D → ℕ
  pub images : D → List ℕ → Type 0
  pub moment : D → ℕ
  pub images_since : D → ℕ → List ℕ → Type 0

-- that of a type of disks
abbrev pub form : {D : Type 0} → Ghosts D → Form D
form disk = record {
  content = disk.content;
  faults = disk.faults;
  reads = disk.reads;
  images = disk.images;
  moment = disk.moment;
  images_since = disk.images_since;
}

-- both disks
pub record Disks (D : Type 0) : Type 0 where
  pub first : D
  pub second : D

abbrev pub both : {D : Type 0} → D → D → Disks D
both first second = record { first = first; second = second }

-- they tell these contents
pub record Tells {D : Type 0} (form : Form D) (disks : Disks D) (c : Contents) : Type 0 where
  pub first : form.content disks.first ≡ Some c.first
  pub second : form.content disks.second ≡ Some c.second

-- a crash now may leave this pair
pub record Leaves {D : Type 0} (form : Form D) (disks : Disks D) (c : Contents) : Type 0 where
  pub first : form.images disks.first c.first
  pub second : form.images disks.second c.second

-- they tell these contents, and nothing is pending
pub record Rests {D : Type 0} (form : Form D) (disks : Disks D) (c : Contents) : Type 0 where
  pub told : Tells form disks c
  pub first : Only c.first (form.images disks.first)
  pub second : Only c.second (form.images disks.second)

-- whatever may be left of each might have been left before
pub record NoMore {D : Type 0} (form : Form D) (before after : Disks D) : Type 0 where
  pub first : Within (form.images before.first) (form.images after.first)
  pub second : Within (form.images before.second) (form.images after.second)

-- they tell these contents, and nothing may be left of them that might not have been left before
pub record Keeps {D : Type 0} (form : Form D) (before after : Disks D) (c : Contents) : Type 0 where
  pub told : Tells form after c
  pub no_more : NoMore form before after

-- the contents after k pieces, at an exit that cut a command off or refused it: nothing is pending, or nothing was done
abbrev pub Stands : {D : Type 0} → Form D → Disks D → Disks D → Contents → ℕ → Type 0
Stands form before after c k = Rests form after c ⊎ ((k ≡ 0) × Keeps form before after c)

-- ---- crashes

-- one of the two files, its bytes among those of both, the contents with other bytes of it, its disk, and the other file
pub data Which : Type 0 where
  first_file : Which
  second_file : Which

abbrev pub part : Which → Contents → List ℕ
part first_file c = c.first
part second_file c = c.second

abbrev pub with_part : Which → List ℕ → Contents → Contents
with_part first_file bytes c = record { first = bytes; second = c.second }
with_part second_file bytes c = record { first = c.first; second = bytes }

abbrev pub disk_at : {D : Type 0} → Which → Disks D → D
disk_at first_file disks = disks.first
disk_at second_file disks = disks.second

abbrev pub other : Which → Which
other first_file = second_file
other second_file = first_file

-- A pair that a crash at one moment of a run may leave, where one file is written last. It may be left at entry; or while the other one is
-- written, beside what the last one held at entry; or while the last one is written, beside what the other one holds at exit, where it is no
-- image of the last one from before the run (where that was pending at entry, it never stood beside what was written since); or at exit.
-- That the other one is written while writes to the last one are still pending shows at the exits alone: any later call of a disk may fail, and
-- what may be left then is a pair of the old and the new.
pub data CrashPair {D : Type 0} (form : Form D) (last : Which) (start : Contents) (before after : Disks D) (c : Contents) : Type 0 where
  at_entry : Leaves form before c → CrashPair form last start before after c
  while_other : form.images_since (disk_at (other last) after) (form.moment (disk_at (other last) before)) (part (other last) c)
      → part last c ≡ part last start → CrashPair form last start before after c
  while_last : form.content (disk_at (other last) after) ≡ Some (part (other last) c)
      → form.images_since (disk_at last after) (form.moment (disk_at last before)) (part last c)
      → (form.images (disk_at last before) (part last c) → ⊥) → CrashPair form last start before after c
  at_exit : Leaves form after c → CrashPair form last start before after c
