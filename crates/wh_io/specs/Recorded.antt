-- The calls that a disk in memory has recorded, the newest first, and what they leave.
use Rattle.std.specs.Prelude.{◌≡◌, ◌⊎◌, ℕ, ◌-◌, ◌≤◌, Bool, true, false, nat_le, if◌then◌else◌, List, [], ◌∷◌, length, take, replicate}
use Rattle.wh_io.specs.Disk.{written, Torn, PartlyCut}

-- a call, and whether it was done
pub data Recorded : Type 0 where
  wrote : ℕ → List ℕ → Bool → Recorded
  cut_off : ℕ → Bool → Recorded
  synced : Bool → Recorded

-- the calls, and the room that is left
pub record Recording : Type 0 where
  pub calls : List Recorded
  -- the bytes that may still be written, and the calls that may still be recorded
  pub room : ℕ
  pub spare : ℕ

-- the content with these bytes at a place, which stays as it is where the place is past its end
abbrev pub placed : List ℕ → ℕ → List ℕ → List ℕ
placed content at bytes = if nat_le at (length content) then written content at bytes else content

-- the content after a call; one that failed changed nothing
abbrev pub after : Recorded → List ℕ → List ℕ
after (wrote at bytes true) content = placed content at bytes
after (wrote at bytes false) content = content
after (cut_off to true) content = take to content
after (cut_off to false) content = content
after (synced done) content = content

-- the content after the calls
abbrev pub played : List ℕ → List Recorded → List ℕ
played start [] = start
played start (call ∷ older) = after call (played start older)

-- what a crash may leave after a call, from what it might have left before and the content
abbrev pub LeftBy : Recorded → (List ℕ → Type 0) → List ℕ → List ℕ → Type 0
LeftBy (wrote at bytes done) old content c = (d : List ℕ) × old d × Torn at (length bytes) d c
LeftBy (cut_off to done) old content c = (d : List ℕ) × old d × PartlyCut to d c
LeftBy (synced true) old content c = c ≡ content
LeftBy (synced false) old content c = old c

-- what a crash may leave after the calls
abbrev pub Left : List ℕ → List Recorded → List ℕ → Type 0
Left start [] c = c ≡ start
Left start (call ∷ older) c = LeftBy call (Left start older) (played start older) c

-- what a crash may have left at some moment since there were t calls
abbrev pub LeftSince : List ℕ → List Recorded → ℕ → List ℕ → Type 0
LeftSince start [] t c = c ≡ start
LeftSince start (call ∷ older) t c = Left start (call ∷ older) c ⊎ ((t ≤ length older) × LeftSince start older t c)

-- n places from one on hold the fill
abbrev pub filled : ℕ → List ℕ → ℕ → ℕ → List ℕ
filled fill content at n = placed content at (replicate n fill)

-- the torn image after a call, from the torn image and the content before it
abbrev pub torn_by : ℕ → Recorded → List ℕ → List ℕ → List ℕ
torn_by fill (wrote at bytes done) old content = filled fill old at (length bytes)
torn_by fill (cut_off to done) old content = filled fill old to (length old - to)
torn_by fill (synced true) old content = content
torn_by fill (synced false) old content = old

-- the image in which each pending place holds the fill
abbrev pub torn : ℕ → List ℕ → List Recorded → List ℕ
torn fill start [] = start
torn fill start (call ∷ older) = torn_by fill call (torn fill start older) (played start older)
