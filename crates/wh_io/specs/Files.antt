-- What a file is read as.
use Rattle.std.specs.Prelude.{◌≡◌, ◌<◌, ℕ, List, length, Bool, true, false, Option, None, Some, Result, Ok, Err}
use Rattle.wh_base.specs.RoomyText.{RoomyText}
use Rattle.wh_io.specs.declared.files.FileFault.{FileFault}
use Rattle.wh_io.specs.declared.files.FileFault.TheVariants.{Missing, TooLong, Failed, NoMemory}

-- what stands under each name
abbrev pub Held : Type 0
Held = List ℕ → Option (List ℕ)

-- the device failed
abbrev pub is_read_fault : {T : Type 0} → Result T FileFault → Bool
is_read_fault (Err Failed) = true
is_read_fault (Err Missing) = false
is_read_fault (Err TooLong) = false
is_read_fault (Err NoMemory) = false
is_read_fault (Ok text) = false

-- more than this many bytes stand there
abbrev pub IsLonger : Option (List ℕ) → ℕ → Type 0
IsLonger None limit = ⊥
IsLonger (Some bytes) limit = limit < length bytes

-- what a read answers, from what stands under the name
abbrev pub Reads : Option (List ℕ) → ℕ → Result RoomyText FileFault → Type 0
Reads file limit (Ok text) = file ≡ Some text.bytes
Reads file limit (Err Missing) = file ≡ None
Reads file limit (Err TooLong) = IsLonger file limit
Reads file limit (Err Failed) = Unit {0}
Reads file limit (Err NoMemory) = Unit {0}
