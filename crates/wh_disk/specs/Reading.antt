-- What a reader is read as.
use Rattle.std.specs.Prelude.{◌≡◌, ◌<◌, ℕ, List, length, Option, Result, Ok, Err, IfSome}
use Rattle.wh_base.specs.RoomyText.{RoomyText}
use Rattle.wh_disk.specs.declared.files.Unread.{Unread}
use Rattle.wh_disk.specs.declared.files.Unread.TheVariants.{TooLong, Failed, NoMemory}

-- all the bytes that are left, or there are more than the limit, where it is known what is left
abbrev pub ReadsAll : Option (List ℕ) → ℕ → Result RoomyText Unread → Type 0
ReadsAll left limit (Ok text) = IfSome left (λ bytes. text.bytes ≡ bytes)
ReadsAll left limit (Err TooLong) = IfSome left (λ bytes. limit < length bytes)
ReadsAll left limit (Err Failed) = Unit {0}
ReadsAll left limit (Err NoMemory) = Unit {0}
