-- What the definitions say of the counter, and bodies that they refuse.
use Rattle.std.specs.Prelude.{◌≡◌, ℕ, List, [], ◌∷◌, None, Some, codes}
use Rattle.std.specs.Str.{bytes_eq}
use Rattle.std.specs.Prelude.{if◌then◌else◌}
use Rattle.wh_io.specs.Files.{Held}
use Rattle.wh_runs.specs.Outcome.{Contents, empty, Piece, done, refused, read_fault, no_memory, disk_fault}
use Rattle.wh_runs.specs.Disks.{Form, Tells, Leaves, Rests}
use Rattle.wh_runs.specs.Program.{expected}
use Rattle.wh_runs.specs.Ends.{Seen}
use Rattle.wh_runs.specs.Answers.{Answers}
use Rattle.wh_runs.specs.Counter.{Command, create, add, move, ask, created_before, counter}

-- ---- what commands come to

-- contents, pieces, and those of a command of the counter
abbrev pub pair : List ℕ → List ℕ → Contents
pair first second = record { first = first; second = second }

abbrev pub piece : List ℕ → Contents → Piece
piece text contents = record { text = text; contents = contents }

abbrev pub pieces : Command → Held → Contents → List Piece
pieces command held start = (expected counter command held start).pieces

-- the file `1` holds one byte, the file `2` holds two, and there is no other
abbrev pub two_files : Held
two_files name = if bytes_eq name (1 ∷ []) then Some (5 ∷ []) else if bytes_eq name (2 ∷ []) then Some (7 ∷ 8 ∷ []) else None

-- Where nothing is counted the first file has its first byte.
abbrev pub CreatesFirst : Type 0
CreatesFirst = (held : Held) → pieces create held empty ≡ piece (codes "created\n") (pair (1 ∷ []) []) ∷ []

-- Each accepted file has its change beside its text, and another one its text alone; the shorter file keeps its bytes.
abbrev pub AddsInPlace : Type 0
AddsInPlace = pieces (add ((1 ∷ []) ∷ (2 ∷ []) ∷ (1 ∷ []) ∷ [])) two_files (pair (9 ∷ []) (4 ∷ 6 ∷ []))
    ≡ piece (codes "added\n") (pair (9 ∷ []) (4 ∷ 6 ∷ 1 ∷ []))
    ∷ piece (codes "not added\n") (pair (9 ∷ []) (4 ∷ 6 ∷ 1 ∷ []))
    ∷ piece (codes "added\n") (pair (9 ∷ []) (4 ∷ 6 ∷ 1 ∷ 1 ∷ [])) ∷ []

-- All is moved into the other file, and the one that counted is emptied.
abbrev pub MovesOver : Type 0
MovesOver = (held : Held) → (pieces move held (pair (4 ∷ 6 ∷ []) (9 ∷ [])) ≡ piece (codes "moved\n") (pair [] (4 ∷ 6 ∷ [])) ∷ [])
    × (pieces move held (pair [] (4 ∷ 6 ∷ [])) ≡ piece (codes "moved\n") (pair (4 ∷ 6 ∷ []) []) ∷ [])

-- A question has its answer, and each byte stays.
abbrev pub AsksOnly : Type 0
AsksOnly = (held : Held) → pieces ask held (pair (4 ∷ 6 ∷ []) (9 ∷ [])) ≡ piece (2 ∷ []) (pair (4 ∷ 6 ∷ []) (9 ∷ [])) ∷ []

-- What is refused has no pieces.
abbrev pub RefusesAgain : Type 0
RefusesAgain = (held : Held) → ((expected counter create held (pair (4 ∷ []) [])).finish ≡ refused created_before) × (pieces create held (pair (4 ∷ []) []) ≡ [])

-- ---- bodies that are refused

-- A program that creates the counter, prints its line, and then answers that there was no memory.
abbrev pub NoLateWant : (F : Type 0) {D : Type 0} → Form D → Type 0
NoLateWant F form = (held : Held) (seen : Seen F _) → seen.before.held ≡ Some held → Tells form seen.before.disks empty
    → seen.before.out ≡ Some [] → seen.after.out ≡ Some (codes "created\n") → Answers form counter create seen no_memory → ⊥

-- One that adds all files, prints all lines, and then reads one more and answers that this failed.
abbrev pub NoLateRead : (F : Type 0) {D : Type 0} → Form D → Type 0
NoLateRead F form = (seen : Seen F _) (name : List ℕ) → seen.before.held ≡ Some two_files → Tells form seen.before.disks (pair (4 ∷ []) [])
    → seen.before.out ≡ Some [] → seen.after.out ≡ Some (codes "added\n") → Answers form counter (add ((1 ∷ []) ∷ [])) seen (read_fault name) → ⊥

-- One that refuses to create what is there, but has cut off bytes that mean nothing.
abbrev pub NoCutRefusal : (F : Type 0) {D : Type 0} → Form D → Type 0
NoCutRefusal F form = (seen : Seen F _) → Tells form seen.before.disks (pair (4 ∷ 6 ∷ []) (9 ∷ [])) → Tells form seen.after.disks (pair (4 ∷ 6 ∷ []) [])
    → Answers form counter create seen (refused created_before) → ⊥

-- One that reads a file of another name before it answers a question, as the object that counts its reads shows.
abbrev pub NoReadBehindQuestion : {D : Type 0} → Form D → Type 0
NoReadBehindQuestion form = (seen : Seen ℕ _) → seen.before.files ≡ 0 → seen.after.files ≡ 1 → Answers form counter ask seen (done tt) → ⊥

-- One that answers a question from what is still pending.
abbrev pub NoPendingAnswer : (F : Type 0) {D : Type 0} → Form D → Type 0
NoPendingAnswer F form = (held : Held) (seen : Seen F _) → seen.before.held ≡ Some held → Tells form seen.before.disks (pair (4 ∷ 6 ∷ []) [])
    → Leaves form seen.after.disks (pair (4 ∷ []) []) → Answers form counter ask seen (done tt) → ⊥

-- One that empties the old file before the new one stands, when the write of the new one fails.
abbrev pub NoEarlyEmptying : (F : Type 0) {D : Type 0} → Form D → Type 0
NoEarlyEmptying F form = (held : Held) (seen : Seen F _) → seen.before.held ≡ Some held → Rests form seen.before.disks (pair (4 ∷ []) [])
    → Tells form seen.after.disks empty → Answers form counter move seen disk_fault → ⊥

-- One that counts one more and tells nothing of it.
abbrev pub NoSilentChange : (F : Type 0) {D : Type 0} → Form D → Type 0
NoSilentChange F form = (held : Held) (seen : Seen F _) → seen.before.held ≡ Some held → Tells form seen.before.disks (pair (4 ∷ []) [])
    → Tells form seen.after.disks (pair (4 ∷ 1 ∷ []) []) → Answers form counter (add []) seen (done tt) → ⊥
