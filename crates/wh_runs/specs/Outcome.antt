-- What a command comes to, piece by piece, over the bytes of two files.
use Rattle.std.specs.Prelude.{ℕ, zero, suc, Bool, true, false, List, [], ◌∷◌}
use Rattle.std.specs.List.{flat_map}

-- the bytes of both files
pub record Contents : Type 0 where
  pub first : List ℕ
  pub second : List ℕ

-- two empty files
abbrev pub empty : Contents
empty = record { first = []; second = [] }

-- a text for `out`, and the bytes that stand once it is written
pub record Piece : Type 0 where
  pub text : List ℕ
  pub contents : Contents

-- How a command ends: it is done, with a status; it is refused, with the reason; or it is cut off: by a fault in reading the file of a
-- name, for want of memory, by a fault in writing to `out`, by a fault of a disk.
pub data Finish (S R : Type 0) : Type 0 where
  done : S → Finish S R
  refused : R → Finish S R
  read_fault : List ℕ → Finish S R
  no_memory : Finish S R
  write_fault : Finish S R
  disk_fault : Finish S R

-- how it ended
abbrev pub is_refused : {S R : Type 0} → Finish S R → Bool
is_refused (refused reason) = true
is_refused other = false

abbrev pub is_read_fault : {S R : Type 0} → Finish S R → Bool
is_read_fault (read_fault name) = true
is_read_fault other = false

abbrev pub is_write_fault : {S R : Type 0} → Finish S R → Bool
is_write_fault write_fault = true
is_write_fault other = false

abbrev pub is_disk_fault : {S R : Type 0} → Finish S R → Bool
is_disk_fault disk_fault = true
is_disk_fault other = false

-- The contents at the start, the pieces in their order, and how it finishes where nothing cuts it off; whether it leaves the two files
-- alone, and which files of other names it may read while piece k is under way.
pub record Outcome (S R : Type 0) : Type 1 where
  pub start : Contents
  pub pieces : List Piece
  pub finish : Finish S R
  pub is_apart : Bool
  pub may_read : ℕ → List ℕ → Type 0

-- all texts, one behind another
abbrev pub texts : List Piece → List ℕ
texts pieces = flat_map (λ (piece : Piece). piece.text) pieces

-- the contents after the first k pieces
abbrev pub contents_after : Contents → List Piece → ℕ → Contents
contents_after start pieces zero = start
contents_after start [] (suc k) = start
contents_after start (piece ∷ pieces) (suc k) = contents_after piece.contents pieces k

-- the contents after all of them
abbrev pub last_contents : Contents → List Piece → Contents
last_contents start [] = start
last_contents start (piece ∷ pieces) = last_contents piece.contents pieces

-- the text of piece k, the first being 0
abbrev pub text_at : List Piece → ℕ → List ℕ
text_at [] k = []
text_at (piece ∷ pieces) zero = piece.text
text_at (piece ∷ pieces) (suc k) = text_at pieces k
