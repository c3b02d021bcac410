-- The file of a journal. A frame is an open mark, the length of its body in eight bytes, and the body. Frames stand one after
-- another from the first byte on, then a closed mark, and then any bytes.
use Rattle.std.specs.Prelude.{◌≡◌, ℕ, zero, suc, ◌+◌, ◌-◌, ◌==◌, ◌<◌, ◌^◌, Bool, true, false, not, List, [], ◌∷◌, ◌++◌, length, take, drop, Option, Some, None, Result, Ok, Err, nat_lt, if◌then◌else◌}
use Rattle.std.specs.Int.{w64, from_be_bytes, to_be_bytes}

-- an open mark is the byte 1: a frame follows
abbrev pub is_open : ℕ → Bool
is_open mark = mark == 1

-- the length that stands in the first eight bytes
abbrev pub length_in : List ℕ → ℕ
length_in bytes = from_be_bytes w64 (take 8 bytes)

-- the body behind an open mark, and the bytes after it; none where the frame passes the end
abbrev pub body_at : List ℕ → Option (List ℕ × List ℕ)
body_at bytes = if nat_lt (length bytes) (8 + length_in bytes) then None else Some (take (length_in bytes) (drop 8 bytes), drop (8 + length_in bytes) bytes)

-- the bodies of frames that stand one after another, and whether a closed mark follows
pub record Walk : Type 0 where
  pub bodies : List (List ℕ)
  pub closed : Bool

abbrev pub behind : List ℕ → Walk → Walk
behind body rest = record { bodies = body ∷ rest.bodies; closed = rest.closed }

abbrev pub walk_on : (List ℕ → Walk) → Option (List ℕ × List ℕ) → Walk
walk_on walk None = record { bodies = []; closed = false }
walk_on walk (Some found) = behind found.0 (walk found.1)

-- at most so many frames
unfoldable pub walk_within : ℕ → List ℕ → Walk
walk_within zero bytes = record { bodies = []; closed = false }
walk_within (suc n) [] = record { bodies = []; closed = false }
walk_within (suc n) (mark ∷ bytes) = if is_open mark then walk_on (walk_within n) (body_at bytes) else record { bodies = []; closed = true }

-- all of them: a frame has nine bytes at least
abbrev pub walk : List ℕ → Walk
walk bytes = walk_within (suc (length bytes)) bytes

-- how many bytes the frames take
abbrev pub span : List (List ℕ) → ℕ
span [] = 0
span (body ∷ bodies) = 9 + length body + span bodies

-- bytes that are a frame and more: a body behind an open mark and the eight bytes of its length
pub record IsFrame (body bytes more : List ℕ) : Type 0 where
  pub header : List ℕ
  pub eight : length header ≡ 8
  pub says : from_be_bytes w64 header ≡ length body
  pub parts : bytes ≡ 1 ∷ (header ++ (body ++ more))

-- bytes that are frames of these bodies, one after another
abbrev pub AreFrames : List (List ℕ) → List ℕ → Type 0
AreFrames [] bytes = bytes ≡ []
AreFrames (body ∷ bodies) bytes = (more : List ℕ) × IsFrame body bytes more × AreFrames bodies more

-- a file is empty where it has at most one byte, or begins with a closed mark
abbrev pub is_empty : List ℕ → Bool
is_empty [] = true
is_empty (mark ∷ []) = true
is_empty (mark ∷ byte ∷ bytes) = not (is_open mark)

abbrev pub judged : Walk → Result (List (List ℕ)) ℕ
judged walked = if walked.closed then Ok walked.bodies else Err (span walked.bodies)

-- the bodies of a file's frames, which are none where it is empty; or the place of the first wrong mark
abbrev pub frames_of : List ℕ → Result (List (List ℕ)) ℕ
frames_of file = if is_empty file then Ok [] else judged (walk file)

-- the file is frames of these bodies, a closed mark and any bytes
pub record IsSpelledBy (file : List ℕ) (bodies : List (List ℕ)) : Type 0 where
  pub front : List ℕ
  pub mark : ℕ
  pub tail : List ℕ
  pub frames : AreFrames bodies front
  pub shut : is_open mark ≡ false
  pub parts : file ≡ front ++ mark ∷ tail

-- no mark, or an open one whose frame passes the end
abbrev pub IsWrong : List ℕ → Type 0
IsWrong [] = Unit {0}
IsWrong (mark ∷ bytes) = (is_open mark ≡ true) × (length bytes < 8 + length_in bytes)

-- the file is frames, and behind them at this place stands a wrong mark
pub record IsWrongAt (file : List ℕ) (place : ℕ) : Type 0 where
  pub bodies : List (List ℕ)
  pub front : List ℕ
  pub rest : List ℕ
  pub frames : AreFrames bodies front
  pub length : length front ≡ place
  pub wrong : IsWrong rest
  pub parts : file ≡ front ++ rest

-- the place of the closed mark, where one ends the frames
abbrev pub end_of : List ℕ → Option ℕ
end_of file = if (walk file).closed then Some (span (walk file).bodies) else None

-- what is written behind a closed mark that is then opened: the length, the body and a closed mark
abbrev pub framed : List ℕ → List ℕ
framed body = to_be_bytes w64 (length body) ++ body ++ 0 ∷ []

-- the body of what is so written
abbrev pub framed_body : List ℕ → List ℕ
framed_body bytes = take (length bytes - 9) (drop 8 bytes)

-- bytes that are a body so written, of a length that eight bytes hold
pub record IsWholeFrame (bytes : List ℕ) : Type 0 where
  pub whole : bytes ≡ framed (framed_body bytes)
  pub fits : length (framed_body bytes) < 2 ^ 64
