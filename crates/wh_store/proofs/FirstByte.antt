-- Whether a file is empty, by its length and its first byte.
use Rattle.std.proofs.Common.{◌≡◌, ℕ, ◌<◌, ◌≤◌, List, [], ◌∷◌, length, get_or, not, true, refl, arith}
use Rattle.wh_journal.specs.File.{is_empty, is_open}

pub short_is_empty : (file : List ℕ) → length file ≤ 1 → is_empty file ≡ true
short_is_empty [] short = refl
short_is_empty (mark ∷ []) short = refl
short_is_empty (mark ∷ byte ∷ bytes) short = absurd (omega arith)

pub first_decides : (file : List ℕ) → 1 < length file → is_empty file ≡ not (is_open (get_or file 0 0))
first_decides [] long = absurd (omega arith)
first_decides (mark ∷ []) long = absurd (omega arith)
first_decides (mark ∷ byte ∷ bytes) long = refl
