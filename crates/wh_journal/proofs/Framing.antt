-- A body in its frame.
use Rattle.std.proofs.Common.{◌≡◌, ℕ, ◌+◌, List, [], ◌∷◌, length, arith}
use Rattle.std.proofs.lemmas.List.{length-append}
use Rattle.wh_journal.specs.File.{framed}

pub length-framed : (body : List ℕ) → length (framed body) ≡ 9 + length body
length-framed body = omega (arith, length-append body (0 ∷ []))
