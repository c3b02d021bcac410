-- The names of the change texts, by their numbers.
use Rattle.std.proofs.Common.{◌≡◌, ℕ, List, ◌++◌, map, refl}
use Rattle.std.specs.Prelude.{codes, decimal}
use Rattle.std.specs.Fmt.{digits}
use Rattle.std.specs.List.{range_with_len}
use Rattle.wh_gen.specs.Files.{change_names}

abbrev pub numbered : ℕ → List ℕ
numbered c = codes "change-" ++ decimal c

pub all_numbered : map numbered (range_with_len 1 10) ≡ change_names
unfolding digits
all_numbered = refl
