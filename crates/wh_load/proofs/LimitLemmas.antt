-- The first table with too many rows is one of the tables.
use Rattle.std.proofs.Common.{◌≡◌, ℕ, ◌<◌, List, [], length, Some, nat_lt}
use Rattle.std.proofs.lemmas.List.Quantifiers.{position-Some}
use Rattle.wh_base.specs.declared.value.Value.{Value}
use Rattle.wh_load.specs.Load.{first_over}

pub over_within : (tables : List (List (List Value))) (k : ℕ) → first_over tables ≡ Some k → k < length tables
over_within tables k is = (position-Some (λ (rows : List (List Value)). nat_lt 4000000 (length rows)) tables k [] is).0
