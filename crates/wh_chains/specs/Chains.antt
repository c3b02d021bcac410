-- Slots by their keys.
use Rattle.std.specs.Prelude.{ℕ, zero, suc, Bool, List, Option, None, Some, slice_index, nat_eq, if◌then◌else◌}

-- what contracts see of chains: the key of each slot, and for how many more slots there is room
pub record KeyedSlots : Type 0 where
  pub keys : List ℕ
  pub spare : ℕ

-- whether a slot has the key
abbrev pub has_key : List ℕ → ℕ → ℕ → Bool
has_key keys key slot = nat_eq (slice_index keys slot) key

-- the last slot below a number that passes a test
abbrev pub last_slot : (ℕ → Bool) → ℕ → Option ℕ
last_slot p zero = None
last_slot p (suc k) = if p k then Some k else last_slot p k
