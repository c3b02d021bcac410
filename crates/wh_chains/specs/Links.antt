-- Links from slot to slot, by the buckets of their keys. A link is 0, which leads nowhere, or one more than a slot.
use Rattle.std.specs.Prelude.{◌≡◌, ◌+◌, ◌<◌, ◌≤◌, ◌%◌, ◌^◌, ℕ, zero, suc, Bool, List, Option, None, Some, length, slice_index, nat_eq, if◌then◌else◌, vec_len, vec_capacity}
use Rattle.wh_chains.specs.declared.links.Links.{Links}

-- the link to the last slot below a number that passes a test
abbrev pub last_link : (ℕ → Bool) → ℕ → ℕ
last_link p zero = zero
last_link p (suc k) = if p k then suc k else last_link p k

-- where a link leads
abbrev pub slot_at : ℕ → Option ℕ
slot_at zero = None
slot_at (suc k) = Some k

-- whether a slot's key falls into a bucket
abbrev pub in_bucket : List ℕ → ℕ → ℕ → ℕ → Bool
in_bucket keys buckets bucket slot = nat_eq (slice_index keys slot % buckets) bucket

-- each slot leads to the last one before it in its bucket
abbrev pub AreLinked : ℕ → List ℕ → List ℕ → Type 0
AreLinked buckets keys nexts = (s : ℕ) → s < length keys → slice_index nexts s ≡ last_link (in_bucket keys buckets (slice_index keys s % buckets)) s

-- each bucket leads to its last slot
abbrev pub AreHeads : List ℕ → List ℕ → Type 0
AreHeads heads keys = (b : ℕ) → b < length heads → slice_index heads b ≡ last_link (in_bucket keys (length heads) b) (length keys)

-- heads and links are right for the keys of the slots
pub record AreChained (heads nexts keys : List ℕ) : Type 0 where
  pub some : 0 < length heads
  pub long : length nexts ≡ length keys
  pub are_heads : AreHeads heads keys
  pub are_linked : AreLinked (length heads) keys nexts

abbrev pub IsChained : Links → List ℕ → Type 0
IsChained links keys = AreChained links.heads.items links.nexts.items keys

-- room for so many more slots, in memory and in numbers
abbrev pub HasRoom : Links → ℕ → Type 0
HasRoom links n = (vec_len links.nexts + n ≤ vec_capacity links.nexts) × (vec_len links.nexts + n < 2 ^ 32)
