-- How a count of faults moves in a call.
use Rattle.std.specs.Prelude.{◌≡◌, ◌⊎◌, ℕ, ◌+◌, ◌-◌, ◌^◌, ◌≤◌, min, Bool, true, false}

-- the count rose, or stands at the greatest value that a u64 has
pub record Rose (before now : ℕ) : Type 0 where
  pub later : before ≤ now
  pub counted : min (before + 1) (2 ^ 64 - 1) ≤ now

-- where the device failed its count rose, and else the count is as before
abbrev pub IsCounted : Bool → ℕ → ℕ → Type 0
IsCounted true before now = Rose before now
IsCounted false before now = now ≡ before

-- the same of a call over two devices: where it failed the count of one of them rose, and neither fell
abbrev pub IsCountedPair : Bool → ℕ → ℕ → ℕ → ℕ → Type 0
IsCountedPair true first_before first_now second_before second_now = (Rose first_before first_now × (second_before ≤ second_now)) ⊎ ((first_before ≤ first_now) × Rose second_before second_now)
IsCountedPair false first_before first_now second_before second_now = (first_now ≡ first_before) × (second_now ≡ second_before)
