-- The place of a name among names.
use Rattle.std.proofs.Common.{ℕ, suc, ◌≤◌, true, false, List, [], ◌∷◌, length, arith, if◌then◌else◌}
use Rattle.wh_base.specs.Columns.{place_of, name_eq}

-- is at most their number
pub place_of_within : (names : List (List ℕ)) (name : List ℕ) → place_of names name ≤ length names
place_of_within [] name = omega arith
place_of_within (n ∷ names) name =
    let more = place_of_within names name in
    elim (name_eq name n) as (λ b. (if b then 0 else suc (place_of names name)) ≤ suc (length names)) [ true ↦ omega arith | false ↦ omega arith ]
