-- What the steps of a load answer.
use Rattle.std.specs.Prelude.{◌≡◌, ◌⊎◌, ℕ, ◌^◌, nat_le, true, List, [], ◌∷◌, length, None, Some, Ok}
use Rattle.wh_codec.specs.declared.frame.Frame.{Frame}
use Rattle.wh_codec.specs.declared.frame.Frame.TheVariants.{Snapshot, Change}
use Rattle.wh_journal.specs.File.{is_empty, frames_of}
use Rattle.wh_schema.specs.declared.spec.Spec.{Spec}
use Rattle.wh_schema.specs.Warehouse.{Row}
use Rattle.wh_store.specs.declared.fault.StoreFault.{StoreFault}
use Rattle.wh_store.specs.declared.fault.StoreFault.TheVariants as fault
use Rattle.wh_store.specs.Image.{first_over}
use Rattle.wh_store.specs.Store.{is_too_large}

-- the tables of a snapshot
abbrev pub tables_in : Frame → List (List Row)
tables_in (Snapshot generation seq spec tables) = tables
tables_in (Change seq deltas) = []

-- a text whose length passes four bytes
abbrev pub IsTooLong : List ℕ → StoreFault → Type 0
IsTooLong text fault.FileLimit = nat_le (2 ^ 32) (length text) ≡ true
IsTooLong text fault.NoMemory = Unit {0}
IsTooLong text other = ⊥

-- why no first snapshot was made
abbrev pub IsRefusedLoad : Spec → List (List Row) → StoreFault → Type 0
IsRefusedLoad spec tables (fault.RowLimit k) = first_over tables ≡ Some k
IsRefusedLoad spec tables fault.FileLimit = (first_over tables ≡ None) × (is_too_large spec tables ≡ true)
IsRefusedLoad spec tables fault.NoMemory = Unit {0}
IsRefusedLoad spec tables other = ⊥

-- the file as it was, or an empty one, or one frame with this body
abbrev pub IsKeptOrAlone : List ℕ → List ℕ → List ℕ → Type 0
IsKeptOrAlone file body image = (image ≡ file) ⊎ ((is_empty image ≡ true) ⊎ (frames_of image ≡ Ok (body ∷ [])))
