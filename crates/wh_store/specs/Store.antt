-- What the calls on a store answer.
use Rattle.std.specs.Prelude.{◌≡◌, ◌⊎◌, ℕ, ◌+◌, ◌^◌, nat_lt, nat_le, Bool, true, false, ◌&&◌, ◌||◌, List, ◌∷◌, length, None, Some, Result, Ok, Err}
use Rattle.wh_codec.specs.declared.frame.Frame.TheVariants.{Snapshot}
use Rattle.wh_codec.specs.Body.{frame_bytes}
use Rattle.wh_journal.specs.File.{is_empty, framed}
use Rattle.wh_schema.specs.declared.spec.Spec.{Spec}
use Rattle.wh_schema.specs.Warehouse.{Row}
use Rattle.wh_spec_text.specs.Printed.{spec_text}
use Rattle.wh_store.specs.declared.fault.StoreFault.{StoreFault}
use Rattle.wh_store.specs.declared.fault.StoreFault.TheVariants as fault
use Rattle.wh_store.specs.declared.warehouse.Place.{Place}
use Rattle.wh_store.specs.declared.warehouse.Warehouse.{Warehouse}
use Rattle.wh_store.specs.declared.warehouse.Which.TheVariants.{First}
use Rattle.wh_store.specs.Image.{Image, Active, Holding, holding, first_over}
use Rattle.wh_store.specs.Warehouse.{IsWarehouseOf, IsPlaceOf}

-- ---- the file that a load writes

-- a snapshot of generation 1, before any change
abbrev pub loaded_body : Spec → List (List Row) → List ℕ
loaded_body spec tables = frame_bytes (Snapshot 1 0 (spec_text spec) tables)

-- one frame and a closed mark
abbrev pub loaded_file : Spec → List (List Row) → List ℕ
loaded_file spec tables = 1 ∷ framed (loaded_body spec tables)

abbrev pub loaded_image : Spec → List (List Row) → Image
loaded_image spec tables = record { generation = 1; seq = 0; spec = spec; tables = tables; end = 9 + length (loaded_body spec tables) }

abbrev pub loaded : Spec → List (List Row) → Active
loaded spec tables = record { which = First; image = loaded_image spec tables }

-- the file would pass 2^40 bytes, or the printed specification 2^32 - 1
abbrev pub is_too_large : Spec → List (List Row) → Bool
is_too_large spec tables = nat_lt (2 ^ 40) (10 + length (loaded_body spec tables)) || nat_le (2 ^ 32) (length (spec_text spec))

-- ---- create

-- the warehouse and the place of a store that was just loaded
pub record IsLoaded (spec : Spec) (tables : List (List Row)) (made : Warehouse × Place) : Type 0 where
  pub warehouse : IsWarehouseOf (loaded_image spec tables) made.0
  pub place : (second : List ℕ) → IsPlaceOf (loaded spec tables) (loaded_file spec tables) second made.1

abbrev pub are_empty : List ℕ → List ℕ → Bool
are_empty first second = is_empty first && is_empty second

-- what loading answers over two files
abbrev pub IsCreated : Spec → List (List Row) → List ℕ → List ℕ → Result (Warehouse × Place) StoreFault → Type 0
IsCreated spec tables first second (Ok made) = (are_empty first second ≡ true) × (first_over tables ≡ None) × (is_too_large spec tables ≡ false)
IsCreated spec tables first second (Err fault.AlreadyLoaded) = are_empty first second ≡ false
IsCreated spec tables first second (Err (fault.RowLimit k)) = (are_empty first second ≡ true) × (first_over tables ≡ Some k)
IsCreated spec tables first second (Err fault.FileLimit) = (are_empty first second ≡ true) × (first_over tables ≡ None) × (is_too_large spec tables ≡ true)
IsCreated spec tables first second (Err fault.DiskFault) = Unit {0}
IsCreated spec tables first second (Err fault.NoMemory) = Unit {0}
IsCreated spec tables first second (Err other) = ⊥

-- the two files are as they were, or hold what was loaded, which is within the limit: what a crash may leave of the first, beside the second
abbrev pub IsEmptyOrLoaded : Spec → List (List Row) → List ℕ → List ℕ → Type 0
IsEmptyOrLoaded spec tables second image = (is_empty image ≡ true) ⊎ ((is_too_large spec tables ≡ false) × (holding image second ≡ Ok (Some (loaded spec tables))))

-- ---- open

-- the warehouse and the place of what the files hold
pub record IsOpened (first second : List ℕ) (found : Holding) (opened : Warehouse × Place) : Type 0 where
  pub active : Active
  pub holds : found ≡ Ok (Some active)
  pub warehouse : IsWarehouseOf active.image opened.0
  pub place : IsPlaceOf active first second opened.1

-- what opening answers over two files
abbrev pub IsOpen : List ℕ → List ℕ → Result (Warehouse × Place) StoreFault → Type 0
IsOpen first second (Ok opened) = IsOpened first second (holding first second) opened
IsOpen first second (Err fault.NotLoaded) = holding first second ≡ Ok None
IsOpen first second (Err (fault.Damaged which at)) = holding first second ≡ Err (record { which = which; at = at })
IsOpen first second (Err fault.DiskFault) = Unit {0}
IsOpen first second (Err fault.NoMemory) = Unit {0}
IsOpen first second (Err other) = ⊥

-- ---- faults

abbrev pub is_disk_fault : {T : Type 0} → Result T StoreFault → Bool
is_disk_fault (Ok x) = false
is_disk_fault (Err fault.DiskFault) = true
is_disk_fault (Err other) = false

abbrev pub UnlessDiskFault : {T : Type 0} → Result T StoreFault → Type 0 → Type 0
UnlessDiskFault (Err fault.DiskFault) P = Unit {0}
UnlessDiskFault result P = P

-- a claim of a refusal, which touched no byte
abbrev pub Refuses : {T : Type 0} → Result T StoreFault → Type 0 → Type 0
Refuses (Ok x) P = Unit {0}
Refuses (Err fault.DiskFault) P = Unit {0}
Refuses (Err other) P = P
