-- Rows in numbered slots. A row that was deleted keeps its slot, which is marked dead, until the slots are numbered anew.
use Rattle.std.specs.Prelude.{◌≡◌, ◌+◌, ◌-◌, ◌<◌, ◌≤◌, ◌&&◌, ℕ, Bool, true, not, List, [], ◌∷◌, ◌++◌, map, filter, length, All, slice_index, slice_index_or}
use Rattle.wh_base.specs.declared.value.Value.{Value}
use Rattle.wh_base.specs.Columns.{picked}
use Rattle.wh_base.specs.Value.{row_eq}
use Rattle.wh_chains.specs.Chains.{KeyedSlots}
use Rattle.wh_table.specs.declared.index.Index.{Index}
use Rattle.wh_table.specs.declared.slot.Slot.{Slot}
use Rattle.wh_table.specs.Hash.{hash_of, key_at}

-- what contracts see of rows in slots: the live rows, the sets of columns to look them up by, and for how many more there is room
pub record SlottedRows : Type 0 where
  pub rows : List (List Value)
  pub indexes : List (List ℕ)
  pub spare : ℕ

abbrev pub is_live : Slot → Bool
is_live slot = not slot.dead

-- the rows of all slots, and those of the live ones
abbrev pub rows_of : List Slot → List (List Value)
rows_of slots = map (λ s. s.row) slots

abbrev pub live_rows : List Slot → List (List Value)
live_rows slots = rows_of (filter is_live slots)

-- whether a slot is live and its row passes a test
abbrev pub is_live_with : (List Value → Bool) → Slot → Bool
is_live_with test slot = is_live slot && test slot.row

-- whether a row is this one, and whether its values at the places are these
abbrev pub is_row : List Value → List Value → Bool
is_row row other = row_eq row other

abbrev pub has_at : List ℕ → List Value → List Value → Bool
has_at places values row = row_eq (picked places row) values

-- each live slot whose row passes has the key
pub record AreKeyed (test : List Value → Bool) (slots : List Slot) (keys : List ℕ) (key : ℕ) : Type 0 where
  pub long : length keys ≡ length slots
  pub keyed : (k : ℕ) (d : Slot) → k < length slots → is_live_with test (slice_index_or slots k d) ≡ true → slice_index keys k ≡ key

-- a live slot whose row passes
pub record IsFound (test : List Value → Bool) (slots : List Slot) (slot : ℕ) : Type 0 where
  pub within : slot < length slots
  pub passes : (d : Slot) → is_live_with test (slice_index_or slots slot d) ≡ true

-- the index finds each of the rows by its values at the places, and has room for more
pub record IsIndexOf (rows : List (List Value)) (spare : ℕ) (index : Index) : Type 0 where
  pub keyed : index.chains.keys ≡ map (key_at index.places) rows
  pub room : spare ≤ index.chains.spare

abbrev pub AreIndexesOf : List (List Value) → ℕ → List Index → Type 0
AreIndexesOf rows spare indexes = All (IsIndexOf rows spare) indexes

-- the sets of columns of indexes
abbrev pub column_sets : List Index → List (List ℕ)
column_sets indexes = map (λ i. i.places) indexes

-- the number of live rows, the chains over whole rows and the indexes are right for the slots, and have room for more
pub record AreKept (slots : List Slot) (live spare : ℕ) (whole : KeyedSlots) (indexes : List Index) : Type 0 where
  pub counted : live ≡ length (live_rows slots)
  pub whole_keys : whole.keys ≡ map hash_of (rows_of slots)
  pub whole_room : spare ≤ whole.spare
  pub indexed : AreIndexesOf (rows_of slots) spare indexes

-- chains with these keys in place of their own, and the room that is then left
abbrev pub with_keys : KeyedSlots → List ℕ → KeyedSlots
with_keys chains keys = record { keys = keys; spare = (chains.spare + length chains.keys) - length keys }

-- the index with one more slot, and with the slots of these rows alone
abbrev pub linked : List Value → Index → Index
linked row index = record { places = index.places; chains = record { keys = index.chains.keys ++ key_at index.places row ∷ []; spare = index.chains.spare - 1 } }

abbrev pub relinked : List (List Value) → Index → Index
relinked rows index = record { places = index.places; chains = with_keys index.chains (map (key_at index.places) rows) }
