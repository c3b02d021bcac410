-- What a change comes to before anything is written.
use Rattle.std.specs.Prelude.{◌≡◌, ◌+◌, ◌-◌, ◌^◌, ◌<◌, ◌≤◌, List, length, map, None, Some}
use Rattle.wh_base.specs.declared.value.Delta.{Delta}
use Rattle.wh_base.specs.RowSet.{in_order}
use Rattle.wh_check.specs.Check.{source_deltas, sources_after}
use Rattle.wh_load.specs.declared.fault.LoadFault.{LoadFault}
use Rattle.wh_load.specs.declared.fault.LoadFault.TheVariants as load
use Rattle.wh_schema.specs.Changes.{Line}
use Rattle.wh_schema.specs.Constraints.{broken}
use Rattle.wh_schema.specs.Warehouse.{stored}
use Rattle.wh_store.specs.declared.warehouse.NetChange.{NetChange}
use Rattle.wh_store.specs.declared.warehouse.Place.{Place}
use Rattle.wh_store.specs.declared.warehouse.Warehouse.{Warehouse}
use Rattle.wh_store.specs.Commit.{CanApplyAll, HasRoom, ReadyChange, change_body}
use Rattle.wh_store.specs.Image.{Image, first_over}
use Rattle.wh_refresh.specs.declared.fault.RefreshFault.{RefreshFault}
use Rattle.wh_refresh.specs.declared.fault.RefreshFault.TheVariants as fault
use Rattle.wh_refresh.specs.Refresh.{stored_changes}

-- the image of a warehouse that stands in no file
abbrev pub own_image : Warehouse → Image
own_image w = record { generation = 0; seq = w.seq; spec = w.plan.spec; tables = map (λ t. in_order t.rows) w.tables; end = 0 }

-- What the lines of a change make of the sources and of the stored tables, where the sources are legal then and no table is over the limit.
pub record IsNet (i : Image) (lines : List Line) (net : NetChange) : Type 0 where
  pub source : net.source ≡ source_deltas i lines
  pub stored_is : net.stored ≡ stored_changes i lines
  pub legal : broken i.spec (sources_after i lines) ≡ None
  pub under : first_over (stored i.spec (sources_after i lines)) ≡ None

-- what a fault of loading the changed sources says to who makes the change
abbrev pub of_load : LoadFault → RefreshFault
of_load (load.Broken b) = fault.Broken b
of_load (load.RowLimit k) = fault.RowLimit k
of_load load.NoMemory = fault.NoMemory

-- why lines come to no change
abbrev pub IsRefused : Image → List Line → RefreshFault → Type 0
IsRefused i lines (fault.Broken b) = broken i.spec (sources_after i lines) ≡ Some b
IsRefused i lines (fault.RowLimit k) = (broken i.spec (sources_after i lines) ≡ None) × (first_over (stored i.spec (sources_after i lines)) ≡ Some k)
IsRefused i lines fault.NoMemory = Unit {0}
IsRefused i lines other = ⊥

-- The deltas are ready to be committed in the warehouse at the place.
pub record IsReady (w : Warehouse) (p : Place) (deltas : List Delta) (r : ReadyChange) : Type 0 where
  pub deltas_are : r.deltas ≡ deltas
  pub body : r.body ≡ change_body (w.seq + 1) r.deltas
  pub applies : CanApplyAll w.tables r.deltas
  pub room : HasRoom w.tables r.deltas
  pub seq : w.seq < 2 ^ 64 - 1
  pub fits : p.journal.end + 10 + length r.body ≤ 2 ^ 40

-- why deltas cannot be numbered or written at the place
abbrev pub IsFull : Warehouse → Place → List Delta → RefreshFault → Type 0
IsFull w p deltas fault.SequenceLimit = w.seq ≡ 2 ^ 64 - 1
IsFull w p deltas fault.FileLimit = (w.seq < 2 ^ 64 - 1) × (2 ^ 40 < p.journal.end + 10 + length (change_body (w.seq + 1) deltas))
IsFull w p deltas fault.NoMemory = Unit {0}
IsFull w p deltas other = ⊥
