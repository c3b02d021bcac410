-- How a step of a command may end.
use Rattle.std.specs.Prelude.{◌≡◌, ℕ, Bool, true, false, List, Option, None, Some, Result, Ok, Err}
use Rattle.wh_io.specs.Sink.{gained, GainsPrefix}
use Rattle.wh_plan.specs.declared.plan.Plan.{Plan}
use Rattle.wh_schema.specs.declared.spec.Spec.{Spec}
use Rattle.wh_command.specs.declared.stop.Stop.{Stop}
use Rattle.wh_command.specs.declared.stop.Stop.TheVariants.{Usage, ReadFault, WriteFault, DiskFault, NotLoaded, AlreadyLoaded, Damaged, NoMemory}

-- a fault of a device or want of memory, which no definition of an outcome names
abbrev pub is_outside : Stop → Bool
is_outside (ReadFault file) = true
is_outside WriteFault = true
is_outside DiskFault = true
is_outside NoMemory = true
is_outside other = false

abbrev pub is_usage : {T : Type 0} → Result T Stop → Bool
is_usage (Err Usage) = true
is_usage (Err other) = false
is_usage (Ok value) = false

abbrev pub is_read_fault : {T : Type 0} → Result T Stop → Bool
is_read_fault (Err (ReadFault file)) = true
is_read_fault (Err other) = false
is_read_fault (Ok value) = false

abbrev pub is_write_fault : {T : Type 0} → Result T Stop → Bool
is_write_fault (Err WriteFault) = true
is_write_fault (Err other) = false
is_write_fault (Ok value) = false

abbrev pub is_disk_fault : {T : Type 0} → Result T Stop → Bool
is_disk_fault (Err DiskFault) = true
is_disk_fault (Err other) = false
is_disk_fault (Ok value) = false

-- what only a command on a store answers
abbrev pub is_store_stop : {T : Type 0} → Result T Stop → Bool
is_store_stop (Err DiskFault) = true
is_store_stop (Err NotLoaded) = true
is_store_stop (Err AlreadyLoaded) = true
is_store_stop (Err (Damaged words)) = true
is_store_stop (Err other) = false
is_store_stop (Ok value) = false

-- a step that only reads files blames neither a sink nor a store, nor the words
pub record BlamesFiles {T : Type 0} (result : Result T Stop) : Type 0 where
  pub no_write : is_write_fault result ≡ false
  pub no_store : is_store_stop result ≡ false
  pub no_usage : is_usage result ≡ false

-- a step that touches nothing outside blames no device
pub record BlamesNone {T : Type 0} (result : Result T Stop) : Type 0 where
  pub no_read : is_read_fault result ≡ false
  pub no_write : is_write_fault result ≡ false
  pub no_store : is_store_stop result ≡ false
  pub no_usage : is_usage result ≡ false

-- a fault of reading names a file of this kind
abbrev pub NamesRead : {T : Type 0} → (List ℕ → Type 0) → Result T Stop → Type 0
NamesRead IsRead (Err (ReadFault file)) = IsRead file
NamesRead IsRead (Err other) = Unit {0}
NamesRead IsRead (Ok value) = Unit {0}

abbrev pub UnlessOutside : Bool → Type 0 → Type 0
UnlessOutside true P = Unit {0}
UnlessOutside false P = P

-- A step answers what it should, where that is told. A fault of a device and want of memory come before any answer.
abbrev pub Settles : {T : Type 0} → Option (Result T Stop) → Result T Stop → Type 0
Settles None result = Unit {0}
Settles (Some wanted) (Ok value) = wanted ≡ Ok value
Settles (Some wanted) (Err stop) = UnlessOutside (is_outside stop) (wanted ≡ Err stop)

-- the specification of a plan
abbrev pub plan_spec : Result Plan Stop → Result Spec Stop
plan_spec (Ok plan) = Ok plan.spec
plan_spec (Err stop) = Err stop

-- One text is written: wholly, in part where the sink failed, or not at all where there was no memory for it.
abbrev pub Writes : {T : Type 0} → List ℕ → Option (List ℕ) → Option (List ℕ) → Result T Stop → Type 0
Writes text before after (Ok value) = after ≡ gained before text
Writes text before after (Err WriteFault) = GainsPrefix before after text
Writes text before after (Err NoMemory) = after ≡ before
Writes text before after (Err other) = ⊥

-- a claim of all but a fault of a disk
abbrev pub UnlessDisk : {T : Type 0} → Result T Stop → Type 0 → Type 0
UnlessDisk (Err DiskFault) P = Unit {0}
UnlessDisk result P = P

-- a claim of a stop but for a fault of a disk
abbrev pub OnStop : {T : Type 0} → Result T Stop → Type 0 → Type 0
OnStop (Ok value) P = Unit {0}
OnStop (Err DiskFault) P = Unit {0}
OnStop (Err other) P = P
