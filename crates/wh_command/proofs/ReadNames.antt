-- The file that a fault of reading names.
use Rattle.std.proofs.Common.{◌≡◌, List, ℕ, false, Result, Ok, Err}
use Rattle.wh_command.specs.declared.stop.Stop.{Stop}
use Rattle.wh_command.specs.declared.stop.Stop.TheVariants.{ReadFault}
use Rattle.wh_command.specs.Steps.{NamesRead, is_read_fault}

pub names_none : {T : Type 0} (P : List ℕ → Type 0) (result : Result T Stop) → is_read_fault result ≡ false → NamesRead P result
names_none P (Ok value) none = tt
names_none P (Err (ReadFault file)) none = absurd (cc (none))
names_none P (Err other) none = tt

pub names_map : {T : Type 0} (P Q : List ℕ → Type 0) → ((file : List ℕ) → P file → Q file) → (result : Result T Stop) → NamesRead P result → NamesRead Q result
names_map P Q step (Ok value) names = tt
names_map P Q step (Err (ReadFault file)) names = step file names
names_map P Q step (Err other) names = tt

-- a stop of one step is that of another
pub names_stop : (T U : Type 0) (P : List ℕ → Type 0) (stop : Stop) → NamesRead {T = T} P (Err stop) → NamesRead {T = U} P (Err stop)
names_stop T U P (ReadFault file) names = names
names_stop T U P other names = tt

pub stop_none : (T U : Type 0) (P : List ℕ → Type 0) (stop : Stop) → is_read_fault {T = T} (Err stop) ≡ false → NamesRead {T = U} P (Err stop)
stop_none T U P (ReadFault file) none = absurd (cc (none))
stop_none T U P other none = tt
