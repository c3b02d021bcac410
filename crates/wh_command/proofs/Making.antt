-- A store is made: from the answer of its crate to the stop that is told.
use Rattle.std.proofs.Common.{◌≡◌, inl, inr, ℕ, Bool, true, false, List, Option, None, Some, Result, Ok, Err, IfSome, refl, sym, ◌∙◌, subst}
use Rattle.wh_io.specs.Causes.{IsCountedPair}
use Rattle.wh_schema.specs.declared.spec.Spec.{Spec}
use Rattle.wh_schema.specs.Warehouse.{Row}
use Rattle.wh_store.specs.declared.fault.StoreFault.{StoreFault}
use Rattle.wh_store.specs.declared.fault.StoreFault.TheVariants as fault
use Rattle.wh_store.specs.declared.warehouse.Place.{Place}
use Rattle.wh_store.specs.declared.warehouse.Warehouse.{Warehouse}
use Rattle.wh_store.specs.Store as store
use Rattle.wh_store.specs.Image.{holding}
use Rattle.wh_command.specs.declared.stop.Stop.{Stop}
use Rattle.wh_command.specs.declared.stop.Stop.TheVariants.{DiskFault, Limit, NoMemory, AlreadyLoaded}
use Rattle.wh_command.specs.Load.{IsMade, IsMakingStop, if_unloaded}
use Rattle.wh_command.specs.Steps.{Settles, OnStop, UnlessDisk, is_usage, is_read_fault, is_write_fault, is_disk_fault}
use Rattle.wh_command.specs.Words.{warehouse_file_words}
use Rattle.wh_command.proofs.Stores.{unloaded_is, loaded_is}

abbrev Made : Type 0
Made = Result (Warehouse × Place) StoreFault

-- ---- by the stop

module _ (P : Stop → Type 0) (disk : P DiskFault) (limit : P (Limit warehouse_file_words)) (none : P NoMemory) where
  by_stop : (f : StoreFault) (stop : Stop) → IsMakingStop f stop → P stop
  by_stop fault.DiskFault stop is = subst P (sym is) disk
  by_stop fault.FileLimit stop (inl is) = subst P (sym is) limit
  by_stop fault.FileLimit stop (inr is) = subst P (sym is) none
  by_stop other stop is = subst P (sym is) none

pub no_usage : (f : StoreFault) (stop : Stop) → IsMakingStop f stop → is_usage {T = Unit {0}} (Err stop) ≡ false
no_usage = by_stop (λ (s : Stop). is_usage {T = Unit {0}} (Err s) ≡ false) refl refl refl

pub no_read : (f : StoreFault) (stop : Stop) → IsMakingStop f stop → is_read_fault {T = Unit {0}} (Err stop) ≡ false
no_read = by_stop (λ (s : Stop). is_read_fault {T = Unit {0}} (Err s) ≡ false) refl refl refl

pub no_write : (f : StoreFault) (stop : Stop) → IsMakingStop f stop → is_write_fault {T = Unit {0}} (Err stop) ≡ false
no_write = by_stop (λ (s : Stop). is_write_fault {T = Unit {0}} (Err s) ≡ false) refl refl refl

-- ---- what was kept

pub kept_by : (f : StoreFault) (stop : Stop) (P : Type 0) → IsMakingStop f stop → store.Refuses {T = Warehouse × Place} (Err f) P → OnStop {T = Unit {0}} (Err stop) P
kept_by fault.DiskFault stop P is kept = subst (λ (s : Stop). OnStop {T = Unit {0}} (Err s) P) (sym is) tt
kept_by fault.FileLimit stop P (inl is) kept = subst (λ (s : Stop). OnStop {T = Unit {0}} (Err s) P) (sym is) kept
kept_by fault.FileLimit stop P (inr is) kept = subst (λ (s : Stop). OnStop {T = Unit {0}} (Err s) P) (sym is) kept
kept_by other stop P is kept = subst (λ (s : Stop). OnStop {T = Unit {0}} (Err s) P) (sym is) kept

pub durable_by : (f : StoreFault) (stop : Stop) (Q P : Type 0) → IsMakingStop f stop → (Q → store.UnlessDiskFault {T = Warehouse × Place} (Err f) P) → Q → UnlessDisk {T = Unit {0}} (Err stop) P
durable_by fault.DiskFault stop Q P is durable = λ q. subst (λ (s : Stop). UnlessDisk {T = Unit {0}} (Err s) P) (sym is) tt
durable_by fault.FileLimit stop Q P (inl is) durable = λ q. subst (λ (s : Stop). UnlessDisk {T = Unit {0}} (Err s) P) (sym is) (durable q)
durable_by fault.FileLimit stop Q P (inr is) durable = λ q. subst (λ (s : Stop). UnlessDisk {T = Unit {0}} (Err s) P) (sym is) (durable q)
durable_by other stop Q P is durable = λ q. subst (λ (s : Stop). UnlessDisk {T = Unit {0}} (Err s) P) (sym is) (durable q)

pub same_cause : (f : StoreFault) (stop : Stop) (a c b d : ℕ) → IsMakingStop f stop → IsCountedPair (store.is_disk_fault {T = Warehouse × Place} (Err f)) a c b d → IsCountedPair (is_disk_fault {T = Unit {0}} (Err stop)) a c b d
same_cause fault.DiskFault stop a c b d is cause = subst (λ (s : Stop). IsCountedPair (is_disk_fault {T = Unit {0}} (Err s)) a c b d) (sym is) cause
same_cause fault.FileLimit stop a c b d (inl is) cause = subst (λ (s : Stop). IsCountedPair (is_disk_fault {T = Unit {0}} (Err s)) a c b d) (sym is) cause
same_cause fault.FileLimit stop a c b d (inr is) cause = subst (λ (s : Stop). IsCountedPair (is_disk_fault {T = Unit {0}} (Err s)) a c b d) (sym is) cause
same_cause other stop a c b d is cause = subst (λ (s : Stop). IsCountedPair (is_disk_fault {T = Unit {0}} (Err s)) a c b d) (sym is) cause

-- ---- the answer

made_by : (spec : Spec) (tables : List (List Row)) (a b : List ℕ) (f : StoreFault) (stop : Stop) → IsMakingStop f stop → store.IsCreated spec tables a b (Err f) → IsMade spec tables (Err stop)
made_by spec tables a b fault.DiskFault stop is created = subst (λ (s : Stop). IsMade spec tables (Err s)) (sym is) tt
made_by spec tables a b fault.FileLimit stop (inl is) created = subst (λ (s : Stop). IsMade spec tables (Err s)) (sym is) (refl, created.2)
made_by spec tables a b fault.FileLimit stop (inr is) created = subst (λ (s : Stop). IsMade spec tables (Err s)) (sym is) tt
made_by spec tables a b other stop is created = subst (λ (s : Stop). IsMade spec tables (Err s)) (sym is) tt

pub answer_by : (spec : Spec) (tables : List (List Row)) (x y : Option (List ℕ)) (f : StoreFault) (stop : Stop) → IsMakingStop f stop
    → IfSome x (λ (a : List ℕ). IfSome y (λ (b : List ℕ). store.IsCreated spec tables a b (Err f))) → IfSome x (λ (a : List ℕ). IfSome y (λ (b : List ℕ). IsMade spec tables (Err stop)))
answer_by spec tables None y f stop is created = tt
answer_by spec tables (Some a) None f stop is created = tt
answer_by spec tables (Some a) (Some b) f stop is created = made_by spec tables a b f stop is created

pub answer_ok : (spec : Spec) (tables : List (List Row)) (x y : Option (List ℕ)) (made : Warehouse × Place)
    → IfSome x (λ (a : List ℕ). IfSome y (λ (b : List ℕ). store.IsCreated spec tables a b (Ok made))) → IfSome x (λ (a : List ℕ). IfSome y (λ (b : List ℕ). IsMade spec tables (Ok tt)))
answer_ok spec tables None y made created = tt
answer_ok spec tables (Some a) None made created = tt
answer_ok spec tables (Some a) (Some b) made created = created.2

-- ---- an empty store

abbrev Looks : Option (List ℕ) → Option (List ℕ) → Bool → Type 0
Looks x y empty = IfSome x (λ (a : List ℕ). IfSome y (λ (b : List ℕ). empty ≡ store.are_empty a b))

abbrev Passes : Option (List ℕ) → Option (List ℕ) → Result (Unit {0}) Stop → Type 0
Passes x y result = IfSome x (λ (a : List ℕ). IfSome y (λ (b : List ℕ). Settles (Some (if_unloaded {T = Unit {0}} (holding a b) (Ok tt))) result))

pub passes_empty : (x y : Option (List ℕ)) (empty : Bool) → empty ≡ true → Looks x y empty → Passes x y (Ok tt)
passes_empty None y empty is looks = tt
passes_empty (Some a) None empty is looks = tt
passes_empty (Some a) (Some b) empty is looks = unloaded_is (Ok tt) a b (sym looks ∙ is)

pub stops_loaded : (x y : Option (List ℕ)) (empty : Bool) → empty ≡ false → Looks x y empty → Passes x y (Err AlreadyLoaded)
stops_loaded None y empty is looks = tt
stops_loaded (Some a) None empty is looks = tt
stops_loaded (Some a) (Some b) empty is looks = loaded_is (Ok tt) a b (sym looks ∙ is)

pub stops_failed : (x y : Option (List ℕ)) → Passes x y (Err DiskFault)
stops_failed None y = tt
stops_failed (Some a) None = tt
stops_failed (Some a) (Some b) = tt

pub empty_looked : (x y : Option (List ℕ)) (empty : Bool) → empty ≡ true → Looks x y empty → IfSome x (λ (a : List ℕ). IfSome y (λ (b : List ℕ). store.are_empty a b ≡ true))
empty_looked None y empty is looks = tt
empty_looked (Some a) None empty is looks = tt
empty_looked (Some a) (Some b) empty is looks = sym looks ∙ is
