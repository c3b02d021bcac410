-- Laws of the crates below in the form that is needed here.
use Rattle.std.proofs.Common.{◌≡◌, ℕ, ◌<◌, true, List, length, get_or, Ok, Some, None}
use Rattle.std.specs.List.{AllByRecursion}
use Rattle.wh_base.specs.declared.value.Delta.{Delta}
use Rattle.wh_base.specs.RowSet.{IsAscending}
use Rattle.wh_check.specs.Check.{source_deltas, sources_after, sources_with}
use Rattle.wh_codec.specs.Body.{IsSpelledDelta}
use Rattle.wh_fit.specs.Differences.{IsStoredRefresh}
use Rattle.wh_fit.specs.Fit.{AreSpelledRows, IsFittingLine}
use Rattle.wh_schema.specs.declared.spec.Spec.{Spec}
use Rattle.wh_schema.specs.Changes.{Line, apply}
use Rattle.wh_schema.specs.Constraints.{broken}
use Rattle.wh_schema.specs.Legality.{WellFormed}
use Rattle.wh_schema.specs.Reconstruction.{reconstructed}
use Rattle.wh_schema.specs.Warehouse.{Row, SameState, State}
use Rattle.wh_spec_text.specs.Printed.{spec_text}
use Rattle.wh_spec_text.specs.Textual.{IsTextualSpec}
use Rattle.wh_store.specs.declared.warehouse.Warehouse.{Warehouse}
use Rattle.wh_store.specs.Commit.{AreChanged, CanApplyAll, first_over_after}
use Rattle.wh_store.specs.Image.{Active, Image, fit_stored, fits_stored, holding, no_delta, stored_count}
use Rattle.wh_store.specs.Warehouse.{HoldsValues, IsInForm}
use Rattle.wh_check.proofs.BrokenLemmas as constraints
use Rattle.wh_check.proofs.NetLemmas as effects
use Rattle.wh_fit.proofs.GivenBack.{given_count}
use Rattle.wh_fit.proofs.Refreshes.{refreshed}
use Rattle.wh_fit.proofs.TextSpecs.{found}
use Rattle.wh_store.proofs.HeldValues as values
use Rattle.wh_store.proofs.SoundFiles.{active_held}

pub refreshes_are_stored : (spec : Spec) (tables : List (List Row)) (lines : List Line) → IsTextualSpec spec → fit_stored spec tables ≡ true → AllByRecursion AreSpelledRows tables → AllByRecursion (IsFittingLine spec) lines
    → IsStoredRefresh spec tables (apply (reconstructed spec tables) lines)
refreshes_are_stored spec tables lines textual fit spelled fitting = let f = found (spec_text spec) spec textual in refreshed spec f.well_formed tables f.kinded fit spelled lines fitting

pub held_count : (spec : Spec) (tables : List (List Row)) → length (reconstructed spec tables) ≡ length spec.relations
held_count spec tables = given_count spec tables

pub broken_goes_by_sets : (spec : Spec) → WellFormed spec → (s t : State) → SameState spec s t → broken spec s ≡ broken spec t
broken_goes_by_sets spec wf s t same = constraints.broken_goes_by_sets spec wf s t same

pub net_leads : (i : Image) (lines : List Line) → SameState i.spec (sources_with i (source_deltas i lines)) (sources_after i lines)
net_leads i lines = effects.net_leads i lines

pub held_fits : (first second : List ℕ) (active : Active) → holding first second ≡ Ok (Some active) → fit_stored active.image.spec active.image.tables ≡ true
held_fits first second active holds = (active_held first second active holds).fits

pub held_ascends : (first second : List ℕ) (active : Active) → holding first second ≡ Ok (Some active) → AllByRecursion IsAscending active.image.tables
held_ascends first second active holds = (active_held first second active holds).ascending

pub changed_values : (w_old w_new : Warehouse) (deltas : List Delta) → w_new.plan ≡ w_old.plan → IsInForm w_old → HoldsValues w_old → CanApplyAll w_old.tables deltas → AreChanged w_old.tables deltas w_new.tables
    → ((k : ℕ) → k < stored_count w_old.plan.spec → fits_stored w_old.plan.spec k (get_or deltas k no_delta).inserted ≡ true) → AllByRecursion IsSpelledDelta deltas → first_over_after w_old.tables deltas ≡ None → HoldsValues w_new
changed_values = values.changed_hold_values
