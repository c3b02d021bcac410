-- What stored tables lose and gain on the way to others, and that it is a change of them.
use Rattle.std.specs.Prelude.{◌≡◌, ℕ, true, None, List, [], map, length, get_or, Ok}
use Rattle.std.specs.List.{AllByRecursion}
use Rattle.wh_base.specs.declared.value.Delta.{Delta}
use Rattle.wh_base.specs.RowSet.{IsAscending, in_order}
use Rattle.wh_base.specs.Tables.{without}
use Rattle.wh_codec.specs.Body.{IsSpelledDelta, IsSpelledRow, IsSpelledTable}
use Rattle.wh_fit.specs.Fit.{AreSpelledRows, IsFittingLine, IsFittingState, IsSpelledState}
use Rattle.wh_schema.specs.declared.spec.Spec.{Spec}
use Rattle.wh_schema.specs.Changes.{Line, apply}
use Rattle.wh_schema.specs.Legality.{IsState}
use Rattle.wh_schema.specs.Reconstruction.{reconstructed}
use Rattle.wh_schema.specs.Warehouse.{Row, State, numbers, stored}
use Rattle.wh_spec_text.specs.SpecTexts.{spec_of_text}
use Rattle.wh_store.specs.Image.{apply_to, are_stored_deltas, changed_tables, first_over, fit_stored}

-- the rows that a list loses and gains on the way to another, each in row order
abbrev pub difference : List Row → List Row → Delta
difference before after = record { deleted = in_order (without before after); inserted = in_order (without after before) }

-- the same of each list
abbrev pub differences : List (List Row) → List (List Row) → List Delta
differences before after = map (λ k. difference (get_or before k []) (get_or after k [])) (numbers (length before))

-- the differences have a spelling, apply, and lead there
pub record AreChangeOf (before after : List (List Row)) : Type 0 where
  pub spelled : AllByRecursion IsSpelledDelta (differences before after)
  pub apply : apply_to before (differences before after) ≡ true
  pub lead : changed_tables before (differences before after) ≡ after

-- the differences between as many tables that have a spelling are a change
abbrev pub DifferencesApply : Type 0
DifferencesApply =
    (before after : List (List Row)) → length before ≡ length after → AllByRecursion IsSpelledTable before → AllByRecursion IsSpelledTable after → AreChangeOf before after

-- A state that fits, with values that have a spelling, and with no stored table over the limit of rows.
pub record IsStorable (spec : Spec) (s : State) : Type 0 where
  pub fits : IsFittingState spec s
  pub spelled : IsSpelledState spec s
  pub under : first_over (stored spec s) ≡ None

-- the differences between what is stored of two such states are a change of stored tables
abbrev pub ChangesAreStored : Type 0
ChangesAreStored =
    (text : List ℕ) (spec : Spec) (s t : State) → spec_of_text text ≡ Ok spec → IsStorable spec s → IsStorable spec t
    → AreChangeOf (stored spec s) (stored spec t) × (are_stored_deltas spec (stored spec s) (differences (stored spec s) (stored spec t)) ≡ true)

-- A state that fits, with values that have a spelling, as is what is stored of it, and into which tables may be changed: where these are
-- in row order, and neither one of them nor one that is stored of the state is over the limit of rows, the differences are a change of
-- stored tables.
pub record IsStoredRefresh (spec : Spec) (tables : List (List Row)) (t : State) : Type 0 where
  pub state : IsState spec t
  pub fits : IsFittingState spec t
  pub spelled : IsSpelledState spec t
  pub stored_fits : fit_stored spec (stored spec t) ≡ true
  pub stored_spelled : AllByRecursion (AllByRecursion IsSpelledRow) (stored spec t)
  pub change : AllByRecursion IsAscending tables → first_over tables ≡ None → first_over (stored spec t) ≡ None
      → AreChangeOf tables (stored spec t) × (are_stored_deltas spec tables (differences tables (stored spec t)) ≡ true)

-- lines that fit make such a state of what tables that fit give back, where the values of the tables have a spelling
abbrev pub RefreshesAreStored : Type 0
RefreshesAreStored =
    (text : List ℕ) (spec : Spec) (tables : List (List Row)) (lines : List Line) → spec_of_text text ≡ Ok spec → fit_stored spec tables ≡ true → AllByRecursion AreSpelledRows tables
    → AllByRecursion (IsFittingLine spec) lines → IsStoredRefresh spec tables (apply (reconstructed spec tables) lines)
