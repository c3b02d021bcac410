-- What the files of a store hold fits and has a spelling, and so does the state that they stand for.
use Rattle.std.specs.Prelude.{◌≡◌, ℕ, ◌<◌, ◌^◌, true, List, None, Some, Ok}
use Rattle.std.specs.List.{AllByRecursion}
use Rattle.wh_base.specs.declared.value.Delta.{Delta}
use Rattle.wh_base.specs.RowSet.{IsAscending}
use Rattle.wh_codec.specs.Body.{IsSpelledDelta}
use Rattle.wh_fit.specs.Differences.{IsStorable}
use Rattle.wh_fit.specs.Fit.{AreSpelledRows}
use Rattle.wh_schema.specs.declared.spec.Spec.{Spec}
use Rattle.wh_schema.specs.Warehouse.{Row, State}
use Rattle.wh_spec_text.specs.Textual.{IsTextualSpec}
use Rattle.wh_store.specs.Image.{Image, changed_tables, file_image, first_over, fit_stored}
use Rattle.wh_store.specs.Warehouse.{Stands}

-- the numbers of a file are bytes
abbrev pub AreBytes : List ℕ → Type 0
AreBytes = AllByRecursion (λ b. b < 2 ^ 8)

-- tables whose values have a spelling still have one after deltas that have one
abbrev pub ChangedAreSpelled : Type 0
ChangedAreSpelled =
    (tables : List (List Row)) (deltas : List Delta) → AllByRecursion AreSpelledRows tables → AllByRecursion IsSpelledDelta deltas
    → AllByRecursion AreSpelledRows (changed_tables tables deltas)

-- An image with a textual specification and tables that fit it, in row order, none over the limit of rows, whose values have a spelling.
pub record IsFittingImage (i : Image) : Type 0 where
  pub textual : IsTextualSpec i.spec
  pub fits : fit_stored i.spec i.tables ≡ true
  pub ascending : AllByRecursion IsAscending i.tables
  pub under : first_over i.tables ≡ None
  pub spelled : AllByRecursion AreSpelledRows i.tables

-- the image that a file holds is such an image
abbrev pub ImagesFit : Type 0
ImagesFit = (file : List ℕ) (i : Image) → AreBytes file → file_image file ≡ Ok (Some i) → IsFittingImage i

-- a state that two files stand for is storable
abbrev pub StandingFits : Type 0
StandingFits =
    (first second : List ℕ) (spec : Spec) (s : State) (n : ℕ) → AreBytes first → AreBytes second → Stands first second spec s n
    → IsTextualSpec spec × IsStorable spec s
