-- What is known of an image that two files hold.
use Rattle.std.specs.Prelude.{◌≡◌, true, None}
use Rattle.std.specs.List.{AllByRecursion}
use Rattle.wh_base.specs.RowSet.{IsAscending}
use Rattle.wh_plan.specs.Plan.{too_many}
use Rattle.wh_spec_text.specs.Textual.{IsTextualSpec}
use Rattle.wh_store.specs.Image.{Image, fit_stored, first_over}

-- The specification is one that a text says, with at most 12 pieces a relation, and the tables are its stored ones, in row order, none with
-- more than 4,000,000 rows.
pub record IsHeld (i : Image) : Type 0 where
  pub textual : IsTextualSpec i.spec
  pub pieces : too_many i.spec ≡ None
  pub fits : fit_stored i.spec i.tables ≡ true
  pub ascending : AllByRecursion IsAscending i.tables
  pub under : first_over i.tables ≡ None
