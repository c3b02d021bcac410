-- Where an outcome begins.
use Rattle.std.proofs.Common.{◌≡◌, ℕ, List, Result, Ok, Err, refl, ◌∙◌}
use Rattle.wh_io.specs.Files.{Held}
use Rattle.wh_store.specs.Image.{Holding}
use Rattle.wh_command.specs.declared.stop.Stop.{Stop}
use Rattle.wh_command.specs.Ask.{one_text}
use Rattle.wh_command.specs.Load.{loading, loads}
use Rattle.wh_command.specs.Make.{case_outcome, changes_outcome}
use Rattle.wh_command.specs.Outcome.{stays}
use Rattle.wh_command.specs.Refresh.{refresh_outcome}
use Rattle.wh_command.specs.Report.{report_outcome, reported}
use Rattle.wh_command.proofs.Follow.{followed_start}
use Rattle.wh_command.proofs.Loads.{loads_start}

pub stays_start : (w : Holding) (rows : Result (List (List ℕ)) Stop) → (stays w rows).start ≡ w
stays_start w (Ok rows) = refl
stays_start w (Err stop) = refl

pub report_start : (w : Holding) → (report_outcome w).start ≡ w
report_start w = stays_start w (one_text (reported w))

pub changes_start : (held : Held) (names : List (List ℕ)) (w : Holding) → (changes_outcome held names w).start ≡ w
changes_start held names w = followed_start (refresh_outcome held names w) report_outcome

pub case_start : (held : Held) (spec_name dir : List ℕ) (names : List (List ℕ)) (w : Holding) → (case_outcome held spec_name dir names w).start ≡ w
case_start held spec_name dir names w = followed_start (loads w (loading held spec_name dir w)) (changes_outcome held names) ∙ loads_start w (loading held spec_name dir w)
