-- What the command `make NUMBER SIZE` comes to: a generated case is loaded, its change texts are taken, and the store is reported.
use Rattle.std.specs.Prelude.{◌≡◌, ℕ, List, Option, Some, Result, Ok, Err, OnOk}
use Rattle.wh_gen.specs.Case.{made_case}
use Rattle.wh_gen.specs.Files.{case_dir, case_held, case_spec, change_names}
use Rattle.wh_io.specs.Files.{Held}
use Rattle.wh_store.specs.Image.{Holding}
use Rattle.wh_store.specs.Store.{loaded, loaded_file}
use Rattle.wh_command.specs.declared.show.Shown.{Shown}
use Rattle.wh_command.specs.declared.status.Status.{Status}
use Rattle.wh_command.specs.declared.stop.Stop.{Stop}
use Rattle.wh_command.specs.Disks.{BothLeave, BothRest, CrashReaches}
use Rattle.wh_command.specs.Ends.{Ends}
use Rattle.wh_command.specs.Load.{load_outcome, loading}
use Rattle.wh_command.specs.Outcome.{Outcome, IsReached, followed}
use Rattle.wh_command.specs.Refresh.{WritesActive, WritesChanges, file_after, opened_active, refresh_outcome}
use Rattle.wh_command.specs.Report.{report_outcome}

-- change files are taken, and then the store is reported, whether they were accepted or not
abbrev pub changes_outcome : Held → List (List ℕ) → Holding → Outcome
changes_outcome held names start = followed (refresh_outcome held names start) report_outcome

-- a store is loaded before that
abbrev pub case_outcome : Held → List ℕ → List ℕ → List (List ℕ) → Holding → Outcome
case_outcome held spec_name dir names start = followed (load_outcome held spec_name dir start) (changes_outcome held names)

-- the generated case of a number and a size, as files
abbrev pub made_files : ℕ → ℕ → Held
made_files number size = case_held (made_case number size)

-- what `make` comes to over what the store holds; the status is that of the report
abbrev pub make_outcome : ℕ → ℕ → Holding → Outcome
make_outcome number size start = case_outcome (made_files number size) case_spec case_dir change_names start

-- ---- the bytes

-- the first file is one snapshot of what was loaded, with a frame more for each change file that was accepted, and a closed mark
abbrev pub HoldsChanged : Held → List (List ℕ) → Result Shown Stop → Option (List ℕ) → Type 0
HoldsChanged held names (Ok s) content = content ≡ Some (file_after held (loaded s.spec s.tables) names (loaded_file s.spec s.tables))
HoldsChanged held names (Err stop) content = ⊥

-- the same of a generated case, and the second file is as it was
abbrev pub HoldsCase : {D : Type 0} → (D → Option (List ℕ)) → Held → List ℕ → List ℕ → List (List ℕ) → Holding → D → D → D → Type 0
HoldsCase content held spec_name dir names start first_new second_old second_new = HoldsChanged held names (loading held spec_name dir start) (content first_new) × (content second_new ≡ content second_old)

-- ---- a run

-- Change files were taken and the store reported: how that ends, what a crash leaves of each disk, and the bytes of the active file.
pub record EndsChanges {D : Type 0} (content : D → Option (List ℕ)) (images : D → List ℕ → Type 0) (moment : D → ℕ) (images_since : D → ℕ → List ℕ → Type 0)
    (held : Held) (names : List (List ℕ)) (start : Holding) (first_old first_new second_old second_new : D) (before after : Option (List ℕ)) (finish : Result Status Stop) : Type 0 where
  pub ends : Ends (changes_outcome held names start) (BothRest content images first_new second_new) (BothLeave images first_new second_new) before after finish
  pub disks : WritesActive content images moment images_since (opened_active start) (IsReached (changes_outcome held names start)) first_old first_new second_old second_new
  pub bytes : OnOk finish (WritesChanges content held names (opened_active start) first_old first_new second_old second_new)

-- A store was loaded before: how the run ends, what a crash leaves, and the bytes of both files.
pub record EndsCase {D : Type 0} (content : D → Option (List ℕ)) (images : D → List ℕ → Type 0) (moment : D → ℕ) (images_since : D → ℕ → List ℕ → Type 0)
    (held : Held) (spec_name dir : List ℕ) (names : List (List ℕ)) (start : Holding) (first_old first_new second_old second_new : D) (before after : Option (List ℕ)) (finish : Result Status Stop) : Type 0 where
  pub ends : Ends (case_outcome held spec_name dir names start) (BothRest content images first_new second_new) (BothLeave images first_new second_new) before after finish
  pub crash : CrashReaches moment images_since (case_outcome held spec_name dir names start) first_old first_new second_old second_new
  pub bytes : OnOk finish (HoldsCase content held spec_name dir names start first_new second_old second_new)

-- A run of `make`.
abbrev pub EndsMake : {D : Type 0} → (D → Option (List ℕ)) → (D → List ℕ → Type 0) → (D → ℕ) → (D → ℕ → List ℕ → Type 0) → ℕ → ℕ → Holding → D → D → D → D → Option (List ℕ) → Option (List ℕ) → Result Status Stop → Type 0
EndsMake content images moment images_since number size start first_old first_new second_old second_new before after finish =
    EndsCase content images moment images_since (made_files number size) case_spec case_dir change_names start first_old first_new second_old second_new before after finish
