-- The steps of `refresh FILE..`: the lines, one file, and a run in its midst.
use Rattle.std.specs.Prelude.{◌≡◌, ◌⊎◌, ℕ, true, List, ◌++◌, length, map, drop, Option, Some, Result, Ok, Err, OnOk, codes, decimal}
use Rattle.std.specs.List.{AllByRecursion}
use Rattle.std.specs.Option.{ForSome, option_map}
use Rattle.wh_base.specs.declared.value.Delta.{Delta}
use Rattle.wh_csv.specs.declared.change.Line as csv
use Rattle.wh_fit.specs.Fit.{IsFittingLine, as_line}
use Rattle.wh_io.specs.Crash.{LeavesOnly, Only}
use Rattle.wh_io.specs.Files.{Held}
use Rattle.wh_io.specs.Sink.{gained, GainsPrefix}
use Rattle.wh_journal.specs.Journal.{IsJournalOf}
use Rattle.wh_refresh.specs.declared.fault.RefreshFault.{RefreshFault}
use Rattle.wh_refresh.specs.declared.fault.RefreshFault.TheVariants as fault
use Rattle.wh_schema.specs.declared.spec.Spec.{Spec}
use Rattle.wh_schema.specs.Changes.{Line}
use Rattle.wh_store.specs.declared.warehouse.Place.{Place}
use Rattle.wh_store.specs.declared.warehouse.Warehouse.{Warehouse}
use Rattle.wh_store.specs.declared.warehouse.Which.{Which}
use Rattle.wh_store.specs.Commit.{Matches, active_of, other_of}
use Rattle.wh_store.specs.Image.{Active, Holding, holding}
use Rattle.wh_store.specs.Store.{IsOpened}
use Rattle.wh_store.specs.Warehouse.{HoldsValues, IsInForm}
use Rattle.wh_command.specs.declared.refresh_file.Reading.{Reading}
use Rattle.wh_command.specs.declared.refresh_file.Reading.TheVariants.{Lines, Rejected}
use Rattle.wh_command.specs.declared.refresh_line.Report.{Report}
use Rattle.wh_command.specs.declared.status.Status.{Status}
use Rattle.wh_command.specs.declared.stop.Stop.{Stop}
use Rattle.wh_command.specs.declared.stop.Stop.TheVariants.{DiskFault, Limit, NoFile, NoMemory, ReadFault, WriteFault}
use Rattle.wh_command.specs.Disks.{BothLeave, BothRest, beside}
use Rattle.wh_command.specs.Ends.{Ends}
use Rattle.wh_command.specs.Outcome.{IsReached, Piece, last_state, texts}
use Rattle.wh_command.specs.Refresh.{IsRefreshStatus, IsUnderWay, Rejection, Taken, deleted_count, file_after, file_by, file_text, first_status, inserted_count, no_file, opened_active, over_limit, refresh_outcome, refresh_pieces, refresh_status, refusal, taken_by}
use Rattle.wh_command.specs.Steps.{NamesRead, UnlessOutside, is_outside}

-- ---- lines

-- the report has the status and the line of a rejection
pub record IsReport (name : List ℕ) (rejection : Rejection) (report : Report) : Type 0 where
  pub status : report.status ≡ rejection.status
  pub line : report.line ≡ file_text name rejection.words

-- how many rows left and entered
abbrev pub counts_words : List ℕ → List Delta → List ℕ
counts_words label deltas = label ++ codes " -" ++ decimal (deleted_count deltas) ++ codes " +" ++ decimal (inserted_count deltas)

-- what a refusal is told as; a fault of a disk and want of memory are none
abbrev pub TellsRefusal : List ℕ → Spec → RefreshFault → Result Report Stop → Type 0
TellsRefusal name spec fault.DiskFault result = result ≡ Err DiskFault
TellsRefusal name spec fault.NoMemory result = result ≡ Err NoMemory
TellsRefusal name spec other (Ok report) = IsReport name (refusal spec other) report
TellsRefusal name spec other (Err stop) = stop ≡ NoMemory

-- ---- what is read

-- the lines that were wanted, or the report of their rejection
abbrev pub IsReading : List ℕ → Result (List Line) Rejection → Reading → Type 0
IsReading name wanted (Lines change) = wanted ≡ Ok (map as_line change)
IsReading name wanted (Rejected report) = (rejection : Rejection) × (wanted ≡ Err rejection) × IsReport name rejection report

-- the lines fit, and a report has a status of a file
abbrev pub IsSoundReading : Spec → Reading → Type 0
IsSoundReading spec (Lines change) = AllByRecursion (λ (l : csv.Line). IsFittingLine spec (as_line l)) change
IsSoundReading spec (Rejected report) = IsRefreshStatus report.status

-- what may stop the reading of a file
abbrev pub IsReadStop : List ℕ → Stop → Type 0
IsReadStop name (ReadFault file) = file ≡ name
IsReadStop name (NoFile file) = Unit {0}
IsReadStop name (Limit words) = Unit {0}
IsReadStop name NoMemory = Unit {0}
IsReadStop name other = ⊥

-- a file that was not read is reported where it is not held or too long
abbrev pub TellsUnread : List ℕ → Stop → Result Reading Stop → Type 0
TellsUnread name (NoFile file) (Ok (Rejected report)) = IsReport name no_file report
TellsUnread name (NoFile file) (Ok (Lines change)) = ⊥
TellsUnread name (NoFile file) (Err stop) = stop ≡ NoMemory
TellsUnread name (Limit words) (Ok (Rejected report)) = IsReport name (over_limit (codes "file")) report
TellsUnread name (Limit words) (Ok (Lines change)) = ⊥
TellsUnread name (Limit words) (Err stop) = stop ≡ NoMemory
TellsUnread name other result = result ≡ Err other

-- what may stop a file that is not told of
abbrev pub IsLastStop : {T : Type 0} → List ℕ → Result T Stop → Type 0
IsLastStop name (Ok value) = Unit {0}
IsLastStop name (Err (ReadFault file)) = file ≡ name
IsLastStop name (Err NoMemory) = Unit {0}
IsLastStop name (Err other) = ⊥

-- ---- the store

-- what opening a store that is needed answers, with the place
abbrev pub IsPlaced : List ℕ → List ℕ → Result (Warehouse × Place) Stop → Type 0
IsPlaced a b (Ok opened) = IsOpened a b (holding a b) opened
IsPlaced a b (Err stop) = UnlessOutside (is_outside stop) (opened_active (holding a b) ≡ Err stop)

-- A change can be made of the warehouse at its place, whether the files are told or not.
pub record IsReady {D : Type 0} (content : D → Option (List ℕ)) (first second : D) (w : Warehouse) (p : Place) : Type 0 where
  pub form : IsInForm w
  pub values : HoldsValues w
  pub live : p.live ≡ true
  pub file : ForSome (content (active_of p.which first second)) (λ file. IsJournalOf file p.journal)

-- Both disks tell their contents, nothing is pending on either, and the warehouse and the place are those of what they hold.
pub record StandsAt {D : Type 0} (content : D → Option (List ℕ)) (images : D → List ℕ → Type 0) (first second : D) (active : Active) (w : Warehouse) (p : Place) : Type 0 where
  pub a : List ℕ
  pub b : List ℕ
  pub told_first : content first ≡ Some a
  pub told_second : content second ≡ Some b
  pub settled_first : Only a (images first)
  pub settled_second : Only b (images second)
  pub matches : Matches active a b w p

-- The other file is not touched, and what a crash leaves of the active one beside it has a property.
pub record Moves {D : Type 0} (content : D → Option (List ℕ)) (moment : D → ℕ) (images_since : D → ℕ → List ℕ → Type 0) (which : Which) (P : Holding → Type 0) (first_old first_new second_old second_new : D) : Type 0 where
  pub other_same : other_of which first_new second_new ≡ other_of which first_old second_old
  pub crash : ForSome (content (other_of which first_old second_old)) (λ other. LeavesOnly moment images_since (active_of which first_old second_old) (active_of which first_new second_new) (λ c. P (beside which c other)))

-- ---- one file

-- the state before the file, or the one after it
abbrev pub IsEitherState : Active → Active → Holding → Type 0
IsEitherState before after state = (state ≡ Ok (Some before)) ⊎ (state ≡ Ok (Some after))

-- how a file ends, but for its line
abbrev pub EndsTaking : (Active → Type 0) → Type 0 → List ℕ → Active → Taken → Result Report Stop → Type 0
EndsTaking Rests Leaves name active t (Ok report) = (report.status ≡ t.status) × (report.line ≡ file_text name t.words) × Rests t.active
EndsTaking Rests Leaves name active t (Err (ReadFault file)) = (file ≡ name) × Rests active
EndsTaking Rests Leaves name active t (Err NoMemory) = Rests active
EndsTaking Rests Leaves name active t (Err DiskFault) = Leaves
EndsTaking Rests Leaves name active t (Err other) = ⊥

-- the same with its line
abbrev pub EndsFile : (Active → Type 0) → Type 0 → List ℕ → Active → Taken → Option (List ℕ) → Option (List ℕ) → Result Status Stop → Type 0
EndsFile Rests Leaves name active t before after (Ok status) = (status ≡ t.status) × (after ≡ gained before (file_text name t.words)) × Rests t.active
EndsFile Rests Leaves name active t before after (Err WriteFault) = GainsPrefix before after (file_text name t.words) × Rests t.active
EndsFile Rests Leaves name active t before after (Err (ReadFault file)) = (file ≡ name) × (after ≡ before) × Rests active
EndsFile Rests Leaves name active t before after (Err NoMemory) = (after ≡ before) × Rests active
EndsFile Rests Leaves name active t before after (Err DiskFault) = (after ≡ before) × Leaves
EndsFile Rests Leaves name active t before after (Err other) = ⊥

module _ {D : Type 0} (content : D → Option (List ℕ)) (images : D → List ℕ → Type 0) (moment : D → ℕ) (images_since : D → ℕ → List ℕ → Type 0) where
  -- the bytes of the active file after it
  abbrev pub HasFile : Active → Result (List Line) Rejection → D → D → D → D → Type 0
  HasFile active judged first_old first_new second_old second_new =
      content (active_of active.which first_new second_new) ≡ option_map (λ bytes. file_by active bytes judged) (content (active_of active.which first_old second_old))

  -- A file was taken, but for its line.
  pub record Takes (name : List ℕ) (active : Active) (judged : Result (List Line) Rejection) (first_old first_new second_old second_new : D) (w : Warehouse) (p : Place) (finish : Result Report Stop) : Type 0 where
    pub ends : EndsTaking (λ now. StandsAt content images first_new second_new now w p) (BothLeave images first_new second_new (Ok (Some active)) (Ok (Some (taken_by active judged).active))) name active (taken_by active judged) finish
    pub moves : Moves content moment images_since active.which (IsEitherState active (taken_by active judged).active) first_old first_new second_old second_new
    pub bytes : OnOk finish (HasFile active judged first_old first_new second_old second_new)

  -- A file was taken, and told of.
  pub record TakesFile (name : List ℕ) (active : Active) (judged : Result (List Line) Rejection) (first_old first_new second_old second_new : D) (w : Warehouse) (p : Place) (before after : Option (List ℕ)) (finish : Result Status Stop) : Type 0 where
    pub ends : EndsFile (λ now. StandsAt content images first_new second_new now w p) (BothLeave images first_new second_new (Ok (Some active)) (Ok (Some (taken_by active judged).active))) name active (taken_by active judged) before after finish
    pub moves : Moves content moment images_since active.which (IsEitherState active (taken_by active judged).active) first_old first_new second_old second_new
    pub bytes : OnOk finish (HasFile active judged first_old first_new second_old second_new)

  -- ---- files, one after another

  -- the bytes of the active file after all of them
  abbrev pub HasFiles : Held → List (List ℕ) → Active → D → D → D → D → Type 0
  HasFiles held names active first_old first_new second_old second_new =
      content (active_of active.which first_new second_new) ≡ option_map (file_after held active names) (content (active_of active.which first_old second_old))

  -- In the midst of a run: the pieces done, the state now, and what is left.
  pub record Midway (held : Held) (names left : List (List ℕ)) (so_far : Status) (active : Active) (first_old first_now second_old second_now : D) (before after : Option (List ℕ)) (w : Warehouse) (p : Place) : Type 0 where
    pub now : Active
    pub done : List Piece
    pub left_is : drop (length done) names ≡ left
    pub pieces_are : refresh_pieces held active names ≡ done ++ refresh_pieces held now left
    pub status_is : refresh_status held active names ≡ first_status so_far (refresh_status held now left)
    pub state_is : last_state (Ok (Some active)) done ≡ Ok (Some now)
    pub printed : after ≡ gained before (texts done)
    pub stands : StandsAt content images first_now second_now now w p
    pub which_is : now.which ≡ active.which
    pub moves : Moves content moment images_since active.which (IsReached (refresh_outcome held names (Ok (Some active)))) first_old first_now second_old second_now
    pub bytes : option_map (file_after held active names) (content (active_of active.which first_old second_old)) ≡ option_map (file_after held now left) (content (active_of active.which first_now second_now))

  -- A run over all files.
  pub record TakesAll (held : Held) (names : List (List ℕ)) (active : Active) (first_old first_new second_old second_new : D) (before after : Option (List ℕ)) (finish : Result Status Stop) : Type 0 where
    pub ends : Ends (refresh_outcome held names (Ok (Some active))) (BothRest content images first_new second_new) (BothLeave images first_new second_new) before after finish
    pub moves : Moves content moment images_since active.which (IsReached (refresh_outcome held names (Ok (Some active)))) first_old first_new second_old second_new
    pub under_way : NamesRead (IsUnderWay names (refresh_pieces held active names) before after) finish
    pub bytes : OnOk finish (HasFiles held names active first_old first_new second_old second_new)

-- the line of a file is written, or a first part of it where the sink failed
abbrev pub TellsReport : Report → Option (List ℕ) → Option (List ℕ) → Result Status Stop → Type 0
TellsReport report before after (Ok status) = (status ≡ report.status) × (after ≡ gained before report.line)
TellsReport report before after (Err WriteFault) = GainsPrefix before after report.line
TellsReport report before after (Err other) = ⊥
