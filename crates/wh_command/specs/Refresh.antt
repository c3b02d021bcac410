-- What the command `refresh FILE..` comes to: a line for each change file, in their order, and the store after those that were accepted.
use Rattle.std.specs.Prelude.{◌≡◌, ℕ, ◌+◌, ◌<◌, nat_lt, if◌then◌else◌, List, [], ◌∷◌, ◌++◌, length, map, get_or, take, Option, None, Some, Result, Ok, Err, OnOk, codes, decimal}
use Rattle.std.specs.List.{sum_by}
use Rattle.std.specs.Option.{option_map}
use Rattle.wh_base.specs.declared.value.Delta.{Delta}
use Rattle.wh_base.specs.Lines.{line}
use Rattle.wh_check.specs.Check.{source_deltas}
use Rattle.wh_csv.specs.Change.{change_of}
use Rattle.wh_csv.specs.declared.change.Line as csv
use Rattle.wh_csv.specs.declared.fault.CsvCause.{CsvCause}
use Rattle.wh_csv.specs.declared.fault.CsvCause.TheVariants.{TooManyRecords}
use Rattle.wh_csv.specs.declared.fault.CsvFault.{CsvFault}
use Rattle.wh_csv.specs.declared.fault.CsvFault.TheVariants as csv_fault
use Rattle.wh_csv.specs.Words.{cause_words}
use Rattle.wh_fit.specs.Fit.{as_line}
use Rattle.wh_io.specs.Crash.{LeavesOnly}
use Rattle.wh_io.specs.Files.{Held}
use Rattle.wh_io.specs.Sink.{gained}
use Rattle.wh_journal.specs.Journal.{appended}
use Rattle.wh_refresh.specs.Refresh.{next_body, refreshed, stored_changes}
use Rattle.wh_refresh.specs.declared.fault.RefreshFault.{RefreshFault}
use Rattle.wh_refresh.specs.declared.fault.RefreshFault.TheVariants as fault
use Rattle.wh_schema.specs.Changes.{Line}
use Rattle.wh_schema.specs.declared.spec.Spec.{Spec}
use Rattle.wh_store.specs.Commit.{active_of, active_with, other_of}
use Rattle.wh_store.specs.Image.{Active, Holding, Image}
use Rattle.wh_command.specs.Ask.{damage_words}
use Rattle.wh_command.specs.declared.status.Status.{Status}
use Rattle.wh_command.specs.declared.status.Status.TheVariants as status
use Rattle.wh_command.specs.declared.stop.Stop.{Stop}
use Rattle.wh_command.specs.declared.stop.Stop.TheVariants.{Damaged, NotLoaded}
use Rattle.wh_command.specs.Disks.{BothLeave, BothRest, CrashReaches, WritesOnly}
use Rattle.wh_command.specs.Ends.{Ends}
use Rattle.wh_command.specs.Outcome.{IsReached, Outcome, Piece, texts}
use Rattle.wh_command.specs.Steps.{NamesRead}
use Rattle.wh_command.specs.Words.{broken_words, rows_words}

-- ---- why a file is not accepted

-- its status, and the words of its line
pub record Rejection : Type 0 where
  pub status : Status
  pub words : List ℕ

abbrev pub over_limit : List ℕ → Rejection
over_limit words = record { status = status.Limit; words = codes "limit, " ++ words }

-- the first record that is no line of a change; records past the limit have words of their own
abbrev pub record_rejection : ℕ → CsvCause → Rejection
record_rejection at TooManyRecords = over_limit (codes "records")
record_rejection at cause = record { status = status.BadInput; words = codes "record " ++ decimal at ++ codes ": " ++ cause_words cause }

-- want of memory, which no definition of a change or of its outcome gives
abbrev pub no_memory : Rejection
no_memory = record { status = status.NoMemory; words = codes "no memory" }

abbrev pub lines_or : Result (List csv.Line) CsvFault → Result (List Line) Rejection
lines_or (Ok lines) = Ok (map as_line lines)
lines_or (Err (csv_fault.At at cause)) = Err (record_rejection at cause)
lines_or (Err csv_fault.NoMemory) = Err no_memory

abbrev pub no_file : Rejection
no_file = record { status = status.NoFile; words = codes "no file" }

-- the lines of a change file: it is held, has at most 268,435,456 bytes, and is in its grammar
abbrev pub lines_in : Spec → Option (List ℕ) → Result (List Line) Rejection
lines_in spec None = Err no_file
lines_in spec (Some bytes) = if nat_lt 268435456 (length bytes) then Err (over_limit (codes "file")) else lines_or (change_of bytes spec)

-- what refuses a change
abbrev pub refusal : Spec → RefreshFault → Rejection
refusal spec (fault.Broken b) = record { status = status.Refused; words = codes "refused, " ++ broken_words spec b }
refusal spec (fault.RowLimit k) = over_limit (rows_words spec k)
refusal spec fault.SequenceLimit = over_limit (codes "sequence number")
refusal spec fault.FileLimit = over_limit (codes "warehouse file")
refusal spec other = no_memory

-- lines that are not refused
abbrev pub unless_refused : Spec → List Line → Result (List Delta) RefreshFault → Result (List Line) Rejection
unless_refused spec lines (Ok deltas) = Ok lines
unless_refused spec lines (Err f) = Err (refusal spec f)

abbrev pub accepted_lines : Image → Result (List Line) Rejection → Result (List Line) Rejection
accepted_lines i (Ok lines) = unless_refused i.spec lines (refreshed i lines)
accepted_lines i (Err rejection) = Err rejection

-- the lines of a file that is accepted over what the store holds
abbrev pub accepted : Held → Active → List ℕ → Result (List Line) Rejection
accepted held active name = accepted_lines active.image (lines_in active.image.spec (held name))

-- ---- what one file comes to

-- how many rows are deleted and inserted in all
abbrev pub deleted_count : List Delta → ℕ
deleted_count deltas = sum_by (λ (d : Delta). length d.deleted) deltas

abbrev pub inserted_count : List Delta → ℕ
inserted_count deltas = sum_by (λ (d : Delta). length d.inserted) deltas

-- the number of the change, and the rows of the sources and of the stored tables that left and entered
abbrev pub refreshed_words : Image → List Line → List ℕ
refreshed_words i lines =
    codes "refresh " ++ decimal (i.seq + 1)
    ++ codes ", sources -" ++ decimal (deleted_count (source_deltas i lines)) ++ codes " +" ++ decimal (inserted_count (source_deltas i lines))
    ++ codes ", stored -" ++ decimal (deleted_count (stored_changes i lines)) ++ codes " +" ++ decimal (inserted_count (stored_changes i lines))

-- its status, the words of its line, and what is held after it
pub record Taken : Type 0 where
  pub status : Status
  pub words : List ℕ
  pub active : Active

abbrev pub taken_by : Active → Result (List Line) Rejection → Taken
taken_by active (Ok lines) = record { status = status.Ok; words = refreshed_words active.image lines; active = active_with active (stored_changes active.image lines) }
taken_by active (Err rejection) = record { status = rejection.status; words = rejection.words; active = active }

abbrev pub taken : Held → Active → List ℕ → Taken
taken held active name = taken_by active (accepted held active name)

-- the line of a file
abbrev pub file_text : List ℕ → List ℕ → List ℕ
file_text name words = line (name ++ codes ": " ++ words)

abbrev pub piece_of : List ℕ → Taken → Piece
piece_of name t = record { text = file_text name t.words; state = Ok (Some t.active) }

-- ---- what the files come to, one after another

abbrev pub refresh_pieces : Held → Active → List (List ℕ) → List Piece
refresh_pieces held active [] = []
refresh_pieces held active (name ∷ names) = let t = taken held active name in piece_of name t ∷ refresh_pieces held t.active names

-- the status of the first file that is not accepted
abbrev pub first_status : Status → Status → Status
first_status status.Ok later = later
first_status first later = first

abbrev pub refresh_status : Held → Active → List (List ℕ) → Status
refresh_status held active [] = status.Ok
refresh_status held active (name ∷ names) = let t = taken held active name in first_status t.status (refresh_status held t.active names)

-- what the store holds, which is needed
abbrev pub opened_active : Holding → Result Active Stop
opened_active (Ok None) = Err NotLoaded
opened_active (Ok (Some active)) = Ok active
opened_active (Err damage) = Err (Damaged (damage_words damage.which damage.at))

abbrev pub pieces_over : Held → List (List ℕ) → Result Active Stop → List Piece
pieces_over held names (Ok active) = refresh_pieces held active names
pieces_over held names (Err stop) = []

abbrev pub finish_over : Held → List (List ℕ) → Result Active Stop → Result Status Stop
finish_over held names (Ok active) = Ok (refresh_status held active names)
finish_over held names (Err stop) = Err stop

-- what `refresh` comes to over the held files and what the store holds
abbrev pub refresh_outcome : Held → List (List ℕ) → Holding → Outcome
refresh_outcome held names start =
    record { start = start; pieces = pieces_over held names (opened_active start); finish = finish_over held names (opened_active start) }

-- ---- the bytes of the active file

-- one frame more where the file was accepted: the bytes up to the closed mark, that mark opened, the frame and a closed mark
abbrev pub file_by : Active → List ℕ → Result (List Line) Rejection → List ℕ
file_by active bytes (Ok lines) = appended bytes active.image.end (next_body active.image lines)
file_by active bytes (Err rejection) = bytes

abbrev pub file_after : Held → Active → List (List ℕ) → List ℕ → List ℕ
file_after held active [] bytes = bytes
file_after held active (name ∷ names) bytes = file_after held (taken held active name).active names (file_by active bytes (accepted held active name))

-- the active file has these frames more and nothing else, and the other one is as it was
abbrev pub WritesChanges : {D : Type 0} → (D → Option (List ℕ)) → Held → List (List ℕ) → Result Active Stop → D → D → D → D → Type 0
WritesChanges content held names (Ok active) first_old first_new second_old second_new =
    (content (active_of active.which first_new second_new) ≡ option_map (file_after held active names) (content (active_of active.which first_old second_old)))
    × (content (other_of active.which first_new second_new) ≡ content (other_of active.which first_old second_old))
WritesChanges content held names (Err stop) first_old first_new second_old second_new = (content first_new ≡ content first_old) × (content second_new ≡ content second_old)

-- ---- a run

-- the file is the one under way: the lines of exactly those before it are printed
pub record IsUnderWay (names : List (List ℕ)) (pieces : List Piece) (before after : Option (List ℕ)) (file : List ℕ) : Type 0 where
  pub k : ℕ
  pub within : k < length names
  pub is : get_or names k [] ≡ file
  pub printed : after ≡ gained before (texts (take k pieces))

-- of the two files only the active one was written, or none where the store is not opened
abbrev pub WritesActive : {D : Type 0} → (D → Option (List ℕ)) → (D → List ℕ → Type 0) → (D → ℕ) → (D → ℕ → List ℕ → Type 0) → Result Active Stop → (Holding → Type 0) → D → D → D → D → Type 0
WritesActive content images moment images_since (Ok active) P first_old first_new second_old second_new = WritesOnly content images moment images_since active.which P first_old first_new second_old second_new
WritesActive content images moment images_since (Err stop) P first_old first_new second_old second_new =
    LeavesOnly moment images_since first_old first_new (images first_old) × LeavesOnly moment images_since second_old second_new (images second_old)

-- A run of `refresh`: how it ends, what a crash leaves of both disks together and of each, the file whose reading failed, and the bytes of
-- the active file.
pub record EndsRefresh {D : Type 0} (content : D → Option (List ℕ)) (images : D → List ℕ → Type 0) (moment : D → ℕ) (images_since : D → ℕ → List ℕ → Type 0)
    (held : Held) (names : List (List ℕ)) (start : Holding) (first_old first_new second_old second_new : D) (before after : Option (List ℕ)) (finish : Result Status Stop) : Type 0 where
  pub ends : Ends (refresh_outcome held names start) (BothRest content images first_new second_new) (BothLeave images first_new second_new) before after finish
  pub crash : CrashReaches moment images_since (refresh_outcome held names start) first_old first_new second_old second_new
  pub disks : WritesActive content images moment images_since (opened_active start) (IsReached (refresh_outcome held names start)) first_old first_new second_old second_new
  pub under_way : NamesRead (IsUnderWay names (refresh_outcome held names start).pieces before after) finish
  pub bytes : OnOk finish (WritesChanges content held names (opened_active start) first_old first_new second_old second_new)

-- the statuses that a run which took all files may have
abbrev pub IsRefreshStatus : Status → Type 0
IsRefreshStatus status.Ok = Unit {0}
IsRefreshStatus status.Refused = Unit {0}
IsRefreshStatus status.BadInput = Unit {0}
IsRefreshStatus status.Limit = Unit {0}
IsRefreshStatus status.NoFile = Unit {0}
IsRefreshStatus other = ⊥
