-- How a stop is told: its status, and its line on `err`.
use Rattle.std.specs.Prelude.{◌≡◌, ℕ, Bool, true, false, if◌then◌else◌, List, ◌++◌, Option, codes}
use Rattle.wh_base.specs.Lines.{line}
use Rattle.wh_io.specs.Causes.{IsCounted}
use Rattle.wh_io.specs.Sink.{gained, GainsPrefix}
use Rattle.wh_command.specs.declared.status.Status.{Status}
use Rattle.wh_command.specs.declared.status.Status.TheVariants as status
use Rattle.wh_command.specs.declared.stop.Stop.{Stop}
use Rattle.wh_command.specs.declared.stop.Stop.TheVariants.{Refused, Usage, BadSpec, BadInput, BadQuery, ReadFault, WriteFault, DiskFault, NotLoaded, AlreadyLoaded, Damaged, Limit, NoMemory, NoFile}

-- the exit status of the program
abbrev pub number_of : Status → ℕ
number_of status.Ok = 0
number_of status.Refused = 1
number_of status.Usage = 2
number_of status.BadSpec = 3
number_of status.BadInput = 4
number_of status.ReadFault = 5
number_of status.WriteFault = 6
number_of status.DiskFault = 7
number_of status.NotLoaded = 8
number_of status.AlreadyLoaded = 8
number_of status.Damaged = 9
number_of status.Limit = 10
number_of status.NoMemory = 11
number_of status.NoFile = 12

abbrev pub status_of : Stop → Status
status_of (Refused words) = status.Refused
status_of Usage = status.Usage
status_of (BadSpec words) = status.BadSpec
status_of (BadInput words) = status.BadInput
status_of (BadQuery words) = status.BadInput
status_of (ReadFault file) = status.ReadFault
status_of WriteFault = status.WriteFault
status_of DiskFault = status.DiskFault
status_of NotLoaded = status.NotLoaded
status_of AlreadyLoaded = status.AlreadyLoaded
status_of (Damaged words) = status.Damaged
status_of (Limit words) = status.Limit
status_of NoMemory = status.NoMemory
status_of (NoFile file) = status.NoFile

-- the commands that are built
abbrev pub usage : List ℕ
usage = line (codes "usage: whc STORE COMMAND") ++ (line (codes "  show SPEC DIR") ++ (line (codes "  plan SPEC") ++ (line (codes "  load SPEC DIR") ++ (line (codes "  refresh FILE..") ++ (line (codes "  query TEXT") ++ (line (codes "  dump RELATION") ++ (line (codes "  audit RELATION FILE") ++ (line (codes "  report") ++ line (codes "  make NUMBER SIZE")))))))))

abbrev pub line_of : Stop → List ℕ
line_of (Refused words) = codes "refused: " ++ line words
line_of Usage = usage
line_of (BadSpec words) = codes "spec: " ++ line words
line_of (BadInput words) = codes "input: " ++ line words
line_of (BadQuery words) = codes "query: " ++ line words
line_of (ReadFault file) = codes "read fault: " ++ line file
line_of WriteFault = line (codes "write fault")
line_of DiskFault = line (codes "disk fault")
line_of NotLoaded = line (codes "not loaded")
line_of AlreadyLoaded = line (codes "already loaded")
line_of (Damaged words) = codes "damaged: " ++ line words
line_of (Limit words) = codes "limit: " ++ line words
line_of NoMemory = line (codes "no memory")
line_of (NoFile file) = codes "no file: " ++ line file

-- the status where the line of this one could not be written
abbrev pub unwritten : Status → Status
unwritten status.ReadFault = status.ReadFault
unwritten status.WriteFault = status.WriteFault
unwritten status.DiskFault = status.DiskFault
unwritten status.NoMemory = status.NoMemory
unwritten other = status.WriteFault

-- a line was written, or a first part of it where the sink failed
abbrev pub WritesLine : Bool → Option (List ℕ) → Option (List ℕ) → List ℕ → Type 0
WritesLine true before after text = GainsPrefix before after text
WritesLine false before after text = after ≡ gained before text

-- The line of the stop stands on `err`, or a first part of it where `err` failed.
pub record IsTold (stop : Stop) (err_before err_after : Option (List ℕ)) (faults_before faults_after : ℕ) (result : Status) : Type 0 where
  pub err_failed : Bool
  pub cause : IsCounted err_failed faults_before faults_after
  pub bytes : WritesLine err_failed err_before err_after (line_of stop)
  pub status : result ≡ (if err_failed then unwritten (status_of stop) else status_of stop)
