-- What a change file is read as.
use Rattle.std.proofs.Common.{◌≡◌, ℕ, nat_lt, Bool, true, false, if◌then◌else◌, List, ◌++◌, length, Option, None, Some, Result, Ok, Err, IfOk, refl, sym, ap, subst}
use Rattle.std.specs.Prelude.{codes}
use Rattle.std.specs.Option.{option_map}
use Rattle.wh_csv.specs.Change.{change_of}
use Rattle.wh_io.specs.Causes.{IsCounted}
use Rattle.wh_io.specs.Files.{Held}
use Rattle.wh_schema.specs.Changes.{Line}
use Rattle.wh_schema.specs.declared.spec.Spec.{Spec}
use Rattle.wh_command.specs.declared.refresh_file.Reading.{Reading}
use Rattle.wh_command.specs.declared.refresh_file.Reading.TheVariants.{Lines, Rejected}
use Rattle.wh_command.specs.declared.refresh_line.Report.{Report}
use Rattle.wh_command.specs.declared.stop.Stop.{Stop}
use Rattle.wh_command.specs.declared.stop.Stop.TheVariants.{ReadFault, Limit, NoMemory, NoFile}
use Rattle.wh_command.specs.Inputs.{file_of}
use Rattle.wh_command.specs.Refresh.{IsRefreshStatus, Rejection, lines_in, lines_or, no_file, over_limit}
use Rattle.wh_command.specs.RefreshSteps.{IsLastStop, IsReadStop, IsReading, IsSoundReading, TellsUnread}
use Rattle.wh_command.specs.Steps.{Settles, is_disk_fault, is_read_fault, is_usage, is_write_fault}

-- ---- what a held file is read as

module _ (spec : Spec) (name : List ℕ) where
  text_within : (b : Bool) (bytes text : List ℕ) → (if b then Err (Limit (codes "file " ++ name)) else Ok bytes) ≡ Ok text
      → (if b then Err (over_limit (codes "file")) else lines_or (change_of bytes spec)) ≡ lines_or (change_of text spec)
  text_within true bytes text is = absurd (cc (is))
  text_within false bytes text is = let same : bytes ≡ text = cc (is) in ap (λ (t : List ℕ). lines_or (change_of t spec)) same

  text_read : (o : Option (List ℕ)) (text : List ℕ) → file_of o name ≡ Ok text → lines_in spec o ≡ lines_or (change_of text spec)
  text_read None text is = absurd (cc (is))
  text_read (Some bytes) text is = text_within (nat_lt 268435456 (length bytes)) bytes text is

  none_within : (b : Bool) (bytes file : List ℕ) (wanted : Result (List Line) Rejection) → (if b then Err (Limit (codes "file " ++ name)) else Ok bytes) ≡ Err (NoFile file) → wanted ≡ Err no_file
  none_within true bytes file wanted is = absurd (cc (is))
  none_within false bytes file wanted is = absurd (cc (is))

  none_read : (o : Option (List ℕ)) (file : List ℕ) → file_of o name ≡ Err (NoFile file) → lines_in spec o ≡ Err no_file
  none_read None file is = refl
  none_read (Some bytes) file is = none_within (nat_lt 268435456 (length bytes)) bytes file _ is

  long_within : (b : Bool) (bytes words : List ℕ) → (if b then Err (Limit (codes "file " ++ name)) else Ok bytes) ≡ Err (Limit words) → (if b then Err (over_limit (codes "file")) else lines_or (change_of bytes spec)) ≡ Err (over_limit (codes "file"))
  long_within true bytes words is = refl
  long_within false bytes words is = absurd (cc (is))

  long_read : (o : Option (List ℕ)) (words : List ℕ) → file_of o name ≡ Err (Limit words) → lines_in spec o ≡ Err (over_limit (codes "file"))
  long_read None words is = absurd (cc (is))
  long_read (Some bytes) words is = long_within (nat_lt 268435456 (length bytes)) bytes words is

  -- ---- a file that was read

  pub text_reads : (files : Option Held) (held : Held) (text : List ℕ) (reading : Reading) → files ≡ Some held → Settles (option_map (λ (h : Held). file_of (h name) name) files) (Ok text) → IsReading name (lines_or (change_of text spec)) reading
      → IsReading name (lines_in spec (held name)) reading
  text_reads files held text reading files_is settled is =
      let read : file_of (held name) name ≡ Ok text = subst (λ (o : Option Held). Settles (option_map (λ (h : Held). file_of (h name) name) o) (Ok text)) files_is settled in
      subst (λ (r : Result (List Line) Rejection). IsReading name r reading) (sym (text_read (held name) text read)) is

  -- ---- a file that was not

  module _ (o : Option (List ℕ)) where
    by_unread : (stop : Stop) (result : Result Reading Stop) → TellsUnread name stop result → Settles {T = List ℕ} (Some (file_of o name)) (Err stop) → IfOk result (IsReading name (lines_in spec o))
    by_unread (NoFile file) (Ok (Rejected report)) tells settled = (no_file, none_read o file settled, tells)
    by_unread (NoFile file) (Ok (Lines change)) tells settled = absurd tells
    by_unread (NoFile file) (Err stop) tells settled = tt
    by_unread (Limit words) (Ok (Rejected report)) tells settled = (over_limit (codes "file"), long_read o words settled, tells)
    by_unread (Limit words) (Ok (Lines change)) tells settled = absurd tells
    by_unread (Limit words) (Err stop) tells settled = tt
    by_unread other (Ok reading) tells settled = absurd (cc (tells))
    by_unread other (Err stop) tells settled = tt

  pub unread_reads : (files : Option Held) (held : Held) (stop : Stop) (result : Result Reading Stop) → files ≡ Some held → Settles {T = List ℕ} (option_map (λ (h : Held). file_of (h name) name) files) (Err stop) → TellsUnread name stop result
      → IfOk result (IsReading name (lines_in spec (held name)))
  unread_reads files held stop result files_is settled tells =
      by_unread (held name) stop result tells (subst (λ (o : Option Held). Settles {T = List ℕ} (option_map (λ (h : Held). file_of (h name) name) o) (Err stop)) files_is settled)

  pub unread_sound : (stop : Stop) (result : Result Reading Stop) → TellsUnread name stop result → IfOk result (IsSoundReading spec)
  unread_sound (NoFile file) (Ok (Rejected report)) tells = subst IsRefreshStatus (sym tells.status) tt
  unread_sound (NoFile file) (Ok (Lines change)) tells = absurd tells
  unread_sound (NoFile file) (Err stop) tells = tt
  unread_sound (Limit words) (Ok (Rejected report)) tells = subst IsRefreshStatus (sym tells.status) tt
  unread_sound (Limit words) (Ok (Lines change)) tells = absurd tells
  unread_sound (Limit words) (Err stop) tells = tt
  unread_sound other (Ok reading) tells = absurd (cc (tells))
  unread_sound other (Err stop) tells = tt

pub unread_stops : (name : List ℕ) (stop : Stop) (result : Result Reading Stop) → IsReadStop name stop → TellsUnread name stop result → IsLastStop name result
unread_stops name (NoFile file) (Ok reading) is tells = tt
unread_stops name (NoFile file) (Err stop) is tells = subst (λ (s : Stop). IsLastStop {T = Reading} name (Err s)) (sym tells) tt
unread_stops name (Limit words) (Ok reading) is tells = tt
unread_stops name (Limit words) (Err stop) is tells = subst (λ (s : Stop). IsLastStop {T = Reading} name (Err s)) (sym tells) tt
unread_stops name (ReadFault file) result is tells = subst (λ (r : Result Reading Stop). IsLastStop name r) (sym tells) is
unread_stops name NoMemory result is tells = subst (λ (r : Result Reading Stop). IsLastStop name r) (sym tells) tt
unread_stops name other result is tells = absurd is

pub unread_fault : (name : List ℕ) (stop : Stop) (result : Result Reading Stop) → TellsUnread name stop result → is_read_fault result ≡ is_read_fault {T = Reading} (Err stop)
unread_fault name (NoFile file) (Ok reading) tells = refl
unread_fault name (NoFile file) (Err stop) tells = ap (λ (s : Stop). is_read_fault {T = Reading} (Err s)) tells
unread_fault name (Limit words) (Ok reading) tells = refl
unread_fault name (Limit words) (Err stop) tells = ap (λ (s : Stop). is_read_fault {T = Reading} (Err s)) tells
unread_fault name other result tells = ap (λ (r : Result Reading Stop). is_read_fault r) tells

-- a stop of reading blames neither the sink nor the words nor a disk
module _ (name : List ℕ) where
  pub last_write : (stop : Stop) → IsLastStop {T = Reading} name (Err stop) → is_write_fault {T = Report} (Err stop) ≡ false
  last_write (ReadFault file) is = refl
  last_write NoMemory is = refl
  last_write other is = absurd is

  pub last_usage : (stop : Stop) → IsLastStop {T = Reading} name (Err stop) → is_usage {T = Report} (Err stop) ≡ false
  last_usage (ReadFault file) is = refl
  last_usage NoMemory is = refl
  last_usage other is = absurd is

  pub last_disk : (stop : Stop) → IsLastStop {T = Reading} name (Err stop) → is_disk_fault {T = Report} (Err stop) ≡ false
  last_disk (ReadFault file) is = refl
  last_disk NoMemory is = refl
  last_disk other is = absurd is

pub unread_cause : (name : List ℕ) (stop : Stop) (result : Result Reading Stop) (before now : ℕ) → TellsUnread name stop result → IsCounted (is_read_fault {T = Reading} (Err stop)) before now → IsCounted (is_read_fault result) before now
unread_cause name stop result before now tells cause = subst (λ (b : Bool). IsCounted b before now) (sym (unread_fault name stop result tells)) cause
