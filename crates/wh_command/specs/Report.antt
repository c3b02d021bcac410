-- What the commands `report` and `audit RELATION FILE` come to: texts about the store, which stays as it is.
use Rattle.std.specs.Prelude.{◌≡◌, ℕ, List, Result, Ok}
use Rattle.wh_io.specs.Files.{Held}
use Rattle.wh_report.specs.Audit.{audit_text}
use Rattle.wh_report.specs.Report.{report_text}
use Rattle.wh_schema.specs.declared.spec.Relation.{Relation}
use Rattle.wh_schema.specs.declared.spec.Spec.{Spec}
use Rattle.wh_schema.specs.Warehouse.{Row, relation_at}
use Rattle.wh_store.specs.Image.{Image, Holding}
use Rattle.wh_command.specs.declared.stop.Stop.{Stop}
use Rattle.wh_command.specs.Ask.{asking, opened, relation_named}
use Rattle.wh_command.specs.Inputs.{and_then, file_of, dump_in}
use Rattle.wh_command.specs.Outcome.{Outcome}

-- ---- the report

-- the report of the state that a store is in
abbrev pub reported : Holding → Result (List ℕ) Stop
reported start = and_then (opened start) (λ image. Ok (report_text image))

abbrev pub report_outcome : Holding → Outcome
report_outcome start = asking start (reported start)

-- ---- the audit

-- the rows of a file that is a dump of a relation; they are tested against no constraint
abbrev pub file_rows : Held → List ℕ → Relation → Result (List Row) Stop
file_rows held file r = and_then (file_of (held file) file) (dump_in file r.attrs)

-- what turns the relation of a number into them
abbrev pub audited_at : Held → List ℕ → Image → ℕ → Result (List ℕ) Stop
audited_at held file image r = and_then (file_rows held file (relation_at image.spec r)) (λ rows. Ok (audit_text image r rows))

-- the relation's name first, and then the file
abbrev pub audited_in : Held → List ℕ → List ℕ → Image → Result (List ℕ) Stop
audited_in held word file image = and_then (relation_named image.spec word) (audited_at held file image)

-- and the store before them
abbrev pub audited : Held → List ℕ → List ℕ → Holding → Result (List ℕ) Stop
audited held word file start = and_then (opened start) (audited_in held word file)

abbrev pub audit_outcome : Held → List ℕ → List ℕ → Holding → Outcome
audit_outcome held word file start = asking start (audited held word file start)

-- the word names a relation
abbrev pub IsRelationName : Spec → List ℕ → Type 0
IsRelationName spec word = (r : ℕ) × (relation_named spec word ≡ Ok r)

-- it is the file of the audit, and the store was opened and the word names a relation of it
abbrev pub IsReadByAudit : List ℕ → List ℕ → Holding → List ℕ → Type 0
IsReadByAudit word file start read = (read ≡ file) × ((image : Image) × (opened start ≡ Ok image) × IsRelationName image.spec word)
