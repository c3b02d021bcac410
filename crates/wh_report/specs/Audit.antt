-- What an audit of a relation says: the change file that turns it into other rows.
use Rattle.std.specs.Prelude.{◌≡◌, ◌↔◌, ℕ, ◌<◌, List, [], ◌++◌, length, codes}
use Rattle.std.specs.List.{flat_map}
use Rattle.wh_base.specs.declared.value.Delta.{Delta}
use Rattle.wh_base.specs.Lines.{comma, csv_record, line}
use Rattle.wh_base.specs.RowSet.{SameRows}
use Rattle.wh_fit.specs.Differences.{difference}
use Rattle.wh_laws.specs.Laws.{LegalState}
use Rattle.wh_schema.specs.declared.spec.Spec.{Spec}
use Rattle.wh_schema.specs.Reconstruction.{reconstructed}
use Rattle.wh_schema.specs.Warehouse.{Row, State, relation_at, stored}
use Rattle.wh_store.specs.Image.{Image}
use Rattle.wh_report.specs.Report.{rows_at}

-- the line of a change: its sign, the name of the relation, and the row
abbrev pub signed_line : List ℕ → List ℕ → Row → List ℕ
signed_line sign name row = line (sign ++ comma ++ name ++ comma ++ csv_record row)

-- the rows that leave, and then the rows that come
abbrev pub change_text : List ℕ → Delta → List ℕ
change_text name delta = flat_map (signed_line (codes "-") name) delta.deleted ++ flat_map (signed_line (codes "+") name) delta.inserted

-- what turns a relation with these rows into others
abbrev pub audit_over : Spec → ℕ → List Row → List Row → List ℕ
audit_over spec rel before after = change_text (relation_at spec rel).name (difference before after)

-- what turns a relation, as the stored tables give it back, into other rows
abbrev pub audit_text : Image → ℕ → List Row → List ℕ
audit_text i rel rows = audit_over i.spec rel (rows_at (reconstructed i.spec i.tables) rel) rows

-- ---- laws

-- Where a warehouse holds the stored tables of a legal state, an audit starts from the rows of that state.
abbrev pub AuditsAreOfState : Type 0
AuditsAreOfState =
    (i : Image) (spec : Spec) (s : State) (rel : ℕ) (rows : List Row) → LegalState spec s → i.spec ≡ spec → i.tables ≡ stored spec s → rel < length spec.relations
    → audit_text i rel rows ≡ audit_over spec rel (rows_at s rel) rows

-- An audit says nothing exactly where both have the same rows.
abbrev pub SameRowsAreSilent : Type 0
SameRowsAreSilent = (i : Image) (rel : ℕ) (rows : List Row) → (audit_text i rel rows ≡ []) ↔ SameRows (rows_at (reconstructed i.spec i.tables) rel) rows
