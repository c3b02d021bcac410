-- Rows of the kinds of their attributes, whose values have a spelling: where they come from, and what is stored of them.
use Rattle.std.specs.Prelude.{◌≡◌, ℕ, ◌<◌, ◌^◌, true, List, [], ◌∷◌, length, get_or, None, Some, Ok, Contains}
use Rattle.std.specs.List.{AllByRecursion}
use Rattle.wh_base.specs.declared.value.Attr.{Attr}
use Rattle.wh_base.specs.declared.value.Value.{Value}
use Rattle.wh_base.specs.Columns.{value_at, value_of}
use Rattle.wh_base.specs.RowSet.{has, IsAscending}
use Rattle.wh_codec.specs.declared.frame.Frame.{Frame}
use Rattle.wh_codec.specs.Body.{IsSpelled, IsSpelledRow, IsSpelledTable, IsSpelledValue, frame_bytes}
use Rattle.wh_codec.specs.Reading.{frame_of}
use Rattle.wh_csv.specs.declared.change.Line as csv
use Rattle.wh_csv.specs.Change.{change_of}
use Rattle.wh_csv.specs.Dump.{dump_of}
use Rattle.wh_schema.specs.declared.spec.Spec.{Spec}
use Rattle.wh_schema.specs.Changes.{Line, apply}
use Rattle.wh_schema.specs.Legality.{WellFormed, IsState}
use Rattle.wh_schema.specs.Reconstruction.{reconstructed}
use Rattle.wh_schema.specs.Rules.{IsWithinLimits}
use Rattle.wh_schema.specs.Warehouse.{Row, State, columns_of, relation_at, view_at, view_table, sources_of, complement, stored}
use Rattle.wh_spec_text.specs.SpecTexts.{spec_of_text}
use Rattle.wh_spec_text.specs.Textual.{IsTextualSpec}
use Rattle.wh_store.specs.Image.{fit_attrs, fit_stored, first_over}

-- ---- states

-- One list of rows for each relation, each row of the kinds of the relation's attributes.
pub record IsFittingState (spec : Spec) (s : State) : Type 0 where
  pub relations : length s ≡ length spec.relations
  pub rows : (i : ℕ) → i < length spec.relations → fit_attrs (relation_at spec i).attrs (get_or s i []) ≡ true

-- each value of each row has a spelling
abbrev pub AreSpelledRows : List Row → Type 0
AreSpelledRows rows = AllByRecursion (AllByRecursion IsSpelledValue) rows

-- the same of the rows of each relation
abbrev pub IsSpelledState : Spec → State → Type 0
IsSpelledState spec s = (i : ℕ) → i < length spec.relations → AreSpelledRows (get_or s i [])

-- a fitting state has the width of each relation
abbrev pub FittingIsState : Type 0
FittingIsState = (spec : Spec) (s : State) → IsFittingState spec s → IsState spec s

-- ---- what is stored has the values of the sources

-- The value stands under the name in a row of one of these relations.
pub record IsCarried (spec : Spec) (s : State) (relations : List ℕ) (name : List ℕ) (v : Value) : Type 0 where
  pub relation : ℕ
  pub member : Contains relations relation
  pub column : Contains (columns_of spec relation) name
  pub row : Row
  pub is_row : has (get_or s relation []) row ≡ true
  pub is_value : value_of (columns_of spec relation) row name ≡ v

-- each row of a view has the width of the view's head, and each of its values stands under the same name in a row of a relation of the view
abbrev pub ValuesAreCarried : Type 0
ValuesAreCarried =
    (spec : Spec) (s : State) → WellFormed spec → IsState spec s
    → (j : ℕ) → j < length spec.views → (w : Row) → has (view_table spec s j).rows w ≡ true
    → (length w ≡ length (view_at spec j).head)
    × ((p : ℕ) → p < length (view_at spec j).head → IsCarried spec s (view_at spec j).relations (get_or (view_at spec j).head p []) (value_at w p))

-- each row of a complement is a row of its relation
abbrev pub ComplementsAreRows : Type 0
ComplementsAreRows = (spec : Spec) (s : State) (r : ℕ) (x : Row) → has (complement spec (sources_of spec s) r) x ≡ true → has (get_or s r []) x ≡ true

-- ---- what is stored fits, and has a spelling

-- the specification of a text is well formed and within the limits
abbrev pub TextsAreWellFormed : Type 0
TextsAreWellFormed = (text : List ℕ) (spec : Spec) → spec_of_text text ≡ Ok spec → WellFormed spec × IsWithinLimits spec

-- what is stored of a fitting state has the kinds of the stored tables
abbrev pub StoredFits : Type 0
StoredFits =
    (text : List ℕ) (spec : Spec) (s : State) → spec_of_text text ≡ Ok spec → IsFittingState spec s
    → IsState spec s × (fit_stored spec (stored spec s) ≡ true)

-- each stored row has a spelling, and each stored table of fewer than 2^32 rows, where the values of the state have one
abbrev pub StoredIsSpelled : Type 0
StoredIsSpelled =
    (text : List ℕ) (spec : Spec) (s : State) → spec_of_text text ≡ Ok spec → IsFittingState spec s → IsSpelledState spec s
    → AllByRecursion (AllByRecursion IsSpelledRow) (stored spec s) × AllByRecursion (λ rows. length rows < 2 ^ 32 → IsSpelledTable rows) (stored spec s)

-- rows in order, each of them in a table that has a spelling, are such a table
abbrev pub PartsAreSpelled : Type 0
PartsAreSpelled = (table part : List Row) → IsSpelledTable table → IsAscending part → ((x : Row) → has part x ≡ true → has table x ≡ true) → IsSpelledTable part

-- a state fits where what is stored of it fits, and its values have a spelling where those of what is stored have one
abbrev pub SourcesFit : Type 0
SourcesFit =
    (text : List ℕ) (spec : Spec) (s : State) → spec_of_text text ≡ Ok spec → IsState spec s
    → (fit_stored spec (stored spec s) ≡ true → IsFittingState spec s) × (AllByRecursion AreSpelledRows (stored spec s) → IsSpelledState spec s)

-- what tables that fit give back fits, and its values have a spelling where those of the tables have one
abbrev pub ReconstructedFits : Type 0
ReconstructedFits =
    (text : List ℕ) (spec : Spec) (tables : List (List Row)) → spec_of_text text ≡ Ok spec → fit_stored spec tables ≡ true
    → IsFittingState spec (reconstructed spec tables) × (AllByRecursion AreSpelledRows tables → IsSpelledState spec (reconstructed spec tables))

-- tables of which none is over the limit of rows are of fewer than 2^32 rows
abbrev pub UnderIsCounted : Type 0
UnderIsCounted = (tables : List (List Row)) → first_over tables ≡ None → AllByRecursion (λ rows. length rows < 2 ^ 32) tables

-- ---- dumps

-- the rows of a dump have the kinds of the attributes, and their values have a spelling
abbrev pub DumpsFit : Type 0
DumpsFit = (text : List ℕ) (attrs : List Attr) (rows : List Row) → dump_of text attrs ≡ Ok rows → (fit_attrs attrs rows ≡ true) × AreSpelledRows rows

-- One list of rows for each relation, which some text gives as a dump of it.
pub record AreDumps (spec : Spec) (s : State) : Type 0 where
  pub relations : length s ≡ length spec.relations
  pub dumps : (i : ℕ) → i < length spec.relations → (text : List ℕ) × (dump_of text (relation_at spec i).attrs ≡ Ok (get_or s i []))

-- What a store asks of the tables that are loaded into it.
pub record IsLoadable (spec : Spec) (tables : List (List Row)) : Type 0 where
  pub textual : IsTextualSpec spec
  pub fits : fit_stored spec tables ≡ true
  pub ascending : AllByRecursion IsAscending tables
  pub spelled : AllByRecursion (AllByRecursion IsSpelledRow) tables

-- The specification of a text and a state by dumps: the state fits, and what is stored of it may be loaded.
pub record IsLoad (spec : Spec) (s : State) : Type 0 where
  pub well_formed : WellFormed spec
  pub state : IsState spec s
  pub fits : IsFittingState spec s
  pub spelled : IsSpelledState spec s
  pub loadable : IsLoadable spec (stored spec s)
  pub tables : AllByRecursion (λ rows. length rows < 2 ^ 32 → IsSpelledTable rows) (stored spec s)

-- where each list of rows of a state is a dump, what is stored of it may be loaded
abbrev pub DumpsAreLoaded : Type 0
DumpsAreLoaded = (text : List ℕ) (spec : Spec) (s : State) → spec_of_text text ≡ Ok spec → AreDumps spec s → IsLoad spec s

-- ---- changes

-- A line speaks of a relation, its row has the kinds of the relation's attributes, and its values have a spelling.
pub record IsFittingLine (spec : Spec) (l : Line) : Type 0 where
  pub relation : l.relation < length spec.relations
  pub fits : fit_attrs (relation_at spec l.relation).attrs (l.row ∷ []) ≡ true
  pub spelled : AllByRecursion IsSpelledValue l.row

-- a line that is read, as a line of a change
abbrev pub as_line : csv.Line → Line
as_line l = record { inserts = l.insert; relation = l.relation; row = l.row }

-- the lines of a change file fit
abbrev pub ChangesFit : Type 0
ChangesFit =
    (text : List ℕ) (spec : Spec) (lines : List csv.Line) → change_of text spec ≡ Ok lines → AllByRecursion (λ l. IsFittingLine spec (as_line l)) lines

-- a fitting state still fits after fitting lines, and values that have a spelling still have one
abbrev pub LinesKeepFit : Type 0
LinesKeepFit =
    (spec : Spec) (lines : List Line) (s : State) → AllByRecursion (IsFittingLine spec) lines → IsFittingState spec s
    → IsFittingState spec (apply s lines) × (IsSpelledState spec s → IsSpelledState spec (apply s lines))

-- ---- bodies

-- the body of a frame that has one is read as this frame
abbrev pub BodiesAreRead : Type 0
BodiesAreRead = (f : Frame) → IsSpelled f → frame_of (frame_bytes f) ≡ Some f
