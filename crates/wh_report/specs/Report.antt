-- What the report of a warehouse says: how many rows it stores, and how many rows the sources have.
use Rattle.std.specs.Prelude.{◌≡◌, ℕ, ◌+◌, Bool, List, [], ◌++◌, map, sum, length, get_or, codes, decimal, if◌then◌else◌}
use Rattle.std.specs.List.{flat_map}
use Rattle.wh_base.specs.Lines.{line}
use Rattle.wh_base.specs.RowSet.{in_order}
use Rattle.wh_laws.specs.Laws.{LegalState}
use Rattle.wh_schema.specs.declared.spec.Spec.{Spec}
use Rattle.wh_schema.specs.EmptyMark.{always_empty}
use Rattle.wh_schema.specs.Reconstruction.{reconstructed}
use Rattle.wh_schema.specs.Warehouse.{Row, State, complement, numbers, relation_at, sources_of, stored, view_at, view_table}
use Rattle.wh_store.specs.Image.{Image}

-- ---- how many rows there are

-- how many distinct rows
abbrev pub row_count : List Row → ℕ
row_count rows = length (in_order rows)

-- how many rows so many tables have together
abbrev pub total : (ℕ → List Row) → ℕ → ℕ
total rows n = sum (map (λ k. row_count (rows k)) (numbers n))

-- ---- the lines

-- `WORD NAME ROWS`
abbrev pub counted : List ℕ → List ℕ → ℕ → List ℕ
counted word name count = word ++ codes " " ++ name ++ codes " " ++ decimal count

-- what is said of a complement that is empty in every legal state
abbrev pub mark : Bool → List ℕ
mark marked = if marked then codes " always empty" else []

-- the line of a view, of a complement and of a relation, by its number
abbrev pub view_line : Spec → (ℕ → List Row) → ℕ → List ℕ
view_line spec rows j = line (counted (codes "view") (view_at spec j).name (row_count (rows j)))

abbrev pub complement_line : Spec → (ℕ → List Row) → ℕ → List ℕ
complement_line spec rows r = line (counted (codes "complement") (relation_at spec r).name (row_count (rows r)) ++ mark (always_empty spec r))

abbrev pub relation_line : Spec → (ℕ → List Row) → ℕ → List ℕ
relation_line spec rows r = line (counted (codes "relation") (relation_at spec r).name (row_count (rows r)))

-- the line of the changes so far, and that of the rows that are stored and that the sources have
abbrev pub refreshes_line : ℕ → List ℕ
refreshes_line seq = line (codes "refreshes " ++ decimal seq)

abbrev pub totals_line : ℕ → ℕ → List ℕ
totals_line stored sources = line (codes "stored " ++ decimal stored ++ codes ", sources " ++ decimal sources)

-- ---- the report

-- the rows of each view, of each complement and of each relation, by its number
pub record Parts : Type 0 where
  pub view : ℕ → List Row
  pub complement : ℕ → List Row
  pub relation : ℕ → List Row

-- after so many changes: a line for each view, complement and relation, in declared order
abbrev pub report_over : Spec → Parts → ℕ → List ℕ
report_over spec parts seq =
    let views = length spec.views in
    let relations = length spec.relations in
    refreshes_line seq
    ++ flat_map (view_line spec parts.view) (numbers views)
    ++ flat_map (complement_line spec parts.complement) (numbers relations)
    ++ flat_map (relation_line spec parts.relation) (numbers relations)
    ++ totals_line (total parts.view views + total parts.complement relations) (total parts.relation relations)

abbrev pub rows_at : List (List Row) → ℕ → List Row
rows_at tables k = get_or tables k []

-- stored tables, of which the views come first and then the complements, and a state beside them
abbrev pub parts_beside : Spec → List (List Row) → State → Parts
parts_beside spec tables s = record { view = rows_at tables; complement = λ r. rows_at tables (length spec.views + r); relation = rows_at s }

-- the report of what the files of a warehouse hold: the relations are those that the stored tables give back
abbrev pub report_text : Image → List ℕ
report_text i = report_over i.spec (parts_beside i.spec i.tables (reconstructed i.spec i.tables)) i.seq

-- ---- over a state

-- the views and the complements of a state, and its relations
abbrev pub state_parts : Spec → State → Parts
state_parts spec s = record { view = λ j. (view_table spec s j).rows; complement = complement spec (sources_of spec s); relation = rows_at s }

-- the report of a state after so many changes
abbrev pub state_report : Spec → State → ℕ → List ℕ
state_report spec s n = report_over spec (state_parts spec s) n

-- Where a warehouse holds the stored tables of a legal state, its report is the one of that state.
abbrev pub ReportsAreOfState : Type 0
ReportsAreOfState =
    (i : Image) (spec : Spec) (s : State) (n : ℕ) → LegalState spec s → i.spec ≡ spec → i.tables ≡ stored spec s → i.seq ≡ n
    → report_text i ≡ state_report spec s n
