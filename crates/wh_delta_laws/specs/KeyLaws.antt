-- The laws of complements by key values. Each is the clause of a public function with an empty body.
use Rattle.std.specs.Prelude.{◌≡◌, ◌↔◌, ℕ, ◌<◌, List, [], ◌++◌, length, get_or, true, Contains}
use Rattle.std.specs.List.{flat_map}
use Rattle.wh_base.specs.Columns.{cut}
use Rattle.wh_base.specs.RowSet.{has, SameRows}
use Rattle.wh_base.specs.Tables.{project, without}
use Rattle.wh_schema.specs.declared.piece.Piece.{Piece}
use Rattle.wh_schema.specs.declared.spec.Spec.{Spec}
use Rattle.wh_schema.specs.Changes.{Changed}
use Rattle.wh_schema.specs.Legality.{WellFormed}
use Rattle.wh_schema.specs.Warehouse.{Row, State, Sources, columns_of, key_of, key_value, sources_of, pieces, piece_base, covered, complement}
use Rattle.wh_laws.specs.Laws.{LegalState}
use Rattle.wh_delta_laws.specs.KeyValues.{carried_keys, IsCarried, rows_with_key, rows_of_others, rows_of_keys, at_values, piece_at, covered_at, complement_at, CoverHasKey}

-- ---- which key values a change carries

-- where a row left or entered a complement, its key value is carried by a row that left or entered
abbrev pub ComplementKeysAreCarried : Type 0
ComplementKeysAreCarried =
    (spec : Spec) → WellFormed spec → (r : ℕ) → r < length spec.relations → (s t : State)
    → (x : Row) → Changed (complement spec (sources_of spec s) r) (complement spec (sources_of spec t) r) x
    → IsCarried spec s t r (key_value spec r x)

-- the list has exactly the key values that are carried
abbrev pub CarriedKeysAreListed : Type 0
CarriedKeysAreListed =
    (spec : Spec) (s t : State) (r : ℕ) (k : Row) → (has (carried_keys spec s t r) k ≡ true) ↔ IsCarried spec s t r k

-- The changed complement is the old one where its key values are not carried, and at each that is, the relation's rows that the pieces'
-- rows with it do not give back. There may be more values than those that are carried.
abbrev pub ComplementIsChanged : Type 0
ComplementIsChanged =
    (spec : Spec) → WellFormed spec → (r : ℕ) → r < length spec.relations → (s t : State)
    → (keys : List Row) → ((k : Row) → IsCarried spec s t r k → has keys k ≡ true)
    → SameRows
    (complement spec (sources_of spec t) r)
    (rows_of_others spec r keys (complement spec (sources_of spec s) r) ++ flat_map (complement_at spec (sources_of spec t) r) keys)

-- the rows that left the complement are those with such a key value that are not among the rows so given
abbrev pub LeftComplementIsGiven : Type 0
LeftComplementIsGiven =
    (spec : Spec) → WellFormed spec → (r : ℕ) → r < length spec.relations → (s t : State)
    → (keys : List Row) → ((k : Row) → IsCarried spec s t r k → has keys k ≡ true)
    → let old = complement spec (sources_of spec s) r in
    let given = flat_map (complement_at spec (sources_of spec t) r) keys in
    SameRows (without old (complement spec (sources_of spec t) r)) (without (rows_of_keys spec r keys old) given)

-- and those that entered it are the rows so given that it had not
abbrev pub EnteredComplementIsGiven : Type 0
EnteredComplementIsGiven =
    (spec : Spec) → WellFormed spec → (r : ℕ) → r < length spec.relations → (s t : State)
    → (keys : List Row) → ((k : Row) → IsCarried spec s t r k → has keys k ≡ true)
    → let old = complement spec (sources_of spec s) r in
    let given = flat_map (complement_at spec (sources_of spec t) r) keys in
    SameRows (without (complement spec (sources_of spec t) r) old) (without given old)

-- ---- the rows with a key value

-- the covered rows with a key value are those that the covers give from the pieces' rows with it
abbrev pub CoveredGoesByKey : Type 0
CoveredGoesByKey =
    (spec : Spec) → WellFormed spec → (r : ℕ) → r < length spec.relations → (src : Sources) (k : Row)
    → SameRows (rows_with_key spec r k (covered spec src r)) (covered_at spec src r k)

-- the rows of a complement with a key value are the relation's rows with it that are not so given
abbrev pub ComplementGoesByKey : Type 0
ComplementGoesByKey =
    (spec : Spec) → WellFormed spec → (r : ℕ) → r < length spec.relations → (src : Sources) (k : Row)
    → SameRows (rows_with_key spec r k (complement spec src r)) (complement_at spec src r k)

-- the rows of a piece with a key value are those that its source gives from its own rows with it
abbrev pub PieceGoesByKey : Type 0
PieceGoesByKey =
    (spec : Spec) → WellFormed spec → (r : ℕ) → r < length spec.relations → (src : Sources) (k : Row) (p : Piece)
    → Contains (pieces spec r) p
    → SameRows (piece_at spec src r k p).rows (project p.attrs (at_values (key_of spec r) k (piece_base spec src p.source))).rows

-- in a legal state the row of a piece with the key value of a row of the relation is a projection of that row
abbrev pub PieceHasRowOfKey : Type 0
PieceHasRowOfKey =
    (spec : Spec) (s : State) → LegalState spec s → (r : ℕ) → r < length spec.relations → (p : Piece) → Contains (pieces spec r) p
    → (x : Row) → has (get_or s r []) x ≡ true
    → (w : Row) → has (piece_at spec (sources_of spec s) r (key_value spec r x) p).rows w ≡ true
    → w ≡ cut (columns_of spec r) p.attrs x

-- in a legal state a row of the relation is covered exactly where each piece of some cover has a row with its key value
abbrev pub CoveredWhereCoverHasKey : Type 0
CoveredWhereCoverHasKey =
    (spec : Spec) (s : State) → LegalState spec s → (r : ℕ) → r < length spec.relations → (x : Row) → has (get_or s r []) x ≡ true
    → (has (covered spec (sources_of spec s) r) x ≡ true) ↔ CoverHasKey spec (sources_of spec s) r (key_value spec r x)

-- in a legal state a row of the relation is in the complement exactly where the covers give nothing at its key value
abbrev pub ComplementWhereNothingCovers : Type 0
ComplementWhereNothingCovers =
    (spec : Spec) (s : State) → LegalState spec s → (r : ℕ) → r < length spec.relations → (x : Row) → has (get_or s r []) x ≡ true
    → (has (complement spec (sources_of spec s) r) x ≡ true) ↔ (covered_at spec (sources_of spec s) r (key_value spec r x) ≡ [])
