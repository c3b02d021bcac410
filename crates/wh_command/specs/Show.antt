-- What the command `show SPEC DIR` prints: the stored tables of the dumps, each with a line that names it and counts its rows.
use Rattle.std.specs.Prelude.{ℕ, ◌-◌, nat_lt, if◌then◌else◌, List, [], ◌++◌, length, map, get_or, Option, None, Some, Result, Ok, Err, codes, decimal}
use Rattle.wh_base.specs.Lines.{line, csv_text}
use Rattle.wh_io.specs.Files.{Held}
use Rattle.wh_schema.specs.declared.broken.Broken.{Broken}
use Rattle.wh_schema.specs.declared.spec.Spec.{Spec}
use Rattle.wh_schema.specs.Constraints.{broken}
use Rattle.wh_schema.specs.Warehouse.{Row, State, relation_at, view_at, columns_of, numbers, stored}
use Rattle.wh_store.specs.Image.{first_over}
use Rattle.wh_command.specs.declared.show.Shown.{Shown}
use Rattle.wh_command.specs.declared.stop.Stop.{Stop}
use Rattle.wh_command.specs.declared.stop.Stop.TheVariants.{Refused, Limit}
use Rattle.wh_command.specs.Inputs.{and_then, spec_file, dump_files}
use Rattle.wh_command.specs.Words.{broken_words, rows_words}

-- a table with a line above it
abbrev pub titled : List ℕ → List ℕ → List (List ℕ) → List Row → List ℕ
titled word name columns rows = word ++ codes " " ++ name ++ codes ": " ++ line (decimal (length rows)) ++ csv_text columns rows

-- the text of the stored table of a number: the views come first, then the complements in relation order
abbrev pub table_text : Spec → ℕ → List Row → List ℕ
table_text spec k rows =
    if nat_lt k (length spec.views)
    then titled (codes "view") (view_at spec k).name (view_at spec k).head rows
    else titled (codes "complement") (relation_at spec (k - length spec.views)).name (columns_of spec (k - length spec.views)) rows

abbrev pub shown : Spec → List (List Row) → Shown
shown spec tables = record { spec = spec; tables = tables }

abbrev pub table_texts : Shown → List (List ℕ)
table_texts s = map (λ k. table_text s.spec k (get_or s.tables k [])) (numbers (length s.tables))

-- the stored tables of the sources, where none has too many rows
abbrev pub tables_within : Spec → State → Option ℕ → Result Shown Stop
tables_within spec s None = Ok (shown spec (stored spec s))
tables_within spec s (Some k) = Err (Limit (rows_words spec k))

-- the same, where the sources break no constraint
abbrev pub tables_unless : Spec → State → Option Broken → Result Shown Stop
tables_unless spec s None = tables_within spec s (first_over (stored spec s))
tables_unless spec s (Some b) = Err (Refused (broken_words spec b))

abbrev pub tables_of : Spec → State → Result Shown Stop
tables_of spec s = tables_unless spec s (broken spec s)

-- the specification first, then the dumps in relation order, then the constraints, then the numbers of rows
abbrev pub shown_of : Held → List ℕ → List ℕ → Result Shown Stop
shown_of held spec_name dir = and_then (spec_file held spec_name) (λ spec. and_then (dump_files held dir [] spec.relations) (tables_of spec))

abbrev pub show_texts : Held → List ℕ → List ℕ → Result (List (List ℕ)) Stop
show_texts held spec_name dir = and_then (shown_of held spec_name dir) (λ s. Ok (table_texts s))
