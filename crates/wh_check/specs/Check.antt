-- What the lines of a change do to the sources that the stored tables give back.
use Rattle.std.specs.Prelude.{◌≡◌, true, List}
use Rattle.wh_base.specs.declared.value.Delta.{Delta}
use Rattle.wh_fit.specs.Differences.{differences}
use Rattle.wh_schema.specs.declared.spec.Spec.{Spec}
use Rattle.wh_schema.specs.Changes.{Line, apply}
use Rattle.wh_schema.specs.Constraints.{broken}
use Rattle.wh_schema.specs.Legality.{WellFormed}
use Rattle.wh_schema.specs.Reconstruction.{reconstructed}
use Rattle.wh_schema.specs.Warehouse.{State, SameState}
use Rattle.wh_store.specs.Image.{Image, apply_to, changed_tables}

-- the sources that the stored tables give back
abbrev pub held_sources : Image → State
held_sources i = reconstructed i.spec i.tables

-- the sources after the lines
abbrev pub sources_after : Image → List Line → State
sources_after i lines = apply (held_sources i) lines

-- the rows that the lines take from each relation and bring to it in the end, in row order
abbrev pub source_deltas : Image → List Line → List Delta
source_deltas i lines = differences (held_sources i) (sources_after i lines)

-- the sources without the deleted rows and with the inserted ones
abbrev pub sources_with : Image → List Delta → State
sources_with i deltas = changed_tables (held_sources i) deltas

-- ---- laws

-- which constraint is broken first, and by which value, depends on the rows as sets alone
abbrev pub BrokenGoesBySets : Type 0
BrokenGoesBySets = (spec : Spec) → WellFormed spec → (s t : State) → SameState spec s t → broken spec s ≡ broken spec t

-- the net effect of lines can be applied to the sources, and leads to the sources after the lines
abbrev pub NetEffectLeadsThere : Type 0
NetEffectLeadsThere =
    (i : Image) (lines : List Line)
    → (apply_to (held_sources i) (source_deltas i lines) ≡ true) × SameState i.spec (sources_with i (source_deltas i lines)) (sources_after i lines)
