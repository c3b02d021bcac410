-- What the two files of a warehouse hold: nothing, the state of one of them, or damage.
use Rattle.std.specs.Prelude.{ℕ, ◌+◌, ◌-◌, ◌^◌, ◌==◌, nat_lt, Bool, not, ◌&&◌, List, [], ◌∷◌, ◌++◌, length, map, get_or, Option, None, Some, is_some, Result, Ok, Err, if◌then◌else◌}
use Rattle.std.specs.Cmp.Lexicographic.{pointwise}
use Rattle.std.specs.List.{list_all, list_any, position}
use Rattle.std.specs.Str.{bytes_eq}
use Rattle.wh_base.specs.declared.value.Attr.{Attr}
use Rattle.wh_base.specs.declared.value.Delta.{Delta}
use Rattle.wh_base.specs.Heads.{attrs_at}
use Rattle.wh_base.specs.RowSet.{has, in_order}
use Rattle.wh_base.specs.Tables.{without}
use Rattle.wh_base.specs.Value.{row_kinds, kinds}
use Rattle.wh_codec.specs.declared.frame.Frame.{Frame}
use Rattle.wh_codec.specs.declared.frame.Frame.TheVariants.{Snapshot, Change}
use Rattle.wh_codec.specs.Reading.{frame_of}
use Rattle.wh_expr.specs.Typing.{kind_eq}
use Rattle.wh_journal.specs.File.{frames_of}
use Rattle.wh_plan.specs.Plan.{too_many}
use Rattle.wh_schema.specs.declared.spec.Spec.{Spec}
use Rattle.wh_schema.specs.Heads.{heads_of}
use Rattle.wh_schema.specs.Warehouse.{Row, numbers}
use Rattle.wh_spec_text.specs.declared.fault.SpecTextFault.{SpecTextFault}
use Rattle.wh_spec_text.specs.Printed.{spec_text}
use Rattle.wh_spec_text.specs.SpecTexts.{spec_of_text}
use Rattle.wh_store.specs.declared.warehouse.Which.{Which}
use Rattle.wh_store.specs.declared.warehouse.Which.TheVariants.{First, Second}

-- ---- stored tables: the views come first, then the complements

abbrev pub stored_count : Spec → ℕ
stored_count spec = length spec.views + length spec.relations

-- the attributes of a stored table
abbrev pub stored_attrs : Spec → ℕ → List Attr
stored_attrs spec k = attrs_at (heads_of spec) (length spec.relations + k)

-- the most rows that a stored table may have
abbrev pub row_limit : ℕ
row_limit = 4000000

-- the values of each row have the kinds of the attributes, one for each
abbrev pub fit_attrs : List Attr → List Row → Bool
fit_attrs attrs rows = list_all (λ row. pointwise kind_eq (row_kinds row) (kinds attrs)) rows

abbrev pub fits_stored : Spec → ℕ → List Row → Bool
fits_stored spec k rows = fit_attrs (stored_attrs spec k) rows

-- one table for each that is stored, of its kinds
abbrev pub fit_stored : Spec → List (List Row) → Bool
fit_stored spec tables = (length tables == stored_count spec) && list_all (λ k. fits_stored spec k (get_or tables k [])) (numbers (stored_count spec))

-- the first table that has more than 4,000,000 rows
abbrev pub first_over : List (List Row) → Option ℕ
first_over tables = position (λ rows. nat_lt row_limit (length rows)) tables

-- one table for each that is stored, of its kinds and with at most 4,000,000 rows
abbrev pub are_stored_tables : Spec → List (List Row) → Bool
are_stored_tables spec tables = fit_stored spec tables && not (is_some (first_over tables))

-- ---- a snapshot

-- what the frames of one file come to: the number of its snapshot, the specification, the tables and the number of changes so far,
-- and the place of the mark behind the frames
pub record Image : Type 0 where
  pub generation : ℕ
  pub seq : ℕ
  pub spec : Spec
  pub tables : List (List Row)
  pub end : ℕ

-- the place of the mark behind a frame with this body
abbrev pub end_behind : ℕ → List ℕ → ℕ
end_behind at body = at + 9 + length body

-- an accepted specification with at most 12 pieces a relation, where these bytes are its printed form
abbrev pub accepted_from : List ℕ → Result Spec SpecTextFault → Option Spec
accepted_from text (Ok spec) = if bytes_eq (spec_text spec) text && not (is_some (too_many spec)) then Some spec else None
accepted_from text (Err fault) = None

abbrev pub printed_spec : List ℕ → Option Spec
printed_spec text = accepted_from text (spec_of_text text)

abbrev pub snapshot_over : ℕ → ℕ → List (List Row) → ℕ → Option Spec → Option Image
snapshot_over generation seq tables end None = None
snapshot_over generation seq tables end (Some spec) =
    if are_stored_tables spec tables then Some (record { generation = generation; seq = seq; spec = spec; tables = tables; end = end }) else None

-- what a first frame comes to; nothing where it is no snapshot that obeys the rules
abbrev pub after_first : ℕ → Option Frame → Option Image
after_first end None = None
after_first end (Some (Snapshot generation seq spec tables)) = snapshot_over generation seq tables end (printed_spec spec)
after_first end (Some (Change seq deltas)) = None

-- ---- changes

abbrev pub no_delta : Delta
no_delta = record { deleted = []; inserted = [] }

-- the deleted rows are in the table and the inserted ones are not
abbrev pub applies : List Row → Delta → Bool
applies rows d = list_all (has rows) d.deleted && not (list_any (has rows) d.inserted)

-- the table without the deleted rows and with the inserted ones, in row order
abbrev pub changed_table : List Row → Delta → List Row
changed_table rows d = in_order (without rows d.deleted ++ d.inserted)

-- one delta for each table, which applies to it
abbrev pub apply_to : List (List Row) → List Delta → Bool
apply_to tables deltas = (length deltas == length tables) && list_all (λ k. applies (get_or tables k []) (get_or deltas k no_delta)) (numbers (length tables))

abbrev pub changed_tables : List (List Row) → List Delta → List (List Row)
changed_tables tables deltas = map (λ k. changed_table (get_or tables k []) (get_or deltas k no_delta)) (numbers (length tables))

-- the deltas apply, and the tables after them are stored tables
abbrev pub are_stored_deltas : Spec → List (List Row) → List Delta → Bool
are_stored_deltas spec tables deltas = apply_to tables deltas && are_stored_tables spec (changed_tables tables deltas)

-- what a further frame comes to; nothing where it is no change that obeys the rules
abbrev pub after_frame : Image → ℕ → Option Frame → Option Image
after_frame i end None = None
after_frame i end (Some (Snapshot generation seq spec tables)) = None
after_frame i end (Some (Change seq deltas)) =
    if (seq == i.seq + 1) && are_stored_deltas i.spec i.tables deltas
    then Some (record { generation = i.generation; seq = seq; spec = i.spec; tables = changed_tables i.tables deltas; end = end })
    else None

-- ---- one file

-- the image after the frames with these bodies, or the place of the first that breaks a rule
abbrev pub replayed_on : (Image → Result Image ℕ) → ℕ → Option Image → Result Image ℕ
replayed_on more at None = Err at
replayed_on more at (Some i) = more i

abbrev pub replayed : List (List ℕ) → Image → Result Image ℕ
replayed [] i = Ok i
replayed (body ∷ bodies) i = replayed_on (replayed bodies) i.end (after_frame i (end_behind i.end body) (frame_of body))

abbrev pub some_image : Result Image ℕ → Result (Option Image) ℕ
some_image (Ok i) = Ok (Some i)
some_image (Err at) = Err at

-- what the bodies of a file's frames come to, the first of which is its snapshot
abbrev pub image_of_bodies : List (List ℕ) → Result (Option Image) ℕ
image_of_bodies [] = Ok None
image_of_bodies (body ∷ bodies) = some_image (replayed_on (replayed bodies) 0 (after_first (end_behind 0 body) (frame_of body)))

abbrev pub image_of_frames : Result (List (List ℕ)) ℕ → Result (Option Image) ℕ
image_of_frames (Ok bodies) = image_of_bodies bodies
image_of_frames (Err at) = Err at

-- what one file holds: nothing where it is empty, else an image, or the place of its damage: of a wrong mark, or else of the first
-- frame that breaks a rule
abbrev pub file_image : List ℕ → Result (Option Image) ℕ
file_image file = image_of_frames (frames_of file)

-- ---- both files

-- the file that counts, and what it holds
pub record Active : Type 0 where
  pub which : Which
  pub image : Image

pub record Damage : Type 0 where
  pub which : Which
  pub at : ℕ

-- what both files hold: nothing, or the state of the active one, or damage
abbrev pub Holding : Type 0
Holding = Result (Option Active) Damage

-- what stands for damage of no one place: both files have one generation
abbrev pub equal_generations : Damage
equal_generations = record { which = Second; at = 2 ^ 64 - 1 }

-- the later generation counts
abbrev pub later_of : Image → Image → Holding
later_of a b =
    if a.generation == b.generation then Err equal_generations
    else if nat_lt b.generation a.generation then Ok (Some (record { which = First; image = a }))
    else Ok (Some (record { which = Second; image = b }))

abbrev pub chosen : Option Image → Option Image → Holding
chosen None None = Ok None
chosen (Some a) None = Ok (Some (record { which = First; image = a }))
chosen None (Some b) = Ok (Some (record { which = Second; image = b }))
chosen (Some a) (Some b) = later_of a b

-- damage of the first file is told before that of the second
abbrev pub both : Result (Option Image) ℕ → Result (Option Image) ℕ → Holding
both (Err at) b = Err (record { which = First; at = at })
both (Ok a) (Err at) = Err (record { which = Second; at = at })
both (Ok a) (Ok b) = chosen a b

-- what two files hold
unfoldable pub holding : List ℕ → List ℕ → Holding
holding first second = both (file_image first) (file_image second)
