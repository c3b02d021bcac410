-- What is known of a file that holds an image: its closed mark stands where the image says, and the image has the stored tables of an
-- accepted specification, in order.
use Rattle.std.proofs.Common.{◌≡◌, ℕ, ◌+◌, Bool, true, false, not, ◌&&◌, cond, eqb, List, [], ◌∷◌, Option, None, Some, Result, Ok, Err, refl, sym, ap, subst, ◌∙◌, arith}
use Rattle.std.specs.List.{AllByRecursion}
use Rattle.std.specs.Option.{is_some}
use Rattle.std.specs.Str.{bytes_eq}
use Rattle.std.proofs.lemmas.Bool.{and_from, and_parts}
use Rattle.wh_base.specs.RowSet.{IsAscending}
use Rattle.wh_codec.specs.declared.frame.Frame.{Frame}
use Rattle.wh_codec.specs.declared.frame.Frame.TheVariants.{Snapshot, Change}
use Rattle.wh_codec.specs.Reading.{frame_of}
use Rattle.wh_journal.specs.File.{end_of, is_empty, span, walk}
use Rattle.wh_journal.specs.Journal.{IsJournalOf}
use Rattle.wh_plan.specs.Plan.{too_many}
use Rattle.wh_schema.specs.declared.spec.Spec.{Spec}
use Rattle.wh_schema.specs.Warehouse.{Row}
use Rattle.wh_spec_text.specs.declared.fault.SpecTextFault.{SpecTextFault}
use Rattle.wh_spec_text.specs.Printed.{spec_text}
use Rattle.wh_spec_text.specs.SpecTexts.{spec_of_text}
use Rattle.wh_spec_text.specs.Textual.{IsTextualSpec}
use Rattle.wh_spec_text.proofs.TextualLemmas.{answers_are_textual}
use Rattle.wh_store.specs.declared.warehouse.Place.{Place}
use Rattle.wh_store.specs.declared.warehouse.Which.{Which}
use Rattle.wh_store.specs.Held.{IsHeld}
use Rattle.wh_store.specs.Image.{Active, Image, accepted_from, after_first, after_frame, apply_to, are_stored_deltas, are_stored_tables, changed_tables, end_behind, file_image, first_over, fit_stored, holding, image_of_bodies, image_of_frames, printed_spec, replayed, replayed_on, snapshot_over}
use Rattle.wh_store.specs.Warehouse.{IsPlaceOf, file_in}
use Rattle.wh_store.proofs.ChangedTables.{changed_ascend}
use Rattle.wh_store.proofs.CommitLemmas.{image_in, image_is}
use Rattle.wh_store.proofs.FrameOrder.{IsInOrder, frame_in_order}

-- an image at a place, with the stored tables of an accepted specification, in order
record IsSound (at : ℕ) (i : Image) : Type 0 where
  end : i.end ≡ at
  stored : are_stored_tables i.spec i.tables ≡ true
  textual : IsTextualSpec i.spec
  pieces : too_many i.spec ≡ None
  ascending : AllByRecursion IsAscending i.tables

guard_some : (b : Bool) (x y : Image) → cond b (Some x) None ≡ Some y → (b ≡ true) × (x ≡ y)
guard_some true x y e = (refl, cc)
guard_some false x y e = absurd cc

-- ---- one frame

pub none_is : {X : Type 0} (o : Option X) → not (is_some o) ≡ true → o ≡ None
none_is None e = refl
none_is (Some k) e = absurd cc

test_some : (b : Bool) (x y : Spec) → cond b (Some x) None ≡ Some y → (b ≡ true) × (x ≡ y)
test_some true x y e = (refl, cc)
test_some false x y e = absurd cc

accepted_is : (text : List ℕ) (r : Result Spec SpecTextFault) (spec : Spec) → accepted_from text r ≡ Some spec → (r ≡ Ok spec) × (too_many spec ≡ None)
accepted_is text (Ok t) spec e =
    let is = test_some (bytes_eq (spec_text t) text && not (is_some (too_many t))) t spec e in
    let parts = and_parts (bytes_eq (spec_text t) text) (not (is_some (too_many t))) is.0 in
    (ap (λ (x : Spec). Ok x) is.1, subst (λ (x : Spec). too_many x ≡ None) is.1 (none_is (too_many t) parts.1))
accepted_is text (Err fault) spec e = absurd cc

snapshot_sound : (generation seq end : ℕ) (text : List ℕ) (tables : List (List Row)) (found : Option Spec) (j : Image) → printed_spec text ≡ found → AllByRecursion IsAscending tables
    → snapshot_over generation seq tables end found ≡ Some j → IsSound end j
snapshot_sound generation seq end text tables None j said up e = absurd cc
snapshot_sound generation seq end text tables (Some spec) j said up e =
    let made : Image = record { generation = generation; seq = seq; spec = spec; tables = tables; end = end } in
    let is = guard_some (are_stored_tables spec tables) made j e in
    let accepted = accepted_is text (spec_of_text text) spec said in
    subst (IsSound end) is.1 (record { end = refl; stored = is.0; textual = answers_are_textual text spec accepted.0; pieces = accepted.1; ascending = up })

first_sound : (end : ℕ) (frame : Option Frame) (j : Image) → ((f : Frame) → frame ≡ Some f → IsInOrder f) → after_first end frame ≡ Some j → IsSound end j
first_sound end None j up e = absurd cc
first_sound end (Some (Snapshot generation seq text tables)) j up e = snapshot_sound generation seq end text tables (printed_spec text) j refl (up (Snapshot generation seq text tables) refl) e
first_sound end (Some (Change seq deltas)) j up e = absurd cc

step_sound : (at : ℕ) (i : Image) (end : ℕ) (frame : Option Frame) (j : Image) → IsSound at i → after_frame i end frame ≡ Some j → IsSound end j
step_sound at i end None j sound e = absurd cc
step_sound at i end (Some (Snapshot generation seq spec tables)) j sound e = absurd cc
step_sound at i end (Some (Change seq deltas)) j sound e =
    let made : Image = record { generation = i.generation; seq = seq; spec = i.spec; tables = changed_tables i.tables deltas; end = end } in
    let is = guard_some (eqb seq (i.seq + 1) && are_stored_deltas i.spec i.tables deltas) made j e in
    let obeys = and_parts (eqb seq (i.seq + 1)) (are_stored_deltas i.spec i.tables deltas) is.0 in
    subst (IsSound end) is.1 (record {
      end = refl;
      stored = (and_parts (apply_to i.tables deltas) (are_stored_tables i.spec (changed_tables i.tables deltas)) obeys.1).1;
      textual = sound.textual;
      pieces = sound.pieces;
      ascending = changed_ascend i.tables deltas;
    })

-- ---- the frames of a file

on_some : (more : Image → Result Image ℕ) (at : ℕ) (x : Option Image) (j : Image) → replayed_on more at x ≡ Ok j → (i : Image) × (x ≡ Some i) × (more i ≡ Ok j)
on_some more at None j e = absurd cc
on_some more at (Some i) j e = (i, refl, e)

replay_sound : (bodies : List (List ℕ)) (at : ℕ) (i j : Image) → IsSound at i → replayed bodies i ≡ Ok j → IsSound (at + span bodies) j
replay_sound [] at i j sound e =
    let same : i ≡ j = cc in
    subst (IsSound (at + 0)) same (record { end = omega (arith, sound.end); stored = sound.stored; textual = sound.textual; pieces = sound.pieces; ascending = sound.ascending })
replay_sound (body ∷ bodies) at i j sound e =
    let next = on_some (replayed bodies) i.end (after_frame i (end_behind i.end body) (frame_of body)) j e in
    let there = replay_sound bodies (end_behind i.end body) next.0 j (step_sound at i (end_behind i.end body) (frame_of body) next.0 sound next.1) next.2 in
    record { end = omega (arith, there.end, sound.end); stored = there.stored; textual = there.textual; pieces = there.pieces; ascending = there.ascending }

bodies_sound : (bodies : List (List ℕ)) (j : Image) → image_of_bodies bodies ≡ Ok (Some j) → IsSound (span bodies) j
bodies_sound [] j e = absurd cc
bodies_sound (body ∷ bodies) j e =
    let next = on_some (replayed bodies) 0 (after_first (end_behind 0 body) (frame_of body)) j (image_is (replayed_on (replayed bodies) 0 (after_first (end_behind 0 body) (frame_of body))) j e) in
    let there = replay_sound bodies (end_behind 0 body) next.0 j (first_sound (end_behind 0 body) (frame_of body) next.0 (frame_in_order body) next.1) next.2 in
    record { end = omega (arith, there.end); stored = there.stored; textual = there.textual; pieces = there.pieces; ascending = there.ascending }

told_by : (empty closed : Bool) (bodies : List (List ℕ)) (j : Image) → image_of_frames (cond empty (Ok []) (cond closed (Ok bodies) (Err (span bodies)))) ≡ Ok (Some j) → (closed ≡ true) × IsSound (span bodies) j
told_by true closed bodies j e = absurd cc
told_by false true bodies j e = (refl, bodies_sound bodies j e)
told_by false false bodies j e = absurd cc

pub file_sound : (file : List ℕ) (j : Image) → file_image file ≡ Ok (Some j) → (end_of file ≡ Some j.end) × IsHeld j
file_sound file j e =
    let is = told_by (is_empty file) (walk file).closed (walk file).bodies j e in
    let parts = and_parts (fit_stored j.spec j.tables) (not (is_some (first_over j.tables))) is.1.stored in (
      ap (λ (b : Bool). cond b (Some (span (walk file).bodies)) None) is.0 ∙ ap (λ (n : ℕ). Some n) (sym is.1.end),
      record { textual = is.1.textual; pieces = is.1.pieces; fits = parts.0; ascending = is.1.ascending; under = none_is (first_over j.tables) parts.1 },
    )

-- ---- the active one of two files

pub place_is_journal : (first second : List ℕ) (active : Active) (p : Place) → holding first second ≡ Ok (Some active) → IsPlaceOf active first second p → IsJournalOf (file_in p.which first second) p.journal
place_is_journal first second active p e is =
    subst (λ (w : Which). IsJournalOf (file_in w first second) p.journal) (sym is.which)
    (record { end = (file_sound (file_in active.which first second) active.image (image_in active.which active first second refl e)).0 ∙ ap (λ (n : ℕ). Some n) (sym is.end); length = sym is.length })

pub active_held : (first second : List ℕ) (active : Active) → holding first second ≡ Ok (Some active) → IsHeld active.image
active_held first second active e = (file_sound (file_in active.which first second) active.image (image_in active.which active first second refl e)).1

pub active_stored : (first second : List ℕ) (active : Active) → holding first second ≡ Ok (Some active) → are_stored_tables active.image.spec active.image.tables ≡ true
active_stored first second active e =
    let is = active_held first second active e in
    and_from (fit_stored active.image.spec active.image.tables) (not (is_some (first_over active.image.tables))) is.fits (ap (λ (o : Option ℕ). not (is_some o)) is.under)
