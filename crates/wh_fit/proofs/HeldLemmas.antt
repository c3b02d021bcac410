-- What files hold fits and has a spelling.
use Rattle.std.proofs.Common.{◌≡◌, ◌⊎◌, ℕ, zero, suc, ◌+◌, ◌<◌, ◌^◌, ◌==◌, Bool, true, false, not, ◌&&◌, if◌then◌else◌, List, [], ◌∷◌, ◌++◌, length, get_or, take, drop, Option, Some, None, Result, Ok, Err, refl, ap, subst, inl, inr, arith}
use Rattle.std.specs.Prelude.{is_some, nat_lt}
use Rattle.std.specs.List.{AllByRecursion}
use Rattle.std.proofs.lemmas.Bool.{and_parts}
use Rattle.std.proofs.lemmas.List.Elements.{All-from_recursion, recursion_from_All, All-take, All-drop}
use Rattle.std.specs.Str.{bytes_eq}
use Rattle.wh_base.specs.RowSet.{IsAscending}
use Rattle.wh_codec.specs.declared.frame.Frame.{Frame}
use Rattle.wh_codec.specs.declared.frame.Frame.TheVariants.{Snapshot, Change}
use Rattle.wh_codec.specs.Body.{IsSpelled, IsSpelledTable}
use Rattle.wh_codec.specs.Reading.{frame_of}
use Rattle.wh_codec.proofs.Fields.{IsBytes}
use Rattle.wh_codec.proofs.Frames.{body_is}
use Rattle.wh_journal.specs.File.{Walk, frames_of, is_empty, is_open, judged, length_in, span, walk, walk_on, walk_within}
use Rattle.wh_plan.specs.Plan.{too_many}
use Rattle.wh_schema.specs.declared.spec.Spec.{Spec}
use Rattle.wh_schema.specs.Warehouse.{Row, State, stored}
use Rattle.wh_spec_text.specs.declared.fault.SpecTextFault.{SpecTextFault}
use Rattle.wh_spec_text.specs.Printed.{spec_text}
use Rattle.wh_spec_text.specs.SpecTexts.{spec_of_text}
use Rattle.wh_spec_text.specs.Textual.{IsTextualSpec}
use Rattle.wh_spec_text.proofs.TextualLemmas.{answers_are_textual}
use Rattle.wh_store.specs.declared.warehouse.Which.TheVariants.{First, Second}
use Rattle.wh_store.specs.Image.{Active, Image, accepted_from, after_first, after_frame, apply_to, are_stored_deltas, are_stored_tables, both, changed_tables, end_behind, equal_generations, file_image, first_over, fit_stored, holding, image_of_bodies, image_of_frames, later_of, printed_spec, replayed, replayed_on, snapshot_over, some_image}
use Rattle.wh_store.specs.Warehouse.{Stands}
use Rattle.wh_store.proofs.ChangedTables.{changed_ascend}
use Rattle.wh_store.proofs.SpelledTables.{changed_spelled, tables_spelled}
use Rattle.wh_fit.specs.Differences.{IsStorable}
use Rattle.wh_fit.specs.Fit.{AreSpelledRows}
use Rattle.wh_fit.specs.Held.{AreBytes, IsFittingImage}
use Rattle.wh_fit.proofs.Each.{each_from, each_in}
use Rattle.wh_fit.proofs.Sources.{sources_fit, sources_spelled}
use Rattle.wh_fit.proofs.TextSpecs.{found}

-- ---- bytes

abbrev IsByte : ℕ → Type 0
IsByte b = b < 2 ^ 8

bytes_take : (n : ℕ) (bytes : List ℕ) → AreBytes bytes → AreBytes (take n bytes)
bytes_take n bytes h = recursion_from_All IsByte (take n bytes) (All-take IsByte n bytes (All-from_recursion IsByte bytes h))

bytes_drop : (n : ℕ) (bytes : List ℕ) → AreBytes bytes → AreBytes (drop n bytes)
bytes_drop n bytes h = recursion_from_All IsByte (drop n bytes) (All-drop IsByte n bytes (All-from_recursion IsByte bytes h))

are_bytes : (bytes : List ℕ) → AreBytes bytes → IsBytes bytes
are_bytes [] h i = omega arith
are_bytes (b ∷ bytes) h zero = h.0
are_bytes (b ∷ bytes) h (suc i) = are_bytes bytes h.1 i

bodies_bytes : (n : ℕ) (bytes : List ℕ) → AreBytes bytes → AllByRecursion AreBytes (walk_within n bytes).bodies
unfolding walk_within
bodies_bytes zero bytes h = tt
bodies_bytes (suc n) [] h = tt
bodies_bytes (suc n) (mark ∷ bytes) h = by (is_open mark) (nat_lt (length bytes) (8 + length_in bytes)) (bodies_bytes n)
  where
    by : (b c : Bool) → ((more : List ℕ) → AreBytes more → AllByRecursion AreBytes (walk_within n more).bodies)
        → AllByRecursion AreBytes (if b then walk_on (walk_within n) (if c then None else Some (take (length_in bytes) (drop 8 bytes), drop (8 + length_in bytes) bytes)) else record { bodies = []; closed = true }).bodies
    by true true more = tt
    by true false more = (bytes_take (length_in bytes) (drop 8 bytes) (bytes_drop 8 bytes h.1), more (drop (8 + length_in bytes) bytes) (bytes_drop (8 + length_in bytes) bytes h.1))
    by false c more = tt

judged_bytes : (walked : Walk) (bodies : List (List ℕ)) → AllByRecursion AreBytes walked.bodies → judged walked ≡ Ok bodies → AllByRecursion AreBytes bodies
judged_bytes walked bodies h e = by walked.closed e
  where
    by : (b : Bool) → (if b then Ok walked.bodies else Err (span walked.bodies)) ≡ Ok bodies → AllByRecursion AreBytes bodies
    by true e = let same : walked.bodies ≡ bodies = cc in subst (AllByRecursion AreBytes) same h
    by false e = absurd cc

frames_bytes : (file : List ℕ) (bodies : List (List ℕ)) → AreBytes file → frames_of file ≡ Ok bodies → AllByRecursion AreBytes bodies
frames_bytes file bodies h e = by (is_empty file) e
  where
    by : (b : Bool) → (if b then Ok [] else judged (walk file)) ≡ Ok bodies → AllByRecursion AreBytes bodies
    by true e = let same : [] ≡ bodies = cc in subst (AllByRecursion AreBytes) same tt
    by false e = judged_bytes (walk file) bodies (bodies_bytes (suc (length file)) file h) e

frame_spelled : (body : List ℕ) → AreBytes body → (frame : Frame) → frame_of body ≡ Some frame → IsSpelled frame
frame_spelled body h frame e = (body_is body frame (are_bytes body h) e).spelled

-- ---- images

none_is : {X : Type 0} (o : Option X) → not (is_some o) ≡ true → o ≡ None
none_is None e = refl
none_is (Some x) e = absurd cc

stored_parts : (spec : Spec) (tables : List (List Row)) → are_stored_tables spec tables ≡ true → (fit_stored spec tables ≡ true) × (first_over tables ≡ None)
stored_parts spec tables e = let p = and_parts (fit_stored spec tables) (not (is_some (first_over tables))) e in (p.0, none_is (first_over tables) p.1)

when_some : {X : Type 0} (b : Bool) (x y : X) → (if b then Some x else None) ≡ Some y → (b ≡ true) × (x ≡ y)
when_some true x y e = (refl, cc)
when_some false x y e = absurd cc

accepted_is : (text : List ℕ) (r : Result Spec SpecTextFault) (spec : Spec) → accepted_from text r ≡ Some spec → r ≡ Ok spec
accepted_is text (Ok t) spec e = ap Ok (when_some (bytes_eq (spec_text t) text && not (is_some (too_many t))) t spec e).1
accepted_is text (Err fault) spec e = absurd cc

printed_textual : (text : List ℕ) (spec : Spec) → printed_spec text ≡ Some spec → IsTextualSpec spec
printed_textual text spec e = answers_are_textual text spec (accepted_is text (spec_of_text text) spec e)

snapshot_fits : (generation seq : ℕ) (tables : List (List Row)) (end : ℕ) (text : List ℕ) (o : Option Spec) (i : Image) → printed_spec text ≡ o → AllByRecursion IsSpelledTable tables
    → snapshot_over generation seq tables end o ≡ Some i → IsFittingImage i
snapshot_fits generation seq tables end text None i is h e = absurd cc
snapshot_fits generation seq tables end text (Some spec) i is h e =
    let made : Image = record { generation = generation; seq = seq; spec = spec; tables = tables; end = end } in
    let w = when_some (are_stored_tables spec tables) made i e in
    let p = stored_parts spec tables w.0 in
    let fits : IsFittingImage made = record {
      textual = printed_textual text spec is;
      fits = p.0;
      ascending = each_in IsAscending tables (λ rows k. (each_from IsSpelledTable tables h rows k).ascending);
      under = p.1;
      spelled = tables_spelled tables h;
    } in
    subst IsFittingImage w.1 fits

first_fits : (end : ℕ) (o : Option Frame) (i : Image) → ((frame : Frame) → o ≡ Some frame → IsSpelled frame) → after_first end o ≡ Some i → IsFittingImage i
first_fits end None i h e = absurd cc
first_fits end (Some (Snapshot generation seq text tables)) i h e =
    snapshot_fits generation seq tables end text (printed_spec text) i refl (h (Snapshot generation seq text tables) refl).tables e
first_fits end (Some (Change seq deltas)) i h e = absurd cc

next_fits : (i : Image) (end : ℕ) (o : Option Frame) (j : Image) → IsFittingImage i → ((frame : Frame) → o ≡ Some frame → IsSpelled frame) → after_frame i end o ≡ Some j → IsFittingImage j
next_fits i end None j fits h e = absurd cc
next_fits i end (Some (Snapshot generation seq text tables)) j fits h e = absurd cc
next_fits i end (Some (Change seq deltas)) j fits h e =
    let tables = changed_tables i.tables deltas in
    let made : Image = record { generation = i.generation; seq = seq; spec = i.spec; tables = tables; end = end } in
    let w = when_some ((seq == i.seq + 1) && are_stored_deltas i.spec i.tables deltas) made j e in
    let p = and_parts (seq == i.seq + 1) (are_stored_deltas i.spec i.tables deltas) w.0 in
    let q = and_parts (apply_to i.tables deltas) (are_stored_tables i.spec tables) p.1 in
    let t = stored_parts i.spec tables q.1 in
    let deltas_spelled = (h (Change seq deltas) refl).deltas in
    let fit : IsFittingImage made = record {
      textual = fits.textual;
      fits = t.0;
      ascending = changed_ascend i.tables deltas;
      under = t.1;
      spelled = changed_spelled i.tables deltas fits.spelled deltas_spelled;
    } in
    subst IsFittingImage w.1 fit

step_on : (more : Image → Result Image ℕ) (at : ℕ) (o : Option Image) (j : Image) → replayed_on more at o ≡ Ok j → (i : Image) × (o ≡ Some i) × (more i ≡ Ok j)
step_on more at None j e = absurd cc
step_on more at (Some i) j e = (i, refl, e)

replayed_fits : (bodies : List (List ℕ)) (i j : Image) → AllByRecursion AreBytes bodies → IsFittingImage i → replayed bodies i ≡ Ok j → IsFittingImage j
replayed_fits [] i j h fits e = let same : i ≡ j = cc in subst IsFittingImage same fits
replayed_fits (body ∷ bodies) i j h fits e =
    let s = step_on (replayed bodies) i.end (after_frame i (end_behind i.end body) (frame_of body)) j e in
    replayed_fits bodies s.0 j h.1 (next_fits i (end_behind i.end body) (frame_of body) s.0 fits (frame_spelled body h.0) s.1) s.2

some_is : (r : Result Image ℕ) (i : Image) → some_image r ≡ Ok (Some i) → r ≡ Ok i
some_is (Ok j) i e = cc
some_is (Err at) i e = absurd cc

bodies_fit : (bodies : List (List ℕ)) (i : Image) → AllByRecursion AreBytes bodies → image_of_bodies bodies ≡ Ok (Some i) → IsFittingImage i
bodies_fit [] i h e = absurd cc
bodies_fit (body ∷ bodies) i h e =
    let r = some_is (replayed_on (replayed bodies) 0 (after_first (end_behind 0 body) (frame_of body))) i e in
    let s = step_on (replayed bodies) 0 (after_first (end_behind 0 body) (frame_of body)) i r in
    replayed_fits bodies s.0 i h.1 (first_fits (end_behind 0 body) (frame_of body) s.0 (frame_spelled body h.0) s.1) s.2

pub image_fits : (file : List ℕ) (i : Image) → AreBytes file → file_image file ≡ Ok (Some i) → IsFittingImage i
image_fits file i h e = by (frames_of file) refl e
  where
    by : (o : Result (List (List ℕ)) ℕ) → frames_of file ≡ o → image_of_frames o ≡ Ok (Some i) → IsFittingImage i
    by (Ok bodies) is e = bodies_fit bodies i (frames_bytes file bodies h is) e
    by (Err at) is e = absurd cc

-- ---- both files

later_from : (a b : Image) (active : Active) → later_of a b ≡ Ok (Some active) → (a ≡ active.image) ⊎ (b ≡ active.image)
later_from a b active e = by (a.generation == b.generation) (nat_lt b.generation a.generation) e
  where
    by : (x y : Bool) → (if x then Err equal_generations else if y then Ok (Some (record { which = First; image = a })) else Ok (Some (record { which = Second; image = b }))) ≡ Ok (Some active)
        → (a ≡ active.image) ⊎ (b ≡ active.image)
    by true y e = absurd cc
    by false true e = inl (let made : Active = record { which = First; image = a } in let same : made ≡ active = cc in ap (λ (x : Active). x.image) same)
    by false false e = inr (let made : Active = record { which = Second; image = b } in let same : made ≡ active = cc in ap (λ (x : Active). x.image) same)

active_from : (a b : Result (Option Image) ℕ) (active : Active) → both a b ≡ Ok (Some active) → (a ≡ Ok (Some active.image)) ⊎ (b ≡ Ok (Some active.image))
active_from (Err at) b active e = absurd cc
active_from (Ok a) (Err at) active e = absurd cc
active_from (Ok None) (Ok None) active e = absurd cc
active_from (Ok (Some a)) (Ok None) active e = inl (let made : Active = record { which = First; image = a } in let same : made ≡ active = cc in ap (λ (x : Active). Ok (Some x.image)) same)
active_from (Ok None) (Ok (Some b)) active e = inr (let made : Active = record { which = Second; image = b } in let same : made ≡ active = cc in ap (λ (x : Active). Ok (Some x.image)) same)
active_from (Ok (Some a)) (Ok (Some b)) active e =
    elim (later_from a b active e) [ inl same ↦ inl (ap (λ i. Ok (Some i)) same) | inr same ↦ inr (ap (λ i. Ok (Some i)) same) ]

active_fits : (first second : List ℕ) (active : Active) → AreBytes first → AreBytes second → holding first second ≡ Ok (Some active) → IsFittingImage active.image
unfolding holding
active_fits first second active h k e =
    elim (active_from (file_image first) (file_image second) active e) [
      | inl is ↦ image_fits first active.image h is
      | inr is ↦ image_fits second active.image k is
    ]

pub standing_fits : (first second : List ℕ) (spec : Spec) (s : State) (n : ℕ) → AreBytes first → AreBytes second → Stands first second spec s n → IsTextualSpec spec × IsStorable spec s
standing_fits first second spec s n h k stands =
    let image = active_fits first second stands.active h k stands.holds in
    let textual : IsTextualSpec spec = subst IsTextualSpec stands.spec_is image.textual in
    let f = found (spec_text spec) spec textual in
    let fits : fit_stored spec (stored spec s) ≡ true = subst (λ tables. fit_stored spec tables ≡ true) stands.tables (subst (λ u. fit_stored u stands.active.image.tables ≡ true) stands.spec_is image.fits) in
    let spelled : AllByRecursion AreSpelledRows (stored spec s) = subst (AllByRecursion AreSpelledRows) stands.tables image.spelled in (
      textual,
      record {
        fits = sources_fit spec s f.well_formed stands.legal.state f.kinded fits;
        spelled = sources_spelled spec s f.well_formed stands.legal.state spelled;
        under = subst (λ tables. first_over tables ≡ None) stands.tables image.under;
      },
    )
