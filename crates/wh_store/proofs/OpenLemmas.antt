-- What the frames of a file come to, step by step.
use Rattle.std.proofs.Common.{◌≡◌, ℕ, true, false, if◌then◌else◌, List, [], ◌∷◌, length, Option, Some, None, IfSome, IfOk, Result, Ok, Err, sym, ap, subst, ◌∙◌}
use Rattle.std.specs.List.{AllByRecursion}
use Rattle.std.specs.Option.{ForSome}
use Rattle.wh_base.specs.declared.value.Value.{Value}
use Rattle.wh_base.specs.RowSet.{IsAscending}
use Rattle.wh_codec.specs.declared.frame.Frame.TheVariants.{Snapshot}
use Rattle.wh_codec.specs.Body.{IsSpelledTable}
use Rattle.wh_codec.specs.Reading.{frame_of}
use Rattle.wh_journal.specs.File.{is_empty, walk, judged}
use Rattle.wh_journal.specs.Journal.{IsJournalOf}
use Rattle.wh_schema.specs.declared.spec.Spec.{Spec}
use Rattle.wh_store.specs.declared.fault.StoreFault.{StoreFault}
use Rattle.wh_store.specs.declared.fault.StoreFault.TheVariants as fault
use Rattle.wh_store.specs.declared.replay.Replay.{Replay}
use Rattle.wh_store.specs.declared.replay.FileState.{FileState}
use Rattle.wh_store.specs.declared.replay.FileState.TheVariants as state
use Rattle.wh_store.specs.declared.warehouse.Place.{Place}
use Rattle.wh_store.specs.declared.warehouse.Warehouse.{Warehouse}
use Rattle.wh_store.specs.declared.warehouse.Which.{Which}
use Rattle.wh_store.specs.declared.warehouse.Which.TheVariants.{First, Second}
use Rattle.wh_store.specs.Commit.{active_of}
use Rattle.wh_store.specs.Image.{Holding, end_behind, are_stored_tables, snapshot_over, printed_spec, after_first, after_frame, replayed, replayed_on, some_image, image_of_bodies, image_of_frames, file_image, both, holding}
use Rattle.wh_store.specs.Opening.{image_of, found_of, HasLength, IsStateOf, file_state, IsChosen}
use Rattle.wh_store.specs.Store.{IsOpen}
use Rattle.wh_store.specs.Warehouse.{IsWarehouseOf, file_in}
use Rattle.wh_store.proofs.SoundFiles.{file_sound}

-- ---- a snapshot

pub snapshot_none : (g s end : ℕ) (text : List ℕ) (tables : List (List (List Value))) → None ≡ printed_spec text → None ≡ after_first end (Some (Snapshot g s text tables))
snapshot_none g s end text tables none = ap (snapshot_over g s tables end) none

pub snapshot_bad : (g s end : ℕ) (text : List ℕ) (tables : List (List (List Value))) (spec : Spec) → Some spec ≡ printed_spec text → are_stored_tables spec tables ≡ false → None ≡ after_first end (Some (Snapshot g s text tables))
snapshot_bad g s end text tables spec printed bad =
    sym (ap (λ b. if b then Some (record { generation = g; seq = s; spec = spec; tables = tables; end = end }) else None) bad) ∙ ap (snapshot_over g s tables end) printed

pub snapshot_good : (g s end : ℕ) (text : List ℕ) (tables : List (List (List Value))) (spec : Spec) → Some spec ≡ printed_spec text → are_stored_tables spec tables ≡ true
    → Some (record { generation = g; seq = s; spec = spec; tables = tables; end = end }) ≡ after_first end (Some (Snapshot g s text tables))
snapshot_good g s end text tables spec printed good =
    sym (ap (λ b. if b then Some (record { generation = g; seq = s; spec = spec; tables = tables; end = end }) else None) good) ∙ ap (snapshot_over g s tables end) printed

pub all_ascend : (tables : List (List (List Value))) → AllByRecursion IsSpelledTable tables → AllByRecursion IsAscending tables
all_ascend [] all = tt
all_ascend (table ∷ tables) all = (all.0.ascending, all_ascend tables all.1)

-- ---- one frame after another

pub step_some : (body : List ℕ) (rest : List (List ℕ)) (r n : Replay) → Some (image_of n) ≡ after_frame (image_of r) (end_behind r.journal.end body) (frame_of body)
    → replayed (body ∷ rest) (image_of r) ≡ replayed rest (image_of n)
step_some body rest r n e = ap (replayed_on (replayed rest) r.journal.end) (sym e)

pub step_none : (body : List ℕ) (rest : List (List ℕ)) (r : Replay) → None ≡ after_frame (image_of r) (end_behind r.journal.end body) (frame_of body)
    → replayed (body ∷ rest) (image_of r) ≡ Err r.journal.end
step_none body rest r e = ap (replayed_on (replayed rest) r.journal.end) (sym e)

pub first_some : (body : List ℕ) (rest : List (List ℕ)) (n : Replay) → Some (image_of n) ≡ after_first (end_behind 0 body) (frame_of body)
    → some_image (replayed rest (image_of n)) ≡ image_of_bodies (body ∷ rest)
first_some body rest n e = ap (λ o. some_image (replayed_on (replayed rest) 0 o)) e

pub first_none : (body : List ℕ) (rest : List (List ℕ)) → None ≡ after_first (end_behind 0 body) (frame_of body) → Err 0 ≡ image_of_bodies (body ∷ rest)
first_none body rest e = ap (λ o. some_image (replayed_on (replayed rest) 0 o)) e

-- ---- a file

pub found_empty : (file : List ℕ) → is_empty file ≡ true → file_image file ≡ Ok None
found_empty file empty = ap image_of_frames (λ i. if empty i then Ok [] else judged (walk file))

-- ---- both files

holds_is : (a b : List ℕ) (first second : FileState) → IsStateOf a first → IsStateOf b second → holding a b ≡ both (found_of first) (found_of second)
unfolding holding
holds_is a b first second in_a in_b = λ i. both (in_a.image i) (in_b.image i)

pub refused : (a b : List ℕ) (first second : FileState) (e : StoreFault) → IsStateOf a first → IsStateOf b second → IsChosen first second (both (found_of first) (found_of second)) (Err e) → IsOpen a b (Err e)
refused a b first second fault.AlreadyLoaded in_a in_b h = absurd h
refused a b first second fault.NotLoaded in_a in_b h = holds_is a b first second in_a in_b ∙ h
refused a b first second (fault.Damaged which at) in_a in_b h = holds_is a b first second in_a in_b ∙ h
refused a b first second (fault.RowLimit table) in_a in_b h = absurd h
refused a b first second fault.SequenceLimit in_a in_b h = absurd h
refused a b first second fault.GenerationLimit in_a in_b h = absurd h
refused a b first second fault.FileLimit in_a in_b h = absurd h
refused a b first second fault.DiskFault in_a in_b h = tt
refused a b first second fault.NoMemory in_a in_b h = tt

length_is : (which : Which) (a b : List ℕ) (first second : FileState) (r : Replay) → IsStateOf a first → IsStateOf b second → file_state which first second ≡ state.Held r → r.journal.length ≡ length (file_in which a b)
length_is First a b first second r in_a in_b is = subst (HasLength (length a)) is in_a.length
length_is Second a b first second r in_a in_b is = subst (HasLength (length b)) is in_b.length

pub opened_is : (a b : List ℕ) (first second : FileState) (which : Which) (r : Replay) (w : Warehouse) (p : Place) → IsStateOf a first → IsStateOf b second
    → IsChosen first second (both (found_of first) (found_of second)) (Ok (which, r)) → IsWarehouseOf (image_of r) w → p ≡ record { which = which; generation = r.generation; journal = r.journal; live = true }
    → IsOpen a b (Ok (w, p))
opened_is a b first second which r w p in_a in_b h held place = record {
  active = record { which = which; image = image_of r };
  holds = holds_is a b first second in_a in_b ∙ h.0;
  warehouse = held;
  place = record {
    which = ap (λ (q : Place). q.which) place;
    generation = ap (λ (q : Place). q.generation) place;
    end = ap (λ (q : Place). q.journal.end) place;
    length = ap (λ (q : Place). q.journal.length) place ∙ length_is which a b first second r in_a in_b h.1;
    live = ap (λ (q : Place). q.live) place;
  };
}

-- two contents that are told
pub both_told : (x y z : Option (List ℕ)) (P Q : List ℕ → Type 0) (R : List ℕ → List ℕ → Type 0) → z ≡ y → ((a b : List ℕ) → P a → Q b → R a b) → IfSome x P → IfSome z Q → IfSome x (λ (a : List ℕ). IfSome y (λ (b : List ℕ). R a b))
both_told None y z P Q R same step p q = tt
both_told (Some a) None z P Q R same step p q = tt
both_told (Some a) (Some b) z P Q R same step p q = step a b p (subst (λ (o : Option (List ℕ)). IfSome o Q) same q)

-- ---- the journal of the file that counts

held_journal : (file : List ℕ) (r : Replay) → IsStateOf file (state.Held r) → IsJournalOf file r.journal
held_journal file r is = record { end = (file_sound file (image_of r) is.image).0; length = sym is.length }

pub journal_of : (first second : FileState) (found : Holding) (which : Which) (r : Replay) (p : Place) → IsChosen first second found (Ok (which, r))
    → p ≡ record { which = which; generation = r.generation; journal = r.journal; live = true }
    → (file : List ℕ) → IsStateOf file (file_state p.which first second) → IsJournalOf file p.journal
journal_of first second found which r p chosen place file is =
    subst (IsJournalOf file) (sym (ap (λ (q : Place). q.journal) place))
    (held_journal file r (subst (IsStateOf file) (ap (λ (q : Place). file_state q.which first second) place ∙ chosen.1) is))

-- of two contents, that of the file that counts, where it is told
which_told : {D : Type 0} (content : D → Option (List ℕ)) (first second : D) (x y : Option (List ℕ)) (in_first in_second : FileState) (which : Which) (R : List ℕ → Type 0) → content first ≡ x → content second ≡ y
    → IfSome x (λ (file : List ℕ). IsStateOf file in_first) → IfSome y (λ (file : List ℕ). IsStateOf file in_second)
    → ((file : List ℕ) → IsStateOf file (file_state which in_first in_second) → R file) → ForSome (content (active_of which first second)) R
which_told content first second x y in_first in_second First R e f p q step = λ file is. step file (subst (λ (o : Option (List ℕ)). IfSome o (λ (c : List ℕ). IsStateOf c in_first)) (sym e ∙ is) p)
which_told content first second x y in_first in_second Second R e f p q step = λ file is. step file (subst (λ (o : Option (List ℕ)). IfSome o (λ (c : List ℕ). IsStateOf c in_second)) (sym f ∙ is) q)

pub journal_told : {D : Type 0} (content : D → Option (List ℕ)) (first second : D) (x y : Option (List ℕ)) (in_first in_second : FileState) (result : Result (Warehouse × Place) StoreFault) → content first ≡ x → content second ≡ y
    → IfSome x (λ (file : List ℕ). IsStateOf file in_first) → IfSome y (λ (file : List ℕ). IsStateOf file in_second)
    → IfOk result (λ (o : Warehouse × Place). (file : List ℕ) → IsStateOf file (file_state o.1.which in_first in_second) → IsJournalOf file o.1.journal)
    → IfOk result (λ (o : Warehouse × Place). ForSome (content (active_of o.1.which first second)) (λ (file : List ℕ). IsJournalOf file o.1.journal))
journal_told content first second x y in_first in_second (Ok (w, p)) e f a b h = which_told content first second x y in_first in_second p.which (λ (file : List ℕ). IsJournalOf file p.journal) e f a b h
journal_told content first second x y in_first in_second (Err fault) e f a b h = tt
