-- What taking one change file comes to.
use Rattle.std.proofs.Common.{◌≡◌, inl, ℕ, ◌+◌, Bool, true, false, List, [], ◌∷◌, ◌++◌, map, Option, None, Some, IfSome, Result, Ok, Err, OnOk, refl, sym, ◌∙◌, ap, subst}
use Rattle.std.specs.Prelude.{codes, decimal}
use Rattle.std.specs.Option.{ForSome, option_map}
use Rattle.wh_base.specs.Lines.{line}
use Rattle.wh_check.specs.Check.{source_deltas}
use Rattle.wh_csv.specs.declared.change.Line as csv
use Rattle.wh_fit.specs.Fit.{as_line}
use Rattle.wh_io.specs.Causes.{IsCountedPair}
use Rattle.wh_io.specs.Crash.{IsSettled, LeavesOnly}
use Rattle.wh_io.specs.Files.{Held}
use Rattle.wh_io.specs.Sink.{gained, GainsPrefix}
use Rattle.wh_journal.specs.Journal.{IsJournalOf, appended}
use Rattle.wh_refresh.specs.declared.fault.RefreshFault.{RefreshFault}
use Rattle.wh_refresh.specs.declared.fault.RefreshFault.TheVariants as fault
use Rattle.wh_refresh.specs.Refresh.{IsRefreshed, Refuses, is_disk_fault as refresh_disk_fault, refreshed, stored_changes}
use Rattle.wh_schema.specs.declared.spec.Spec.{Spec}
use Rattle.wh_schema.specs.Changes.{Line}
use Rattle.wh_store.specs.declared.warehouse.NetChange.{NetChange}
use Rattle.wh_store.specs.declared.warehouse.Place.{Place}
use Rattle.wh_store.specs.declared.warehouse.Warehouse.{Warehouse}
use Rattle.wh_store.specs.declared.warehouse.Which.{Which}
use Rattle.wh_store.specs.Commit.{IsHeldBeforeOrAfter, Matches, active_of, active_with, change_body, other_of}
use Rattle.wh_store.specs.Image.{Active, Image}
use Rattle.wh_store.specs.Warehouse.{HoldsValues, IsInForm, IsPlaceOf, IsWarehouseOf}
use Rattle.wh_command.specs.declared.refresh_file.Reading.{Reading}
use Rattle.wh_command.specs.declared.refresh_file.Reading.TheVariants.{Lines, Rejected}
use Rattle.wh_command.specs.declared.refresh_line.Report.{Report}
use Rattle.wh_command.specs.declared.status.Status.{Status}
use Rattle.wh_command.specs.declared.status.Status.TheVariants as status
use Rattle.wh_command.specs.declared.stop.Stop.{Stop}
use Rattle.wh_command.specs.declared.stop.Stop.TheVariants.{ReadFault, WriteFault, DiskFault, NoMemory}
use Rattle.wh_command.specs.Refresh.{Rejection, accepted, accepted_lines, deleted_count, file_text, inserted_count, lines_in, refreshed_words, refusal, taken_by}
use Rattle.wh_command.specs.RefreshSteps.{IsEitherState, IsLastStop, IsReading, IsReady, IsReport, Moves, StandsAt, Takes, TakesFile, TellsRefusal, TellsReport, counts_words}
use Rattle.wh_command.specs.Steps.{is_disk_fault, is_read_fault, is_usage, is_write_fault}
use Rattle.wh_command.proofs.RefreshOne.{told_active, settled_active, CountsNow, OnlyNow, accepted_is, kept_moves, left_either, lines_accepted, lines_refused, moved, regroup, stands_on}

-- the line of an accepted change
accepted_line : (name front : List ℕ) (seq : ℕ) (net : NetChange) (i : Image) (lines : List Line) → front ≡ name ++ codes ": " → seq ≡ i.seq + 1 → net.source ≡ source_deltas i lines → net.stored ≡ stored_changes i lines
    → line (((front ++ (codes "refresh " ++ decimal seq)) ++ counts_words (codes ", sources") net.source) ++ counts_words (codes ", stored") net.stored) ≡ file_text name (refreshed_words i lines)
accepted_line name front seq net i lines front_is seq_is source_is stored_is =
    (λ k. line (((front_is k ++ (codes "refresh " ++ decimal (seq_is k))) ++ counts_words (codes ", sources") (source_is k)) ++ counts_words (codes ", stored") (stored_is k)))
    ∙ regroup name (codes ": ") (codes "refresh ") (decimal (i.seq + 1)) (codes ", sources" ++ codes " -") (decimal (deleted_count (source_deltas i lines))) (codes " +") (decimal (inserted_count (source_deltas i lines)))
    (codes ", stored" ++ codes " -") (decimal (deleted_count (stored_changes i lines))) (decimal (inserted_count (stored_changes i lines))) (10 ∷ [])

module _ {D : Type 0} (content : D → Option (List ℕ)) (images : D → List ℕ → Type 0) (moment : D → ℕ) (images_since : D → ℕ → List ℕ → Type 0) (first first_new second second_new : D) (w : Warehouse) (p : Place) where
  abbrev Took : List ℕ → Active → Result (List Line) Rejection → Warehouse → Place → Result Report Stop → Type 0
  Took name active judged w_new p_new finish = Takes content images moment images_since name active judged first first_new second second_new w_new p_new finish

  abbrev Stood : Active → Type 0
  Stood active = StandsAt content images first second active w p

  -- a claim of two contents that are told
  told_two : (P : List ℕ → List ℕ → Type 0) (x y : Option (List ℕ)) (a b : List ℕ) → x ≡ Some a → y ≡ Some b → IfSome x (λ (a : List ℕ). IfSome y (λ (b : List ℕ). P a b)) → P a b
  told_two P x y a b x_is y_is claim =
      subst (λ (o : Option (List ℕ)). IfSome o (λ (b : List ℕ). P a b)) y_is (subst (λ (o : Option (List ℕ)). IfSome o (λ (a : List ℕ). IfSome y (λ (b : List ℕ). P a b))) x_is claim)

  -- nothing was touched
  module _ (only_now : OnlyNow content images moment images_since) (active : Active) (stood : Stood active) (first_same : first_new ≡ first) (second_same : second_new ≡ second) (w_new : Warehouse) (p_new : Place)
      (kept : (i : Image) → IsWarehouseOf i w → IsWarehouseOf i w_new) (place_same : p_new ≡ p) where
    stands_kept : StandsAt content images first_new second_new active w_new p_new
    stands_kept =
        subst (λ (d : D). StandsAt content images d second_new active w_new p_new) (sym first_same)
        (subst (λ (d : D). StandsAt content images first d active w_new p_new) (sym second_same) (record {
          a = stood.a;
          b = stood.b;
          told_first = stood.told_first;
          told_second = stood.told_second;
          settled_first = stood.settled_first;
          settled_second = stood.settled_second;
          matches = record {
            holds = stood.matches.holds;
            warehouse = kept active.image stood.matches.warehouse;
            place = subst (λ (q : Place). IsPlaceOf active stood.a stood.b q) (sym place_same) stood.matches.place;
          };
        }))

    moves_kept : (after : Active) → Moves content moment images_since active.which (IsEitherState active after) first first_new second second_new
    moves_kept after =
        subst (λ (d : D). Moves content moment images_since active.which (IsEitherState active after) first d second second_new) (sym first_same)
        (subst (λ (d : D). Moves content moment images_since active.which (IsEitherState active after) first first second d) (sym second_same)
        (kept_moves content images moment images_since first second active w p stood (IsEitherState active after) only_now (inl refl)))

    bytes_kept : (which : Which) → content (active_of which first_new second_new) ≡ option_map (λ (bytes : List ℕ). bytes) (content (active_of which first second))
    bytes_kept which =
        (λ k. content (active_of which (first_same k) (second_same k))) ∙ same (content (active_of which first second))
      where
        same : (o : Option (List ℕ)) → o ≡ option_map (λ (bytes : List ℕ). bytes) o
        same None = refl
        same (Some bytes) = refl

    pub takes_rejection : (name : List ℕ) (rejection : Rejection) (report : Report) → IsReport name rejection report → Took name active (Err rejection) w_new p_new (Ok report)
    takes_rejection name rejection report is = record {
      ends = (is.status, is.line, stands_kept);
      moves = moves_kept active;
      bytes = bytes_kept active.which;
    }

    pub takes_none : (name : List ℕ) (judged : Result (List Line) Rejection) → Took name active judged w_new p_new (Err NoMemory)
    takes_none name judged = record { ends = stands_kept; moves = moves_kept (taken_by active judged).active; bytes = tt }

    pub takes_unread : (name : List ℕ) (judged : Result (List Line) Rejection) (file : List ℕ) → file ≡ name → Took name active judged w_new p_new (Err (ReadFault file))
    takes_unread name judged file is = record { ends = (is, stands_kept); moves = moves_kept (taken_by active judged).active; bytes = tt }

  -- a change is made
  module _ (name : List ℕ) (lines : List Line) (w_new : Warehouse) (p_new : Place) (counts : CountsNow content images moment images_since) (only_now : OnlyNow content images moment images_since)
      (other : other_of p.which first_new second_new ≡ other_of p.which first second)
      (any_moment : IsSettled (content (active_of p.which first second)) (images (active_of p.which first second)) → IfSome (content first) (λ (a : List ℕ). IfSome (content second) (λ (b : List ℕ). (active : Active) → Matches active a b w p
      → LeavesOnly moment images_since (active_of p.which first second) (active_of p.which first_new second_new) (IsHeldBeforeOrAfter active (stored_changes active.image lines) a b)))) where
    module _ (active : Active) (stood : Stood active) where
      settled_now : IsSettled (content (active_of p.which first second)) (images (active_of p.which first second))
      settled_now =
          subst (λ (o : Option (List ℕ)). IsSettled o (images (active_of p.which first second))) (sym (told_active content images moment images_since first second active w p stood p.which))
          (settled_active content images moment images_since first second active w p stood p.which)

      left_moment : LeavesOnly moment images_since (active_of p.which first second) (active_of p.which first_new second_new) (IsHeldBeforeOrAfter active (stored_changes active.image lines) stood.a stood.b)
      left_moment =
          told_two (λ (a b : List ℕ). (active : Active) → Matches active a b w p → LeavesOnly moment images_since (active_of p.which first second) (active_of p.which first_new second_new) (IsHeldBeforeOrAfter active (stored_changes active.image lines) a b))
          (content first) (content second) stood.a stood.b stood.told_first stood.told_second (any_moment settled_now) active stood.matches

      moves_on : Moves content moment images_since active.which (IsEitherState active (active_with active (stored_changes active.image lines))) first first_new second second_new
      moves_on = moved content images moment images_since first second active w p stood first_new second_new (stored_changes active.image lines) other left_moment

    module _ (net : NetChange) (answer : (active : Active) (a b : List ℕ) → Matches active a b w p → IsRefreshed active.image lines (Ok net))
        (holds : IfSome (content first) (λ (a : List ℕ). IfSome (content second) (λ (b : List ℕ). IfSome (content first_new) (λ (c : List ℕ). IfSome (content second_new) (λ (d : List ℕ).
        (active : Active) → Matches active a b w p → Matches (active_with active (stored_changes active.image lines)) c d w_new p_new)))))
        (file : content (active_of p.which first_new second_new) ≡ option_map (λ (file : List ℕ). appended file p.journal.end (change_body (w.seq + 1) net.stored)) (content (active_of p.which first second)))
        (durable : IsSettled (content (active_of p.which first_new second_new)) (images (active_of p.which first_new second_new)))
        (report : Report) (front : List ℕ) (front_is : front ≡ name ++ codes ": ") (status_is : report.status ≡ status.Ok)
        (line_is : report.line ≡ line (((front ++ (codes "refresh " ++ decimal w_new.seq)) ++ counts_words (codes ", sources") net.source) ++ counts_words (codes ", stored") net.stored)) (active : Active) (stood : Stood active) where
      abbrev image : Image
      image = active.image

      abbrev changed : Active
      changed = active_with active (stored_changes active.image lines)

      answered : IsRefreshed active.image lines (Ok net)
      answered = answer active stood.a stood.b stood.matches

      stored_is : net.stored ≡ stored_changes active.image lines
      stored_is = sym (accepted_is active.image lines net.stored answered.0)

      matched : (c d : List ℕ) → content first_new ≡ Some c → content second_new ≡ Some d → Matches changed c d w_new p_new
      matched c d told_c told_d =
          told_two (λ (c d : List ℕ). (active : Active) → Matches active stood.a stood.b w p → Matches (active_with active (stored_changes active.image lines)) c d w_new p_new) (content first_new) (content second_new) c d told_c told_d
          (told_two (λ (a b : List ℕ). IfSome (content first_new) (λ (c : List ℕ). IfSome (content second_new) (λ (d : List ℕ). (active : Active) → Matches active a b w p → Matches (active_with active (stored_changes active.image lines)) c d w_new p_new)))
          (content first) (content second) stood.a stood.b stood.told_first stood.told_second holds) active stood.matches

      stood_on : StandsAt content images first_new second_new changed w_new p_new
      stood_on =
          stands_on content images moment images_since first second active w p stood first_new second_new (stored_changes active.image lines) other (left_moment active stood)
          (λ (file : List ℕ). appended file p.journal.end (change_body (w.seq + 1) net.stored)) w_new p_new file durable matched

      bytes_on : content (active_of active.which first_new second_new) ≡ option_map (λ (bytes : List ℕ). appended bytes active.image.end (change_body (active.image.seq + 1) (stored_changes active.image lines))) (content (active_of active.which first second))
      bytes_on =
          let which_is : p.which ≡ active.which = stood.matches.place.which in
          let end_is : p.journal.end ≡ active.image.end = stood.matches.place.end in
          let seq_is : w.seq ≡ active.image.seq = stood.matches.warehouse.seq in
          subst (λ (x : Which). content (active_of x first_new second_new) ≡ option_map (λ (bytes : List ℕ). appended bytes active.image.end (change_body (active.image.seq + 1) (stored_changes active.image lines))) (content (active_of x first second))) which_is
          (file ∙ (λ k. option_map (λ (file : List ℕ). appended file (end_is k) (change_body (seq_is k + 1) (stored_is k))) (content (active_of p.which first second))))

      pub takes_change : Took name active (accepted_lines active.image (Ok lines)) w_new p_new (Ok report)
      takes_change =
          let seq_is : w_new.seq ≡ active.image.seq + 1 = stood_on.matches.warehouse.seq in
          subst (λ (r : Result (List Line) Rejection). Took name active r w_new p_new (Ok report)) (sym (lines_accepted active.image lines net.stored answered.0)) (record {
            ends = (status_is, line_is ∙ accepted_line name front w_new.seq net active.image lines front_is seq_is answered.1 stored_is, stood_on);
            moves = moves_on active stood;
            bytes = bytes_on;
          })

    -- a change is not made
    module _ (spec : Spec) (spec_is : spec ≡ w.plan.spec) (kept : (i : Image) → IsWarehouseOf i w → IsWarehouseOf i w_new) where
      abbrev Answered : RefreshFault → Type 0
      Answered f = (active : Active) (a b : List ℕ) → Matches active a b w p → IsRefreshed active.image lines (Err f)

      module _ (first_same : first_new ≡ first) (second_same : second_new ≡ second) (place_same : p_new ≡ p) where
        refused_by : (f : RefreshFault) (report : Report) (active : Active) → Stood active → refreshed active.image lines ≡ Err f → IsReport name (refusal spec f) report → Took name active (accepted_lines active.image (Ok lines)) w_new p_new (Ok report)
        refused_by f report active stood is told =
            let same : spec ≡ active.image.spec = spec_is ∙ stood.matches.warehouse.spec in
            subst (λ (r : Result (List Line) Rejection). Took name active r w_new p_new (Ok report)) (sym (lines_refused active.image lines f is))
            (takes_rejection only_now active stood first_same second_same w_new p_new kept place_same name (refusal active.image.spec f) report (subst (λ (s : Spec). IsReport name (refusal s f) report) same told))

        unmade : (active : Active) → Stood active → (stop : Stop) → stop ≡ NoMemory → Took name active (accepted_lines active.image (Ok lines)) w_new p_new (Err stop)
        unmade active stood stop is =
            subst (λ (s : Stop). Took name active (accepted_lines active.image (Ok lines)) w_new p_new (Err s)) (sym is)
            (takes_none only_now active stood first_same second_same w_new p_new kept place_same name (accepted_lines active.image (Ok lines)))

      disk_failed : Answered fault.DiskFault → (active : Active) → Stood active → Took name active (accepted_lines active.image (Ok lines)) w_new p_new (Err DiskFault)
      disk_failed answer active stood =
          subst (λ (r : Result (List Line) Rejection). Took name active r w_new p_new (Err DiskFault)) (sym (lines_accepted active.image lines (stored_changes active.image lines) (answer active stood.a stood.b stood.matches))) (record {
            ends = left_either content images moment images_since first second active w p stood first_new second_new (stored_changes active.image lines) other (left_moment active stood) counts;
            moves = moves_on active stood;
            bytes = tt;
          })

      pub takes_refusal : (f : RefreshFault) (result : Result Report Stop) → TellsRefusal name spec f result → Answered f → Refuses {T = NetChange} (Err f) ((first_new ≡ first) × (second_new ≡ second)) → Refuses {T = NetChange} (Err f) (p_new ≡ p)
          → (active : Active) → Stood active → Took name active (accepted_lines active.image (Ok lines)) w_new p_new result
      takes_refusal fault.DiskFault result tells answer same place active stood = subst (λ (r : Result Report Stop). Took name active (accepted_lines active.image (Ok lines)) w_new p_new r) (sym tells) (disk_failed answer active stood)
      takes_refusal fault.NoMemory result tells answer same place active stood =
          subst (λ (r : Result Report Stop). Took name active (accepted_lines active.image (Ok lines)) w_new p_new r) (sym tells) (unmade same.0 same.1 place active stood NoMemory refl)
      takes_refusal (fault.Broken b) (Ok report) tells answer same place active stood = refused_by same.0 same.1 place (fault.Broken b) report active stood (answer active stood.a stood.b stood.matches) tells
      takes_refusal (fault.RowLimit k) (Ok report) tells answer same place active stood = refused_by same.0 same.1 place (fault.RowLimit k) report active stood (answer active stood.a stood.b stood.matches) tells
      takes_refusal fault.SequenceLimit (Ok report) tells answer same place active stood = refused_by same.0 same.1 place fault.SequenceLimit report active stood (answer active stood.a stood.b stood.matches) tells
      takes_refusal fault.FileLimit (Ok report) tells answer same place active stood = refused_by same.0 same.1 place fault.FileLimit report active stood (answer active stood.a stood.b stood.matches) tells
      takes_refusal (fault.Broken b) (Err stop) tells answer same place active stood = unmade same.0 same.1 place active stood stop tells
      takes_refusal (fault.RowLimit k) (Err stop) tells answer same place active stood = unmade same.0 same.1 place active stood stop tells
      takes_refusal fault.SequenceLimit (Err stop) tells answer same place active stood = unmade same.0 same.1 place active stood stop tells
      takes_refusal fault.FileLimit (Err stop) tells answer same place active stood = unmade same.0 same.1 place active stood stop tells

-- ---- a refusal, by what it is told as

module _ (name : List ℕ) (spec : Spec) (P : Result Report Stop → Type 0) (disk : P (Err DiskFault)) (none : P (Err NoMemory)) where
  by_refusal : ((report : Report) → P (Ok report)) → (f : RefreshFault) (result : Result Report Stop) → TellsRefusal name spec f result → P result
  by_refusal ok fault.DiskFault result tells = subst P (sym tells) disk
  by_refusal ok fault.NoMemory result tells = subst P (sym tells) none
  by_refusal ok (fault.Broken b) (Ok report) tells = ok report
  by_refusal ok (fault.RowLimit k) (Ok report) tells = ok report
  by_refusal ok fault.SequenceLimit (Ok report) tells = ok report
  by_refusal ok fault.FileLimit (Ok report) tells = ok report
  by_refusal ok (fault.Broken b) (Err stop) tells = subst (λ (s : Stop). P (Err s)) (sym tells) none
  by_refusal ok (fault.RowLimit k) (Err stop) tells = subst (λ (s : Stop). P (Err s)) (sym tells) none
  by_refusal ok fault.SequenceLimit (Err stop) tells = subst (λ (s : Stop). P (Err s)) (sym tells) none
  by_refusal ok fault.FileLimit (Err stop) tells = subst (λ (s : Stop). P (Err s)) (sym tells) none

module _ (name : List ℕ) (spec : Spec) (f : RefreshFault) (result : Result Report Stop) (tells : TellsRefusal name spec f result) where
  pub refusal_read : is_read_fault result ≡ false
  refusal_read = by_refusal name spec (λ (r : Result Report Stop). is_read_fault r ≡ false) refl refl (λ report. refl) f result tells

  pub refusal_write : is_write_fault result ≡ false
  refusal_write = by_refusal name spec (λ (r : Result Report Stop). is_write_fault r ≡ false) refl refl (λ report. refl) f result tells

  pub refusal_usage : is_usage result ≡ false
  refusal_usage = by_refusal name spec (λ (r : Result Report Stop). is_usage r ≡ false) refl refl (λ report. refl) f result tells

refusal_disk_is : (name : List ℕ) (spec : Spec) (f : RefreshFault) (result : Result Report Stop) → TellsRefusal name spec f result → is_disk_fault result ≡ refresh_disk_fault {T = NetChange} (Err f)
refusal_disk_is name spec fault.DiskFault result tells = ap (λ (r : Result Report Stop). is_disk_fault r) tells
refusal_disk_is name spec fault.NoMemory result tells = ap (λ (r : Result Report Stop). is_disk_fault r) tells
refusal_disk_is name spec (fault.Broken b) (Ok report) tells = refl
refusal_disk_is name spec (fault.RowLimit k) (Ok report) tells = refl
refusal_disk_is name spec fault.SequenceLimit (Ok report) tells = refl
refusal_disk_is name spec fault.FileLimit (Ok report) tells = refl
refusal_disk_is name spec (fault.Broken b) (Err stop) tells = ap (λ (s : Stop). is_disk_fault {T = Report} (Err s)) tells
refusal_disk_is name spec (fault.RowLimit k) (Err stop) tells = ap (λ (s : Stop). is_disk_fault {T = Report} (Err s)) tells
refusal_disk_is name spec fault.SequenceLimit (Err stop) tells = ap (λ (s : Stop). is_disk_fault {T = Report} (Err s)) tells
refusal_disk_is name spec fault.FileLimit (Err stop) tells = ap (λ (s : Stop). is_disk_fault {T = Report} (Err s)) tells

pub refusal_disk : (name : List ℕ) (spec : Spec) (f : RefreshFault) (result : Result Report Stop) (a c b d : ℕ) → TellsRefusal name spec f result → IsCountedPair (refresh_disk_fault {T = NetChange} (Err f)) a c b d → IsCountedPair (is_disk_fault result) a c b d
refusal_disk name spec f result a c b d tells cause = subst (λ (x : Bool). IsCountedPair x a c b d) (sym (refusal_disk_is name spec f result tells)) cause

module _ {D : Type 0} (content : D → Option (List ℕ)) (first first_new second second_new : D) (w w_new : Warehouse) (p p_new : Place) (ready : IsReady content first second w p) (form : IsInForm w_new) (values : HoldsValues w_new) where
  ready_kept : (first_new ≡ first) × (second_new ≡ second) → p_new ≡ p → IsReady content first_new second_new w_new p_new
  ready_kept same place_same =
      subst (λ (d : D). IsReady content d second_new w_new p_new) (sym same.0)
      (subst (λ (d : D). IsReady content first d w_new p_new) (sym same.1)
      (subst (λ (q : Place). IsReady content first second w_new q) (sym place_same) (record { form = form; values = values; live = ready.live; file = ready.file })))

  pub refusal_ready : (name : List ℕ) (spec : Spec) (f : RefreshFault) (result : Result Report Stop) → TellsRefusal name spec f result → Refuses {T = NetChange} (Err f) ((first_new ≡ first) × (second_new ≡ second)) → Refuses {T = NetChange} (Err f) (p_new ≡ p)
      → OnOk result (IsReady content first_new second_new w_new p_new)
  refusal_ready name spec fault.DiskFault result tells same place = subst (λ (r : Result Report Stop). OnOk r (IsReady content first_new second_new w_new p_new)) (sym tells) tt
  refusal_ready name spec fault.NoMemory result tells same place = subst (λ (r : Result Report Stop). OnOk r (IsReady content first_new second_new w_new p_new)) (sym tells) tt
  refusal_ready name spec (fault.Broken b) (Ok report) tells same place = ready_kept same place
  refusal_ready name spec (fault.RowLimit k) (Ok report) tells same place = ready_kept same place
  refusal_ready name spec fault.SequenceLimit (Ok report) tells same place = ready_kept same place
  refusal_ready name spec fault.FileLimit (Ok report) tells same place = ready_kept same place
  refusal_ready name spec f (Err stop) tells same place = tt

-- ---- a file that is told of

module _ {D : Type 0} (content : D → Option (List ℕ)) (images : D → List ℕ → Type 0) (moment : D → ℕ) (images_since : D → ℕ → List ℕ → Type 0) (first first_new second second_new : D) (w : Warehouse) (p : Place) where
  abbrev Told : List ℕ → Active → Result (List Line) Rejection → Option (List ℕ) → Option (List ℕ) → Result Status Stop → Type 0
  Told name active judged before after finish = TakesFile content images moment images_since name active judged first first_new second second_new w p before after finish

  abbrev TookIt : List ℕ → Active → Result (List Line) Rejection → Result Report Stop → Type 0
  TookIt name active judged finish = Takes content images moment images_since name active judged first first_new second second_new w p finish

  pub tells_file : (name : List ℕ) (active : Active) (judged : Result (List Line) Rejection) (report : Report) (before after : Option (List ℕ)) (finish : Result Status Stop) → TookIt name active judged (Ok report) → TellsReport report before after finish → Told name active judged before after finish
  tells_file name active judged report before after (Ok found) took told = record {
    ends = (told.0 ∙ took.ends.0, told.1 ∙ ap (gained before) took.ends.1, took.ends.2);
    moves = took.moves;
    bytes = took.bytes;
  }
  tells_file name active judged report before after (Err WriteFault) took told = record {
    ends = (subst (λ (l : List ℕ). GainsPrefix before after l) took.ends.1 told, took.ends.2);
    moves = took.moves;
    bytes = tt;
  }
  tells_file name active judged report before after (Err other) took told = absurd told

  pub stops_file : (name : List ℕ) (active : Active) (judged : Result (List Line) Rejection) (stop : Stop) (before : Option (List ℕ)) → TookIt name active judged (Err stop) → Told name active judged before before (Err stop)
  stops_file name active judged (ReadFault file) before took = record { ends = (took.ends.0, refl, took.ends.1); moves = took.moves; bytes = tt }
  stops_file name active judged NoMemory before took = record { ends = (refl, took.ends); moves = took.moves; bytes = tt }
  stops_file name active judged DiskFault before took = record { ends = (refl, took.ends); moves = took.moves; bytes = tt }
  stops_file name active judged other before took = absurd took.ends

-- after a change that was made
pub ready_made : {D : Type 0} (content : D → Option (List ℕ)) (first_new second_new : D) (which : Which) (w_new : Warehouse) (p_new : Place) → IsInForm w_new → HoldsValues w_new → p_new.which ≡ which → p_new.live ≡ true
    → ForSome (content (active_of which first_new second_new)) (λ (file : List ℕ). IsJournalOf file p_new.journal) → IsReady content first_new second_new w_new p_new
ready_made content first_new second_new which w_new p_new form values which_is live journal = record {
  form = form;
  values = values;
  live = live;
  file = subst (λ (x : Which). ForSome (content (active_of x first_new second_new)) (λ (file : List ℕ). IsJournalOf file p_new.journal)) (sym which_is) journal;
}

-- ---- a file that was read

module _ {D : Type 0} (content : D → Option (List ℕ)) (images : D → List ℕ → Type 0) (moment : D → ℕ) (images_since : D → ℕ → List ℕ → Type 0) (first second : D) (w : Warehouse) (p : Place) (name : List ℕ) (held : Held) (active : Active)
    (stood : StandsAt content images first second active w p) where
  spec_read : (wanted : Result (List Line) Rejection) → lines_in w.plan.spec (held name) ≡ wanted → accepted held active name ≡ accepted_lines active.image wanted
  spec_read wanted is =
      let same : w.plan.spec ≡ active.image.spec = stood.matches.warehouse.spec in
      ap (accepted_lines active.image) (subst (λ (s : Spec). lines_in s (held name) ≡ wanted) same is)

  pub takes_lines : (first_new second_new : D) (w_new : Warehouse) (p_new : Place) (change : List csv.Line) (reading : Reading) (finish : Result Report Stop) → reading ≡ Lines change → IsReading name (lines_in w.plan.spec (held name)) reading
      → Takes content images moment images_since name active (accepted_lines active.image (Ok (map as_line change))) first first_new second second_new w_new p_new finish
      → Takes content images moment images_since name active (accepted held active name) first first_new second second_new w_new p_new finish
  takes_lines first_new second_new w_new p_new change reading finish is found took =
      let read = subst (λ (r : Reading). IsReading name (lines_in w.plan.spec (held name)) r) is found in
      subst (λ (r : Result (List Line) Rejection). Takes content images moment images_since name active r first first_new second second_new w_new p_new finish) (sym (spec_read (Ok (map as_line change)) read)) took

  module _ (only_now : OnlyNow content images moment images_since) where
    pub takes_turned : (report : Report) (reading : Reading) → reading ≡ Rejected report → IsReading name (lines_in w.plan.spec (held name)) reading → Takes content images moment images_since name active (accepted held active name) first first second second w p (Ok report)
    takes_turned report reading is found =
        let read = subst (λ (r : Reading). IsReading name (lines_in w.plan.spec (held name)) r) is found in
        subst (λ (r : Result (List Line) Rejection). Takes content images moment images_since name active r first first second second w p (Ok report)) (sym (spec_read (Err read.0) read.1))
        (takes_rejection content images moment images_since first first second second w p only_now active stood refl refl w p (λ i of. of) refl name read.0 report read.2)

    pub takes_stop : (stop : Stop) → IsLastStop {T = Reading} name (Err stop) → Takes content images moment images_since name active (accepted held active name) first first second second w p (Err stop)
    takes_stop (ReadFault file) is = takes_unread content images moment images_since first first second second w p only_now active stood refl refl w p (λ i of. of) refl name (accepted held active name) file is
    takes_stop NoMemory is = takes_none content images moment images_since first first second second w p only_now active stood refl refl w p (λ i of. of) refl name (accepted held active name)
    takes_stop other is = absurd is
