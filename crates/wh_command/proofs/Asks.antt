-- Commands that print one text about a store, which stays as it is.
use Rattle.std.proofs.Common.{◌≡◌, ℕ, ◌<◌, false, true, true≢false, List, [], ◌++◌, length, get_or, append-nil, Option, None, Some, IfSome, Result, Ok, Err, refl, sym, ◌∙◌, ap, subst, arith}
use Rattle.std.proofs.lemmas.List.{get_or-map}
use Rattle.wh_base.specs.RowSet.{SameRows}
use Rattle.wh_io.specs.Sink.{gained, GainsPrefix}
use Rattle.wh_io.proofs.Gained.{gained_nothing}
use Rattle.wh_query_text.specs.declared.parsing.Query.{Query}
use Rattle.wh_schema.specs.declared.spec.Spec.{Spec}
use Rattle.wh_schema.specs.Warehouse.{Row}
use Rattle.wh_store.specs.declared.warehouse.Warehouse.{Warehouse}
use Rattle.wh_store.specs.Image.{Image, Holding, holding, stored_count}
use Rattle.wh_store.specs.Warehouse.{IsWarehouseOf, no_table}
use Rattle.wh_table.specs.Table.{IndexedRows}
use Rattle.wh_answer.specs.Answer.{SameStored, answer_text, rows_of}
use Rattle.wh_command.specs.declared.status.Status.{Status}
use Rattle.wh_command.specs.declared.stop.Stop.{Stop}
use Rattle.wh_command.specs.declared.stop.Stop.TheVariants.{ReadFault, WriteFault, DiskFault, NoMemory}
use Rattle.wh_command.specs.Ask.{EndsAsk, IsNeeded, TellsText, answer_in, asking, one_text, opened}
use Rattle.wh_command.specs.Disks.{BothRest, BothLeave}
use Rattle.wh_command.specs.Ends.{Ends, EndsWhole}
use Rattle.wh_command.specs.Inputs.{and_then}
use Rattle.wh_command.specs.Outcome.{state_after}
use Rattle.wh_command.specs.Steps.{Settles, is_write_fault}
use Rattle.wh_command.proofs.Loads.{told_two}
use Rattle.wh_command.proofs.Starts.{stays_start}
use Rattle.wh_command.proofs.Stores.{Stays, CountsNow, rest_still, leave_still, crash_still}

-- ---- the rows

-- a warehouse has the rows of its image
same_stored : (image : Image) (w : Warehouse) → IsWarehouseOf image w → SameStored w.plan.spec (rows_of w.tables) image.tables
same_stored image w of k l =
    let within : k < length w.tables = omega (arith, l, of.form.count) in
    let P : List Row → Type 0 = λ rows. SameRows rows (get_or image.tables k []) in
    subst P (sym (get_or-map (λ (t : IndexedRows). t.rows) w.tables k no_table [] within)) (of.rows k (subst (λ (s : Spec). k < stored_count s) of.spec l))

pub text_is : (image : Image) (w : Warehouse) (q : Query) (begun text bytes : List ℕ) → IsWarehouseOf image w → begun ≡ [] → bytes ≡ text
    → ((rows : List (List Row)) → SameStored w.plan.spec (rows_of w.tables) rows → text ≡ begun ++ answer_text w.plan.spec rows q) → bytes ≡ answer_text image.spec image.tables q
text_is image w q begun text bytes of none is h =
    is ∙ h image.tables (same_stored image w of) ∙ ap (λ (b : List ℕ). b ++ answer_text w.plan.spec image.tables q) none ∙ ap (λ (s : Spec). answer_text s image.tables q) of.spec

pub answer_is : (ask : Spec → Result Query Stop) (image : Image) (w : Warehouse) (q : Query) (text : List ℕ) → IsWarehouseOf image w → ask w.plan.spec ≡ Ok q → text ≡ answer_text image.spec image.tables q → answer_in image (ask image.spec) ≡ Ok text
answer_is ask image w q text of asked is = ap (answer_in image) (ap ask (sym of.spec) ∙ asked) ∙ ap Ok (sym is)

-- a text that was begun as nothing
pub whole_text : (begun text bytes wanted : List ℕ) → begun ≡ [] → bytes ≡ text → text ≡ begun ++ wanted → bytes ≡ wanted
whole_text begun text bytes wanted none is h = is ∙ h ∙ ap (λ (b : List ℕ). b ++ wanted) none

-- ---- the store, and then what is asked of it

pub opened_asked : (found : Holding) (ask : Image → Result (List ℕ) Stop) (w : Warehouse) (r : Result (List ℕ) Stop) → IsNeeded found (Ok w) → ((image : Image) → IsWarehouseOf image w → Settles (Some (ask image)) r) → Settles (Some (and_then (opened found) ask)) r
opened_asked found ask w r needed h = subst (λ (o : Result Image Stop). Settles (Some (and_then o ask)) r) (sym needed.1) (h needed.0 needed.2)

-- the same over what two disks tell
pub both_map : (first second : Option (List ℕ)) (P Q : List ℕ → List ℕ → Type 0) → ((a b : List ℕ) → P a b → Q a b) → IfSome first (λ (a : List ℕ). IfSome second (λ (b : List ℕ). P a b)) → IfSome first (λ (a : List ℕ). IfSome second (λ (b : List ℕ). Q a b))
both_map None second P Q step given = tt
both_map (Some a) None P Q step given = tt
both_map (Some a) (Some b) P Q step given = step a b given

pub opened_asks : (first second : Option (List ℕ)) (ask : Image → Result (List ℕ) Stop) (w : Warehouse) (r : Result (List ℕ) Stop) → IfSome first (λ a. IfSome second (λ b. IsNeeded (holding a b) (Ok w))) → ((image : Image) → IsWarehouseOf image w → Settles (Some (ask image)) r)
    → IfSome first (λ a. IfSome second (λ b. Settles (Some (and_then (opened (holding a b)) ask)) r))
opened_asks first second ask w r needed h =
    both_map first second (λ a b. IsNeeded (holding a b) (Ok w)) (λ a b. Settles (Some (and_then (opened (holding a b)) ask)) r) (λ a b n. opened_asked (holding a b) ask w r n h) needed

-- ---- how the command ends

pub over_rest : {D : Type 0} (content : D → Option (List ℕ)) (images : D → List ℕ → Type 0) (first second : D) (start : Holding) → BothRest content images first second start
    → (P : Holding → Type 0) → IfSome (content first) (λ (a : List ℕ). IfSome (content second) (λ (b : List ℕ). P (holding a b))) → P start
over_rest content images first second start rest P h = subst P rest.is (told_two (λ (a b : List ℕ). P (holding a b)) rest.a rest.b rest.told_first rest.told_second h)

module _ {D : Type 0} (content : D → Option (List ℕ)) (images : D → List ℕ → Type 0) (moment : D → ℕ) (images_since : D → ℕ → List ℕ → Type 0) (first_old first_new second_old second_new : D) (asked : Holding → Result (List ℕ) Stop)
    (first_same : content first_new ≡ content first_old) (second_same : content second_new ≡ content second_old) (first_stays : Stays content images moment images_since first_old first_new) (second_stays : Stays content images moment images_since second_old second_new)
    (first_counts : CountsNow content images moment images_since first_new) (second_counts : CountsNow content images moment images_since second_new) where
  module _ (start : Holding) (rest : BothRest content images first_old second_old start) where
    abbrev Rest : Holding → Type 0
    Rest = BothRest content images first_new second_new

    abbrev Leave : Holding → Holding → Type 0
    Leave = BothLeave images first_new second_new

    still : Rest start
    still = rest_still content images moment images_since first_old first_new second_old second_new start rest second_same second_stays second_counts first_same first_stays first_counts

    over_state : (P : Holding → Type 0) → IfSome (content first_old) (λ a. IfSome (content second_old) (λ b. P (holding a b))) → P start
    over_state = over_rest content images first_old second_old start rest

    ask_with : (wanted : Result (List ℕ) Stop) (before after : Option (List ℕ)) (finish : Result Status Stop) → Ends (asking start wanted) Rest Leave before after finish
        → EndsAsk content images moment images_since (asking start wanted) first_old first_new second_old second_new before after finish
    ask_with wanted before after finish ends = record {
      ends = ends;
      crash =
          crash_still content images moment images_since first_old first_new second_old second_new start rest second_same second_stays second_counts first_same first_stays first_counts (asking start wanted) (stays_start start (one_text wanted));
    }

    -- a stop
    refuses : (before : Option (List ℕ)) (wanted : Result (List ℕ) Stop) (stop : Stop) → wanted ≡ Err stop → EndsWhole (asking start wanted) Rest before before (Err stop)
    refuses before wanted stop is = subst (λ (r : Result (List ℕ) Stop). EndsWhole (asking start r) Rest before before (Err stop)) (sym is) (record { finish_is = refl; printed = sym (gained_nothing before); state = still })

    stops : (before : Option (List ℕ)) (wanted : Result (List ℕ) Stop) (stop : Stop) → is_write_fault {T = Unit {0}} (Err stop) ≡ false → Settles {T = List ℕ} (Some wanted) (Err stop) → Ends (asking start wanted) Rest Leave before before (Err stop)
    stops before wanted NoMemory write h = record { k = 0; within = omega arith; printed = sym (gained_nothing before); state = subst Rest (sym (stays_start start (one_text wanted))) still }
    stops before wanted (ReadFault file) write h = record { k = 0; within = omega arith; printed = sym (gained_nothing before); state = subst Rest (sym (stays_start start (one_text wanted))) still }
    stops before wanted WriteFault write h = absurd (true≢false write)
    stops before wanted DiskFault write h = record {
      k = 0;
      within = omega arith;
      printed = sym (gained_nothing before);
      state =
          let outcome = asking start wanted in
          subst (λ (v : Holding). Leave v (state_after outcome.start outcome.pieces 1)) (sym (stays_start start (one_text wanted)))
          (leave_still content images moment images_since first_old first_new second_old second_new start rest second_same second_stays second_counts first_same first_stays first_counts (state_after outcome.start outcome.pieces 1));
    }
    stops before wanted other write h = refuses before wanted other h

    -- the text
    tells : (before after : Option (List ℕ)) (wanted : Result (List ℕ) Stop) (text : List ℕ) (finish : Result Status Stop) → wanted ≡ Ok text → TellsText text before after finish → Ends (asking start wanted) Rest Leave before after finish
    tells before after wanted text finish is told = subst (λ (r : Result (List ℕ) Stop). Ends (asking start r) Rest Leave before after finish) (sym is) (by finish told)
      where
        by : (end : Result Status Stop) → TellsText text before after end → Ends (asking start (Ok text)) Rest Leave before after end
        by (Ok answer) t = record { finish_is = ap Ok (sym t.0); printed = t.1 ∙ ap (gained before) (sym (append-nil text)); state = still }
        by (Err WriteFault) t = record { k = 0; within = omega arith; printed = subst (λ (o : Option (List ℕ)). GainsPrefix o after text) (sym (gained_nothing before)) t; state = still }
        by (Err other) t = absurd t

  pub asks_stop : (before : Option (List ℕ)) (stop : Stop) → is_write_fault {T = Unit {0}} (Err stop) ≡ false → IfSome (content first_old) (λ a. IfSome (content second_old) (λ b. Settles {T = List ℕ} (Some (asked (holding a b))) (Err stop)))
      → (start : Holding) → BothRest content images first_old second_old start → EndsAsk content images moment images_since (asking start (asked start)) first_old first_new second_old second_new before before (Err stop)
  asks_stop before stop write h start rest = ask_with start rest (asked start) before before (Err stop) (stops start rest before (asked start) stop write (over_state start rest (λ (w : Holding). Settles {T = List ℕ} (Some (asked w)) (Err stop)) h))

  pub asks_tell : (before after : Option (List ℕ)) (text : List ℕ) (finish : Result Status Stop) → IfSome (content first_old) (λ a. IfSome (content second_old) (λ b. asked (holding a b) ≡ Ok text)) → TellsText text before after finish
      → (start : Holding) → BothRest content images first_old second_old start → EndsAsk content images moment images_since (asking start (asked start)) first_old first_new second_old second_new before after finish
  asks_tell before after text finish h told start rest = ask_with start rest (asked start) before after finish (tells start rest before after (asked start) text finish (over_state start rest (λ (w : Holding). asked w ≡ Ok text) h) told)
