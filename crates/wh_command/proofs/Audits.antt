-- An audit, step by step: the store, the relation's name, the file.
use Rattle.std.proofs.Common.{◌≡◌, ℕ, false, List, Option, None, Some, IfSome, Result, Ok, Err, sym, ◌∙◌, ap, subst}
use Rattle.std.specs.Option.{option_map}
use Rattle.wh_base.specs.declared.value.Attr.{Attr}
use Rattle.wh_io.specs.Files.{Held}
use Rattle.wh_report.specs.Audit.{audit_text}
use Rattle.wh_schema.specs.declared.spec.Relation.{Relation}
use Rattle.wh_schema.specs.declared.spec.Spec.{Spec}
use Rattle.wh_schema.specs.Warehouse.{Row, relation_at}
use Rattle.wh_store.specs.declared.warehouse.Warehouse.{Warehouse}
use Rattle.wh_store.specs.Image.{Image, Holding, holding}
use Rattle.wh_store.specs.Warehouse.{IsWarehouseOf}
use Rattle.wh_command.specs.declared.status.Status.{Status}
use Rattle.wh_command.specs.declared.stop.Stop.{Stop}
use Rattle.wh_command.specs.Ask.{EndsAsk, IsNeeded, TellsText, asking, relation_named}
use Rattle.wh_command.specs.Disks.{BothRest}
use Rattle.wh_command.specs.Inputs.{and_then, file_of, dump_in}
use Rattle.wh_command.specs.Report.{IsReadByAudit, IsRelationName, audited, audited_at, audited_in}
use Rattle.wh_command.specs.Steps.{NamesRead, Settles, is_write_fault}
use Rattle.wh_command.proofs.Asks.{asks_stop, asks_tell, both_map, opened_asked, over_rest}
use Rattle.wh_command.proofs.ReadNames.{names_map, names_stop}
use Rattle.wh_command.proofs.Stores.{Stays, CountsNow}

-- ---- the file

module _ (file : List ℕ) (image : Image) (w : Warehouse) (of : IsWarehouseOf image w) (place : ℕ) (relation : Relation) (relation_is : relation ≡ relation_at w.plan.spec place) where
  abbrev read_as : Held → List Attr → Result (List Row) Stop
  read_as h attrs = and_then (file_of (h file) file) (dump_in file attrs)

  attrs_are : relation.attrs ≡ (relation_at image.spec place).attrs
  attrs_are = ap (λ (r : Relation). r.attrs) relation_is ∙ ap (λ (s : Spec). (relation_at s place).attrs) of.spec

  pub read_audits : (told : Option Held) (rows : List Row) (result : Result (List ℕ) Stop) → Settles (option_map (λ (h : Held). read_as h relation.attrs) told) (Ok rows) → Settles (Some (Ok (audit_text image place rows))) result
      → Settles (option_map (λ (h : Held). audited_at h file image place) told) result
  read_audits None rows result read answers = tt
  read_audits (Some h) rows result read answers =
      let here : read_as h (relation_at image.spec place).attrs ≡ Ok rows = sym (ap (read_as h) attrs_are) ∙ read in
      subst (λ (o : Result (List Row) Stop). Settles (Some (and_then o (λ (found : List Row). Ok (audit_text image place found)))) result) (sym here) answers

module _ (word file : List ℕ) where
  -- ---- the relation's name

  module _ (image : Image) (w : Warehouse) (of : IsWarehouseOf image w) where
    name_is : relation_named image.spec word ≡ relation_named w.plan.spec word
    name_is = ap (λ (s : Spec). relation_named s word) (sym of.spec)

    pub named_audits : (told : Option Held) (place : ℕ) (result : Result (List ℕ) Stop) → relation_named w.plan.spec word ≡ Ok place → Settles (option_map (λ (h : Held). audited_at h file image place) told) result
        → Settles (option_map (λ (h : Held). audited_in h word file image) told) result
    named_audits None place result named answers = tt
    named_audits (Some h) place result named answers = subst (λ (o : Result ℕ Stop). Settles (Some (and_then o (audited_at h file image))) result) (sym (name_is ∙ named)) answers

  abbrev ReadNamed : Spec → List ℕ → Type 0
  ReadNamed spec read = (read ≡ file) × IsRelationName spec word

  pub named_reads : (spec : Spec) (place : ℕ) (result : Result (List ℕ) Stop) → relation_named spec word ≡ Ok place → NamesRead (λ (read : List ℕ). read ≡ file) result → NamesRead (λ (read : List ℕ). ReadNamed spec read) result
  named_reads spec place result named names = names_map (λ (read : List ℕ). read ≡ file) (λ (read : List ℕ). ReadNamed spec read) (λ read is. (is, (place, named))) result names

  -- ---- the store

  abbrev Audits : Option Held → Holding → Result (List ℕ) Stop → Type 0
  Audits told found result = Settles (option_map (λ (h : Held). audited h word file found) told) result

  opened_audit : (told : Option Held) (found : Holding) (w : Warehouse) (result : Result (List ℕ) Stop) → ((image : Image) → IsWarehouseOf image w → Settles (option_map (λ (h : Held). audited_in h word file image) told) result)
      → IsNeeded found (Ok w) → Audits told found result
  opened_audit None found w result answers needed = tt
  opened_audit (Some h) found w result answers needed = opened_asked found (audited_in h word file) w result needed answers

  opened_read : (found : Holding) (w : Warehouse) (result : Result (List ℕ) Stop) → NamesRead (λ (read : List ℕ). ReadNamed w.plan.spec read) result → IsNeeded found (Ok w) → NamesRead (IsReadByAudit word file found) result
  opened_read found w result names needed =
      names_map (λ (read : List ℕ). ReadNamed w.plan.spec read) (IsReadByAudit word file found)
      (λ read is. (is.0, (needed.0, needed.1, subst (λ (s : Spec). IsRelationName s word) needed.2.spec is.1))) result names

  module _ (first second : Option (List ℕ)) where
    abbrev Both : (Holding → Type 0) → Type 0
    Both P = IfSome first (λ (a : List ℕ). IfSome second (λ (b : List ℕ). P (holding a b)))

    both_step : (P Q : Holding → Type 0) → ((found : Holding) → P found → Q found) → Both P → Both Q
    both_step P Q step given = both_map first second (λ a b. P (holding a b)) (λ a b. Q (holding a b)) (λ a b. step (holding a b)) given

    pub opened_audits : (told : Option Held) (w : Warehouse) (result : Result (List ℕ) Stop) → Both (λ (found : Holding). IsNeeded found (Ok w)) → ((image : Image) → IsWarehouseOf image w → Settles (option_map (λ (h : Held). audited_in h word file image) told) result)
        → Both (λ (found : Holding). Audits told found result)
    opened_audits told w result needed answers = both_step (λ found. IsNeeded found (Ok w)) (λ found. Audits told found result) (λ found n. opened_audit told found w result answers n) needed

    pub opened_reads : (w : Warehouse) (result : Result (List ℕ) Stop) → Both (λ (found : Holding). IsNeeded found (Ok w)) → NamesRead (λ (read : List ℕ). ReadNamed w.plan.spec read) result → Both (λ (found : Holding). NamesRead (IsReadByAudit word file found) result)
    opened_reads w result needed names = both_step (λ found. IsNeeded found (Ok w)) (λ found. NamesRead (IsReadByAudit word file found) result) (λ found n. opened_read found w result names n) needed

-- ---- how it ends

-- the file that a stop names
pub stop_reads : {D : Type 0} (content : D → Option (List ℕ)) (images : D → List ℕ → Type 0) (first second : D) (word file : List ℕ) (stop : Stop) → IfSome (content first) (λ (a : List ℕ). IfSome (content second) (λ (b : List ℕ). NamesRead {T = List ℕ} (IsReadByAudit word file (holding a b)) (Err stop)))
    → (start : Holding) → BothRest content images first second start → NamesRead {T = Status} (IsReadByAudit word file start) (Err stop)
stop_reads content images first second word file stop names start rest =
    names_stop (List ℕ) Status (IsReadByAudit word file start) stop (over_rest content images first second start rest (λ (found : Holding). NamesRead {T = List ℕ} (IsReadByAudit word file found) (Err stop)) names)

-- where what is asked hangs on the held files too
module _ {D : Type 0} (content : D → Option (List ℕ)) (images : D → List ℕ → Type 0) (moment : D → ℕ) (images_since : D → ℕ → List ℕ → Type 0) (first_old first_new second_old second_new : D) (asked : Held → Holding → Result (List ℕ) Stop)
    (first_same : content first_new ≡ content first_old) (second_same : content second_new ≡ content second_old) (first_stays : Stays content images moment images_since first_old first_new) (second_stays : Stays content images moment images_since second_old second_new)
    (first_counts : CountsNow content images moment images_since first_new) (second_counts : CountsNow content images moment images_since second_new) where
  abbrev Ask : Option Held → Option (List ℕ) → Option (List ℕ) → Result Status Stop → Type 0
  Ask told before after finish =
      IfSome told (λ (h : Held). (start : Holding) → BothRest content images first_old second_old start → EndsAsk content images moment images_since (asking start (asked h start)) first_old first_new second_old second_new before after finish)

  abbrev Asked : Option Held → Result (List ℕ) Stop → Type 0
  Asked told result = IfSome (content first_old) (λ (a : List ℕ). IfSome (content second_old) (λ (b : List ℕ). Settles (option_map (λ (h : Held). asked h (holding a b)) told) result))

  pub held_asks_stop : (told : Option Held) (before : Option (List ℕ)) (stop : Stop) → is_write_fault {T = Unit {0}} (Err stop) ≡ false → Asked told (Err stop) → Ask told before before (Err stop)
  held_asks_stop None before stop write answers = tt
  held_asks_stop (Some h) before stop write answers = asks_stop content images moment images_since first_old first_new second_old second_new (asked h) first_same second_same first_stays second_stays first_counts second_counts before stop write answers

  pub held_asks_tell : (told : Option Held) (before after : Option (List ℕ)) (text : List ℕ) (finish : Result Status Stop) → Asked told (Ok text) → TellsText text before after finish → Ask told before after finish
  held_asks_tell None before after text finish answers tells = tt
  held_asks_tell (Some h) before after text finish answers tells =
      asks_tell content images moment images_since first_old first_new second_old second_new (asked h) first_same second_same first_stays second_stays first_counts second_counts before after text finish answers tells
