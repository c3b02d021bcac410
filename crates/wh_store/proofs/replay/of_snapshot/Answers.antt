use Rattle.std.proofs.Common.{rules, ◌≡◌, ◌∙◌, ℕ, List, true, not, Option, IfSome, Some, sym, ap, subst}
use Rattle.std.specs.Option.{is_some, option_map}
use Rattle.std.proofs.lemmas.Bool.{and_parts}
use Rattle.wh_base.specs.declared.head.Head.{Head}
use Rattle.wh_base.specs.declared.value.Value.{Value}
use Rattle.wh_plan.specs.declared.plan.Plan.{Plan}
use Rattle.wh_plan.specs.Plan.{IsPlan}
use Rattle.wh_schema.specs.declared.spec.Spec.{Spec}
use Rattle.wh_spec_text.specs.Textual.{IsTextualSpec}
use Rattle.wh_store.specs.Image.{Image, are_stored_tables, first_over, fit_stored, printed_spec}
use Rattle.wh_store.specs.Opening.{AreTablesOf}
use Rattle.wh_store.proofs.HeldTables.{ordered_is, sound_from}
use Rattle.wh_store.proofs.OpenLemmas.{all_ascend, snapshot_good}
use Rattle.wh_store.proofs.SoundFiles.{none_is}
use Rattle.wh_store.proofs.SpelledTables.{tables_spelled}
use Rattle.wh_store.proofs.replay.of_snapshot.Goals as goal

pub returns-clause-sound : goal.returns-clause-sound
returns-clause-sound c =
    let spec = c.in-Some.plan.spec in
    let tables = c.args.tables in
    let told : c.are_stored_tables.result ≡ true = search rules in
    let good : are_stored_tables spec tables ≡ true = sym (ap (are_stored_tables spec) c.as_slice-3.ensures) ∙ sym c.are_stored_tables.ensures ∙ told in
    let parts = and_parts (fit_stored spec tables) (not (is_some (first_over tables))) good in
    let up = all_ascend tables c.requires.tables in
    let made : AreTablesOf c.in-Some.plan c.in_ok-stored.stored tables c.in_ok-tables.tables = subst (λ (hs : List Head). AreTablesOf c.in-Some.plan hs tables c.in_ok-tables.tables) c.as_slice-4.ensures c.in_ok-tables.ensures in
    record {
      plan = subst (λ (o : Option Plan). IfSome o IsPlan) c.in-Some.is c.in_ok-plan.ensures.plan;
      textual = subst (λ (o : Option Plan). IfSome o (λ (p : Plan). IsTextualSpec p.spec)) c.in-Some.is c.in_ok-plan.ensures.textual;
      stored = c.in_ok-stored.ensures;
      tables = sound_from c.in-Some.plan c.in_ok-stored.stored tables c.in_ok-tables.tables made (ordered_is c.in-Some.plan c.in_ok-stored.stored tables c.in_ok-tables.tables made up) parts.0 (tables_spelled tables c.requires.tables) (none_is (first_over tables) parts.1);
    }

pub returns-clause-image : goal.returns-clause-image
returns-clause-image c =
    let spec = c.in-Some.plan.spec in
    let tables = c.args.tables in
    let end = c.args.journal.end in
    let told : c.are_stored_tables.result ≡ true = search rules in
    let good : are_stored_tables spec tables ≡ true = sym (ap (are_stored_tables spec) c.as_slice-3.ensures) ∙ sym c.are_stored_tables.ensures ∙ told in
    let made : AreTablesOf c.in-Some.plan c.in_ok-stored.stored tables c.in_ok-tables.tables = subst (λ (hs : List Head). AreTablesOf c.in-Some.plan hs tables c.in_ok-tables.tables) c.as_slice-4.ensures c.in_ok-tables.ensures in
    let is = ordered_is c.in-Some.plan c.in_ok-stored.stored tables c.in_ok-tables.tables made (all_ascend tables c.requires.tables) in
    let printed : Some spec ≡ printed_spec c.args.text.now = sym (ap (option_map (λ (p : Plan). p.spec)) c.in-Some.is) ∙ c.in_ok-plan.ensures.spec ∙ ap printed_spec c.as_slice.ensures in
    ap (λ (t : List (List (List Value))). Some (image_with c.args.generation c.args.seq end spec t)) is
    ∙ snapshot_good c.args.generation c.args.seq end c.args.text.now tables spec printed good
  where
    image_with : ℕ → ℕ → ℕ → Spec → List (List (List Value)) → Image
    image_with generation seq end spec tables = record { generation = generation; seq = seq; spec = spec; tables = tables; end = end }
