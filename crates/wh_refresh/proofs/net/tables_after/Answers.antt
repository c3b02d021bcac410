use Rattle.std.proofs.Common.{◌≡◌, List, Option, None, Result, Ok, Err, subst}
use Rattle.std.specs.Prelude.{IfOk, IfErr, OnOk}
use Rattle.wh_load.specs.declared.fault.LoadFault.{LoadFault}
use Rattle.wh_load.specs.Load.{IsLoadFault, first_over}
use Rattle.wh_check.specs.Check.{sources_with}
use Rattle.wh_schema.specs.declared.broken.Broken.{Broken}
use Rattle.wh_schema.specs.declared.spec.Spec.{Spec}
use Rattle.wh_schema.specs.Constraints.{broken}
use Rattle.wh_schema.specs.Legality.{IsState}
use Rattle.wh_schema.specs.Warehouse.{Row, SameState, State, stored}
use Rattle.wh_store.proofs.TextualLemmas.{textual_is_numbered, textual_is_well_formed}
use Rattle.wh_laws.proofs.Same.{stored_same}
use Rattle.wh_refresh.specs.Net.{own_image}
use Rattle.wh_refresh.proofs.Given.{broken_goes_by_sets}
use Rattle.wh_refresh.proofs.Nets.{fault_same, same_is_state}
use Rattle.wh_refresh.proofs.OwnImage.{own_is}
use Rattle.wh_refresh.proofs.net.tables_after.Goals as goal

on_fault : {X : Type 0} (spec : Spec) (s t : State) → broken spec s ≡ broken spec t → stored spec s ≡ stored spec t → (r : Result X LoadFault) → IfErr r (IsLoadFault spec s) → IfErr r (IsLoadFault spec t)
on_fault spec s t b st (Ok x) h = tt
on_fault spec s t b st (Err e) h = fault_same spec s t b st e h

pub load_rows-requires-clause-numbered : goal.load_rows-requires-clause-numbered
load_rows-requires-clause-numbered g c = textual_is_numbered c.args.w.now.plan.spec c.requires.form.textual

pub load_rows-requires-clause-rules : goal.load_rows-requires-clause-rules
load_rows-requires-clause-rules g c = textual_is_well_formed c.args.w.now.plan.spec c.requires.form.textual

pub returns-clause-tables : goal.returns-clause-tables
returns-clause-tables g c =
    let w = c.args.w.now in
    let s = c.in_ok-sources.sources in
    let t = sources_with (own_image w) c.args.d.now in
    let same : SameState w.plan.spec s t = c.in_ok-sources.ensures.rows (own_image w) (own_is w c.requires.form) in
    let state : IsState w.plan.spec s = same_is_state w.plan.spec s t c.in_ok-sources.ensures.count same c.requires.state in
    subst (λ (st : List (List Row)). IfOk c.load_rows.result (λ tables. tables ≡ st)) (stored_same w.plan.spec (textual_is_well_formed w.plan.spec c.requires.form.textual) s t state c.requires.state same) c.load_rows.ensures.ok

pub returns-clause-legal : goal.returns-clause-legal
returns-clause-legal g c =
    let w = c.args.w.now in
    let s = c.in_ok-sources.sources in
    let t = sources_with (own_image w) c.args.d.now in
    subst (λ (b : Option Broken). OnOk c.load_rows.result (b ≡ None)) (broken_goes_by_sets w.plan.spec (textual_is_well_formed w.plan.spec c.requires.form.textual) s t (c.in_ok-sources.ensures.rows (own_image w) (own_is w c.requires.form))) c.load_rows.ensures.legal

pub returns-clause-under : goal.returns-clause-under
returns-clause-under g c =
    let w = c.args.w.now in
    let s = c.in_ok-sources.sources in
    let t = sources_with (own_image w) c.args.d.now in
    let same : SameState w.plan.spec s t = c.in_ok-sources.ensures.rows (own_image w) (own_is w c.requires.form) in
    let state : IsState w.plan.spec s = same_is_state w.plan.spec s t c.in_ok-sources.ensures.count same c.requires.state in
    subst (λ (st : List (List Row)). OnOk c.load_rows.result (first_over st ≡ None)) (stored_same w.plan.spec (textual_is_well_formed w.plan.spec c.requires.form.textual) s t state c.requires.state same) c.load_rows.ensures.small

pub returns-clause-fault : goal.returns-clause-fault
returns-clause-fault g c =
    let w = c.args.w.now in
    let wf = textual_is_well_formed w.plan.spec c.requires.form.textual in
    let s = c.in_ok-sources.sources in
    let t = sources_with (own_image w) c.args.d.now in
    let same : SameState w.plan.spec s t = c.in_ok-sources.ensures.rows (own_image w) (own_is w c.requires.form) in
    let state : IsState w.plan.spec s = same_is_state w.plan.spec s t c.in_ok-sources.ensures.count same c.requires.state in
    on_fault w.plan.spec s t (broken_goes_by_sets w.plan.spec wf s t same) (stored_same w.plan.spec wf s t state c.requires.state same) c.load_rows.result c.load_rows.ensures.fault
