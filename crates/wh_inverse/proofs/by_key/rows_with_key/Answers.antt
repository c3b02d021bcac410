use Rattle.std.proofs.Common.{◌≡◌, [], length, get_or, ap, subst, ◌∙◌, refl}
use Rattle.wh_base.specs.Columns.{names_of, shared, cut}
use Rattle.wh_base.specs.Tables.{Table}
use Rattle.wh_eval.specs.Relation.{table_of}
use Rattle.wh_expr.specs.Narrowed.{narrowed}
use Rattle.wh_expr.specs.SameTable.{SameTable}
use Rattle.wh_schema.specs.declared.spec.Relation.{Relation}
use Rattle.wh_schema.specs.Reconstruction.{reconstructed}
use Rattle.wh_schema.specs.Warehouse.{columns_of, key_of}
use Rattle.wh_inverse.specs.Asked.{key_columns}
use Rattle.wh_inverse.specs.Inverse.{stored_below}
use Rattle.wh_inverse.proofs.BelowLemmas.{back-relation}
use Rattle.wh_inverse.proofs.FoundLemmas.{asked-by-key, length-cut}
use Rattle.wh_inverse.proofs.GivenLemmas.{key-found}
use Rattle.wh_inverse.proofs.by_key.rows_with_key.Goals as goal

pub found_at-requires-clause-asked : goal.found_at-requires-clause-asked
found_at-requires-clause-asked g c =
    let s = c.args.inverse.now in
    let spec = s.plan.now.spec in
    let rel = c.args.rel in
    let key : c.as_slice.result.now ≡ key_of spec rel = c.as_slice.ensures ∙ ap (λ (r : Relation). r.key) c.relation_at-relation.ensures in
    let columns : c.as_slice-2.result.now ≡ columns_of spec rel = c.as_slice-2.ensures ∙ c.in_ok-columns.ensures ∙ ap (λ (r : Relation). names_of r.attrs) c.relation_at-relation.ensures in
    let asked : c.in_ok-asked.asked ≡ key_columns spec rel = c.in_ok-asked.ensures ∙ (λ i. shared (key i) (columns i)) in
    let one : length c.in_ok-vals.vals ≡ length c.in_ok-asked.asked = ap length c.in_ok-vals.ensures ∙ length-cut c.as_slice-3.result.now c.as_slice-4.result.now c.args.key.now ∙ ap length c.as_slice-4.ensures in
    asked-by-key spec (g.B.Base.heads_of s.below.now) (g.B.Base.has_number s.below.now) s.over rel c.requires c.in_ok-asked.asked asked c.in_ok-vals.vals one

pub returns-clause-rows : goal.returns-clause-rows
returns-clause-rows g c =
    let s = c.args.inverse.now in
    let spec = s.plan.now.spec in
    let rel = c.args.rel in
    let below = g.B.Base.rows_at s.below.now in
    let own : c.relation_at-relation.result.now.key ≡ key_of spec rel = ap (λ (r : Relation). r.key) c.relation_at-relation.ensures in
    let key : c.as_slice.result.now ≡ key_of spec rel = c.as_slice.ensures ∙ own in
    let columns : c.as_slice-2.result.now ≡ columns_of spec rel = c.as_slice-2.ensures ∙ c.in_ok-columns.ensures ∙ ap (λ (r : Relation). names_of r.attrs) c.relation_at-relation.ensures in
    let asked : c.in_ok-asked.asked ≡ key_columns spec rel = c.in_ok-asked.ensures ∙ (λ i. shared (key i) (columns i)) in
    let vals : c.in_ok-vals.vals ≡ cut (key_of spec rel) (key_columns spec rel) c.args.key.now =
    c.in_ok-vals.ensures ∙ (λ i. cut ((c.as_slice-3.ensures ∙ own) i) ((c.as_slice-4.ensures ∙ asked) i) c.args.key.now) in
    let t : Table = record { columns = columns_of spec rel; rows = get_or (reconstructed spec (stored_below spec below)) rel [] } in
    let found : Table = table_of c.in_ok-found.found in
    let same : SameTable found (narrowed (key_columns spec rel) (cut (key_of spec rel) (key_columns spec rel) c.args.key.now) t) =
    subst (SameTable found) (λ i. narrowed (asked i) (vals i) (back-relation spec below rel i)) c.in_ok-found.ensures.rows.same in
    key-found (columns_of spec rel) (key_of spec rel) c.args.key.now t refl found (table_of c.in_ok-narrow.field-0) same (c.in_ok-narrow.ensures ∙ ap (λ names. narrowed names c.args.key.now found) own)
