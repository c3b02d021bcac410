use Rattle.std.proofs.Common.{◌≡◌, true, ◌&&◌, nat_eq, [], length, get_or, IfSome, Some, None, subst, sym, ◌∙◌, rules}
use Rattle.wh_base.specs.RowSet.{has}
use Rattle.wh_base.specs.Tables.{matching}
use Rattle.wh_eval.specs.Stored.{is_stored, stored_rows}
use Rattle.wh_expr.specs.Typing.{are_distinct}
use Rattle.wh_plan.specs.Plan.{relation_covers}
use Rattle.wh_schema.specs.declared.spec.Relation.{Relation}
use Rattle.wh_schema.specs.Reconstruction.{reconstructed}
use Rattle.wh_schema.specs.Warehouse.{columns_of, key_of}
use Rattle.wh_inverse.specs.ByKey.{is_plain_key}
use Rattle.wh_inverse.specs.Inverse.{stored_below}
use Rattle.wh_inverse.proofs.FirstByKey.{empty_from, uncovered_none}
use Rattle.wh_inverse.proofs.GivenLemmas.{one-found, row-with-key}
use Rattle.wh_inverse.proofs.by_key.Inverse+Stored.by_key.Goals as goal

pub returns-in-Some-clause-legal : goal.returns-in-Some-clause-legal
returns-in-Some-clause-legal g c = λ s legal same.
    let i = c.args.self.now in
    let spec = i.plan.now.spec in
    let rel = c.args.rel in
    let below = stored_rows i.below.now.heads.now i.below.now.tables.now in
    let meant = matching (columns_of spec rel) (key_of spec rel) c.args.key.now (get_or (reconstructed spec (stored_below spec below)) rel []) in
    row-with-key spec s below legal same rel c.requires.relation c.args.key.now (Some c.in-Some.row)
    (subst (λ o. IfSome o (λ x. has meant x ≡ true)) c.in-Some.is c.in_ok-first.ensures.row)

pub returns-clause-row : goal.returns-clause-row
returns-clause-row g c =
    let i = c.args.self.now in
    let spec = i.plan.now.spec in
    let rel = c.args.rel in
    let below = stored_rows i.below.now.heads.now i.below.now.tables.now in
    one-found c.in_ok-rows.rows (matching (columns_of spec rel) (key_of spec rel) c.args.key.now (get_or (reconstructed spec (stored_below spec below)) rel [])) c.first_of.result c.in_ok-rows.ensures.rows c.first_of.ensures

pub returns-clause-legal : goal.returns-clause-legal
returns-clause-legal g c = λ s legal same.
    let i = c.args.self.now in
    let spec = i.plan.now.spec in
    let rel = c.args.rel in
    let below = stored_rows i.below.now.heads.now i.below.now.tables.now in
    row-with-key spec s below legal same rel c.requires.relation c.args.key.now c.first_of.result
    (one-found c.in_ok-rows.rows (matching (columns_of spec rel) (key_of spec rel) c.args.key.now (get_or (reconstructed spec (stored_below spec below)) rel [])) c.first_of.result c.in_ok-rows.ensures.rows c.first_of.ensures)

pub returns-then-is_empty-clause-row : goal.returns-then-is_empty-clause-row
returns-then-is_empty-clause-row g c =
    let i = c.args.self.now in
    let b = i.below.now in
    let spec = i.plan.now.spec in
    let plain : is_plain_key spec c.args.rel c.args.key.now ≡ true =
    subst (λ (r : Relation). (nat_eq (length c.args.key.now) (length r.key) && are_distinct r.key) ≡ true) c.relation_at-relation.ensures (sym c.is_plain.ensures ∙ c.if-is_plain.true) in
    let missed : c.in_ok-first.first ≡ None = search rules in
    let bare : relation_covers spec c.args.rel ≡ [] = sym c.covers_of.ensures ∙ empty_from c.covers_of.result.now (sym c.is_empty.ensures ∙ c.if-is_empty.true) in
    let none = uncovered_none spec b.heads.now (is_stored b.heads.now b.tables.now) i.over c.args.rel c.requires.relation (stored_rows b.heads.now b.tables.now) c.args.key.now bare (c.in_ok-first.ensures.missed plain missed) in
    none

pub returns-then-is_empty-clause-legal : goal.returns-then-is_empty-clause-legal
returns-then-is_empty-clause-legal g c = λ s legal same.
    let i = c.args.self.now in
    let b = i.below.now in
    let spec = i.plan.now.spec in
    let plain : is_plain_key spec c.args.rel c.args.key.now ≡ true =
    subst (λ (r : Relation). (nat_eq (length c.args.key.now) (length r.key) && are_distinct r.key) ≡ true) c.relation_at-relation.ensures (sym c.is_plain.ensures ∙ c.if-is_plain.true) in
    let missed : c.in_ok-first.first ≡ None = search rules in
    let bare : relation_covers spec c.args.rel ≡ [] = sym c.covers_of.ensures ∙ empty_from c.covers_of.result.now (sym c.is_empty.ensures ∙ c.if-is_empty.true) in
    let none = uncovered_none spec b.heads.now (is_stored b.heads.now b.tables.now) i.over c.args.rel c.requires.relation (stored_rows b.heads.now b.tables.now) c.args.key.now bare (c.in_ok-first.ensures.missed plain missed) in
    row-with-key spec s (stored_rows b.heads.now b.tables.now) legal same c.args.rel c.requires.relation c.args.key.now None none
