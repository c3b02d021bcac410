use Rattle.std.proofs.Common.{◌≡◌, true, [], get_or, length, ap, ◌∙◌, rules, arith}
use Rattle.std.proofs.lemmas.Result.{IfOk-weaker}
use Rattle.wh_base.specs.Heads.{columns_at}
use Rattle.wh_base.specs.Tables.{matching}
use Rattle.wh_eval.specs.Stored.{is_stored, stored_rows}
use Rattle.wh_expr.specs.Typing.{are_distinct}
use Rattle.wh_schema.specs.declared.spec.Relation.{Relation}
use Rattle.wh_schema.specs.Reconstruction.{reconstructed}
use Rattle.wh_schema.specs.Warehouse.{columns_of, key_of}
use Rattle.wh_inverse.specs.Inverse.{stored_below}
use Rattle.wh_inverse.proofs.BelowLemmas.{below-held}
use Rattle.wh_inverse.proofs.FirstByKey.{found_so, missed_so, key_asked, key_filled, complement_indexed, complement_gives, stored_with_key}
use Rattle.wh_inverse.proofs.by_key.first_in_complement.Goals as goal

pub first_where-requires-clause-held : goal.first_where-requires-clause-held
first_where-requires-clause-held g c =
    let s = c.args.inverse.now in
    let b = s.below.now in
    let e = c.complement_number-number.ensures in
    let within = c.requires.relation in
    below-held s.plan.now.spec b.heads.now (is_stored b.heads.now b.tables.now) s.over c.complement_number-number.result (omega (arith, e)) (omega (arith, e, within))

pub first_where-requires-clause-columns : goal.first_where-requires-clause-columns
first_where-requires-clause-columns g c =
    let s = c.args.inverse.now in
    let b = s.below.now in
    key_asked s.plan.now.spec b.heads.now (is_stored b.heads.now b.tables.now) s.over c.args.rel c.requires.relation c.complement_number-number.result c.complement_number-number.ensures
    c.relation_at-relation.result.now.key (ap (λ (r : Relation). r.key) c.relation_at-relation.ensures)

pub first_where-requires-clause-some : goal.first_where-requires-clause-some
first_where-requires-clause-some g c =
    let s = c.args.inverse.now in
    let b = s.below.now in
    let some = key_filled s.plan.now.spec b.heads.now (is_stored b.heads.now b.tables.now) s.over c.args.rel c.requires.relation in
    let same = ap (λ (r : Relation). length r.key) c.relation_at-relation.ensures in
    omega (arith, some, same)

pub first_where-requires-clause-indexed : goal.first_where-requires-clause-indexed
first_where-requires-clause-indexed g c =
    let s = c.args.inverse.now in
    let b = s.below.now in
    let distinct : are_distinct c.relation_at-relation.result.now.key ≡ true = search rules in
    complement_indexed s.plan.now.spec b.heads.now (is_stored b.heads.now b.tables.now) s.over c.args.rel c.requires.relation c.complement_number-number.result c.complement_number-number.ensures
    b.tables.now c.requires.indexed c.relation_at-relation.result.now.key (ap (λ (r : Relation). r.key) c.relation_at-relation.ensures) distinct

pub returns-clause-row : goal.returns-clause-row
returns-clause-row g c =
    let s = c.args.inverse.now in
    let b = s.below.now in
    let spec = s.plan.now.spec in
    let rows = stored_rows b.heads.now b.tables.now in
    let n = c.complement_number-number.result in
    let key = c.relation_at-relation.result.now.key in
    IfOk-weaker c.first_where.result _ _
    (λ found h. found_so _ found (matching (columns_at b.heads.now n) key c.args.key.now (rows n))
    (matching (columns_of spec c.args.rel) (key_of spec c.args.rel) c.args.key.now (get_or (reconstructed spec (stored_below spec rows)) c.args.rel []))
    h (complement_gives spec b.heads.now (is_stored b.heads.now b.tables.now) s.over c.args.rel c.requires.relation n c.complement_number-number.ensures rows key (ap (λ (r : Relation). r.key) c.relation_at-relation.ensures) c.args.key.now))
    c.first_where.ensures.row

pub returns-clause-missed : goal.returns-clause-missed
returns-clause-missed g c =
    let s = c.args.inverse.now in
    let b = s.below.now in
    let rows = stored_rows b.heads.now b.tables.now in
    let n = c.complement_number-number.result in
    let key = c.relation_at-relation.result.now.key in
    let is = stored_with_key s.plan.now.spec b.heads.now (is_stored b.heads.now b.tables.now) s.over c.args.rel c.requires.relation n c.complement_number-number.ensures rows key (ap (λ (r : Relation). r.key) c.relation_at-relation.ensures) c.args.key.now in
    IfOk-weaker c.first_where.result _ _ (λ found h plain none. is ∙ missed_so _ found (matching (columns_at b.heads.now n) key c.args.key.now (rows n)) h none) c.first_where.ensures.row
