use Rattle.std.proofs.Common.{◌≡◌, ◌∙◌, ◌∷◌, [], refl, arith, ap, sym, subst, map, true}
use Rattle.wh_base.specs.RowSet.{has, AreDistinct}
use Rattle.wh_base.specs.Tables.{without}
use Rattle.wh_table.specs.declared.slot.Slot.{Slot}
use Rattle.wh_table.specs.Hash.{hash_of}
use Rattle.wh_table.specs.Slots.{is_row, live_rows, rows_of, IsFound}
use Rattle.wh_table.proofs.Kept.{keyed_whole, kept-marked}
use Rattle.wh_table.proofs.LiveRows.{absent, found-is, found-live, marked-count, marked-rows, without-absent}
use Rattle.wh_table.proofs.slots.Slots.delete.Goals as goal

pub slot_of-requires : goal.slot_of-requires
slot_of-requires c =
    keyed_whole c.args.row.now c.as_slice-2.result.now c.self.inside.whole.keys c.row_hash-key.result
    (c.self.invariant.0.whole_keys ∙ ap (λ ss. map hash_of (rows_of ss)) (sym c.as_slice-2.ensures.value))
    (c.row_hash-key.ensures ∙ ap hash_of c.as_slice.ensures)

pub overflow_sub-self : goal.overflow_sub-self
overflow_sub-self c =
    let x : Slot = c.index_mut-found.result.now in
    let y : Slot = record { row = x.row; dead = true } in
    let found : IsFound (is_row c.args.row.now) c.self.inside.slots.items c.in-Some.slot = subst (λ ss. IsFound (is_row c.args.row.now) ss c.in-Some.slot) c.as_slice-2.ensures.value c.in-Some.ensures in
    let count = marked-count c.self.inside.slots.items c.in-Some.slot x y found.within (found-live (is_row c.args.row.now) x c.self.inside.slots.items c.in-Some.slot found) refl in
    let counted = c.self.invariant.0.counted in
    omega (arith, count, counted)

pub invariant_of-self : goal.invariant_of-self
invariant_of-self c =
    let x : Slot = c.index_mut-found.result.now in
    let y : Slot = record { row = x.row; dead = true } in
    let found : IsFound (is_row c.args.row.now) c.self.inside.slots.items c.in-Some.slot = subst (λ ss. IsFound (is_row c.args.row.now) ss c.in-Some.slot) c.as_slice-2.ensures.value c.in-Some.ensures in
    (kept-marked c.args.row.now c.self.inside.slots.items c.in-Some.slot c.self.inside.live c.self.inside.spare x y c.self.inside.whole c.self.inside.indexes.items c.index_mut-found.ensures.value refl refl found c.self.invariant.0, c.self.invariant.1)

pub returns-in-Some-clause-rows : goal.returns-in-Some-clause-rows
returns-in-Some-clause-rows c =
    let x : Slot = c.index_mut-found.result.now in
    let y : Slot = record { row = x.row; dead = true } in
    let found : IsFound (is_row c.args.row.now) c.self.inside.slots.items c.in-Some.slot = subst (λ ss. IsFound (is_row c.args.row.now) ss c.in-Some.slot) c.as_slice-2.ensures.value c.in-Some.ensures in
    let seen : live_rows c.self.inside.slots.items ≡ c.args.self.now.rows = ap (λ v. v.rows) c.self.view_is in
    marked-rows c.self.inside.slots.items c.in-Some.slot x y c.args.row.now found.within
    (found-live (is_row c.args.row.now) x c.self.inside.slots.items c.in-Some.slot found)
    (found-is c.args.row.now x c.self.inside.slots.items c.in-Some.slot found)
    refl (subst AreDistinct (sym seen) c.requires)
    ∙ ap (λ rs. without rs (c.args.row.now ∷ [])) seen

pub returns-in-None-clause-rows : goal.returns-in-None-clause-rows
returns-in-None-clause-rows c =
    let seen : live_rows c.as_slice-2.result.now ≡ c.args.self.now.rows = ap live_rows c.as_slice-2.ensures.value ∙ ap (λ v. v.rows) c.self.view_is in
    sym (without-absent c.args.row.now c.args.self.now.rows (ap (λ rs. has rs c.args.row.now) (sym seen) ∙ absent c.args.row.now c.as_slice-2.result.now c.in-None.ensures))
