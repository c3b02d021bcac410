use Rattle.std.proofs.Common.{◌≡◌, ◌∙◌, ◌<◌, ◌≤◌, ◌+◌, ◌-◌, ◌++◌, ◌∷◌, [], false, refl, arith, ap, length, map, vec_len, vec_capacity}
use Rattle.std.proofs.lemmas.List.{length-map}
use Rattle.wh_table.specs.declared.slot.Slot.{Slot}
use Rattle.wh_table.specs.Hash.{hash_of}
use Rattle.wh_table.specs.Slots.{linked, column_sets}
use Rattle.wh_table.proofs.Indexes.{written_back, sets-linked}
use Rattle.wh_table.proofs.Kept.{kept-more}
use Rattle.wh_table.proofs.LiveRows.{live-le}
use Rattle.wh_table.proofs.slots.Slots.insert.Goals as goal

pub overflow_add-self : goal.overflow_add-self
overflow_add-self c =
    let counted = c.self.invariant.0.counted in
    let less = live-le c.self.inside.slots.items in
    let long = c.self.inside.slots.ok.0 in
    let more = c.push_reserved.ensures.len in
    let small = c.push_reserved.new.self.small in
    let ok = c.push_reserved.new.self.ok in
    omega (arith, counted, less, long, more, small, ok.1)

pub invariant_of-self : goal.invariant_of-self
invariant_of-self c =
    let seen : c.self.inside.spare ≡ c.args.self.now.spare = ap (λ t. t.spare) c.self.view_is in
    let some : 0 < c.self.inside.spare = omega (arith, seen, c.requires) in
    let x : Slot = record { row = c.args.row; dead = false } in
    let are : c.link_all.new.indexes ≡ map (linked c.args.row) c.self.inside.indexes.items = c.link_all.ensures ∙ ap (map (linked c.args.row)) c.as_mut_slice.ensures.value in
    let same : length c.link_all.new.indexes ≡ length c.self.inside.indexes.items = ap (λ xs. length xs) are ∙ length-map c.self.inside.indexes.items (linked c.args.row) in
    let back = written_back c.self.inside.indexes.items c.link_all.new.indexes c.self.inside.indexes.len c.self.inside.indexes.ok.0 same in
    let key : c.row_hash.result ≡ hash_of c.args.row = c.row_hash.ensures ∙ ap hash_of c.as_slice.ensures in
    let fits : vec_len c.push_reserved.new.self + (c.self.inside.spare - 1) ≤ vec_capacity c.push_reserved.new.self = omega (arith, some, c.push_reserved.ensures.len, c.push_reserved.ensures.capacity, c.self.invariant.1) in (
      kept-more c.self.inside.slots.items c.push_reserved.new.self.items x c.self.inside.live c.self.inside.spare c.self.inside.whole c.link.new.self c.self.inside.indexes.items _ refl c.push_reserved.ensures.items some c.self.invariant.0
          (c.link.ensures.keys ∙ ap (λ k. c.self.inside.whole.keys ++ k ∷ []) key) c.link.ensures.spare (back ∙ are),
      fits,
    )

pub returns-clause-indexes : goal.returns-clause-indexes
returns-clause-indexes c =
    let are : c.link_all.new.indexes ≡ map (linked c.args.row) c.self.inside.indexes.items = c.link_all.ensures ∙ ap (map (linked c.args.row)) c.as_mut_slice.ensures.value in
    let same : length c.link_all.new.indexes ≡ length c.self.inside.indexes.items = ap (λ xs. length xs) are ∙ length-map c.self.inside.indexes.items (linked c.args.row) in
    let back = written_back c.self.inside.indexes.items c.link_all.new.indexes c.self.inside.indexes.len c.self.inside.indexes.ok.0 same in
    ap column_sets (back ∙ are) ∙ sets-linked c.args.row c.self.inside.indexes.items ∙ ap (λ v. v.indexes) c.self.view_is
