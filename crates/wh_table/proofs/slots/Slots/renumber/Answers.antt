use Rattle.std.proofs.Common.{◌≡◌, ◌∙◌, ◌≤◌, ◌+◌, rules, arith, ap, length, map, filter, vec_len, vec_capacity}
use Rattle.std.proofs.lemmas.Fn.{filter_same}
use Rattle.std.proofs.lemmas.List.{length-map}
use Rattle.wh_table.specs.Hash.{hash_of}
use Rattle.wh_table.specs.Slots.{is_live, relinked, with_keys, column_sets, rows_of}
use Rattle.wh_table.proofs.Indexes.{written_back, sets-relinked}
use Rattle.wh_table.proofs.Kept.{kept-renumbered}
use Rattle.wh_table.proofs.LiveRows.{live-kept}
use Rattle.wh_table.proofs.slots.Slots.renumber.Goals as goal

pub invariant_of-self : goal.invariant_of-self
invariant_of-self c =
    let kept : c.retain.new.self.items ≡ filter is_live c.self.inside.slots.items = filter_same _ is_live _ (λ x b f' k. search rules) _ _ c.retain.ensures.filtered in
    let are : c.relink_all.new.indexes ≡ map (relinked (rows_of c.retain.new.self.items)) c.self.inside.indexes.items =
    c.relink_all.ensures ∙ ap (λ ss. map (relinked (rows_of ss)) c.as_mut_slice.result.now) c.as_slice-2.ensures.value ∙ ap (map (relinked (rows_of c.retain.new.self.items))) c.as_mut_slice.ensures.value in
    let same : length c.relink_all.new.indexes ≡ length c.self.inside.indexes.items = ap (λ xs. length xs) are ∙ length-map c.self.inside.indexes.items (relinked (rows_of c.retain.new.self.items)) in
    let back = written_back c.self.inside.indexes.items c.relink_all.new.indexes c.self.inside.indexes.len c.self.inside.indexes.ok.0 same in
    let whole : c.relink_whole.new.chains ≡ with_keys c.self.inside.whole (map hash_of (rows_of c.retain.new.self.items)) =
    c.relink_whole.ensures ∙ ap (λ ss. with_keys c.self.inside.whole (map hash_of (rows_of ss))) c.as_slice.ensures.value in
    let fits : vec_len c.retain.new.self + c.self.inside.spare ≤ vec_capacity c.retain.new.self = omega (arith, c.retain.ensures.bound, c.retain.ensures.capacity, c.self.invariant.1) in
    (kept-renumbered c.self.inside.slots.items c.retain.new.self.items c.self.inside.live c.self.inside.spare c.self.inside.whole c.relink_whole.new.chains c.self.inside.indexes.items _ kept c.self.invariant.0 whole (back ∙ are), fits)

pub returns : goal.returns
returns c =
    let kept : c.retain.new.self.items ≡ filter is_live c.self.inside.slots.items = filter_same _ is_live _ (λ x b f' k. search rules) _ _ c.retain.ensures.filtered in
    let are : c.relink_all.new.indexes ≡ map (relinked (rows_of c.retain.new.self.items)) c.self.inside.indexes.items =
    c.relink_all.ensures ∙ ap (λ ss. map (relinked (rows_of ss)) c.as_mut_slice.result.now) c.as_slice-2.ensures.value ∙ ap (map (relinked (rows_of c.retain.new.self.items))) c.as_mut_slice.ensures.value in
    let same : length c.relink_all.new.indexes ≡ length c.self.inside.indexes.items = ap (λ xs. length xs) are ∙ length-map c.self.inside.indexes.items (relinked (rows_of c.retain.new.self.items)) in
    let back = written_back c.self.inside.indexes.items c.relink_all.new.indexes c.self.inside.indexes.len c.self.inside.indexes.ok.0 same in
    let rows = live-kept c.self.inside.slots.items c.retain.new.self.items kept in
    let sets = ap column_sets (back ∙ are) ∙ sets-relinked (rows_of c.retain.new.self.items) c.self.inside.indexes.items in
    (λ i. record { rows = rows i; indexes = sets i; spare = c.self.inside.spare }) ∙ c.self.view_is
