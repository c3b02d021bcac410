use Rattle.std.proofs.Common.{◌∙◌, ◌<◌, ◌^◌, ◌++◌, ◌∷◌, [], List, length, sym, ap, subst, arith, zero-add}
use Rattle.std.proofs.lemmas.List.FromFn.{map-range_with_len_more}
use Rattle.wh_schema.specs.declared.piece.Piece.{Piece}
use Rattle.wh_schema.specs.Warehouse.{pieces}
use Rattle.wh_plan.specs.Expressions.{key_probes}
use Rattle.wh_plan.proofs.PlanLemmas.{few_pieces, place_within, item_is}
use Rattle.wh_plan.proofs.make.all_key_probes.Goals as goal

pub bounds-as_slice-relation : goal.bounds-as_slice-relation
bounds-as_slice-relation c =
    let spec = c.args.spec.now in
    let within : c.loop-relation.relation < length spec.relations = omega (arith, c.len-relation-end.ensures) in
    place_within (pieces spec) (length spec.relations) c.loop-relation.relation c.as_slice.result.now within (c.as_slice.ensures ∙ c.requires.pieces)

pub key_probes-requires : goal.key_probes-requires
key_probes-requires c =
    let spec = c.args.spec.now in
    let i = c.loop-relation.relation in
    let within : i < length spec.relations = omega (arith, c.len-relation-end.ensures) in
    let is = item_is (pieces spec) (length spec.relations) i c.as_slice.result.now within (c.as_slice.ensures ∙ c.requires.pieces) c.index-as_slice-relation.result c.index-as_slice-relation.is in
    subst (λ (ps : List Piece). length ps < 2 ^ 32) (sym is) (few_pieces spec i c.requires.numbered)

pub loop-relation-preserved : goal.loop-relation-preserved
loop-relation-preserved c =
    let spec = c.args.spec.now in
    let i = c.loop-relation.relation in
    let within : i < length spec.relations = omega (arith, c.len-relation-end.ensures) in
    let is = item_is (pieces spec) (length spec.relations) i c.as_slice.result.now within (c.as_slice.ensures ∙ c.requires.pieces) c.index-as_slice-relation.result c.index-as_slice-relation.is in
    c.in_ok-push.ensures.ok
    ∙ (λ j. c.loop-relation.invariant j ++ (c.key_probes.ensures ∙ ap key_probes is) j ∷ [])
    ∙ sym (map-range_with_len_more (λ r. key_probes (pieces spec r)) 0 i i (zero-add i))
