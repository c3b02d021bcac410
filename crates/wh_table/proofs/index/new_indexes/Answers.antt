use Rattle.std.proofs.Common.{◌∙◌, ◌++◌, ◌∷◌, [], arith, ap, sym, subst}
use Rattle.std.proofs.lemmas.List.{map-append}
use Rattle.std.proofs.lemmas.List.Elements.{All-push}
use Rattle.wh_table.specs.declared.index.Index.{Index}
use Rattle.wh_table.specs.Slots.{IsIndexOf, AreIndexesOf, column_sets}
use Rattle.wh_table.proofs.index.new_indexes.Goals as goal

pub loop-places-preserved : goal.loop-places-preserved
loop-places-preserved c =
    let x : Index = record { places = c.in-Some.places; chains = c.in_ok-chains.chains } in
    let items = c.in_ok-push.ensures.items in
    record {
      sets = ap column_sets items ∙ map-append (λ i. i.places) c.loop-places.indexes.items (x ∷ []) ∙ ap (λ ps. ps ++ c.in-Some.places ∷ []) c.loop-places.invariant.sets;
      empty = subst (AreIndexesOf [] 0) (sym items) (All-push (IsIndexOf [] 0) c.loop-places.indexes.items x c.loop-places.invariant.empty (record { keyed = ap (λ k. k.keys) c.in_ok-chains.ensures; room = omega arith }));
    }
