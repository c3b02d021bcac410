use Rattle.std.proofs.Common.{◌∙◌}
use Rattle.wh_inverse.proofs.PlanFacts.{covers-within, covers-are}
use Rattle.wh_inverse.proofs.planned.covers_of.Goals as goal

pub bounds-as_slice-rel : goal.bounds-as_slice-rel
bounds-as_slice-rel g c = let s = c.args.inverse.now in covers-within s.plan.now s.planned c.args.rel c.requires c.as_slice.result.now c.as_slice.ensures

pub returns : goal.returns
returns g c =
    let s = c.args.inverse.now in
    c.as_slice-2.ensures ∙ covers-are s.plan.now s.planned c.args.rel c.requires c.as_slice.result.now c.as_slice.ensures c.index-as_slice-rel.result c.index-as_slice-rel.is
