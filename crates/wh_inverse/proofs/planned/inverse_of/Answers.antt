use Rattle.wh_inverse.proofs.PlanFacts.{exprs-within, exprs-are}
use Rattle.wh_inverse.proofs.planned.inverse_of.Goals as goal

pub bounds-as_slice-rel : goal.bounds-as_slice-rel
bounds-as_slice-rel g c = let s = c.args.inverse.now in exprs-within s.plan.now s.planned c.args.rel c.requires c.as_slice.result.now c.as_slice.ensures

pub returns : goal.returns
returns g c =
    let s = c.args.inverse.now in
    exprs-are s.plan.now s.planned c.args.rel c.requires c.as_slice.result.now c.as_slice.ensures c.index-as_slice-rel.result c.index-as_slice-rel.is
