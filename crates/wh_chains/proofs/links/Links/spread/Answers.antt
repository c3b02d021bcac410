use Rattle.std.proofs.Common.{arith, ◌≡◌, ◌+◌, ◌-◌, length, subst, sym}
use Rattle.std.proofs.lemmas.List.{take_more}
use Rattle.wh_chains.specs.Links.{IsChained, HasRoom}
use Rattle.wh_chains.proofs.links.Links.spread.Goals as goal

pub loop-key-preserved : goal.loop-key-preserved
loop-key-preserved c =
    let lt = c.loop-key-test.true in
    let left : (length c.args.keys.now - c.loop-key.key-index) + c.args.additional ≡ ((length c.args.keys.now - (c.loop-key.key-index + 1)) + c.args.additional) + 1 = omega (arith, lt) in
    record {
      some = let same = c.link.ensures.buckets in let some = c.loop-key.invariant.some in omega (arith, same, some);
      chained = subst (IsChained c.link.new.self) (sym (take_more c.args.keys.now c.loop-key.key-index 0 lt)) (c.link.ensures.chained _ c.loop-key.invariant.chained);
      room = c.link.ensures.room _ (subst (HasRoom c.loop-key.links) left c.loop-key.invariant.room);
    }
