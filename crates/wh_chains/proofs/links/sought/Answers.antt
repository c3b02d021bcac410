use Rattle.std.proofs.Common.{◌<◌, arith, sym, ◌∙◌}
use Rattle.wh_chains.proofs.Walks.{steps, stands}
use Rattle.wh_chains.proofs.links.sought.Goals as goal

pub loop-at-smaller : goal.loop-at-smaller
loop-at-smaller c =
    let some : 0 < c.loop-at.at = omega arith in
    (steps c.args.keys.now c.args.nexts.now c.args.buckets c.args.key c.loop-at.at c.requires.linked some c.loop-at.invariant.within (c.loop-at.invariant.bucket some) c.if-keys-at.true).smaller

pub loop-at-preserved : goal.loop-at-preserved
loop-at-preserved c =
    let some : 0 < c.loop-at.at = omega arith in
    let step = steps c.args.keys.now c.args.nexts.now c.args.buckets c.args.key c.loop-at.at c.requires.linked some c.loop-at.invariant.within (c.loop-at.invariant.bucket some) c.if-keys-at.true in
    record { within = omega (arith, step.smaller, c.loop-at.invariant.within); bucket = step.bucket; same = step.same ∙ c.loop-at.invariant.same }

pub returns-else-keys-at : goal.returns-else-keys-at
returns-else-keys-at c =
    let some : 0 < c.loop-at.at = omega arith in
    sym (stands c.args.keys.now c.args.key c.loop-at.at some c.if-keys-at.false) ∙ c.loop-at.invariant.same
