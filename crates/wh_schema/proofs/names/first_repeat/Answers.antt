use Rattle.std.proofs.Common.{sym, arith}
use Rattle.wh_schema.proofs.Lists.{first_repeat_here, first_repeat_later}
use Rattle.wh_schema.proofs.names.first_repeat.Goals as goal

pub returns-then-has_name : goal.returns-then-has_name
returns-then-has_name g c =
    sym (first_repeat_here g.N.Named.name_of c.args.items.now c.loop-place.place c.index-items-place.result _ c.has_name.result (omega arith) c.index-items-place.is c.name-name.ensures c.has_name.ensures c.loop-place.invariant c.if-has_name.true)

pub loop-place-preserved : goal.loop-place-preserved
loop-place-preserved g c =
    first_repeat_later g.N.Named.name_of c.args.items.now c.loop-place.place c.index-items-place.result _ c.has_name.result (omega arith) c.index-items-place.is c.name-name.ensures c.has_name.ensures c.loop-place.invariant c.if-has_name.false
