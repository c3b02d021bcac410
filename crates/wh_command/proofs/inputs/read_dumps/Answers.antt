use Rattle.std.proofs.Common.{◌∙◌, refl, arith}
use Rattle.wh_command.proofs.Dumps.{found_more, found_none, next_more, next_none, distinct_push, distinct_none, dumps_none, dumps_more, dumps_over}
use Rattle.wh_command.proofs.inputs.read_dumps.Goals as goal

pub loop-relation-init : goal.loop-relation-init
loop-relation-init g c = record {
  same = refl;
  faults = refl;
  distinct = distinct_none c.new-state.result c.new-state.ensures;
  dumps = dumps_none c.args.relations.now c.new-state.result c.new-state.ensures;
  found = found_none c.args.dir.now c.args.relations.now c.new-state.result c.new-state.ensures _;
  next = next_none c.args.dir.now c.args.relations.now _;
}

pub loop-relation-preserved : goal.loop-relation-preserved
loop-relation-preserved g c =
    let dir = c.args.dir.now in
    let relations = c.args.relations.now in
    let i = c.loop-relation.relation-index in
    let loop = c.loop-relation.invariant in
    let read = c.in-Ok.ensures in
    let pushed = c.in_ok-push-in-Ok.ensures.ok in
    record {
      same = read.same ∙ loop.same;
      faults = read.cause ∙ loop.faults;
      distinct = distinct_push c.loop-relation.state c.push.new.self c.in-Ok.rows pushed loop.distinct read.distinct;
      dumps = dumps_more relations i c.relation-item.result c.loop-relation-test.true c.relation-item.is c.in-Ok.rows c.loop-relation.state c.push.new.self pushed loop.dumps read.dump;
      found = found_more dir relations i c.relation-item.result c.loop-relation-test.true c.relation-item.is c.in-Ok.rows _ _ c.loop-relation.state c.push.new.self pushed loop.same read.answer loop.found;
      next = next_more dir relations i c.relation-item.result c.loop-relation-test.true c.relation-item.is c.in-Ok.rows _ _ loop.same read.answer loop.next;
    }

pub returns-clause-dumps : goal.returns-clause-dumps
returns-clause-dumps g c = dumps_over c.args.relations.now c.loop-relation.relation-index c.loop-relation.state (omega (arith, c.loop-relation-test.false)) c.loop-relation.invariant.dumps
