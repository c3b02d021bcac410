use Rattle.std.proofs.Common.{◌≡◌, ◌++◌, [], ◌∷◌, length, rules, ap, ◌∙◌, arith}
use Rattle.std.specs.Iterator.Adapters.{enumerate_source, enumerate_count}
use Rattle.std.specs.Vec.Iter.{into_iter_items, into_iter_len}
use Rattle.std.proofs.lemmas.Iterator.Adapters.{YieldsList-from_vec}
use Rattle.std.proofs.lemmas.Iterator.Consumers.{YieldsList-from_enumerate, YieldsList-turn}
use Rattle.std.proofs.lemmas.List.{length_push}
use Rattle.wh_store.specs.Image.{no_delta}
use Rattle.wh_store.proofs.TableSteps.{IsKept, kept_by, room_by, taken_by, turned}
use Rattle.wh_store.proofs.changes.prepare_each.Goals as goal

pub index_mut-requires : goal.index_mut-requires
index_mut-requires c =
    let turn = YieldsList-turn (YieldsList-from_enumerate (YieldsList-from_vec c.args.deltas (cc) (cc)) cc) c.loop-table.yielded c.loop-table.table-iterator c.loop-table.yielded_by c.next.result c.next.new.self (c.in-Some.table, c.in-Some.delta) c.in-Some.is c.next.ensures.steps in
    let here = turned c.args.deltas (length c.loop-table.yielded) c.in-Some.table c.in-Some.delta no_delta turn.0 turn.1 in
    omega (arith, here.0, here.1, c.requires, c.loop-table.invariant.kept.count)

pub loop-table-preserved : goal.loop-table-preserved
loop-table-preserved c =
    let turn = YieldsList-turn (YieldsList-from_enumerate (YieldsList-from_vec c.args.deltas (cc) (cc)) cc) c.loop-table.yielded c.loop-table.table-iterator c.loop-table.yielded_by c.next.result c.next.new.self (c.in-Some.table, c.in-Some.delta) c.in-Some.is c.next.ensures.steps in
    let here = turned c.args.deltas (length c.loop-table.yielded) c.in-Some.table c.in-Some.delta no_delta turn.0 turn.1 in
    let next = length_push c.loop-table.yielded (c.in-Some.table, c.in-Some.delta) in
    let step : IsKept c.index_mut.result.now c.prepare.new.self = record { rows = c.prepare.ensures.rows; width = c.prepare.ensures.width; indexes = c.prepare.ensures.indexes; room = c.prepare.ensures.spare } in
    let count : length c.args.deltas ≡ length c.args.tables.now.items = search rules in
    record {
      can = search rules;
      finite = search rules;
      prepared = taken_by (length c.loop-table.yielded) (length (c.loop-table.yielded ++ (c.in-Some.table, c.in-Some.delta) ∷ [])) c.args.deltas c.loop-table.prepared.items c.push.new.self.items c.in-Some.table c.in-Some.delta c.in_ok-prepare.field-0
          here next c.loop-table.invariant.prepared c.in_ok-prepare.ensures.prepared c.in_ok-push.ensures.items;
      kept = kept_by (length c.loop-table.yielded) c.args.tables.now.items c.loop-table.tables.items c.in-Some.table c.index_mut.result.now c.prepare.new.self (omega (arith, here.0, count)) here.1 c.index_mut.ensures.value c.loop-table.invariant.kept step;
      room = room_by (length c.loop-table.yielded) (length (c.loop-table.yielded ++ (c.in-Some.table, c.in-Some.delta) ∷ [])) c.args.tables.now.items c.loop-table.tables.items c.args.deltas c.in-Some.table c.in-Some.delta c.index_mut.result.now c.prepare.new.self
          here next c.index_mut.ensures.value count c.loop-table.invariant.kept step c.in_ok-prepare.ensures.room c.loop-table.invariant.room;
    }

pub returns-in_err-push-clause-kept : goal.returns-in_err-push-clause-kept
returns-in_err-push-clause-kept c =
    let taken : enumerate_source c.into_iter-table-iterator.result ≡ c.into_iter.result = ap enumerate_source c.into_iter-table-iterator.ensures.into_iter_gives ∙ c.enumerate-table-items.ensures.source in
    let items : into_iter_items (enumerate_source c.into_iter-table-iterator.result) ≡ c.args.deltas = ap into_iter_items taken ∙ c.into_iter.ensures.rest ∙ c.into_vec.ensures in
    let count_left : into_iter_len (enumerate_source c.into_iter-table-iterator.result) ≡ length c.args.deltas = ap into_iter_len taken ∙ c.into_iter.ensures.len ∙ c.into_vec.result.ok.0 ∙ ap length c.into_vec.ensures in
    let turn = YieldsList-turn (YieldsList-from_enumerate (YieldsList-from_vec c.args.deltas items count_left) (ap enumerate_count c.into_iter-table-iterator.ensures.into_iter_gives ∙ c.enumerate-table-items.ensures.count)) c.loop-table.yielded c.loop-table.table-iterator c.loop-table.yielded_by c.next.result c.next.new.self (c.in-Some.table, c.in-Some.delta) c.in-Some.is c.next.ensures.steps in
    let here = turned c.args.deltas (length c.loop-table.yielded) c.in-Some.table c.in-Some.delta no_delta turn.0 turn.1 in
    let step : IsKept c.index_mut.result.now c.prepare.new.self = record { rows = c.prepare.ensures.rows; width = c.prepare.ensures.width; indexes = c.prepare.ensures.indexes; room = c.prepare.ensures.spare } in
    let count : length c.args.deltas ≡ length c.args.tables.now.items = search rules in
    kept_by (length c.loop-table.yielded) c.args.tables.now.items c.loop-table.tables.items c.in-Some.table c.index_mut.result.now c.prepare.new.self (omega (arith, here.0, count)) here.1 c.index_mut.ensures.value c.loop-table.invariant.kept step
