use Rattle.std.proofs.Common.{◌≡◌, ℕ, ◌++◌, [], ◌∷◌, length, rules, subst, ◌∙◌, arith}
use Rattle.std.proofs.lemmas.Iterator.Adapters.{YieldsList-from_vec}
use Rattle.std.proofs.lemmas.Iterator.Consumers.{YieldsList-from_enumerate, YieldsList-turn, YieldsList-end}
use Rattle.std.proofs.lemmas.List.{length_push}
use Rattle.std.proofs.lemmas.List.FromFn.{length-enumerate_from}
use Rattle.wh_store.specs.Image.{no_delta}
use Rattle.wh_store.proofs.TableSteps.{AreChangedTo, changed_all, may_change_now, changed_by, turned}
use Rattle.wh_store.proofs.changes.change_each.Goals as goal

pub index_mut-requires : goal.index_mut-requires
index_mut-requires c =
    let turn = YieldsList-turn (YieldsList-from_enumerate (YieldsList-from_vec c.args.deltas (cc) (cc)) cc) c.loop-table.yielded c.loop-table.table-iterator c.loop-table.yielded_by c.next.result c.next.new.self (c.in-Some.table, c.in-Some.delta) c.in-Some.is c.next.ensures.steps in
    let here = turned c.args.deltas (length c.loop-table.yielded) c.in-Some.table c.in-Some.delta no_delta turn.0 turn.1 in
    omega (arith, here.0, here.1, c.requires.fits.count, c.loop-table.invariant.changed.count)

pub change-requires : goal.change-requires
change-requires c =
    let turn = YieldsList-turn (YieldsList-from_enumerate (YieldsList-from_vec c.args.deltas (cc) (cc)) cc) c.loop-table.yielded c.loop-table.table-iterator c.loop-table.yielded_by c.next.result c.next.new.self (c.in-Some.table, c.in-Some.delta) c.in-Some.is c.next.ensures.steps in
    let here = turned c.args.deltas (length c.loop-table.yielded) c.in-Some.table c.in-Some.delta no_delta turn.0 turn.1 in
    may_change_now (length c.loop-table.yielded) c.args.tables.now.items c.args.deltas c.loop-table.tables.items c.in-Some.table c.in-Some.delta c.index_mut.result.now
    here c.index_mut.ensures.value c.requires.fits c.requires.distinct c.loop-table.invariant.changed

pub loop-table-preserved : goal.loop-table-preserved
loop-table-preserved c =
    let turn = YieldsList-turn (YieldsList-from_enumerate (YieldsList-from_vec c.args.deltas (cc) (cc)) cc) c.loop-table.yielded c.loop-table.table-iterator c.loop-table.yielded_by c.next.result c.next.new.self (c.in-Some.table, c.in-Some.delta) c.in-Some.is c.next.ensures.steps in
    let here = turned c.args.deltas (length c.loop-table.yielded) c.in-Some.table c.in-Some.delta no_delta turn.0 turn.1 in
    record {
      can = search rules;
      finite = search rules;
      changed = changed_by (length c.loop-table.yielded) (length (c.loop-table.yielded ++ (c.in-Some.table, c.in-Some.delta) ∷ [])) c.args.tables.now.items c.args.deltas c.loop-table.tables.items c.in-Some.table c.in-Some.delta c.index_mut.result.now c.change.new.table
          here (length_push c.loop-table.yielded (c.in-Some.table, c.in-Some.delta)) c.index_mut.ensures.value c.requires.fits.count c.loop-table.invariant.changed (record { rows = c.in_ok-change.ensures.rows; distinct = c.in_ok-change.ensures.distinct; width = c.in_ok-change.ensures.width; indexes = c.in_ok-change.ensures.indexes });
    }

pub returns : goal.returns
returns c =
    let ended = YieldsList-end (YieldsList-from_enumerate (YieldsList-from_vec c.args.deltas (cc) (cc)) cc) c.loop-table.yielded c.loop-table.table-iterator c.loop-table.yielded_by c.next.result c.next.new.self c.in-None.is c.next.ensures.steps in
    let long : length c.loop-table.yielded ≡ length c.args.tables.now.items = ended.1 ∙ length-enumerate_from 0 c.args.deltas ∙ c.requires.fits.count in
    changed_all c.args.tables.now.items c.args.deltas c.loop-table.tables.items (subst (λ (n : ℕ). AreChangedTo n c.args.tables.now.items c.args.deltas c.loop-table.tables.items) long c.loop-table.invariant.changed)
