use Rattle.std.proofs.Common.{◌∙◌, ◌+◌, ℕ, [], List, All, get_or, length, sym, ap, subst, arith}
use Rattle.std.proofs.lemmas.List.{length_push}
use Rattle.wh_base.specs.declared.head.Head.{Head}
use Rattle.wh_base.specs.Heads.{attrs_at}
use Rattle.wh_base.specs.RowSet.{AreDistinct, SameRows, IsAscending}
use Rattle.wh_plan.specs.declared.plan.Plan.{Plan}
use Rattle.wh_store.specs.Opening.{stored_heads, IsTableOf}
use Rattle.wh_store.proofs.StoredLemmas.{item_of, sets_fit}
use Rattle.wh_store.proofs.TableLemmas.{ascending_distinct, each_more}
use Rattle.wh_store.proofs.Turns.{vec_turn}
use Rattle.wh_table.specs.Table.{IsColumnSet}
use Rattle.wh_store.proofs.warehouse.tables_of.Goals as goal

pub table_of-requires-clause-indexes : goal.table_of-requires-clause-indexes
table_of-requires-clause-indexes c =
    let spec = c.args.plan.now.spec in
    let n = c.len-k.result in
    let width = ap length (c.attrs_at.ensures ∙ ap (λ (hs : List Head). attrs_at hs n) c.requires.stored) in
    let sets = c.in_ok-indexes.ensures ∙ ap (λ (p : Plan). get_or p.indexes n []) c.requires.plan in
    subst (λ (w : ℕ). All (IsColumnSet w) c.in_ok-indexes.indexes) (sym width)
    (subst (λ (s : List (List ℕ)). All (IsColumnSet (length (attrs_at (stored_heads spec) n))) s) (sym sets) (sets_fit spec n))

pub table_of-requires-clause-distinct : goal.table_of-requires-clause-distinct
table_of-requires-clause-distinct c =
    let rows = c.args.rows in
    let turn = vec_turn rows c.into_iter-table_rows-iterator.result c.loop-table_rows.table_rows-iterator c.next.new.self c.loop-table_rows.yielded c.next.result c.in-Some.table_rows
    (c.into_iter-table_rows-iterator.ensures.into_iter_gives.0 ∙ c.into_vec-table_rows-items.ensures) c.loop-table_rows.yielded_by c.in-Some.is c.next.ensures.steps in
    subst AreDistinct (sym (turn.1 [])) (ascending_distinct (get_or rows (length c.loop-table_rows.yielded) []) (item_of IsAscending rows [] (length c.loop-table_rows.yielded) c.requires.ascending turn.0))

pub loop-table_rows-preserved : goal.loop-table_rows-preserved
loop-table_rows-preserved c =
    let rows = c.args.rows in
    let plan = c.args.plan.now in
    let stored = c.args.stored.now in
    let yielded = c.loop-table_rows.yielded in
    let n = length yielded in
    let tables = c.loop-table_rows.tables in
    let t = c.in_ok-table_of.field-0 in
    let count = c.loop-table_rows.invariant.count in
    let turn = vec_turn rows c.into_iter-table_rows-iterator.result c.loop-table_rows.table_rows-iterator c.next.new.self yielded c.next.result c.in-Some.table_rows
    (c.into_iter-table_rows-iterator.ensures.into_iter_gives.0 ∙ c.into_vec-table_rows-items.ensures) c.loop-table_rows.yielded_by c.in-Some.is c.next.ensures.steps in
    let kn = c.len-k.ensures ∙ count in
    let here : IsTableOf (length (attrs_at stored n)) (get_or plan.indexes n []) (get_or rows n []) t = record {
      rows_same = subst (SameRows t.rows) (turn.1 []) c.in_ok-table_of.ensures.rows;
      distinct = c.in_ok-table_of.ensures.distinct;
      width_is = c.in_ok-table_of.ensures.width ∙ ap length (c.attrs_at.ensures ∙ ap (attrs_at stored) kn);
      indexes_are = c.in_ok-table_of.ensures.indexes ∙ c.in_ok-indexes.ensures ∙ ap (λ (j : ℕ). get_or plan.indexes j []) kn;
    } in
    record {
      count = ap length c.in_ok-push.ensures.ok ∙ length_push tables t ∙ ap (λ (m : ℕ). m + 1) count ∙ sym (length_push yielded c.in-Some.table_rows);
      each = λ k below. each_more plan stored rows tables c.push.new.self t n count c.in_ok-push.ensures.ok c.loop-table_rows.invariant.each here k (omega (arith, length_push yielded c.in-Some.table_rows, below));
    }
