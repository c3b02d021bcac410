use Rattle.std.proofs.Common.{rules, ◌≡◌, ◌∙◌, ◌<◌, false, length, sym, arith}
use Rattle.std.proofs.lemmas.List.{get_or_read}
use Rattle.wh_store.specs.Image.{no_delta}
use Rattle.wh_store.specs.Opening.{takes}
use Rattle.wh_store.specs.Warehouse.{no_table}
use Rattle.wh_store.proofs.HeldTables.{take_all, take_count, take_fails}
use Rattle.wh_store.proofs.tables.all_take.Goals as goal

pub returns-then-deltas-tables : goal.returns-then-deltas-tables
returns-then-deltas-tables c = take_count c.args.stored.now c.args.tables.now c.args.deltas.now c.if-deltas-tables.true

pub returns-then-not-takes : goal.returns-then-not-takes
returns-then-not-takes c =
    let stored = c.args.stored.now in
    let tables = c.args.tables.now in
    let deltas = c.args.deltas.now in
    let k = c.loop-k.k in
    let inside : k < length tables = omega arith in
    let below : k < length deltas = omega arith in
    let f : c.takes.result ≡ false = search rules in
    let table = get_or_read tables k c.index-tables-k.result inside c.index-tables-k.is no_table in
    let delta = get_or_read deltas k c.index-deltas-k.result below c.index-deltas-k.is no_delta in
    take_fails stored tables deltas k inside (sym (c.takes.ensures ∙ (λ i. takes (c.attrs_at.ensures i) (table i).rows (delta i))) ∙ f)

pub returns : goal.returns
returns c =
    let tables = c.args.tables.now in
    let deltas = c.args.deltas.now in
    let len : length deltas ≡ length tables = omega arith in
    take_all c.args.stored.now tables deltas len (λ j below. c.loop-k.invariant j (omega arith))
