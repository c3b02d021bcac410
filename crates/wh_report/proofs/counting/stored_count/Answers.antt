use Rattle.std.proofs.Common.{◌≡◌, ◌<◌, [], length, get_or, sym, ap, ◌∙◌, arith}
use Rattle.std.proofs.lemmas.List.{get_or-map, get_or_read}
use Rattle.wh_answer.specs.Answer.{rows_of}
use Rattle.wh_store.specs.Warehouse.{no_table}
use Rattle.wh_table.specs.Table.{IndexedRows}
use Rattle.wh_report.specs.Report.{row_count, rows_at}
use Rattle.wh_report.proofs.Numbered.{count_distinct}
use Rattle.wh_report.proofs.counting.stored_count.Goals as goal

pub returns : goal.returns
returns c =
    let item = c.index-as_slice-number in
    let tables = c.args.tables.now in
    let n = c.args.number in
    let within : n < length c.as_slice.result.now = omega (arith, c.requires, ap length c.as_slice.ensures) in
    let is : item.result ≡ get_or tables n no_table = get_or_read c.as_slice.result.now n item.result within item.is no_table ∙ ap (λ l. get_or l n no_table) c.as_slice.ensures in
    let rows : item.result.rows ≡ rows_at (rows_of tables) n = ap (λ (t : IndexedRows). t.rows) is ∙ sym (get_or-map (λ (t : IndexedRows). t.rows) tables n no_table [] c.requires) in
    c.len.ensures.count ∙ count_distinct item.result.rows c.len.ensures.distinct ∙ ap row_count rows
