use Rattle.std.proofs.Common.{◌∙◌}
use Rattle.wh_store.proofs.Searches.{found_has}
use Rattle.wh_refresh.proofs.differences.contains.Goals as goal

pub returns : goal.returns
returns c =
    c.is_ok.ensures.value ∙ found_has c.args.rows.now c.args.row.now c.binary_search.result c.requires c.binary_search.ensures.bound c.binary_search.ensures.position
