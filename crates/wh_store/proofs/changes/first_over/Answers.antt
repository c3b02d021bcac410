use Rattle.std.proofs.Common.{◌≡◌, ◌∙◌, rules, tests}
use Rattle.std.specs.List.{position, zip}
use Rattle.std.proofs.lemmas.Iterator.{YieldsList-from_slice, YieldsList-from_zip}
use Rattle.std.proofs.lemmas.Iterator.Search.{position_from_yields_List}
use Rattle.wh_store.proofs.TableSteps.{first_over_zipped, passes_limit}
use Rattle.wh_store.proofs.changes.first_over.Goals as goal

pub returns : goal.returns
returns c =
    let found : c.position.result ≡ position passes_limit (zip c.args.tables.now c.args.deltas.now) =
    position_from_yields_List passes_limit c.position.new.self _ c.position.result c.position.ensures.ran (YieldsList-from_zip (YieldsList-from_slice c.args.tables.now cc) (YieldsList-from_slice c.args.deltas.now cc))
    (λ x b q k. search (rules, tests)) in
    found ∙ first_over_zipped c.args.tables.now c.args.deltas.now c.requires
