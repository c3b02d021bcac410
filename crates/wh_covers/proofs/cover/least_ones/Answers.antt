use Rattle.std.proofs.Common.{rules, ◌∙◌}
use Rattle.std.proofs.lemmas.Fn.{filter_same}
use Rattle.wh_covers.specs.Covers.{is_least}
use Rattle.wh_covers.proofs.cover.least_ones.Goals as goal

pub returns : goal.returns
returns c =
    let test = is_least c.args.lists.now in
    c.from_vec.ensures ∙ filter_same _ test _ (λ x b f' k. search rules) _ _ c.retain.ensures.filtered
