use Rattle.std.proofs.Common.{◌∙◌, ap, filter, suc, map}
use Rattle.wh_schema.specs.Warehouse.{numbers, subsets}
use Rattle.wh_covers.specs.Covers.{is_least, holders_of}
use Rattle.wh_covers.proofs.CoverLemmas.{least_covers}
use Rattle.wh_covers.proofs.cover.covers.Goals as goal

pub returns-clause-ok : goal.returns-clause-ok
returns-clause-ok c =
    let sets = c.in_ok-sets.sets.items in
    c.least_ones.ensures
    ∙ ap (λ lists. filter (is_least lists) sets) (c.as_slice-3.ensures ∙ c.in_ok-lists.ensures ∙ (λ i. map (holders_of (c.as_slice.ensures i)) (c.as_slice-2.ensures i)))
    ∙ least_covers c.args.p.now c.args.all.now sets (c.in_ok-sets.ensures ∙ ap (λ n. subsets (map suc (numbers n))) c.len-count.ensures)
