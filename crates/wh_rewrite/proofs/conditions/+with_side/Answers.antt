use Rattle.wh_rewrite.specs.Pushed.{is_side}
use Rattle.wh_rewrite.proofs.PartLemmas.{none_chosen, both_chosen, stands_alone}
use Rattle.wh_rewrite.proofs.conditions.+with_side.Goals as goal

pub returns-in-Always : goal.returns-in-Always
returns-in-Always t c = none_chosen (is_side c.args.columns.now c.args.within) c.args.first c.args.c.now c.in-Always.is

pub returns-in_ok-more-in-And : goal.returns-in_ok-more-in-And
returns-in_ok-more-in-And t c =
    both_chosen (is_side c.args.columns.now c.args.within) c.with_side-in-And.result c.args.first c.in_ok-more-in-And.more c.in-And.left c.in-And.right c.get.result.now c.get-in-And.result.now c.args.c.now c.in-And.is c.get.ensures c.get-in-And.ensures
    c.in_ok-more-in-And.ensures c.with_side-in-And.ensures

pub with_chosen-requires : goal.with_chosen-requires
with_chosen-requires t c = stands_alone c.args.c.now c.in-Cmp.is
