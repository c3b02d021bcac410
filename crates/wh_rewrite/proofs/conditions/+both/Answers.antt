use Rattle.wh_rewrite.proofs.PartLemmas.{none_more, both_parts}
use Rattle.wh_rewrite.proofs.conditions.+both.Goals as goal

pub returns-in-Always : goal.returns-in-Always
returns-in-Always t c = none_more c.args.first c.args.second.now c.in-Always.is

pub returns-in_ok-more-in-And : goal.returns-in_ok-more-in-And
returns-in_ok-more-in-And t c =
    both_parts c.both-in-And.result c.args.first c.in_ok-more-in-And.more c.in-And.left c.in-And.right c.get.result.now c.get-in-And.result.now c.args.second.now c.in-And.is c.get.ensures c.get-in-And.ensures
    c.in_ok-more-in-And.ensures c.both-in-And.ensures
