use Rattle.std.proofs.Common.{◌≡◌, ◌∙◌, ap, []}
use Rattle.std.proofs.lemmas.Iterator.Adapters.{fact_from_collect, YieldsList-from_vec}
use Rattle.std.proofs.lemmas.Result.{IfOk-weaker}
use Rattle.indexmap.specs.IndexSet.{IsFromIterResult, insert_all}
use Rattle.wh_base.specs.RowSet.{has}
use Rattle.wh_base.specs.Value.{row_eq}
use Rattle.wh_check.proofs.net.set_of.Goals as goal

pub returns : goal.returns
returns c =
    IfOk-weaker c.collect.result _ _ (λ set h r. h.1.0 r ∙ ap (λ rows. has rows r) c.into_vec.ensures)
    (fact_from_collect (λ xs set. (set.keys ≡ insert_all row_eq [] xs) × IsFromIterResult row_eq xs set) c.collect.result c.collect.ensures.ran
    (YieldsList-from_vec c.into_vec.result.items c.into_iter.ensures.rest (c.into_iter.ensures.len ∙ c.into_vec.result.ok.0)))
