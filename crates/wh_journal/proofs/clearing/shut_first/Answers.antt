use Rattle.std.proofs.Common.{sym, ◌∙◌}
use Rattle.wh_journal.proofs.Clears.{first_leaves, kept_told, shut_told}
use Rattle.wh_journal.proofs.Told.{on_ok_map}
use Rattle.wh_journal.proofs.clearing.shut_first.Goals as goal

pub returns-then-unshut-clause-file : goal.returns-then-unshut-clause-file
returns-then-unshut-clause-file g c =
    on_ok_map c.write_settled.result _ _ (shut_told _ _ (λ file told. sym c.if-unshut.true ∙ c.requires file told)) c.write_settled.ensures.ok

pub returns-then-unshut-clause-any_moment : goal.returns-then-unshut-clause-any_moment
returns-then-unshut-clause-any_moment g c = λ settled.
    first_leaves g.D.Disk.moment g.D.Disk.images_since _ _ _ (λ file told. sym c.if-unshut.true ∙ c.requires file told) (c.write_settled.ensures.any_moment settled)

pub returns-else-unshut-clause-file : goal.returns-else-unshut-clause-file
returns-else-unshut-clause-file g c = kept_told _ (λ file told. sym c.if-unshut.false ∙ c.requires file told)
