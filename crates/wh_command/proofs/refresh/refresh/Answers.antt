use Rattle.std.proofs.Common.{refl}
use Rattle.wh_command.specs.Commands.{words_of}
use Rattle.wh_command.proofs.RefreshRun.{not_opened, opened_well}
use Rattle.wh_command.proofs.refresh.refresh.Goals as goal

pub returns-in-Ok-clause-ends : goal.returns-in-Ok-clause-ends
returns-in-Ok-clause-ends g c =
    opened_well g.D.Disk.content g.D.Disk.images g.D.Disk.moment g.D.Disk.images_since (words_of c.args.names.now) _ _ _ _ c.open_placed.ensures.first_same c.open_placed.ensures.second_same c.open_placed.ensures.first_moments c.open_placed.ensures.second_moments
    (g.met.D.Disk.counts_now _) (g.met.D.Disk.counts_now _) c.in-Ok.opened _ _ _ _ c.refresh_all.result _ _ refl c.in-Ok.ensures.answer (λ h active files stands. c.refresh_all.ensures.takes h active files stands)

pub returns-in-Err-clause-ends : goal.returns-in-Err-clause-ends
returns-in-Err-clause-ends g c =
    not_opened g.D.Disk.content g.D.Disk.images g.D.Disk.moment g.D.Disk.images_since (words_of c.args.names.now) _ _ _ _ c.open_placed.ensures.first_same c.open_placed.ensures.second_same c.open_placed.ensures.first_moments c.open_placed.ensures.second_moments
    (g.met.D.Disk.counts_now _) (g.met.D.Disk.counts_now _) _ c.in-Err.stop _ c.in-Err.ensures.read c.in-Err.ensures.write c.in-Err.ensures.answer
