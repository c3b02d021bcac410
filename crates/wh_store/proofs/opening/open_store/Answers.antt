use Rattle.std.proofs.Common.{ℕ, List}
use Rattle.wh_io.proofs.Moments.{leaves_map, leaves_then, goes_on, started}
use Rattle.wh_store.specs.Opening.{IsStateOf}
use Rattle.wh_store.proofs.OpenLemmas.{both_told, journal_told}
use Rattle.wh_store.proofs.opening.open_store.Goals as goal

pub returns-clause-answer : goal.returns-clause-answer
returns-clause-answer g c =
    both_told _ _ _ (λ (file : List ℕ). IsStateOf file c.in_ok-in_first.in_first) (λ (file : List ℕ). IsStateOf file c.in_ok-in_second.in_second) _ c.sync.ensures.same c.outcome.ensures.answer c.in_ok-in_first.ensures.state c.in_ok-in_second.ensures.state

pub returns-clause-second_moments : goal.returns-clause-second_moments
returns-clause-second_moments g c =
    let images = g.D.Disk.images c.args.second.now in
    leaves_then g.D.Disk.moment g.D.Disk.images_since _ _ _ images
    (goes_on g.D.Disk.images g.D.Disk.moment g.D.Disk.images_since _ _ _ images (started g.D.Disk.images g.D.Disk.moment g.D.Disk.images_since c.args.second.now images (g.met.D.Disk.only_now c.args.second.now)) c.sync.ensures.time c.sync.ensures.crash)
    (leaves_map g.D.Disk.moment g.D.Disk.images_since _ _ _ images c.sync.ensures.crash c.read_state-2.ensures.any_moment)

pub returns-clause-journal : goal.returns-clause-journal
returns-clause-journal g c =
    journal_told g.D.Disk.content _ _ _ _ c.in_ok-in_first.in_first c.in_ok-in_second.in_second c.outcome.result c.in_ok-in_first.ensures.same c.in_ok-in_second.ensures.same c.in_ok-in_first.ensures.state c.in_ok-in_second.ensures.state c.outcome.ensures.journal
