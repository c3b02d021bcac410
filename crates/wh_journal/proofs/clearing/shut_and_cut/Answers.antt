use Rattle.std.proofs.Common.{ℕ, sym, subst, List}
use Rattle.std.specs.Option.{ForSome}
use Rattle.wh_journal.specs.Journal.{IsJournalOf}
use Rattle.wh_journal.proofs.Clears.{place_shut}
use Rattle.wh_journal.proofs.Told.{at}
use Rattle.wh_journal.proofs.clearing.shut_and_cut.Goals as goal

pub cut_behind-requires-clause-place : goal.cut_behind-requires-clause-place
cut_behind-requires-clause-place g c =
    subst (λ (n : ℕ). ForSome (g.D.Disk.content c.shut_first.new.disk) (λ (file : List ℕ). IsJournalOf file (at 0 n))) (sym c.max.ensures)
    (place_shut _ _ c.args.len c.requires.length c.in_ok-shut_first.ensures.file)
