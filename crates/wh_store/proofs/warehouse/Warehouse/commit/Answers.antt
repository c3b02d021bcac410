use Rattle.std.proofs.Common.{◌≡◌, List, ℕ, Option, IfSome, rules, sym, ap, subst, ◌∙◌}
use Rattle.std.specs.Option.{ForSome, option_map}
use Rattle.wh_io.specs.Crash.{LeavesOnly}
use Rattle.wh_journal.specs.File.{frames_of}
use Rattle.wh_journal.specs.Journal.{IsBeforeOrAfter, IsJournalOf, with_frame}
use Rattle.wh_store.proofs.CommitLemmas.{advances_told, content_of, held_moments, other_content}
use Rattle.wh_store.specs.Commit.{AreChanged, active_of, journal_behind}
use Rattle.wh_store.proofs.warehouse.Warehouse.commit.Goals as goal

pub returns-in-Ok-clause-holds : goal.returns-in-Ok-clause-holds
returns-in-Ok-clause-holds g c =
    let which = c.args.place.now.which in
    let now = content_of g.D.Disk.content which c.write_active.new.first c.write_active.new.second in
    let old = content_of g.D.Disk.content which c.args.first.now c.args.second.now in
    let tables : AreChanged c.args.self.now.tables c.args.r.deltas c.apply_all.new.tables = search rules in
    let journal : c.in-Ok.journal ≡ journal_behind c.args.place.now.journal c.args.r.body = search rules in
    let frames : option_map frames_of (g.D.Disk.content (active_of which c.write_active.new.first c.write_active.new.second)) ≡ option_map (λ (file : List ℕ). with_frame (frames_of file) c.args.r.body) (g.D.Disk.content (active_of which c.args.first.now c.args.second.now)) = search rules in
    advances_told c.args.r.deltas c.args.self.now c.apply_all.new.tables tables c.requires.seq c.args.place.now c.in-Ok.journal c.args.r.body c.requires.body journal
    (g.D.Disk.content c.args.first.now) (g.D.Disk.content c.args.second.now) (g.D.Disk.content c.write_active.new.first) (g.D.Disk.content c.write_active.new.second)
    (ap (option_map frames_of) (sym now) ∙ frames ∙ ap (option_map (λ (file : List ℕ). with_frame (frames_of file) c.args.r.body)) old)
    (sym (other_content g.D.Disk.content which c.write_active.new.first c.write_active.new.second) ∙ ap g.D.Disk.content c.in-Ok.ensures.other
    ∙ other_content g.D.Disk.content which c.args.first.now c.args.second.now)
    (subst (λ (x : Option (List ℕ)). ForSome x (λ (file : List ℕ). IsJournalOf file c.in-Ok.journal)) now c.in-Ok.ensures.place)

pub returns-in-Ok-clause-any_moment : goal.returns-in-Ok-clause-any_moment
returns-in-Ok-clause-any_moment g c = λ settled.
    let which = c.args.place.now.which in
    let old = content_of g.D.Disk.content which c.args.first.now c.args.second.now in
    let leaves : IfSome (g.D.Disk.content (active_of which c.args.first.now c.args.second.now)) (λ (file : List ℕ). LeavesOnly g.D.Disk.moment g.D.Disk.images_since (active_of which c.args.first.now c.args.second.now)
    (active_of which c.write_active.new.first c.write_active.new.second) (IsBeforeOrAfter file c.args.r.body)) = search rules in
    held_moments c.args.r.deltas c.args.self.now c.requires.seq c.args.place.now c.args.r.body c.requires.body g.D.Disk.moment g.D.Disk.images_since
    (active_of which c.args.first.now c.args.second.now) (active_of which c.write_active.new.first c.write_active.new.second) (g.D.Disk.content c.args.first.now) (g.D.Disk.content c.args.second.now)
    (subst (λ (x : Option (List ℕ)). IfSome x (λ (file : List ℕ). LeavesOnly g.D.Disk.moment g.D.Disk.images_since (active_of which c.args.first.now c.args.second.now)
    (active_of which c.write_active.new.first c.write_active.new.second) (IsBeforeOrAfter file c.args.r.body))) old leaves)

pub returns-in-Err-clause-any_moment : goal.returns-in-Err-clause-any_moment
returns-in-Err-clause-any_moment g c = λ settled.
    let which = c.args.place.now.which in
    let old = content_of g.D.Disk.content which c.args.first.now c.args.second.now in
    let leaves : IfSome (g.D.Disk.content (active_of which c.args.first.now c.args.second.now)) (λ (file : List ℕ). LeavesOnly g.D.Disk.moment g.D.Disk.images_since (active_of which c.args.first.now c.args.second.now)
    (active_of which c.write_active.new.first c.write_active.new.second) (IsBeforeOrAfter file c.args.r.body)) = search rules in
    held_moments c.args.r.deltas c.args.self.now c.requires.seq c.args.place.now c.args.r.body c.requires.body g.D.Disk.moment g.D.Disk.images_since
    (active_of which c.args.first.now c.args.second.now) (active_of which c.write_active.new.first c.write_active.new.second) (g.D.Disk.content c.args.first.now) (g.D.Disk.content c.args.second.now)
    (subst (λ (x : Option (List ℕ)). IfSome x (λ (file : List ℕ). LeavesOnly g.D.Disk.moment g.D.Disk.images_since (active_of which c.args.first.now c.args.second.now)
    (active_of which c.write_active.new.first c.write_active.new.second) (IsBeforeOrAfter file c.args.r.body))) old leaves)
