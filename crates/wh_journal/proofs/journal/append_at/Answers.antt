use Rattle.std.proofs.Common.{◌≡◌, ℕ, ◌+◌, ◌<◌, ◌^◌, List, length, subst, Option, arith}
use Rattle.std.specs.Option.{option_map}
use Rattle.wh_io.specs.Disk.{written}
use Rattle.wh_journal.specs.File.{framed}
use Rattle.wh_journal.proofs.Told.{Behind, behind_leaves, both_leave, file_after, frames_after, on_ok_map, place_after}
use Rattle.wh_journal.proofs.journal.append_at.Goals as goal

-- what was written behind the mark is the frame
framed_behind : (body bytes : List ℕ) (end : ℕ) (fits : length body < 2 ^ 64) (content middle : Option (List ℕ)) → bytes ≡ framed body → middle ≡ option_map (λ (file : List ℕ). written file (end + 1) bytes) content
    → Behind body end fits content middle
framed_behind body bytes end fits content middle e is = subst (λ (b : List ℕ). middle ≡ option_map (λ (file : List ℕ). written file (end + 1) b) content) e is

pub returns-in_err-write_settled-clause-any_moment : goal.returns-in_err-write_settled-clause-any_moment
returns-in_err-write_settled-clause-any_moment g c = λ settled.
    behind_leaves c.args.f.now c.args.end (omega arith) g.D.Disk.moment g.D.Disk.images_since _ _ _ _ c.requires.place (c.write_settled.ensures.any_moment settled)

pub returns-clause-file : goal.returns-clause-file
returns-clause-file g c =
    let fits : length c.args.f.now < 2 ^ 64 = omega arith in
    let first = framed_behind c.args.f.now _ c.args.end fits _ _ c.as_bytes.ensures c.in_ok-write_settled.ensures.ok in
    on_ok_map c.write_settled-2.result _ _ (file_after c.args.f.now c.args.end fits _ _ _ c.requires.place first) c.write_settled-2.ensures.ok

pub returns-clause-frames : goal.returns-clause-frames
returns-clause-frames g c =
    let fits : length c.args.f.now < 2 ^ 64 = omega arith in
    let first = framed_behind c.args.f.now _ c.args.end fits _ _ c.as_bytes.ensures c.in_ok-write_settled.ensures.ok in
    on_ok_map c.write_settled-2.result _ _ (λ opened. frames_after c.args.f.now c.args.end fits _ _ c.requires.place (file_after c.args.f.now c.args.end fits _ _ _ c.requires.place first opened)) c.write_settled-2.ensures.ok

pub returns-clause-end : goal.returns-clause-end
returns-clause-end g c =
    let fits : length c.args.f.now < 2 ^ 64 = omega arith in
    let first = framed_behind c.args.f.now _ c.args.end fits _ _ c.as_bytes.ensures c.in_ok-write_settled.ensures.ok in
    on_ok_map c.write_settled-2.result _ _ (λ opened. place_after c.args.f.now c.args.end fits _ _ c.requires.place (file_after c.args.f.now c.args.end fits _ _ _ c.requires.place first opened)) c.write_settled-2.ensures.ok

pub returns-clause-any_moment : goal.returns-clause-any_moment
returns-clause-any_moment g c = λ settled.
    let fits : length c.args.f.now < 2 ^ 64 = omega arith in
    let first = framed_behind c.args.f.now _ c.args.end fits _ _ c.as_bytes.ensures c.in_ok-write_settled.ensures.ok in
    both_leave c.args.f.now c.args.end fits g.D.Disk.moment g.D.Disk.images_since _ _ _ _ _ _ c.requires.place first (c.write_settled.ensures.any_moment settled)
    (c.write_settled-2.ensures.any_moment c.in_ok-write_settled.ensures.durable)
