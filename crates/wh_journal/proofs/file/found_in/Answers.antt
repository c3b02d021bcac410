use Rattle.std.proofs.Common.{refl, ap, ◌∙◌, sym, Some, arith}
use Rattle.std.proofs.lemmas.List.{length-map}
use Rattle.wh_journal.specs.Journal.{bodies_of}
use Rattle.wh_journal.proofs.Walks.{end_closed, frames_closed, some_bodies}
use Rattle.wh_journal.proofs.file.found_in.Goals as goal

pub returns-clause-found : goal.returns-clause-found
returns-clause-found c =
    let bodies = bodies_of c.in_ok-bodies.bodies in
    let w = c.in_ok-bodies.ensures.0 in
    record {
      frames = frames_closed c.args.file.now bodies w;
      some = omega (arith, some_bodies c.args.file.now bodies w (sym c.is_empty.ensures ∙ c.if-is_empty.false), length-map c.in_ok-bodies.bodies (λ t. t.bytes));
      journal = record { end = end_closed c.args.file.now bodies w ∙ ap (λ n. Some n) (sym c.in_ok-bodies.ensures.1); length = refl };
    }
