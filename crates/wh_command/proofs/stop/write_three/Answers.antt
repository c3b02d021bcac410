use Rattle.std.proofs.Common.{◌++◌, ◌∙◌, ap, Option, List, ℕ}
use Rattle.wh_io.specs.Sink.{gained}
use Rattle.wh_io.proofs.Gained.{gained_twice, prefix_within, prefix_then, on_err, on_err_map}
use Rattle.wh_command.proofs.stop.write_three.Goals as goal

pub returns-in_err-write_all-2-clause-err : goal.returns-in_err-write_all-2-clause-err
returns-in_err-write_all-2-clause-err g c =
    let first = c.args.first.now in
    let second = c.args.second.now in
    on_err _ _ (prefix_within _ _ (first ++ second) c.args.last.now (prefix_then _ _ _ first second c.in_ok-write_all.ensures.ok c.in_err-write_all-2.ensures.err))

pub returns-clause-err : goal.returns-clause-err
returns-clause-err g c =
    let first = c.args.first.now in
    let second = c.args.second.now in
    let both = c.in_ok-write_all-2.ensures.ok ∙ ap (λ (t : Option (List ℕ)). gained t second) c.in_ok-write_all.ensures.ok ∙ gained_twice _ first second in
    on_err_map c.write_all-3.result _ _ (prefix_then _ _ _ (first ++ second) c.args.last.now both) c.write_all-3.ensures.err
