use Rattle.wh_command.specs.Commands.{words_of}
use Rattle.wh_gen.specs.Files.{case_dir, case_spec}
use Rattle.wh_command.proofs.MakeRun.{load_goes_on, load_stops_all}
use Rattle.wh_command.proofs.make.run_case.Goals as goal

pub returns-in-Ok-clause-ends : goal.returns-in-Ok-clause-ends
returns-in-Ok-clause-ends g c =
    load_goes_on g.D.Disk.content g.D.Disk.images g.D.Disk.moment g.D.Disk.images_since (words_of c.args.names.now) _ _ _ _ _ _ case_spec case_dir g.met.D.Disk.counts_now _ _ _ _ c.load.ensures.second_same _ _ c.load.ensures.same
    c.take_changes.ensures.ends _ c.in-Ok.ensures.ends

pub returns-in-Err-clause-ends : goal.returns-in-Err-clause-ends
returns-in-Err-clause-ends g c =
    load_stops_all g.D.Disk.content g.D.Disk.images g.D.Disk.moment g.D.Disk.images_since (words_of c.args.names.now) _ _ _ _ _ _ case_spec case_dir _ c.in-Err.stop c.in-Err.ensures.ends
