use Rattle.std.proofs.Common.{◌∙◌, ap}
use Rattle.wh_gen.specs.Texts.{texts_of}
use Rattle.wh_command.specs.Commands.{words_of}
use Rattle.wh_command.proofs.MakeRun.{case_made, case_unmade, never_fails}
use Rattle.wh_command.proofs.make.make.Goals as goal

pub returns-in-Ok-clause-ends : goal.returns-in-Ok-clause-ends
returns-in-Ok-clause-ends g c =
    case_made g.D.Disk.content g.D.Disk.images g.D.Disk.moment g.D.Disk.images_since c.args.number c.args.size _ _ _ _ _ _ (texts_of c.in-Ok.files.case) (words_of c.as_slice.result.now) _ c.in-Ok.ensures.case (ap words_of c.as_slice.ensures.value ∙ c.in-Ok.ensures.names) c.run_case.ensures.ends

pub returns-in-Ok-clause-read : goal.returns-in-Ok-clause-read
returns-in-Ok-clause-read g c = never_fails _ c.run_case.ensures.read

pub returns-in-Err-clause-ends : goal.returns-in-Err-clause-ends
returns-in-Err-clause-ends g c = case_unmade g.D.Disk.content g.D.Disk.images g.D.Disk.moment g.D.Disk.images_since c.args.number c.args.size _ _ _ g.met.D.Disk.only_now
