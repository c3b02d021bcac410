use Rattle.wh_runs.proofs.Showing.{reached_led}
use Rattle.wh_runs.proofs.shown.reached_is_led.Goals as goal

pub returns : goal.returns
returns g c = λ command held start d premise reached. reached_led g.C.Commands.program g.C.Commands.sound command held start d premise reached
