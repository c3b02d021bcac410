use Rattle.wh_laws.proofs.LeastPaths.{first_cycle}
use Rattle.wh_laws.proofs.cycle_is_first.Goals as goal

pub returns : goal.returns
returns c = λ spec wf from to h. first_cycle spec from (λ d k. let f = wf.inclusions d k in (f.left, f.right)) to h
