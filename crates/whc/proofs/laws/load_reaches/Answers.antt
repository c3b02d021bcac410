use Rattle.whc.proofs.Loaded.{load_reached}
use Rattle.whc.proofs.laws.load_reaches.Goals as goal

pub returns : goal.returns
returns c = λ spec_name dir held start state reached. load_reached held spec_name dir start state reached
