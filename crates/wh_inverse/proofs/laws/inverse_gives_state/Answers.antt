use Rattle.wh_inverse.proofs.GivenLemmas.{gives-relation, gives-view}
use Rattle.wh_inverse.proofs.laws.inverse_gives_state.Goals as goal

pub returns : goal.returns
returns c = λ spec s rows legal same. (gives-relation spec s rows legal same, gives-view spec s rows legal same)
