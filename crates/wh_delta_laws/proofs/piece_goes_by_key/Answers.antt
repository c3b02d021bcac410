use Rattle.wh_delta_laws.proofs.KeyValues.{piece_by_key}
use Rattle.wh_delta_laws.proofs.piece_goes_by_key.Goals as goal

pub returns : goal.returns
returns c = piece_by_key
