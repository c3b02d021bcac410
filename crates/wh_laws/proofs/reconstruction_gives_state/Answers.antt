use Rattle.std.proofs.Common.{refl}
use Rattle.wh_schema.specs.Warehouse.{stored}
use Rattle.wh_laws.proofs.Reconstruction.{reconstruction_gives, same_rows_is}
use Rattle.wh_laws.proofs.reconstruction_gives_state.Goals as goal

pub returns : goal.returns
returns c = λ spec s a. reconstruction_gives spec s a.rules a.state a.legal (stored spec s) (λ k. same_rows_is _ _ refl)
