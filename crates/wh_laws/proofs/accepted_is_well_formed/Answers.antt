use Rattle.wh_schema.specs.Rules.{empty_spec}
use Rattle.wh_laws.proofs.Accepting.{accepted, empty_within, empty_well}
use Rattle.wh_laws.proofs.accepted_is_well_formed.Goals as goal

pub returns : goal.returns
returns c = λ statements spec e. let gave = accepted statements 1 empty_spec spec e in (gave.is, gave.within empty_within, λ p. gave.well p empty_well)
