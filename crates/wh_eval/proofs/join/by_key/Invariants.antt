use Rattle.std.proofs.Common.{take}
use Rattle.wh_eval.specs.Partners.{PartnersIn}
use Rattle.wh_eval.proofs.join.by_key.Given as goal

abbrev pub invariant-loop-row : goal.invariant-loop-row
invariant-loop-row l = PartnersIn l.partners l.key_places l.rest_places (take l.row-index l.rows)
