use Rattle.std.proofs.Common.{◌≡◌, take, map}
use Rattle.wh_command.proofs.inputs.relation_names.Given as goal

abbrev pub invariant-loop-relation : goal.invariant-loop-relation
invariant-loop-relation l = l.names ≡ map (λ r. r.name) (take l.relation-index l.relation-items)
