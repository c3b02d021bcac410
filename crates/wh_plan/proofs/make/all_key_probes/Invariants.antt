use Rattle.std.proofs.Common.{◌≡◌, map}
use Rattle.wh_plan.specs.Expressions.{key_probes}
use Rattle.wh_schema.specs.Warehouse.{pieces, numbers}
use Rattle.wh_plan.proofs.make.all_key_probes.Given as goal

abbrev pub invariant-loop-relation : goal.invariant-loop-relation
invariant-loop-relation l = l.bounds ≡ map (λ i. key_probes (pieces l.spec i)) (numbers l.relation)
