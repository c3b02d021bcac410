use Rattle.std.proofs.Common.{◌≡◌, map, take}
use Rattle.wh_query_text.proofs.resolving.relation_names.Given as goal

abbrev pub invariant-loop-relation : goal.invariant-loop-relation
invariant-loop-relation l = l.names ≡ map (λ r. r.name) (take l.relation-index l.relations)
