use Rattle.std.proofs.Common.{◌≡◌, map, take}
use Rattle.wh_base.specs.Value.{kinds}
use Rattle.wh_csv.proofs.change.relation_kinds.Given as goal

abbrev pub invariant-loop-relation : goal.invariant-loop-relation
invariant-loop-relation l = l.kinds ≡ map (λ r. kinds r.attrs) (take l.relation-index l.spec.relations)
