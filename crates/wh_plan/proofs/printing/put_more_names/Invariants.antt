use Rattle.std.proofs.Common.{◌≡◌, ◌++◌, take}
use Rattle.std.specs.List.{flat_map}
use Rattle.wh_query_text.specs.Printed.{name_at, list_mark}
use Rattle.wh_plan.proofs.printing.put_more_names.Given as goal

abbrev pub invariant-loop-relation : goal.invariant-loop-relation
invariant-loop-relation l = l.out.bytes ≡ l.fn.out.bytes ++ flat_map (λ r. list_mark ++ name_at l.heads r) (take l.relation-index l.relations)
