use Rattle.std.proofs.Common.{◌≡◌, ◌++◌, take, decimal}
use Rattle.std.specs.List.{flat_map}
use Rattle.wh_query_text.specs.Printed.{list_mark}
use Rattle.wh_plan.proofs.printing.put_more_numbers.Given as goal

abbrev pub invariant-loop-number : goal.invariant-loop-number
invariant-loop-number l = l.out.bytes ≡ l.fn.out.bytes ++ flat_map (λ i. list_mark ++ decimal i) (take l.number-index l.cover)
