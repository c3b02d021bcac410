use Rattle.std.proofs.Common.{◌≡◌, ◌++◌, take}
use Rattle.std.specs.List.{flat_map}
use Rattle.wh_query_text.specs.Printed.{list_mark, renaming_text}
use Rattle.wh_query_text.proofs.expressions.put_more_renamings.Given as goal

abbrev pub invariant-loop-renaming : goal.invariant-loop-renaming
invariant-loop-renaming l = l.out.bytes ≡ l.fn.out.bytes ++ flat_map (λ p. list_mark ++ renaming_text p) (take l.renaming-index l.renamings)
