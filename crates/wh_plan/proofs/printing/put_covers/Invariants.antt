use Rattle.std.proofs.Common.{◌≡◌, ◌++◌, take}
use Rattle.std.specs.List.{flat_map}
use Rattle.wh_plan.specs.PlanText.{cover_line}
use Rattle.wh_plan.proofs.printing.put_covers.Given as goal

abbrev pub invariant-loop-cover : goal.invariant-loop-cover
invariant-loop-cover l = l.out.bytes ≡ l.fn.out.bytes ++ flat_map cover_line (take l.cover-index l.covers)
