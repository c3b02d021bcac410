use Rattle.std.proofs.Common.{◌≡◌, filter, take}
use Rattle.wh_plan.specs.Expressions.{is_change, renamings}
use Rattle.wh_plan.proofs.pieces.changes.Given as goal

abbrev pub invariant-loop-attr : goal.invariant-loop-attr
invariant-loop-attr l = l.pairs ≡ filter is_change (renamings l.inclusion (take l.attr-index l.attrs))
