use Rattle.std.proofs.Common.{◌≡◌, map, take}
use Rattle.wh_query_text.proofs.resolving.view_names.Given as goal

abbrev pub invariant-loop-view : goal.invariant-loop-view
invariant-loop-view l = l.names ≡ map (λ v. v.name) (take l.view-index l.views)
