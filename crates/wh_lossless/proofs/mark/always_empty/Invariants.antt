use Rattle.std.proofs.Common.{◌≡◌, drop}
use Rattle.std.specs.List.{list_any}
use Rattle.wh_schema.specs.EmptyMark.{is_lossless}
use Rattle.wh_lossless.proofs.mark.always_empty.Given as goal

abbrev pub invariant-loop-view : goal.invariant-loop-view
invariant-loop-view l = list_any (is_lossless l.spec l.rel) l.spec.views ≡ list_any (is_lossless l.spec l.rel) (drop l.view-index l.spec.views)
