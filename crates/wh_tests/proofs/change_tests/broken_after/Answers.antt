use Rattle.std.proofs.Common.{◌≡◌, List, map, true, sym, subst}
use Rattle.wh_base.specs.declared.value.Delta.{Delta}
use Rattle.wh_fit.specs.Fit.{as_line}
use Rattle.wh_store.specs.Image.{apply_to}
use Rattle.wh_check.specs.Check.{held_sources}
use Rattle.wh_check.proofs.NetLemmas.{net_applies}
use Rattle.wh_tests.proofs.change_tests.broken_after.Goals as goal

pub first_broken-requires-clause-deltas : goal.first_broken-requires-clause-deltas
first_broken-requires-clause-deltas c = λ i is.
    subst (λ (d : List Delta). apply_to (held_sources i) d ≡ true) (sym (c.in_ok-deltas.ensures.deltas i is)) (net_applies i (map as_line c.args.change.now))
