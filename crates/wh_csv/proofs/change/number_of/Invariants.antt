use Rattle.std.proofs.Common.{◌≡◌, ◌+◌, drop, map}
use Rattle.wh_base.specs.Columns.{place_of}
use Rattle.wh_csv.proofs.change.number_of.Given as goal

abbrev pub invariant-loop-number : goal.invariant-loop-number
invariant-loop-number l = place_of (map (λ r. r.name) l.spec.relations) l.name ≡ l.number + place_of (map (λ r. r.name) (drop l.number l.spec.relations)) l.name
