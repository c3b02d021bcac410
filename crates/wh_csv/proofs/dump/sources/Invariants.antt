use Rattle.std.proofs.Common.{◌≡◌, map, take}
use Rattle.wh_base.specs.Columns.{place_of}
use Rattle.wh_csv.proofs.dump.sources.Given as goal

abbrev pub invariant-loop-attr : goal.invariant-loop-attr
invariant-loop-attr l = l.sources.items ≡ map (λ a. record { kind = a.kind; place = place_of l.header a.name }) (take l.attr-index l.attrs)
