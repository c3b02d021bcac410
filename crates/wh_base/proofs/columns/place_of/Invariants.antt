use Rattle.std.proofs.Common.{◌≡◌, ◌+◌, drop, map}
use Rattle.wh_base.specs.Columns.{place_of}
use Rattle.wh_base.proofs.columns.place_of.Given as goal

abbrev pub invariant-loop-place : goal.invariant-loop-place
invariant-loop-place g l = place_of (map g.N.Named.name_of l.columns) l.name ≡ l.place + place_of (map g.N.Named.name_of (drop l.place l.columns)) l.name
