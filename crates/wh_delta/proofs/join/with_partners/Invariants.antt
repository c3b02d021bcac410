use Rattle.std.proofs.Common.{◌≡◌, ◌++◌, map, take}
use Rattle.wh_base.specs.Columns.{picked}
use Rattle.wh_delta.proofs.join.with_partners.Given as goal

abbrev pub invariant-loop-partner : goal.invariant-loop-partner
invariant-loop-partner l = l.rows ≡ map (λ partner. l.row ++ picked l.rest partner) (take l.partner-index l.partners)
