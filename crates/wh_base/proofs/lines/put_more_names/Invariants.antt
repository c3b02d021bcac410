use Rattle.std.proofs.Common.{◌≡◌, ◌++◌, take}
use Rattle.std.specs.List.{flat_map}
use Rattle.wh_base.proofs.lines.put_more_names.Given as goal

abbrev pub invariant-loop-name : goal.invariant-loop-name
invariant-loop-name l = l.out.bytes ≡ l.initial.out.bytes ++ flat_map (λ name. l.separator ++ name) (take l.name-index l.names)
