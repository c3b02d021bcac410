use Rattle.std.proofs.Common.{◌≡◌, ◌++◌, take}
use Rattle.std.specs.List.{flat_map}
use Rattle.wh_codec.proofs.part.put_many.Given as goal

abbrev pub invariant-loop-part : goal.invariant-loop-part
invariant-loop-part g l = l.out.bytes ≡ l.initial.out.bytes ++ flat_map g.T.Part.spelling (take l.part-index l.parts)
