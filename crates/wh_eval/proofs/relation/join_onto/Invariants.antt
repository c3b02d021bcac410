use Rattle.std.proofs.Common.{◌≡◌, map, fold, take}
use Rattle.wh_base.specs.Tables.{join}
use Rattle.wh_eval.specs.Relation.{table_of}
use Rattle.wh_eval.proofs.relation.join_onto.Given as goal

abbrev pub invariant-loop-other : goal.invariant-loop-other
invariant-loop-other l = table_of l.joined ≡ fold join (table_of l.fn.first) (map table_of (take l.other-index l.others))
