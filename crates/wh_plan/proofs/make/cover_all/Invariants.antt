use Rattle.std.proofs.Common.{◌≡◌, map, drop}
use Rattle.wh_plan.specs.Plan.{all_pieces, relation_covers, first_too_many, too_many}
use Rattle.wh_schema.specs.Warehouse.{numbers, pieces}
use Rattle.wh_plan.proofs.make.cover_all.Given as goal

abbrev pub invariant-loop-relation : goal.invariant-loop-relation
invariant-loop-relation l = record {
  pieces_so_far : l.covered.pieces ≡ map (pieces l.spec) (numbers l.relation);
  covers_so_far : l.covered.covers ≡ map (relation_covers l.spec) (numbers l.relation);
  none_too_many : too_many l.spec ≡ first_too_many l.relation (drop l.relation (all_pieces l.spec));
}
