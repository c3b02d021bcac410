use Rattle.std.proofs.Common.{◌≡◌, ◌++◌, take, map}
use Rattle.wh_schema.specs.Heads.{relation_head, view_head, complement_head}
use Rattle.wh_schema.proofs.table_heads.heads.Given as goal

abbrev pub invariant-loop-relation : goal.invariant-loop-relation
invariant-loop-relation l = l.heads ≡ map relation_head (take l.relation-index l.relation-items)

abbrev pub invariant-loop-view : goal.invariant-loop-view
invariant-loop-view l = l.heads ≡ map relation_head l.spec.relations ++ map (view_head l.spec) (take l.view-index l.view-items)

abbrev pub invariant-loop-relation-2 : goal.invariant-loop-relation-2
invariant-loop-relation-2 l = l.heads ≡ map relation_head l.spec.relations ++ map (view_head l.spec) l.spec.views ++ map complement_head (take l.relation-index l.relation-items)
