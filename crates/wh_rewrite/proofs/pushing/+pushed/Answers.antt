use Rattle.std.proofs.Common.{refl}
use Rattle.wh_rewrite.proofs.Arms.{arm_Base, ask_Select, arm_Select, ask_Project, arm_Project, ask_left, ask_right, arm_Join, ask_first, ask_second, arm_Union, ask_kept, ask_gone, arm_Minus, ask_Rename, arm_Rename}
use Rattle.wh_rewrite.proofs.Falls.{below_Select, below_Project, below_Rename, below_Join_left, below_Join_right, below_Union_left, below_Union_right, below_Minus_left, below_Minus_right}
use Rattle.wh_rewrite.proofs.pushing.+pushed.Goals as goal

pub returns-in-Base : goal.returns-in-Base
returns-in-Base t c = arm_Base c.args.heads.now c.args.e.now c.args.cond.now c.args.wanted.now c.in-Base.number c.over_base.result c.in-Base.is c.requires c.over_base.ensures

-- ---- a selection

pub pushed-requires : goal.pushed-requires
pushed-requires t c = (
  below_Select c.args.e.now t c.decreases c.in-Select.inner c.in-Select.part c.get.result.now c.in-Select.is c.get.ensures,
  ask_Select c.args.heads.now c.args.e.now c.args.cond.now c.in-Select.inner c.in_ok-met-in-Select.met c.args.wanted.now c.in-Select.part c.get.result.now c.in-Select.is c.get.ensures c.requires c.in_ok-met-in-Select.ensures,
)

pub returns-in_ok-met-in-Select : goal.returns-in_ok-met-in-Select
returns-in_ok-met-in-Select t c =
    arm_Select c.args.heads.now c.args.e.now c.args.cond.now c.in-Select.inner c.in_ok-met-in-Select.met c.args.wanted.now c.in-Select.part c.get.result.now c.in-Select.is c.get.ensures c.requires c.in_ok-met-in-Select.ensures
    c.pushed.result c.pushed.ensures

-- ---- a projection

pub pushed-requires-in-Project : goal.pushed-requires-in-Project
pushed-requires-in-Project t c = (
  below_Project c.args.e.now t c.decreases c.in-Project.names c.in-Project.part c.get-in-Project.result.now c.in-Project.is c.get-in-Project.ensures,
  ask_Project c.args.heads.now c.args.e.now c.args.cond.now c.in-Project.names c.args.wanted.now c.in_ok-fewer-in-Project.fewer c.in-Project.part c.get-in-Project.result.now c.in-Project.is c.get-in-Project.ensures c.requires c.in_ok-fewer-in-Project.ensures,
)

pub returns-in_ok-fewer-in-Project : goal.returns-in_ok-fewer-in-Project
returns-in_ok-fewer-in-Project t c =
    arm_Project c.args.heads.now c.args.e.now c.args.cond.now c.in-Project.names c.args.wanted.now c.in_ok-fewer-in-Project.fewer c.in-Project.part c.get-in-Project.result.now c.in-Project.is c.get-in-Project.ensures c.requires c.in_ok-fewer-in-Project.ensures
    c.pushed-in-Project.result c.pushed-in-Project.ensures

-- ---- a join

pub pushed-first-requires : goal.pushed-first-requires
pushed-first-requires t c = (
  below_Join_left c.args.e.now t c.decreases c.in-Join.left c.in-Join.right c.get-left_part.result.now c.in-Join.is c.get-left_part.ensures,
  ask_left c.args.heads.now c.args.e.now c.args.cond.now c.in_ok-parts-in-Join.parts.left c.in_ok-parts-in-Join.parts.right c.in_ok-parts-in-Join.parts.rest c.args.wanted.now c.in-Join.left c.in-Join.right c.get-left_part.result.now c.get-right_part.result.now
      c.in-Join.is c.get-left_part.ensures c.get-right_part.ensures c.requires c.in_ok-parts-in-Join.ensures.left c.in_ok-parts-in-Join.ensures.right c.in_ok-parts-in-Join.ensures.rest,
)

pub pushed-second-requires : goal.pushed-second-requires
pushed-second-requires t c = (
  below_Join_right c.args.e.now t c.decreases c.in-Join.left c.in-Join.right c.get-right_part.result.now c.in-Join.is c.get-right_part.ensures,
  ask_right c.args.heads.now c.args.e.now c.args.cond.now c.in_ok-parts-in-Join.parts.left c.in_ok-parts-in-Join.parts.right c.in_ok-parts-in-Join.parts.rest c.args.wanted.now c.in-Join.left c.in-Join.right c.get-left_part.result.now c.get-right_part.result.now
      c.in-Join.is c.get-left_part.ensures c.get-right_part.ensures c.requires c.in_ok-parts-in-Join.ensures.left c.in_ok-parts-in-Join.ensures.right c.in_ok-parts-in-Join.ensures.rest,
)

pub returns-in_ok-parts-in-Join : goal.returns-in_ok-parts-in-Join
returns-in_ok-parts-in-Join t c =
    arm_Join c.args.heads.now c.args.e.now c.args.cond.now c.in_ok-parts-in-Join.parts.left c.in_ok-parts-in-Join.parts.right c.in_ok-parts-in-Join.parts.rest c.args.wanted.now c.in-Join.left c.in-Join.right c.get-left_part.result.now c.get-right_part.result.now
    c.in-Join.is c.get-left_part.ensures c.get-right_part.ensures c.requires c.in_ok-parts-in-Join.ensures.left c.in_ok-parts-in-Join.ensures.right c.in_ok-parts-in-Join.ensures.rest
    c.pushed-first.result c.pushed-second.result c.over_join.result c.pushed-first.ensures c.pushed-second.ensures c.over_join.ensures

-- ---- a union

pub pushed-first-requires-in-Union : goal.pushed-first-requires-in-Union
pushed-first-requires-in-Union t c = (
  below_Union_left c.args.e.now t c.decreases c.in-Union.left c.in-Union.right c.get-in-Union.result.now c.in-Union.is c.get-in-Union.ensures,
  ask_first c.args.heads.now c.args.e.now c.args.cond.now c.args.wanted.now c.in-Union.left c.in-Union.right c.get-in-Union.result.now c.in-Union.right c.get-in-Union.ensures refl c.requires c.in-Union.is,
)

pub pushed-second-requires-in-Union : goal.pushed-second-requires-in-Union
pushed-second-requires-in-Union t c = (
  below_Union_right c.args.e.now t c.decreases c.in-Union.left c.in-Union.right c.get-in-Union-2.result.now c.in-Union.is c.get-in-Union-2.ensures,
  ask_second c.args.heads.now c.args.e.now c.args.cond.now c.args.wanted.now c.in-Union.left c.in-Union.right c.get-in-Union.result.now c.get-in-Union-2.result.now c.get-in-Union.ensures c.get-in-Union-2.ensures c.requires c.in-Union.is,
)

pub returns-in-Union : goal.returns-in-Union
returns-in-Union t c =
    arm_Union c.args.heads.now c.args.e.now c.args.cond.now c.args.wanted.now c.in-Union.left c.in-Union.right c.get-in-Union.result.now c.get-in-Union-2.result.now c.get-in-Union.ensures c.get-in-Union-2.ensures c.requires c.in-Union.is
    c.pushed-first-in-Union.result c.pushed-second-in-Union.result c.united.result c.pushed-first-in-Union.ensures c.pushed-second-in-Union.ensures c.united.ensures

-- ---- a difference

pub pushed-first-requires-in-Minus : goal.pushed-first-requires-in-Minus
pushed-first-requires-in-Minus t c = (
  below_Minus_left c.args.e.now t c.decreases c.in-Minus.left c.in-Minus.right c.get-in-Minus.result.now c.in-Minus.is c.get-in-Minus.ensures,
  ask_kept c.args.heads.now c.args.e.now c.args.cond.now c.args.wanted.now c.in-Minus.left c.in-Minus.right c.get-in-Minus.result.now c.in-Minus.right c.get-in-Minus.ensures refl c.requires c.in-Minus.is,
)

pub pushed-second-requires-in-Minus : goal.pushed-second-requires-in-Minus
pushed-second-requires-in-Minus t c = (
  below_Minus_right c.args.e.now t c.decreases c.in-Minus.left c.in-Minus.right c.get-in-Minus-2.result.now c.in-Minus.is c.get-in-Minus-2.ensures,
  ask_gone c.args.heads.now c.args.e.now c.args.cond.now c.args.wanted.now c.in-Minus.left c.in-Minus.right c.get-in-Minus.result.now c.get-in-Minus-2.result.now c.get-in-Minus.ensures c.get-in-Minus-2.ensures c.requires c.in-Minus.is,
)

pub returns-in-Minus : goal.returns-in-Minus
returns-in-Minus t c =
    arm_Minus c.args.heads.now c.args.e.now c.args.cond.now c.args.wanted.now c.in-Minus.left c.in-Minus.right c.get-in-Minus.result.now c.get-in-Minus-2.result.now c.get-in-Minus.ensures c.get-in-Minus-2.ensures c.requires c.in-Minus.is
    c.pushed-first-in-Minus.result c.pushed-second-in-Minus.result c.over_minus.result c.pushed-first-in-Minus.ensures c.pushed-second-in-Minus.ensures c.over_minus.ensures

-- ---- new names

pub pushed-inner-requires : goal.pushed-inner-requires
pushed-inner-requires t c = (
  below_Rename c.args.e.now t c.decreases c.in-Rename.pairs c.in-Rename.part c.get-renamed_part.result.now c.in-Rename.is c.get-renamed_part.ensures,
  ask_Rename c.args.heads.now c.args.e.now c.args.cond.now c.in_ok-old-in-Rename.old c.in-Rename.pairs c.args.wanted.now c.in-Rename.part c.get-renamed_part.result.now c.in-Rename.is c.get-renamed_part.ensures c.requires c.in_ok-old-in-Rename.ensures,
)

pub returns-in_ok-old-in-Rename : goal.returns-in_ok-old-in-Rename
returns-in_ok-old-in-Rename t c =
    arm_Rename c.args.heads.now c.args.e.now c.args.cond.now c.in_ok-old-in-Rename.old c.in-Rename.pairs c.args.wanted.now c.in-Rename.part c.get-renamed_part.result.now c.in-Rename.is c.get-renamed_part.ensures c.requires c.in_ok-old-in-Rename.ensures
    c.pushed-inner.result c.over_rename.result c.pushed-inner.ensures c.over_rename.ensures
