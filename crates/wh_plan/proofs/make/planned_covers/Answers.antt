use Rattle.std.proofs.Common.{sym, subst, length, ◌<◌, ◌^◌, List}
use Rattle.wh_schema.specs.declared.piece.Piece.{Piece}
use Rattle.wh_plan.proofs.PlanLemmas.{few_pieces}
use Rattle.wh_plan.proofs.make.planned_covers.Goals as goal

pub covers-requires : goal.covers-requires
covers-requires c = subst (λ (ps : List Piece). length ps < 2 ^ 32) (sym c.requires.pieces) (few_pieces c.args.spec.now c.args.relation c.requires.numbered)
