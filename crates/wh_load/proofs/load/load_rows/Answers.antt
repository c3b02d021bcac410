use Rattle.std.proofs.Common.{length, ap, ◌∙◌, arith}
use Rattle.wh_load.proofs.EvaluationLemmas.{stored_count}
use Rattle.wh_load.proofs.load.load_rows.Goals as goal

pub limited-requires : goal.limited-requires
limited-requires g c =
    let count = ap length c.in_ok-stored_tables-in-None.ensures.tables ∙ stored_count c.args.plan.now.spec c.args.s.now in
    omega (arith, count, c.requires.numbered)
