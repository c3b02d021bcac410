use Rattle.std.proofs.Common.{◌≡◌, ℕ, true, length, nat_lt, sym, ap, subst, ◌∙◌}
use Rattle.wh_expr.specs.Meaning.{uses_only}
use Rattle.wh_tests.proofs.overlay_tests.changes_are_told.Goals as goal

pub is_told-requires-clause-joined : goal.is_told-requires-clause-joined
is_told-requires-clause-joined g c =
    let same : length c.in_ok-twice.twice.deltas.now ≡ 2 = ap length c.in_ok-twice.ensures.deltas ∙ c.requires.second in
    subst (λ (count : ℕ). uses_only (λ n. nat_lt n count) c.args.joined.now ≡ true) (sym same) c.requires.joined
