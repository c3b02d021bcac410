use Rattle.std.proofs.Common.{◌≡◌, ◌∙◌, ◌∷◌, [], arith, refl, ap, sym, subst, length, List, ℕ, IsPermutation}
use Rattle.wh_table.specs.Table.{IsIndexed}
use Rattle.wh_table_tests.proofs.OneRow.{both_turned}
use Rattle.wh_table_tests.proofs.rows.with_both.Goals as goal

pub probe-requires-clause-indexed : goal.probe-requires-clause-indexed
probe-requires-clause-indexed g c =
    subst (λ (sets : List (List ℕ)). IsIndexed sets c.in_ok-cols.cols) (sym c.requires)
    (2, 0 ∷ 1 ∷ [], omega arith, refl, subst (IsPermutation {X = ℕ} (0 ∷ 1 ∷ [])) (sym c.in_ok-cols.ensures) both_turned)

pub probe-requires-clause-one_each : goal.probe-requires-clause-one_each
probe-requires-clause-one_each g c = c.in_ok-vals.ensures ∙ sym (ap (λ (ps : List ℕ). length ps) c.in_ok-cols.ensures)
