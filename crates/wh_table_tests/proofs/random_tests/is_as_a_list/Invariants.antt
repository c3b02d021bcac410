use Rattle.std.proofs.Common.{◌≡◌, ◌∷◌, []}
use Rattle.wh_table_tests.proofs.random_tests.is_as_a_list.Given as goal

abbrev pub invariant-loop : goal.invariant-loop
invariant-loop l = l.table.indexes ≡ (0 ∷ []) ∷ (1 ∷ []) ∷ (0 ∷ 1 ∷ []) ∷ []
