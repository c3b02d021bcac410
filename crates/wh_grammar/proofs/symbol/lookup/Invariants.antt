use Rattle.std.proofs.Common.{◌≡◌, length, map}
use Rattle.wh_grammar.specs.Symbols.{lookup}
use Rattle.wh_grammar.proofs.symbol.lookup.Given as goal

abbrev pub invariant-loop-table : goal.invariant-loop-table
invariant-loop-table l = lookup (map (λ k. (k.0.now, k.1)) l.table) l.word l.other ≡ lookup (map (λ k. (k.0.now, k.1)) l.initial.table) l.word l.other

abbrev pub decreases-loop-table : goal.decreases-loop-table
decreases-loop-table l = length l.table
