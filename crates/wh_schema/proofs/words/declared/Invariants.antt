use Rattle.std.proofs.Common.{◌≡◌, ◌≤◌, length, take}
use Rattle.wh_schema.specs.Rules.{declared}
use Rattle.wh_schema.proofs.words.declared.Given as goal

abbrev pub invariant-loop-statement : goal.invariant-loop-statement
invariant-loop-statement l = record {
  so_far : l.spec ≡ declared (take l.statement-index l.statements);
  within : length l.spec.relations ≤ l.statement-index;
}
