use Rattle.std.proofs.Common.{◌≡◌, take}
use Rattle.std.specs.List.{flat_map}
use Rattle.wh_io.specs.Sink.{gained}
use Rattle.wh_command.specs.Show.{table_texts}
use Rattle.wh_command.proofs.show.write_tables.Given as goal

abbrev pub invariant-loop-number : goal.invariant-loop-number
invariant-loop-number g l = record {
  taken : g.O.Sink.taken l.out ≡ gained (g.O.Sink.taken l.initial.out) (flat_map (λ text. text) (take l.number (table_texts l.shown)));
  kept : g.O.Sink.faults l.out ≡ g.O.Sink.faults l.initial.out;
}
