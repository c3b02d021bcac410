use Rattle.std.proofs.Common.{◌≡◌, ℕ, drop, List, [], ◌++◌, IfSome}
use Rattle.wh_load.specs.Load.{HasDistinctRows}
use Rattle.wh_schema.specs.Warehouse.{State}
use Rattle.wh_command.specs.Inputs.{dump_files, AreDumpsOf, IsNextDump}
use Rattle.wh_command.proofs.inputs.read_dumps.Given as goal

abbrev pub invariant-loop-relation : goal.invariant-loop-relation
invariant-loop-relation g l = record {
  same : g.F.Files.held l.files ≡ g.F.Files.held l.initial.files;
  faults : g.F.Files.faults l.files ≡ g.F.Files.faults l.initial.files;
  distinct : HasDistinctRows l.state;
  dumps : (more : State) → AreDumpsOf (drop l.relation-index l.relations) more → AreDumpsOf l.relations (l.state ++ more);
  found : IfSome (g.F.Files.held l.initial.files) (λ held. dump_files held l.dir [] l.relations ≡ dump_files held l.dir l.state (drop l.relation-index l.relations));
  next : IfSome (g.F.Files.held l.initial.files) (λ held. (file : List ℕ) → IsNextDump held l.dir (drop l.relation-index l.relations) file → IsNextDump held l.dir l.relations file);
}
