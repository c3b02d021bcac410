use Rattle.std.proofs.Common.{◌≡◌, ◌≤◌, drop, Some}
use Rattle.wh_io.specs.Files.{Held}
use Rattle.wh_store.specs.Image.{Active}
use Rattle.wh_command.specs.Commands.{words_of}
use Rattle.wh_command.specs.Refresh.{IsRefreshStatus}
use Rattle.wh_command.specs.RefreshSteps.{IsReady, Midway, StandsAt}
use Rattle.wh_command.proofs.refresh.refresh_all.Given as goal

abbrev pub invariant-loop-name : goal.invariant-loop-name
invariant-loop-name g l = record {
  same : g.F.Files.held l.files ≡ g.F.Files.held l.initial.files;
  read : g.F.Files.faults l.files ≡ g.F.Files.faults l.initial.files;
  write : g.O.Sink.faults l.out ≡ g.O.Sink.faults l.initial.out;
  first_faults : g.D.Disk.faults l.first ≡ g.D.Disk.faults l.initial.first;
  second_faults : g.D.Disk.faults l.second ≡ g.D.Disk.faults l.initial.second;
  first_reads : g.D.Disk.reads l.first ≡ g.D.Disk.reads l.initial.first;
  second_reads : g.D.Disk.reads l.second ≡ g.D.Disk.reads l.initial.second;
  probes : l.initial.steps.probes ≤ l.steps.probes;
  scans : l.initial.steps.scans ≤ l.steps.scans;
  ready : IsReady g.D.Disk.content l.first l.second l.w l.place;
  done : IsRefreshStatus l.status;
  midway : (h : Held) (active : Active) → g.F.Files.held l.initial.files ≡ Some h → StandsAt g.D.Disk.content g.D.Disk.images l.initial.first l.initial.second active l.initial.w l.initial.place
      → Midway g.D.Disk.content g.D.Disk.images g.D.Disk.moment g.D.Disk.images_since h (words_of l.names) (words_of (drop l.name-index l.names)) l.status active l.initial.first l.first l.initial.second l.second (g.O.Sink.taken l.initial.out) (g.O.Sink.taken l.out) l.w l.place;
}
