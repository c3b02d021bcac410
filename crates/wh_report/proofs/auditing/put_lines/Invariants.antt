use Rattle.std.proofs.Common.{◌≡◌, ◌++◌, take}
use Rattle.std.specs.List.{flat_map}
use Rattle.wh_report.specs.Audit.{signed_line}
use Rattle.wh_report.proofs.auditing.put_lines.Given as goal

abbrev pub invariant-loop-row : goal.invariant-loop-row
invariant-loop-row l = l.text.bytes ≡ l.initial.text.bytes ++ flat_map (signed_line l.sign l.name) (take l.row-index l.rows)
