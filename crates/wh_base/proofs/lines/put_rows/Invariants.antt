use Rattle.std.proofs.Common.{◌≡◌, ◌++◌, take}
use Rattle.std.specs.List.{flat_map}
use Rattle.wh_base.specs.Lines.{line, csv_record}
use Rattle.wh_base.proofs.lines.put_rows.Given as goal

abbrev pub invariant-loop-row : goal.invariant-loop-row
invariant-loop-row l = l.out.bytes ≡ l.initial.out.bytes ++ flat_map (λ row. line (csv_record row)) (take l.row-index l.rows)
