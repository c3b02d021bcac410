use Rattle.std.proofs.Common.{refl}
use Rattle.wh_runs.specs.Disks.{both, form}
use Rattle.wh_runs.proofs.Begun.{begun, has_first, none_found, writes_first}
use Rattle.wh_runs.proofs.creating.begin.Goals as goal

pub returns-in-Ok-eq0-clause-begun : goal.returns-in-Ok-eq0-clause-begun
returns-in-Ok-eq0-clause-begun g c =
    let before = both c.args.first.now c.args.second.now in
    let mid = both c.both_counted.new.first c.both_counted.new.second in
    let after = both c.write_first.new.first c.both_counted.new.second in
    let found = none_found (form g.D.Disk) before mid c.both_counted.result c.in-Ok-eq0.field-0 c.in-Ok-eq0.is c.in-Ok-eq0.field-0-test c.both_counted.ensures.count in
    begun (form g.D.Disk) before after c.write_first.result c.write_first.ensures.not_before
    (writes_first (form g.D.Disk) before mid after c.both_counted.ensures.unwritten (λ d told. (found d told).0) (λ d told. (found d told).1) refl c.write_first.ensures.writes)
    (λ no_fault. has_first (form g.D.Disk) before mid after c.both_counted.ensures.unwritten (λ d told. (found d told).0) (λ d told. (found d told).1) refl (c.write_first.ensures.written no_fault))
