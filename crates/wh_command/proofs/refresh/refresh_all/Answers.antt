use Rattle.std.proofs.Common.{◌∙◌, refl, arith}
use Rattle.std.specs.Prelude.{String, string_bytes}
use Rattle.std.specs.declared.alloc.Global.{Global}
use Rattle.wh_command.specs.Commands.{words_of}
use Rattle.wh_command.proofs.RefreshAll.{midway_begin, go_on, go_off, go_over, kept_status}
use Rattle.wh_command.proofs.refresh.refresh_all.Goals as goal

pub loop-name-init : goal.loop-name-init
loop-name-init g c = record {
  same = refl;
  read = refl;
  write = refl;
  first_faults = refl;
  second_faults = refl;
  first_reads = refl;
  second_reads = refl;
  probes = omega arith;
  scans = omega arith;
  ready = c.requires.ready;
  done = tt;
  midway = λ h active held stands. midway_begin g.D.Disk.content g.D.Disk.images g.D.Disk.moment g.D.Disk.images_since h (words_of c.args.names.now) active _ _ _ _ _ g.met.D.Disk.only_now stands;
}

pub loop-name-preserved : goal.loop-name-preserved
loop-name-preserved g c =
    let loop = c.loop-name.invariant in
    let one = c.in-Ok.ensures in
    record {
      same = one.same ∙ loop.same;
      read = one.read ∙ loop.read;
      write = one.write ∙ loop.write;
      first_faults = one.disk.0 ∙ loop.first_faults;
      second_faults = one.disk.1 ∙ loop.second_faults;
      first_reads = one.first_reads ∙ loop.first_reads;
      second_reads = one.second_reads ∙ loop.second_reads;
      probes = omega (arith, one.probes, loop.probes);
      scans = omega (arith, one.scans, loop.scans);
      ready = one.ready;
      done = kept_status c.loop-name.status c.in-Ok.found c.first_status-status.result c.first_status-status.ensures loop.done one.done;
      midway =
          go_on g.D.Disk.content g.D.Disk.images g.D.Disk.moment g.D.Disk.images_since (λ (s : String Global). string_bytes s) c.args.names.now _ _ loop.same _ _ _ _ _ c.loop-name.name-index c.name-item.result c.as_str.result.now c.loop-name-test.true c.as_str.ensures.value c.name-item.is
          c.loop-name.status _ _ _ _ _ _ _ _ _ _ loop.midway c.in-Ok.found c.first_status-status.result c.first_status-status.ensures one.takes;
    }

pub returns-in-Err-clause-takes : goal.returns-in-Err-clause-takes
returns-in-Err-clause-takes g c =
    let loop = c.loop-name.invariant in
    go_off g.D.Disk.content g.D.Disk.images g.D.Disk.moment g.D.Disk.images_since (λ (s : String Global). string_bytes s) c.args.names.now _ _ loop.same _ _ _ _ _ c.loop-name.name-index c.name-item.result c.as_str.result.now c.loop-name-test.true c.as_str.ensures.value c.name-item.is
    c.loop-name.status _ _ _ _ _ _ _ _ _ _ loop.midway c.in-Err.stop c.in-Err.ensures.takes

pub returns-clause-takes : goal.returns-clause-takes
returns-clause-takes g c =
    let loop = c.loop-name.invariant in
    go_over g.D.Disk.content g.D.Disk.images g.D.Disk.moment g.D.Disk.images_since (λ (s : String Global). string_bytes s) c.args.names.now _ _ loop.same _ _ _ _ _ c.loop-name.name-index c.loop-name.status _ _ _ _ _ (omega (arith, c.loop-name-test.false)) loop.midway
