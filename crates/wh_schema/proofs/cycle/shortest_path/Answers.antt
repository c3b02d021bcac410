use Rattle.std.proofs.Common.{◌≡◌, ◌∙◌, ap, sym, get_or, length, None, map, arith, add-one}
use Rattle.wh_schema.specs.Cycles.{paths_to, longer_path}
use Rattle.wh_schema.specs.Warehouse.{numbers}
use Rattle.wh_schema.proofs.Ranges.{first_later}
use Rattle.wh_schema.proofs.cycle.shortest_path.Goals as goal

pub loop-length-preserved : goal.loop-length-preserved
loop-length-preserved c =
    let spec = c.args.spec.now in
    let start = c.args.start in
    let end = c.args.end in
    let k = c.loop-length.length in
    let so_far = c.loop-length.invariant.so_far in
    let none : get_or (paths_to spec end k) start None ≡ None = sym (c.in_default.ensures ∙ ap (λ paths. get_or paths start None) so_far) in
    record {
      so_far = rw add-one (c.in_ok-paths-2.ensures ∙ ap (λ paths. map (longer_path spec paths) (numbers (length spec.relations))) so_far);
      later = c.loop-length.invariant.later ∙ first_later (λ j. get_or (paths_to spec end j) start None) k (length spec.relations) (omega arith) none;
    }
