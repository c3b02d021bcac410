use Rattle.std.proofs.Common.{◌≡◌, ◌+◌, ◌-◌, ◌∙◌, sym, ap, arith}
use Rattle.std.specs.List.{range_with_len}
use Rattle.wh_schema.specs.Warehouse.{subsets}
use Rattle.wh_covers.proofs.NumberLemmas.{map_suc-range_with_len}
use Rattle.wh_covers.proofs.subset.subsets.Goals as goal

pub returns : goal.returns
returns c =
    let n = c.args.n in
    let all : c.loop-done.done ≡ n = omega arith in
    let one : n - n + 1 ≡ 1 = omega arith in
    c.loop-done.invariant
    ∙ (λ i. subsets (range_with_len (n - all i + 1) (all i)))
    ∙ ap (λ k. subsets (range_with_len k n)) one
    ∙ ap subsets (sym (map_suc-range_with_len 0 n))
