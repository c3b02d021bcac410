use Rattle.std.proofs.Common.{◌≡◌, not, nat_eq, filter, take}
use Rattle.wh_delta.proofs.member.other_numbers.Given as goal

abbrev pub invariant-loop-n : goal.invariant-loop-n
invariant-loop-n l = l.others ≡ filter (λ n. not (nat_eq l.number n)) (take l.n-index l.numbers)
