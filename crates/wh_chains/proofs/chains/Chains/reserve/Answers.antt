use Rattle.std.proofs.Common.{arith, ◌+◌, ◌≤◌, subst, sym, vec_len, vec_capacity}
use Rattle.wh_chains.specs.Links.{IsChained, AreChained}
use Rattle.wh_chains.proofs.chains.Chains.reserve.Goals as goal

pub invariant_of-self-in_err-reserve-2 : goal.invariant_of-self-in_err-reserve-2
invariant_of-self-in_err-reserve-2 c =
    let fits : vec_len c.reserve.new.self + c.self.inside.spare ≤ vec_capacity c.reserve.new.self = omega (arith, c.reserve.ensures.len, c.reserve.ensures.capacity, c.self.invariant.1) in
    let chained : IsChained c.self.inside.links c.reserve.new.self.items = subst (IsChained c.self.inside.links) (sym c.reserve.ensures.items) c.self.invariant.0 in
    let same : IsChained c.reserve-else-buckets-count.new.self c.reserve.new.self.items =
    subst (λ heads. AreChained heads.items c.reserve-else-buckets-count.new.self.nexts.items c.reserve.new.self.items) (sym c.reserve-else-buckets-count.ensures.heads)
    (subst (λ nexts. AreChained c.self.inside.links.heads.items nexts c.reserve.new.self.items) (sym c.reserve-else-buckets-count.ensures.nexts) chained) in
    (same, fits, c.reserve-else-buckets-count.ensures.keeps_room _ c.self.invariant.2)
