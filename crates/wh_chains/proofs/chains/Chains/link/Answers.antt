use Rattle.std.proofs.Common.{arith, ◌≡◌, ◌+◌, ◌-◌, ◌<◌, ◌≤◌, ap, subst, sym, vec_len, vec_capacity}
use Rattle.wh_chains.specs.Links.{IsChained, HasRoom}
use Rattle.wh_chains.proofs.chains.Chains.link.Goals as goal

pub invariant_of-self : goal.invariant_of-self
invariant_of-self c =
    let seen : c.self.inside.spare ≡ c.args.self.now.spare = ap (λ t. t.spare) c.self.view_is in
    let some : 0 < c.self.inside.spare = omega (arith, seen, c.requires) in
    let less : c.self.inside.spare ≡ (c.self.inside.spare - 1) + 1 = omega arith in
    let fits : vec_len c.push_reserved.new.self + (c.self.inside.spare - 1) ≤ vec_capacity c.push_reserved.new.self = omega (arith, c.push_reserved.ensures.len, c.push_reserved.ensures.capacity, c.self.invariant.1) in
    (subst (IsChained c.link.new.self) (sym c.push_reserved.ensures.items) (c.link.ensures.chained _ c.self.invariant.0), fits, c.link.ensures.room _ (subst (HasRoom c.self.inside.links) less c.self.invariant.2))
