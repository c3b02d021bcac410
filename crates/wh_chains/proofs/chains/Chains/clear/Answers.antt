use Rattle.std.proofs.Common.{arith, ◌≡◌, ◌∙◌, ◌+◌, ◌≤◌, subst, sym, vec_len, vec_capacity}
use Rattle.wh_chains.specs.Links.{IsChained, HasRoom}
use Rattle.wh_chains.proofs.chains.Chains.clear.Goals as goal

pub invariant_of-self : goal.invariant_of-self
invariant_of-self c =
    let fits : vec_len c.clear-2.new.self + (c.self.inside.spare + c.len.result) ≤ vec_capacity c.clear-2.new.self = omega (arith, c.clear-2.ensures.len, c.clear-2.ensures.capacity, c.len.ensures, c.self.invariant.1) in
    let long : vec_len c.self.inside.links.nexts ≡ c.len.result = c.self.inside.links.nexts.ok.0 ∙ c.self.invariant.0.long ∙ sym c.self.inside.keys.ok.0 ∙ sym c.len.ensures in
    (subst (IsChained c.clear.new.self) (sym c.clear-2.ensures.items) c.clear.ensures.chained, fits, subst (λ n. HasRoom c.clear.new.self (c.self.inside.spare + n)) long (c.clear.ensures.room _ c.self.invariant.2))
