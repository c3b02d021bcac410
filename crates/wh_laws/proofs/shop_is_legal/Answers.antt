use Rattle.wh_base.specs.declared.cond.Cond.TheVariants.{Always}
use Rattle.wh_laws.specs.Example.{grown}
use Rattle.wh_laws.proofs.Example.{its_state_is_legal}
use Rattle.wh_laws.proofs.shop_is_legal.Goals as goal

pub returns : goal.returns
returns c = (its_state_is_legal Always, its_state_is_legal grown)
