-- One turn more.
use Rattle.std.proofs.Common.{◌≡◌, ℕ, zero, suc, refl}
use Rattle.wh_schema.specs.Reconstruction.{iterate}

pub iterate_more : {X : Type 0} (n : ℕ) (f : X → X) (x : X) → iterate (suc n) f x ≡ f (iterate n f x)
iterate_more zero f x = refl
iterate_more (suc n) f x = iterate_more n f (f x)
