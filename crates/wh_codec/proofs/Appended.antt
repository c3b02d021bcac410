-- What is appended piece after piece is appended as one.
use Rattle.std.proofs.Common.{◌≡◌, ℕ, List, ◌++◌, Result, Ok, Err, ap, ◌∙◌, append_assoc}
use Rattle.std.specs.Prelude.{OnOk}

pub before : {T E : Type 0} (r : Result T E) (new old piece begun rest : List ℕ) → OnOk r (new ≡ begun ++ rest) → begun ≡ old ++ piece → OnOk r (new ≡ old ++ (piece ++ rest))
before (Ok x) new old piece begun rest h e = h ∙ ap (λ (t : List ℕ). t ++ rest) e ∙ append_assoc old piece rest
before (Err x) new old piece begun rest h e = tt
