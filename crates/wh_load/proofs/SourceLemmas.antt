-- An item that a list lacks.
use Rattle.std.proofs.Common.{◌≡◌, ℕ, List, get_or, ap, ◌∙◌, None}
use Rattle.std.specs.Prelude.{slice_get, unwrap_or}
use Rattle.std.proofs.lemmas.Option.{unwrap_or-slice_get}

pub past_end : {X : Type 0} (xs : List X) (i : ℕ) (d : X) → None ≡ slice_get xs i → d ≡ get_or xs i d
past_end xs i d h = ap (λ o. unwrap_or o d) h ∙ unwrap_or-slice_get xs i d
