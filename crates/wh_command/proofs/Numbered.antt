-- Items by their numbers.
use Rattle.std.proofs.Common.{◌≡◌, ℕ, List, get_or, None, unwrap_or, sym, ◌∙◌, ap}
use Rattle.std.specs.Prelude.{slice_get}
use Rattle.std.proofs.lemmas.Option.{unwrap_or-slice_get}

pub get_or_none : {X : Type 0} (xs : List X) (i : ℕ) (d : X) → slice_get xs i ≡ None → get_or xs i d ≡ d
get_or_none xs i d is = sym (unwrap_or-slice_get xs i d) ∙ ap (λ o. unwrap_or o d) is
