-- What a load answers, and what it leaves of the second file.
use Rattle.std.proofs.Common.{true≢false, ◌≡◌, ◌∙◌, ℕ, Bool, true, false, List, Option, None, Some, IfSome, sym, ap, subst}
use Rattle.std.specs.Option.{option_map}
use Rattle.wh_io.specs.Crash.{IsSettled}
use Rattle.wh_schema.specs.declared.spec.Spec.{Spec}
use Rattle.wh_schema.specs.Warehouse.{Row}
use Rattle.wh_store.specs.Image.{first_over}
use Rattle.wh_store.specs.Store.{are_empty, is_too_large}

-- a file with the same content, of which a crash leaves nothing more, is settled as before
pub settled_still : (before now : Option (List ℕ)) (old new : List ℕ → Type 0) → now ≡ before → ((c : List ℕ) → new c → old c) → IsSettled before old → IsSettled now new
settled_still None now old new same within settled = subst (λ (o : Option (List ℕ)). IsSettled o new) (sym same) tt
settled_still (Some bytes) now old new same within settled = subst (λ (o : Option (List ℕ)). IsSettled o new) (sym same) (λ c left. settled c (within c left))

-- two empty files, and tables within the limits
pub created : (spec : Spec) (tables : List (List Row)) (first second : Option (List ℕ)) (empty : Bool) → IfSome first (λ (a : List ℕ). IfSome second (λ (b : List ℕ). empty ≡ are_empty a b)) → empty ≡ true
    → first_over tables ≡ None → is_too_large spec tables ≡ false → IfSome first (λ (a : List ℕ). IfSome second (λ (b : List ℕ). (are_empty a b ≡ true) × (first_over tables ≡ None) × (is_too_large spec tables ≡ false)))
created spec tables None second empty is both few small = tt
created spec tables (Some a) None empty is both few small = tt
created spec tables (Some a) (Some b) empty is both few small = (sym is ∙ both, few, small)

-- the content of a file that was written, over what it held
pub written : (before mid now : Option (List ℕ)) (one other : List ℕ) → mid ≡ before → now ≡ option_map (λ (_ : List ℕ). one) mid → one ≡ other → now ≡ option_map (λ (_ : List ℕ). other) before
written before mid now one other same is equal =
    is ∙ ap (λ (o : Option (List ℕ)). option_map (λ (_ : List ℕ). one) o) same ∙ ap (λ (bytes : List ℕ). option_map (λ (_ : List ℕ). bytes) before) equal

-- what holds in any case holds where a file is not empty
pub told_full : (first second : Option (List ℕ)) (P : Type 0) → P → IfSome first (λ (a : List ℕ). IfSome second (λ (b : List ℕ). are_empty a b ≡ false → P))
told_full None second P holds = tt
told_full (Some a) None P holds = tt
told_full (Some a) (Some b) P holds = λ full. holds

-- two files that were found empty
pub untold_full : (first second : Option (List ℕ)) (P : Type 0) (empty : Bool) → IfSome first (λ (a : List ℕ). IfSome second (λ (b : List ℕ). empty ≡ are_empty a b)) → empty ≡ true
    → IfSome first (λ (a : List ℕ). IfSome second (λ (b : List ℕ). are_empty a b ≡ false → P))
untold_full None second P empty is both = tt
untold_full (Some a) None P empty is both = tt
untold_full (Some a) (Some b) P empty is both = λ full. absurd (true≢false (sym both ∙ is ∙ full))
