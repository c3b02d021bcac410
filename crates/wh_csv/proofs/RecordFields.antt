-- The fields of a record, one at a time.
use Rattle.std.proofs.Common.{◌≡◌, ◌+◌, ℕ, suc, zero, List, [], ◌∷◌, ◌++◌, take, Some, None, refl, ap, add-one}
use Rattle.csv.specs.Records.{field_at}
use Rattle.wh_csv.specs.Reading.{Record}

more : (fs : Record) (n : ℕ) (f : List ℕ) → Some f ≡ field_at fs n → take (suc n) fs ≡ take n fs ++ f ∷ []
unfolding field_at
more [] n f e = absurd cc
more (x ∷ xs) zero f e = let same : x ≡ f = cc in rw same refl
more (x ∷ xs) (suc n) f e = ap (λ t. x ∷ t) (more xs n f e)

-- the fields up to one, and then that one
pub one_more : (fs : List (List ℕ)) (n : ℕ) (f : List ℕ) → Some f ≡ field_at fs n → take (n + 1) fs ≡ take n fs ++ f ∷ []
one_more fs n f e = rw (add-one n) (more fs n f e)

abbrev no_fields : Record
no_fields = []

take_nil : (n : ℕ) → take n no_fields ≡ no_fields
take_nil zero = refl
take_nil (suc n) = refl

-- past the last field these are all
pub no_more : (fs : List (List ℕ)) (n : ℕ) → None ≡ field_at fs n → take n fs ≡ fs
unfolding field_at
no_more [] n e = take_nil n
no_more (x ∷ xs) zero e = absurd cc
no_more (x ∷ xs) (suc n) e = ap (λ t. x ∷ t) (no_more xs n e)
