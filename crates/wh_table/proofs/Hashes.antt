-- Hashes of values, one value after the other.
use Rattle.std.proofs.Common.{◌≡◌, ◌<◌, ◌+◌, ℕ, List, [], ◌∷◌, ◌++◌, length, get_or, take, refl, ap, ◌∙◌}
use Rattle.std.proofs.lemmas.List.{take_more, map-append}
use Rattle.std.proofs.lemmas.List.Sums.{fold_push}
use Rattle.wh_base.specs.declared.value.Value.{Value}
use Rattle.wh_base.specs.Columns.{picked, value_at}
use Rattle.wh_table.specs.Hash.{hash_with, hash_of, key_at}

pub hash_of-none : 0 ≡ hash_of []
unfolding hash_of
hash_of-none = refl

pub hash_of-more : (values : List Value) (value : Value) → hash_of (values ++ value ∷ []) ≡ hash_with (hash_of values) value
unfolding hash_of
hash_of-more values value = fold_push hash_with 0 values value

pub hash_of-take : (values : List Value) (i : ℕ) (d : Value) → i < length values → hash_of (take (i + 1) values) ≡ hash_with (hash_of (take i values)) (get_or values i d)
hash_of-take values i d lt = ap hash_of (take_more values i d lt) ∙ hash_of-more (take i values) (get_or values i d)

pub key_at-take : (places : List ℕ) (row : List Value) (i : ℕ) → i < length places → key_at (take (i + 1) places) row ≡ hash_with (key_at (take i places) row) (value_at row (get_or places i 0))
key_at-take places row i lt =
    ap (λ ps. key_at ps row) (take_more places i 0 lt)
    ∙ ap hash_of (map-append (value_at row) (take i places) (get_or places i 0 ∷ []))
    ∙ hash_of-more (picked (take i places) row) (value_at row (get_or places i 0))
