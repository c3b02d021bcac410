-- Hashes of rows: the key by which an index finds them. Rows with other hashes differ, and nothing else rests on them.
use Rattle.std.specs.Prelude.{ℕ, ◌*◌, ◌%◌, ◌/◌, ◌^◌, List, length, fold, unsigned_abs, bit_xor}
use Rattle.wh_base.specs.declared.value.Value.{Value}
use Rattle.wh_base.specs.declared.value.Value.TheVariants.{Int, Text}
use Rattle.wh_base.specs.Columns.{picked}

-- a number mixed with the high half of itself
abbrev pub folded : ℕ → ℕ
folded n = bit_xor n (n / 2 ^ 32)

-- a hash and one more word
unfoldable pub stirred : ℕ → ℕ → ℕ
stirred hash word = folded ((bit_xor hash word * 0x9E3779B97F4A7C15) % 2 ^ 64)

-- a hash and one more value
unfoldable pub hash_with : ℕ → Value → ℕ
hash_with hash (Int number) = stirred hash (unsigned_abs number)
hash_with hash (Text bytes) = fold stirred (stirred hash (length bytes)) bytes

-- the hash of values
unfoldable pub hash_of : List Value → ℕ
hash_of values = fold hash_with 0 values

-- the hash of a row's values at places
abbrev pub key_at : List ℕ → List Value → ℕ
key_at places row = hash_of (picked places row)
