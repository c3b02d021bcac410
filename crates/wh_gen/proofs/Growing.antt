-- Texts over numbers from 0 on grow by what the next number gives.
use Rattle.std.proofs.Common.{◌≡◌, ℕ, zero, suc, ◌+◌, List, [], ◌∷◌, ◌++◌, map, ap, sym, ◌∙◌, add-one, zero-add, arith}
use Rattle.std.specs.List.{flat_map, range_with_len}
use Rattle.std.proofs.lemmas.List.{flat_map_more}
use Rattle.std.proofs.lemmas.List.FromFn.{map-range_with_len_more}
use Rattle.wh_base.specs.declared.value.Value.{Value}
use Rattle.wh_base.specs.Lines.{comma, separated, line, csv_record, csv_text}
use Rattle.wh_gen.specs.Case.{numbers}

range_more : (from n : ℕ) → range_with_len from (suc n) ≡ range_with_len from n ++ (from + n) ∷ []
range_more from zero = let e : from + 0 ≡ from = omega arith in rw e
range_more from (suc n) = let e : from + 1 + n ≡ from + suc n = omega arith in ap (λ l. from ∷ l) (range_more (from + 1) n ∙ rw e)

numbers_more : (n : ℕ) → numbers (n + 1) ≡ numbers n ++ n ∷ []
numbers_more n = ap numbers (add-one n) ∙ range_more 0 n ∙ ap (λ k. numbers n ++ k ∷ []) (zero-add n)

-- one more line of a table
pub csv_text_more : (columns : List (List ℕ)) (row : ℕ → List Value) (n : ℕ) → csv_text columns (map row (numbers n)) ++ line (csv_record (row n)) ≡ csv_text columns (map row (numbers (n + 1)))
csv_text_more columns row n =
    flat_map_more (λ r. line (csv_record r)) (line (separated comma columns)) (map row (numbers n)) (row n)
    ∙ ap (csv_text columns) (sym (map-range_with_len_more row 0 n n (zero-add n)))

-- one more piece behind a text
pub pieces_more : (piece : ℕ → List ℕ) (text : List ℕ) (n : ℕ) → (text ++ flat_map piece (numbers n)) ++ piece n ≡ text ++ flat_map piece (numbers (n + 1))
pieces_more piece text n = flat_map_more piece text (numbers n) n ∙ ap (λ l. text ++ flat_map piece l) (sym (numbers_more n))
