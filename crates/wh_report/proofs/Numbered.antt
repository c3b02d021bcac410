-- Texts and sums over the numbers below a bound.
use Rattle.std.proofs.Common.{◌≡◌, ℕ, zero, suc, ◌+◌, ◌<◌, List, ◌++◌, map, sum, length, sym, ap, ◌∙◌, add-one, add-zero, add-suc, zero-add, add_assoc}
use Rattle.std.specs.List.{flat_map}
use Rattle.std.proofs.lemmas.List.{flat_map_more}
use Rattle.std.proofs.lemmas.List.Folds.{flat_map-map}
use Rattle.std.proofs.lemmas.List.FromFn.{map-range_with_len_more, sum_by-map-range_with_len_more}
use Rattle.std.proofs.lemmas.Map.Made.{length-from_same_keys}
use Rattle.wh_base.specs.RowSet.{AreDistinct, SameRows, in_order}
use Rattle.wh_base.specs.ValueLaws.{row_eq_equiv}
use Rattle.wh_base.proofs.InOrder.{IsAscending-in_order, SameRows-in_order, in_order-same}
use Rattle.wh_laws.proofs.Lists.{map_same}
use Rattle.wh_laws.proofs.Pieces.{numbers_from}
use Rattle.wh_schema.specs.Warehouse.{Row, numbers}
use Rattle.wh_store.proofs.TableLemmas.{ascending_distinct}
use Rattle.wh_report.specs.Report.{row_count, total}

-- ---- how many rows there are

pub count_same : (xs ys : List Row) → SameRows xs ys → row_count xs ≡ row_count ys
count_same xs ys same = ap length (in_order-same xs ys same)

-- distinct rows are as many as they are in row order
pub count_distinct : (rows : List Row) → AreDistinct rows → length rows ≡ row_count rows
count_distinct rows distinct =
    length-from_same_keys row_eq_equiv rows (in_order rows) distinct (ascending_distinct (in_order rows) (IsAscending-in_order rows)) (λ q. sym (SameRows-in_order rows q))

-- ---- sums

pub total_more : (rows : ℕ → List Row) (n : ℕ) → total rows (n + 1) ≡ total rows n + row_count (rows n)
total_more rows n = sum_by-map-range_with_len_more (λ x. x) (λ k. row_count (rows k)) 0 n n (zero-add n)

pub total_same : (f g : ℕ → List Row) (n : ℕ) → ((k : ℕ) → k < n → SameRows (f k) (g k)) → total f n ≡ total g n
total_same f g n same = ap sum (map_same (λ k. row_count (f k)) (λ k. row_count (g k)) (numbers n) (λ k h. count_same (f k) (g k) (same k (numbers_from n k h))))

-- the first tables and then the others
pub total_split : (rows : ℕ → List Row) (a b : ℕ) → total rows (a + b) ≡ total rows a + total (λ r. rows (a + r)) b
total_split rows a zero = ap (total rows) (add-zero a) ∙ sym (add-zero (total rows a))
total_split rows a (suc b) =
    ap (total rows) (add-suc a b ∙ sym (add-one (a + b))) ∙ total_more rows (a + b)
    ∙ ap (λ n. n + row_count (rows (a + b))) (total_split rows a b)
    ∙ add_assoc (total rows a) (total (λ r. rows (a + r)) b) (row_count (rows (a + b)))
    ∙ ap (λ n. total rows a + n) (sym (total_more (λ r. rows (a + r)) b) ∙ ap (total (λ r. rows (a + r))) (add-one b))

-- ---- texts

-- a text with the piece of one number more
pub flat_more : (f : ℕ → List ℕ) (start : List ℕ) (n : ℕ) → (start ++ flat_map f (numbers n)) ++ f n ≡ start ++ flat_map f (numbers (n + 1))
flat_more f start n =
    ap (λ text. (start ++ text) ++ f n) (sym (flat_map-map (λ piece. piece) f (numbers n)))
    ∙ flat_map_more (λ piece. piece) start (map f (numbers n)) (f n)
    ∙ ap (λ pieces. start ++ flat_map (λ piece. piece) pieces) (sym (map-range_with_len_more f 0 n n (zero-add n)))
    ∙ ap (λ text. start ++ text) (flat_map-map (λ piece. piece) f (numbers (n + 1)))

pub flat_same : (f g : ℕ → List ℕ) (n : ℕ) → ((k : ℕ) → k < n → f k ≡ g k) → flat_map f (numbers n) ≡ flat_map g (numbers n)
flat_same f g n same =
    sym (flat_map-map (λ piece. piece) f (numbers n))
    ∙ ap (λ pieces. flat_map (λ piece. piece) pieces) (map_same f g (numbers n) (λ k h. same k (numbers_from n k h)))
    ∙ flat_map-map (λ piece. piece) g (numbers n)
