-- The rows of tables, counted one table after another.
use Rattle.std.proofs.Common.{◌≡◌, ℕ, zero, suc, ◌+◌, ◌<◌, ◌≤◌, List, [], ◌∷◌, length, get_or, take, sym, ◌∙◌, ap, arith}
use Rattle.std.proofs.lemmas.List.{take_all}
use Rattle.wh_schema.specs.Warehouse.{Row}
use Rattle.wh_command.specs.Load.{row_count}

counted_suc : (tables : List (List Row)) (i : ℕ) (rows : List Row) → i < length tables → rows ≡ get_or tables i rows → row_count (take (suc i) tables) ≡ row_count (take i tables) + length rows
counted_suc [] i rows below is = absurd (omega arith)
counted_suc (first ∷ tables) zero rows below is = let same : length rows ≡ length first = ap (λ (l : List Row). length l) is in omega (arith, same)
counted_suc (first ∷ tables) (suc i) rows below is = let rest = counted_suc tables i rows (omega (arith, below)) is in omega (arith, rest)

pub counted_more : (tables : List (List Row)) (i : ℕ) (rows : List Row) → i < length tables → rows ≡ get_or tables i rows → row_count (take (i + 1) tables) ≡ row_count (take i tables) + length rows
counted_more tables i rows below is = let next : suc i ≡ i + 1 = omega arith in ap (λ (n : ℕ). row_count (take n tables)) (sym next) ∙ counted_suc tables i rows below is

pub counted_all : (tables : List (List Row)) (i : ℕ) → length tables ≤ i → row_count (take i tables) ≡ row_count tables
counted_all tables i over = ap (λ (l : List (List Row)). row_count l) (take_all i tables over)
