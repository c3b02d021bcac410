-- Names and rows as text.
use Rattle.std.specs.Prelude.{ℕ, List, [], ◌∷◌, ◌++◌}
use Rattle.std.specs.List.{flat_map}
use Rattle.wh_base.specs.declared.value.Value.{Value}
use Rattle.wh_base.specs.Csv.{csv_field}

-- the texts of items, with a separator between them
abbrev pub separated_by : {X : Type 0} → (X → List ℕ) → List ℕ → List X → List ℕ
separated_by text separator [] = []
separated_by text separator (x ∷ xs) = text x ++ flat_map (λ y. separator ++ text y) xs

abbrev pub separated : List ℕ → List (List ℕ) → List ℕ
separated = separated_by (λ name. name)

abbrev pub comma : List ℕ
comma = 44 ∷ []

-- a text that ends a line
abbrev pub line : List ℕ → List ℕ
line text = text ++ 10 ∷ []

-- the CSV record of a row, without its end
abbrev pub csv_record : List Value → List ℕ
csv_record = separated_by csv_field comma

-- a table as CSV: a header line, and a line for each row
abbrev pub csv_text : List (List ℕ) → List (List Value) → List ℕ
csv_text columns rows = line (separated comma columns) ++ flat_map (λ row. line (csv_record row)) rows
