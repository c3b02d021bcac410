use Rattle.std.specs.Prelude.{◌≡◌, ℕ, List, [], ◌++◌, map, filter, unwrap_or}
use Rattle.std.specs.declared.hash.FoldHasher.{FoldHasher}
use Rattle.std.specs.declared.hash.BuildHasherDefault.{BuildHasherDefault}
use Rattle.indexmap.specs.IndexMap.{IndexMap, get}
use Rattle.wh_base.specs.declared.value.Value.{Value}
use Rattle.wh_base.specs.Columns.{picked}
use Rattle.wh_base.specs.Value.{row_eq}

abbrev pub Partners : Type 0
Partners = IndexMap (List Value) (List (List Value)) (BuildHasherDefault FoldHasher)

-- what the map has at a key, or nothing
abbrev pub partners_of : Partners → List Value → List (List Value)
partners_of partners key = unwrap_or (get row_eq partners key) []

-- the map has, at each key, the rest of each row with that key
abbrev pub PartnersIn : Partners → List ℕ → List ℕ → List (List Value) → Type 0
PartnersIn partners key_places rest_places rows =
    (key : List Value) → partners_of partners key ≡ map (picked rest_places) (filter (λ row. row_eq key (picked key_places row)) rows)

-- what a left row gives with each right row that has the same key
abbrev pub joined_by : List ℕ → List ℕ → List ℕ → List (List Value) → List Value → List (List Value)
joined_by left_key right_key rest_places right row =
    map (λ other. row ++ picked rest_places other) (filter (λ other. row_eq (picked left_key row) (picked right_key other)) right)
