-- Paths along inclusions, and the cycle that a further inclusion closes.
use Rattle.std.specs.Prelude.{ℕ, zero, suc, Bool, ◌&&◌, nat_eq, List, [], ◌∷◌, map, find, length, get_or, slice_get, Option, Some, None, is_some, option_map, option_and_then, if◌then◌else◌}
use Rattle.std.specs.List.{list_any, filter_map}
use Rattle.wh_schema.specs.declared.spec.Inclusion.{Inclusion}
use Rattle.wh_schema.specs.declared.spec.Spec.{Spec}
use Rattle.wh_schema.specs.Warehouse.{numbers}

-- an inclusion leads from the relation a to the relation b
abbrev pub leads : List Inclusion → ℕ → ℕ → Bool
leads inclusions a b = list_any (λ c. nat_eq c.from a && nat_eq c.to b) inclusions

-- the least relation to which an inclusion leads from a, of those that have a path
abbrev pub next_relation : Spec → List (Option (List ℕ)) → ℕ → Option ℕ
next_relation spec paths a = find (λ j. leads spec.inclusions a j && is_some (get_or paths j None)) (numbers (length spec.relations))

-- the path from a that goes on there
abbrev pub longer_path : Spec → List (Option (List ℕ)) → ℕ → Option (List ℕ)
longer_path spec paths a = option_and_then (λ j. option_map (λ path. a ∷ path) (get_or paths j None)) (next_relation spec paths a)

-- For each relation the least path of k inclusions to the relation b, number by number from its start on, where there is one. A path is
-- the list of the relations on it, without b.
abbrev pub paths_to : Spec → ℕ → ℕ → List (Option (List ℕ))
paths_to spec b zero = map (λ a. if nat_eq a b then Some [] else None) (numbers (length spec.relations))
paths_to spec b (suc k) = map (longer_path spec (paths_to spec b k)) (numbers (length spec.relations))

-- the least of the shortest paths from a to b; a shortest one meets no relation twice
abbrev pub shortest_path : Spec → ℕ → ℕ → Option (List ℕ)
shortest_path spec a b = slice_get (filter_map (λ k. get_or (paths_to spec b k) a None) (numbers (length spec.relations))) 0

-- the cycle that an inclusion between two relations closes: its left relation, and then the way back from its right one
abbrev pub closed_cycle : Spec → ℕ → ℕ → Option (List ℕ)
closed_cycle spec from to = option_map (λ path. from ∷ path) (shortest_path spec to from)
