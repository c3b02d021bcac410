-- The rows of complements by key values: which values a change carries, and the rows that have one value.
use Rattle.std.specs.Prelude.{◌≡◌, ◌⊎◌, ℕ, ◌<◌, List, [], ◌++◌, true, not, map, filter, length, get_or, Contains}
use Rattle.std.specs.List.{flat_map}
use Rattle.wh_base.specs.Columns.{cut}
use Rattle.wh_base.specs.RowSet.{has}
use Rattle.wh_base.specs.Tables.{Table, project, join_all, without, matching}
use Rattle.wh_schema.specs.declared.piece.Piece.{Piece}
use Rattle.wh_schema.specs.declared.spec.Inclusion.{Inclusion}
use Rattle.wh_schema.specs.declared.spec.Spec.{Spec}
use Rattle.wh_schema.specs.Changes.{Changed}
use Rattle.wh_schema.specs.Warehouse.{Row, State, Sources, numbers, columns_of, key_of, key_value, left_value, view_at, inclusion_at, view_table, is_usable_view, is_usable_inclusion, pieces, piece_table, covers}

-- ---- the key values that a change carries

-- the rows that left or entered a list
abbrev pub changed_rows : List Row → List Row → List Row
changed_rows before after = without before after ++ without after before

-- the key values of a relation that a row of a view has
abbrev pub view_key : Spec → ℕ → ℕ → Row → Row
view_key spec r j = cut (view_at spec j).head (key_of spec r)

-- the key values of a relation that a left row of an inclusion into it has, under the right names
abbrev pub inclusion_key : Spec → ℕ → Inclusion → Row → Row
inclusion_key spec r c y = cut c.to_cols (key_of spec r) (left_value spec c y)

-- the key values of a relation that its rows carry which left or entered
abbrev pub relation_carries : Spec → State → State → ℕ → List Row
relation_carries spec s t r = map (key_value spec r) (changed_rows (get_or s r []) (get_or t r []))

-- those that the rows of a view carry
abbrev pub view_carries : Spec → State → State → ℕ → ℕ → List Row
view_carries spec s t r j = map (view_key spec r j) (changed_rows (view_table spec s j).rows (view_table spec t j).rows)

-- those that the left rows of an inclusion carry
abbrev pub inclusion_carries : Spec → State → State → ℕ → ℕ → List Row
inclusion_carries spec s t r i =
    let c = inclusion_at spec i in
    map (inclusion_key spec r c) (changed_rows (get_or s c.from []) (get_or t c.from []))

-- the key values of a relation that the change carries: in the relation, in its usable views, and by its usable inclusions
abbrev pub carried_keys : Spec → State → State → ℕ → List Row
carried_keys spec s t r =
    relation_carries spec s t r
    ++ flat_map (view_carries spec s t r) (filter (is_usable_view spec r) (numbers (length spec.views)))
    ++ flat_map (inclusion_carries spec s t r) (filter (is_usable_inclusion spec r) (numbers (length spec.inclusions)))

-- a row with the key value k left or entered the relation
pub record RelationCarries (spec : Spec) (s t : State) (r : ℕ) (k : Row) : Type 0 where
  pub row : Row
  pub changed : Changed (get_or s r []) (get_or t r []) row
  pub key : key_value spec r row ≡ k

-- or a usable view of it
pub record ViewCarries (spec : Spec) (s t : State) (r : ℕ) (k : Row) : Type 0 where
  pub view : ℕ
  pub within : view < length spec.views
  pub usable : is_usable_view spec r view ≡ true
  pub row : Row
  pub changed : Changed (view_table spec s view).rows (view_table spec t view).rows row
  pub key : view_key spec r view row ≡ k

-- or the left relation of a usable inclusion into it
pub record InclusionCarries (spec : Spec) (s t : State) (r : ℕ) (k : Row) : Type 0 where
  pub inclusion : ℕ
  pub within : inclusion < length spec.inclusions
  pub usable : is_usable_inclusion spec r inclusion ≡ true
  pub row : Row
  pub changed : let c = inclusion_at spec inclusion in Changed (get_or s c.from []) (get_or t c.from []) row
  pub key : inclusion_key spec r (inclusion_at spec inclusion) row ≡ k

-- the key value is carried by a row that left or entered one of these
abbrev pub IsCarried : Spec → State → State → ℕ → Row → Type 0
IsCarried spec s t r k = RelationCarries spec s t r k ⊎ (ViewCarries spec s t r k ⊎ InclusionCarries spec s t r k)

-- ---- the rows with a key value

-- the rows of a relation with the key value
abbrev pub rows_with_key : Spec → ℕ → Row → List Row → List Row
rows_with_key spec r k rows = matching (columns_of spec r) (key_of spec r) k rows

-- the rows of a relation whose key value is none of these
abbrev pub rows_of_others : Spec → ℕ → List Row → List Row → List Row
rows_of_others spec r keys rows = filter (λ x. not (has keys (key_value spec r x))) rows

-- the rows of a relation whose key value is one of these
abbrev pub rows_of_keys : Spec → ℕ → List Row → List Row → List Row
rows_of_keys spec r keys rows = filter (λ x. has keys (key_value spec r x)) rows

-- the rows of a table with these values at the names
abbrev pub at_values : List (List ℕ) → Row → Table → Table
at_values names values t = record { columns = t.columns; rows = matching t.columns names values t.rows }

-- the rows of a piece of a relation with the key value
abbrev pub piece_at : Spec → Sources → ℕ → Row → Piece → Table
piece_at spec src r k p = at_values (key_of spec r) k (piece_table spec src p)

-- the join of some pieces' rows with the key value, cut to the relation's attributes
abbrev pub joined_at : Spec → Sources → ℕ → Row → List Piece → List Row
joined_at spec src r k c = (project (columns_of spec r) (join_all (map (piece_at spec src r k) c))).rows

-- the rows that the covers give from the pieces' rows with the key value
abbrev pub covered_at : Spec → Sources → ℕ → Row → List Row
covered_at spec src r k = flat_map (joined_at spec src r k) (covers (columns_of spec r) (pieces spec r))

-- the relation's rows with the key value that no cover gives from the pieces' rows with it
abbrev pub complement_at : Spec → Sources → ℕ → Row → List Row
complement_at spec src r k = without (rows_with_key spec r k (src.relation r).rows) (covered_at spec src r k)

-- each piece of a cover has a row with the key value
pub record CoverHasKey (spec : Spec) (src : Sources) (r : ℕ) (k : Row) : Type 0 where
  pub cover : List Piece
  pub is_cover : Contains (covers (columns_of spec r) (pieces spec r)) cover
  pub rows : (p : Piece) → Contains cover p → (w : Row) × (has (piece_at spec src r k p).rows w ≡ true)
