-- The columns of numbered tables.
use Rattle.std.specs.Prelude.{ℕ, List, [], Option, None, Some, slice_get}
use Rattle.wh_base.specs.declared.head.Head.{Head}
use Rattle.wh_base.specs.declared.value.Attr.{Attr}
use Rattle.wh_base.specs.Columns.{names_of}

abbrev attrs_in : Option Head → List Attr
attrs_in None = []
attrs_in (Some h) = h.attrs

-- the attributes of a number, or none past the last one
abbrev pub attrs_at : List Head → ℕ → List Attr
attrs_at heads n = attrs_in (slice_get heads n)

-- the names of these attributes
abbrev pub columns_at : List Head → ℕ → List (List ℕ)
columns_at heads n = names_of (attrs_at heads n)
