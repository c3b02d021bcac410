-- Relations whose complement is empty in every legal state: a view without a condition keeps all their attributes, and each other
-- relation of the view is joined along an inclusion that leads into it, so that no row of theirs lacks a partner.
use Rattle.std.specs.Prelude.{ℕ, nat_eq, List, [], ◌∷◌, Bool, true, false, not, ◌&&◌, length}
use Rattle.std.specs.List.{flat_map, list_any, list_all}
use Rattle.std.specs.Cmp.Lexicographic.{pointwise}
use Rattle.wh_base.specs.declared.cond.Cond.{Cond}
use Rattle.wh_base.specs.declared.cond.Cond.TheVariants.{Always}
use Rattle.wh_base.specs.Columns.{name_eq, all_in, shared}
use Rattle.wh_schema.specs.declared.spec.Inclusion.{Inclusion}
use Rattle.wh_schema.specs.declared.spec.Spec.{Spec}
use Rattle.wh_schema.specs.declared.spec.View.{View}
use Rattle.wh_schema.specs.Warehouse.{columns_of}
use Rattle.wh_schema.specs.Reconstruction.{iterate, is_taken, take_next}

abbrev pub is_always : Cond → Bool
is_always Always = true
is_always _ = false

-- the same names, in any order
abbrev pub same_names : List (List ℕ) → List (List ℕ) → Bool
same_names xs ys = all_in ys xs && all_in xs ys

-- the attributes of a relation that some taken relation has
abbrev pub shared_with_taken : Spec → List ℕ → ℕ → List (List ℕ)
shared_with_taken spec taken t = shared (flat_map (columns_of spec) taken) (columns_of spec t)

-- the inclusion leads from a taken relation into this one, between columns of the same names, which are all that it shares with the taken ones
abbrev pub leads_into : Spec → List ℕ → ℕ → Inclusion → Bool
leads_into spec taken t c = (nat_eq c.to t && is_taken taken c.from) && (pointwise name_eq c.from_cols c.to_cols && same_names c.to_cols (shared_with_taken spec taken t))

abbrev pub is_joined_on : Spec → List ℕ → ℕ → Bool
is_joined_on spec taken t = not (is_taken taken t) && list_any (leads_into spec taken t) spec.inclusions

-- the relations of a view that are taken from one of them on, again and again the first to which an inclusion leads
abbrev pub joined_on : Spec → List ℕ → ℕ → List ℕ
joined_on spec members r = iterate (length members) (take_next (is_joined_on spec) members) (r ∷ [])

-- the view loses no row of the relation in a legal state
abbrev pub is_lossless : Spec → ℕ → View → Bool
is_lossless spec r v = (is_always v.cond && is_taken v.relations r) && (all_in v.head (columns_of spec r) && list_all (is_taken (joined_on spec v.relations r)) v.relations)

-- the mark of a relation whose complement is always empty
abbrev pub always_empty : Spec → ℕ → Bool
always_empty spec r = list_any (is_lossless spec r) spec.views
