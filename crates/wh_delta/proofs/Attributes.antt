-- The attributes of a relation that a number names.
use Rattle.std.proofs.Common.{◌≡◌, ℕ, Bool, ◌||◌, List, [], ◌∷◌, Some, None, unwrap_or, slice_get, refl, ◌∙◌, ap}
use Rattle.std.specs.List.{list_any}
use Rattle.std.proofs.lemmas.Option.{unwrap_or-slice_get}
use Rattle.wh_base.specs.declared.value.Attr.{Attr}
use Rattle.wh_base.specs.Columns.{names_of}
use Rattle.wh_schema.specs.declared.spec.Relation.{Relation}
use Rattle.wh_schema.specs.declared.spec.Spec.{Spec}
use Rattle.wh_schema.specs.Warehouse.{no_relation, relation_at}

-- a test of names, over attributes
pub any_named : (test : List ℕ → Bool) (attrs : List Attr) → list_any (λ a. test a.name) attrs ≡ list_any test (names_of attrs)
any_named test [] = refl
any_named test (a ∷ attrs) = ap (λ b. test a.name || b) (any_named test attrs)

pub relation_found : (spec : Spec) (i : ℕ) (r : Relation) → Some r ≡ slice_get spec.relations i → r ≡ relation_at spec i
relation_found spec i r e = ap (λ o. unwrap_or o no_relation) e ∙ unwrap_or-slice_get spec.relations i no_relation

pub relation_missing : (spec : Spec) (i : ℕ) → None ≡ slice_get spec.relations i → no_relation ≡ relation_at spec i
relation_missing spec i e = ap (λ o. unwrap_or o no_relation) e ∙ unwrap_or-slice_get spec.relations i no_relation
