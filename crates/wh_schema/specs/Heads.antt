-- Names and attributes by number: the relations, then the views, then the complements in the order of their relations.
use Rattle.std.specs.Prelude.{ℕ, List, ◌++◌, map, codes}
use Rattle.wh_base.specs.declared.value.Attr.{Attr}
use Rattle.wh_base.specs.declared.head.Head.{Head}
use Rattle.wh_schema.specs.declared.spec.Relation.{Relation}
use Rattle.wh_schema.specs.declared.spec.Spec.{Spec}
use Rattle.wh_schema.specs.declared.spec.View.{View}
use Rattle.wh_schema.specs.Rules.{kind_in, joined_attrs}

-- a relation's own name and attributes
abbrev pub relation_head : Relation → Head
relation_head r = record { name = r.name; attrs = r.attrs }

-- names with the kinds that they have among attributes
abbrev pub typed_names : List Attr → List (List ℕ) → List Attr
typed_names attrs names = map (λ n. record { name = n; kind = kind_in attrs n }) names

-- the names of the head have the kinds of the join
abbrev pub view_head : Spec → View → Head
view_head spec v = record { name = v.name; attrs = typed_names (joined_attrs spec v.relations) v.head }

-- `C_` and the relation's name, with the relation's attributes
abbrev pub complement_head : Relation → Head
complement_head r = record { name = codes "C_" ++ r.name; attrs = r.attrs }

-- the heads of all numbers
abbrev pub heads_of : Spec → List Head
heads_of spec = map relation_head spec.relations ++ map (view_head spec) spec.views ++ map complement_head spec.relations
