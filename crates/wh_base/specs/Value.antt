use Rattle.std.specs.Prelude.{Bool, List, ◌++◌, map}
use Rattle.std.specs.declared.cmp.Ordering.{Ordering}
use Rattle.std.specs.declared.cmp.Ordering.TheVariants.{Less, Greater}
use Rattle.std.specs.Ordering.{nat_cmp, int_cmp, eq_by_cmp}
use Rattle.std.specs.Cmp.Lexicographic.{pointwise, slice_cmp}
use Rattle.std.specs.Hash as fed
use Rattle.wh_base.specs.declared.value.Attr.{Attr}
use Rattle.wh_base.specs.declared.value.Kind.{Kind}
use Rattle.wh_base.specs.declared.value.Kind.TheVariants as kind
use Rattle.wh_base.specs.declared.value.Value.{Value}
use Rattle.wh_base.specs.declared.value.Value.TheVariants.{Int, Text}

-- integers by number, texts by bytes; an integer stands below a text, which no table compares
abbrev pub value_cmp : Value → Value → Ordering
value_cmp (Int x) (Int y) = int_cmp x y
value_cmp (Int x) (Text y) = Less
value_cmp (Text x) (Int y) = Greater
value_cmp (Text x) (Text y) = slice_cmp nat_cmp x y

-- the row order: the first difference decides
abbrev pub row_cmp : List Value → List Value → Ordering
row_cmp = slice_cmp value_cmp

-- `==`, which says `≡` (`value_eq_exact` and `row_eq_exact` of ValueLaws)
abbrev pub value_eq : Value → Value → Bool
value_eq = eq_by_cmp value_cmp

-- the same of rows
abbrev pub row_eq : List Value → List Value → Bool
row_eq = pointwise value_eq

-- the kind of a value, the kinds of a row, and those of attributes
abbrev pub value_kind : Value → Kind
value_kind (Int x) = kind.Int
value_kind (Text x) = kind.Text

abbrev pub row_kinds : List Value → List Kind
row_kinds = map value_kind

abbrev pub kinds : List Attr → List Kind
kinds = map (λ a. a.kind)

-- what a hash of a value is fed
abbrev pub value_hash_input : Value → fed.HashWrites
value_hash_input (Int x) = fed.u8 0 ++ fed.i64 x
value_hash_input (Text x) = fed.u8 1 ++ fed.slice fed.u8 x
