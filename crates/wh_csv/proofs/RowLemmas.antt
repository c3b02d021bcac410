-- Rows of records, and the first bad record.
use Rattle.std.proofs.Common.{◌≡◌, ◌+◌, ℕ, Bool, true, false, not, cond, List, [], ◌∷◌, ◌++◌, map, filter, Option, Some, None, Ok, refl, append_assoc}
use Rattle.std.specs.Prelude.{All}
use Rattle.std.specs.List.{AllByRecursion, IsDistinct}
use Rattle.std.proofs.lemmas.List.Elements.{All-from_recursion}
use Rattle.std.proofs.lemmas.Simd.{map-map}
use Rattle.std.proofs.lemmas.Map.Keys.{IsDistinct-cons}
use Rattle.wh_base.proofs.RowSets.{IsDistinct-filter}
use Rattle.wh_base.specs.declared.value.Attr.{Attr}
use Rattle.wh_base.specs.declared.value.Kind.{Kind}
use Rattle.wh_base.specs.declared.value.Kind.TheVariants as kind
use Rattle.wh_base.specs.declared.value.Value.{Value}
use Rattle.wh_base.specs.RowSet.{AreDistinct, first_seen}
use Rattle.wh_base.specs.Value.{kinds, row_eq, row_kinds, value_kind}
use Rattle.wh_csv.specs.declared.fault.CsvCause.{CsvCause}
use Rattle.wh_csv.specs.declared.fault.CsvFault.{CsvFault}
use Rattle.wh_csv.specs.Dump.{field_in, row_of, rows_behind}
use Rattle.wh_csv.specs.declared.dump.Source.{Source}
use Rattle.wh_base.specs.Columns.{place_of}
use Rattle.wh_csv.specs.Fields.{field_at, field_value, first_fault, unless}
use Rattle.wh_csv.specs.Reading.{Record}

abbrev Row : Type 0
Row = List Value

-- ---- one record after the other

pub good_record : (broken : ℕ → List (List ℕ) → Option CsvCause) (at : ℕ) (rs : List (List (List ℕ))) (r : List (List ℕ)) (rest : List (List (List ℕ))) →
    rs ≡ r ∷ rest → broken at r ≡ None → first_fault broken at rs ≡ first_fault broken (at + 1) rest
good_record broken at rs r rest e good = rw (e, good) refl

pub one_more_of : {A : Type 0} (f : List (List ℕ) → A) (found : List A) (rs : List (List (List ℕ))) (r : List (List ℕ)) (rest : List (List (List ℕ))) →
    rs ≡ r ∷ rest → found ++ map f rs ≡ (found ++ f r ∷ []) ++ map f rest
one_more_of f found rs r rest e = rw (e, append_assoc found (f r ∷ []) (map f rest)) refl

-- a row by the places of its values
pub row_of_sources : (attrs : List Attr) (header fields : List (List ℕ)) (sources : List Source) (row : List Value) →
    row ≡ map (λ s. field_value s.kind (field_at fields s.place)) sources → sources ≡ map (λ a. record { kind = a.kind; place = place_of header a.name }) attrs → row ≡ row_of attrs header fields
row_of_sources attrs header fields sources row is from = rw (is, from) (map-map (λ (s : Source). field_value s.kind (field_at fields s.place)) (λ (a : Attr). record { kind = a.kind; place = place_of header a.name }) attrs)

pub what_is_read : {A : Type 0} (fault : Option CsvFault) (x y : A) → unless fault x ≡ Ok y → x ≡ y
what_is_read None x y e = cc
what_is_read (Some fault) x y e = absurd cc

-- ---- the kinds of rows

pub kind_is : (k : Kind) (text : List ℕ) → value_kind (field_value k text) ≡ k
kind_is kind.Int text = refl
kind_is kind.Text text = refl

pub row_kinds-row_of : (attrs : List Attr) (header fields : List (List ℕ)) → row_kinds (row_of attrs header fields) ≡ kinds attrs
row_kinds-row_of [] header fields = refl
row_kinds-row_of (a ∷ attrs) header fields = λ i. kind_is a.kind (field_in header a.name fields) i ∷ row_kinds-row_of attrs header fields i

abbrev HasKinds : List Attr → Row → Type 0
HasKinds attrs row = row_kinds row ≡ kinds attrs

have_kinds : (attrs : List Attr) (header : Record) (rs : List Record) → AllByRecursion (HasKinds attrs) (map (row_of attrs header) rs)
have_kinds attrs header [] = tt
have_kinds attrs header (r ∷ rs) = (row_kinds-row_of attrs header r, have_kinds attrs header rs)

-- ---- rows that are seen first

kept : (P : Row → Type 0) (p : Row → Bool) (rows : List Row) → AllByRecursion P rows → AllByRecursion P (filter p rows)
kept P p [] h = tt
kept P p (row ∷ rows) h = by (p row) (kept P p rows h.1)
  where
    by : (b : Bool) → AllByRecursion P (filter p rows) → AllByRecursion P (cond b (row ∷ filter p rows) (filter p rows))
    by true k = (h.0, k)
    by false k = k

seen : (P : Row → Type 0) (rows : List Row) → AllByRecursion P rows → AllByRecursion P (first_seen rows)
seen P [] h = tt
seen P (row ∷ rows) h = (h.0, kept P (λ y. not (row_eq row y)) (first_seen rows) (seen P rows h.1))

others : (x : Row) (rows : List Row) → AllByRecursion (λ y. row_eq x y ≡ false) (filter (λ y. not (row_eq x y)) rows)
others x [] = tt
others x (row ∷ rows) = by (row_eq x row) refl (others x rows)
  where
    by : (b : Bool) → row_eq x row ≡ b → AllByRecursion (λ y. row_eq x y ≡ false) (filter (λ y. not (row_eq x y)) rows)
        → AllByRecursion (λ y. row_eq x y ≡ false) (cond (not b) (row ∷ filter (λ y. not (row_eq x y)) rows) (filter (λ y. not (row_eq x y)) rows))
    by true e k = k
    by false e k = (e, k)

pub first_seen-distinct : (rows : List (List Value)) → AreDistinct (first_seen rows)
unfolding IsDistinct
first_seen-distinct [] = tt
first_seen-distinct (row ∷ rows) = IsDistinct-cons row_eq row _ (others row (first_seen rows)) (IsDistinct-filter (λ y. not (row_eq row y)) (first_seen rows) (first_seen-distinct rows))

-- the rows of a dump have the kinds of the relation
pub rows_have_kinds : (attrs : List Attr) (header : List (List ℕ)) (rs : List (List (List ℕ))) (rows : List (List Value)) →
    rows_behind attrs header rs ≡ Ok rows → All (λ row. row_kinds row ≡ kinds attrs) (first_seen rows)
rows_have_kinds attrs header rs rows e =
    rw (← what_is_read _ _ _ e) (All-from_recursion (HasKinds attrs) _ (seen (HasKinds attrs) _ (have_kinds attrs header rs)))
