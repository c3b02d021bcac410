-- Values, rows, tables and deltas are read as they were written.
use Rattle.std.proofs.Common.{◌≡◌, ℕ, zero, suc, ◌<◌, Bool, true, false, ◌&&◌, cond, List, [], ◌∷◌, ◌++◌, length, Some, None, refl, sym, ap, subst, ◌∙◌, append_assoc, arith}
use Rattle.std.specs.Int.{w16, w64, cast_signed, cast_unsigned, to_be_bytes}
use Rattle.std.specs.List.{flat_map, list_all, AllByRecursion}
use Rattle.std.specs.List.Sorted.{IsStrictlySortedBy}
use Rattle.std.specs.Str.{is_utf8}
use Rattle.std.specs.declared.cmp.Ordering.{Ordering}
use Rattle.std.specs.declared.cmp.Ordering.TheVariants.{Less, Equal, Greater}
use Rattle.std.specs.Ordering.{is_lt}
use Rattle.std.proofs.lemmas.Int.{of_z-to_z, to_z-of_z}
use Rattle.std.proofs.Math.Facts.{sfits_to_z, Fits-of_z}
use Rattle.std.proofs.lemmas.Str.{is_utf8-from_IsUtf8, IsUtf8-from_is_utf8}
use Rattle.wh_base.specs.declared.value.Delta.{Delta}
use Rattle.wh_base.specs.declared.value.Value.{Value}
use Rattle.wh_base.specs.declared.value.Value.TheVariants.{Int, Text}
use Rattle.wh_base.specs.RowSet.{IsAscending}
use Rattle.wh_base.specs.Value.{row_cmp, row_kinds}
use Rattle.wh_base.specs.ValueLaws.{row_cmp_total}
use Rattle.wh_codec.specs.Body.{value_bytes, row_bytes, table_bytes, delta_bytes, AreAlike, IsSpelledValue, IsSpelledRow, IsSpelledTable, IsSpelledDelta}
use Rattle.wh_codec.specs.Reading.{◌>>=◌, number_at, front_at, counted_at, int_at, text_at, value_at, row_at, table_at, delta_at, same_kinds, alike, is_below, ascends, is_in_form}
use Rattle.wh_codec.proofs.Fields.{IsBytes, IsBytes-rest, bind_some, some_is, Takes, Takes-then, Reads, number16, number64, front_takes, front_again, many_takes, many_again, counted_reads}

-- ---- values

pub test_some : {A : Type 0} (b : Bool) (x y : A) → cond b (Some x) None ≡ Some y → (b ≡ true) × (x ≡ y)
test_some true x y e = (refl, cc)
test_some false x y e = absurd cc

pub cons_takes : (b : ℕ) (bytes text rest : List ℕ) → Takes bytes text rest → Takes (b ∷ bytes) (b ∷ text) rest
cons_takes b bytes text rest t = record { parts = ap (λ (x : List ℕ). b ∷ x) t.parts; rest_fits = t.rest_fits }

int_takes : (bytes : List ℕ) (value : Value) (rest : List ℕ) → IsBytes bytes → int_at bytes ≡ Some (value, rest) → Takes (1 ∷ bytes) (value_bytes value) rest × IsSpelledValue value
unfolding int_at
int_takes bytes value rest fits e =
    let a = bind_some (number_at w64 bytes) (λ n. Some (Int (cast_signed w64 n.0), n.1)) (value, rest) e in
    let first = number64.takes bytes a.0.0 a.0.1 fits a.1 in
    let one = cons_takes 1 bytes (to_be_bytes w64 a.0.0) a.0.1 first.0 in
    let back : cast_unsigned w64 (cast_signed w64 a.0.0) ≡ a.0.0 = of_z-to_z w64 a.0.0 first.1 in
    let made : Value × List ℕ = (Int (cast_signed w64 a.0.0), a.0.1) in
    subst (λ (y : Value × List ℕ). Takes (1 ∷ bytes) (value_bytes y.0) y.1 × IsSpelledValue y.0) (some_is made (value, rest) a.2)
    (rw back one, sfits_to_z {w = w64} {n = a.0.0} (record { fits = first.1 }))

text_takes : (bytes : List ℕ) (value : Value) (rest : List ℕ) → IsBytes bytes → text_at bytes ≡ Some (value, rest) → Takes (2 ∷ bytes) (value_bytes value) rest × IsSpelledValue value
unfolding text_at
text_takes bytes value rest fits e =
    let a = bind_some (number_at w16 bytes) (λ n. front_at n.0 n.1 >>= λ text. cond (is_utf8 text.0) (Some (Text text.0, text.1)) None) (value, rest) e in
    let b = bind_some (front_at a.0.0 a.0.1) (λ text. cond (is_utf8 text.0) (Some (Text text.0, text.1)) None) (value, rest) a.2 in
    let g = test_some (is_utf8 b.0.0) (Text b.0.0, b.0.1) (value, rest) b.2 in
    let first = number16.takes bytes a.0.0 a.0.1 fits a.1 in
    let second = front_takes a.0.0 a.0.1 b.0.0 b.0.1 first.0.rest_fits b.1 in
    let both = Takes-then bytes (to_be_bytes w16 a.0.0) a.0.1 b.0.0 b.0.1 first.0 second.0 in
    let whole = subst (λ (k : ℕ). Takes (2 ∷ bytes) (2 ∷ to_be_bytes w16 k ++ b.0.0) b.0.1) (sym second.1) (cons_takes 2 bytes (to_be_bytes w16 a.0.0 ++ b.0.0) b.0.1 both) in
    subst (λ (y : Value × List ℕ). Takes (2 ∷ bytes) (value_bytes y.0) y.1 × IsSpelledValue y.0) g.1
    (whole, (omega (arith, first.1, second.1), IsUtf8-from_is_utf8 b.0.0 g.0))

value_takes : (bytes : List ℕ) (value : Value) (rest : List ℕ) → IsBytes bytes → value_at bytes ≡ Some (value, rest) → Takes bytes (value_bytes value) rest × IsSpelledValue value
unfolding value_at
value_takes [] value rest fits e = absurd cc
value_takes (zero ∷ bytes) value rest fits e = absurd cc
value_takes (suc zero ∷ bytes) value rest fits e = int_takes bytes value rest (IsBytes-rest 1 bytes fits) e
value_takes (suc (suc zero) ∷ bytes) value rest fits e = text_takes bytes value rest (IsBytes-rest 2 bytes fits) e
value_takes (suc (suc (suc mark)) ∷ bytes) value rest fits e = absurd cc

value_again : (value : Value) (rest : List ℕ) → IsSpelledValue value → value_at (value_bytes value ++ rest) ≡ Some (value, rest)
unfolding value_at int_at text_at
value_again (Int z) rest fits = rw (number64.again (cast_unsigned w64 z) rest ((Fits-of_z {w = w64} {z = z} fits).fits), to_z-of_z w64 z fits) refl
value_again (Text text) rest fits =
    let regrouped : value_bytes (Text text) ++ rest ≡ 2 ∷ (to_be_bytes w16 (length text) ++ (text ++ rest)) = ap (λ (x : List ℕ). 2 ∷ x) (append_assoc (to_be_bytes w16 (length text)) text rest) in
    ap value_at regrouped ∙ rw (number16.again (length text) (text ++ rest) fits.0, front_again text rest, is_utf8-from_IsUtf8 text fits.1) refl

pub value_reads : Reads value_at value_bytes IsSpelledValue
value_reads = record { takes = value_takes; again = value_again }

-- ---- rows

row_takes : (bytes : List ℕ) (row : List Value) (rest : List ℕ) → IsBytes bytes → row_at bytes ≡ Some (row, rest) → Takes bytes (row_bytes row) rest × IsSpelledRow row
unfolding row_at
row_takes [] row rest fits e = absurd cc
row_takes (width ∷ bytes) row rest fits e =
    let many = many_takes value_reads width bytes (row, rest) (IsBytes-rest width bytes fits) e in
    let narrow : width < 256 = fits 0 in (
      subst (λ (k : ℕ). Takes (width ∷ bytes) (k ∷ flat_map value_bytes row) rest) (sym many.1) (cons_takes width bytes (flat_map value_bytes row) rest many.0),
      record { width = omega (arith, many.1, narrow); values = many.2 },
    )

row_again : (row : List Value) (rest : List ℕ) → IsSpelledRow row → row_at (row_bytes row ++ rest) ≡ Some (row, rest)
unfolding row_at
row_again row rest fits = many_again value_reads row rest fits.values

pub row_reads : Reads row_at row_bytes IsSpelledRow
row_reads = record { takes = row_takes; again = row_again }

-- ---- tables

same_kinds_is : (xs ys : List Value) → same_kinds xs ys ≡ true → row_kinds ys ≡ row_kinds xs
same_kinds_is [] [] e = refl
same_kinds_is [] (y ∷ ys) e = absurd cc
same_kinds_is (x ∷ xs) [] e = absurd cc
same_kinds_is (Int x ∷ xs) (Int y ∷ ys) e = let h = same_kinds_is xs ys e in cc
same_kinds_is (Int x ∷ xs) (Text y ∷ ys) e = absurd cc
same_kinds_is (Text x ∷ xs) (Int y ∷ ys) e = absurd cc
same_kinds_is (Text x ∷ xs) (Text y ∷ ys) e = let h = same_kinds_is xs ys e in cc

same_kinds_from : (xs ys : List Value) → row_kinds ys ≡ row_kinds xs → same_kinds xs ys ≡ true
same_kinds_from [] [] e = refl
same_kinds_from [] (y ∷ ys) e = absurd cc
same_kinds_from (x ∷ xs) [] e = absurd cc
same_kinds_from (Int x ∷ xs) (Int y ∷ ys) e = same_kinds_from xs ys cc
same_kinds_from (Int x ∷ xs) (Text y ∷ ys) e = absurd cc
same_kinds_from (Text x ∷ xs) (Int y ∷ ys) e = absurd cc
same_kinds_from (Text x ∷ xs) (Text y ∷ ys) e = same_kinds_from xs ys cc

and_both : (a b : Bool) → (a && b) ≡ true → (a ≡ true) × (b ≡ true)
and_both true b e = (refl, e)
and_both false b e = absurd cc

and_from : (a b : Bool) → a ≡ true → b ≡ true → (a && b) ≡ true
and_from true b p q = q
and_from false b p q = absurd cc

all_alike_is : (row : List Value) (rows : List (List Value)) → list_all (same_kinds row) rows ≡ true → AllByRecursion (λ other. row_kinds other ≡ row_kinds row) rows
all_alike_is row [] e = tt
all_alike_is row (other ∷ rows) e =
    let both = and_both (same_kinds row other) (list_all (same_kinds row) rows) e in
    (same_kinds_is row other both.0, all_alike_is row rows both.1)

all_alike_from : (row : List Value) (rows : List (List Value)) → AllByRecursion (λ other. row_kinds other ≡ row_kinds row) rows → list_all (same_kinds row) rows ≡ true
all_alike_from row [] h = refl
all_alike_from row (other ∷ rows) h = and_from (same_kinds row other) (list_all (same_kinds row) rows) (same_kinds_from row other h.0) (all_alike_from row rows h.1)

alike_is : (rows : List (List Value)) → alike rows ≡ true → AreAlike rows
alike_is [] e = tt
alike_is (row ∷ rows) e = all_alike_is row rows e

alike_from : (rows : List (List Value)) → AreAlike rows → alike rows ≡ true
alike_from [] h = refl
alike_from (row ∷ rows) h = all_alike_from row rows h

less_is : (o : Ordering) → is_lt o ≡ true → o ≡ Less
less_is Less e = refl
less_is Equal e = absurd cc
less_is Greater e = absurd cc

below_more : (row next : List Value) (rows : List (List Value)) → row_cmp row next ≡ Less → AllByRecursion (λ y. row_cmp next y ≡ Less) rows → AllByRecursion (λ y. row_cmp row y ≡ Less) rows
below_more row next [] l h = tt
below_more row next (y ∷ rows) l h = (row_cmp_total.trans row next y l h.0, below_more row next rows l h.1)

pub ascends_is : (rows : List (List Value)) → ascends rows ≡ true → IsAscending rows
unfolding IsStrictlySortedBy
ascends_is [] e = tt
ascends_is (row ∷ []) e = (tt, tt)
ascends_is (row ∷ next ∷ rows) e =
    let both = and_both (is_below row next) (ascends (next ∷ rows)) e in
    let l = less_is (row_cmp row next) both.0 in
    let rest = ascends_is (next ∷ rows) both.1 in
    ((l, below_more row next rows l rest.0), rest)

ascends_from : (rows : List (List Value)) → IsAscending rows → ascends rows ≡ true
unfolding IsStrictlySortedBy
ascends_from [] h = refl
ascends_from (row ∷ []) h = refl
ascends_from (row ∷ next ∷ rows) h = and_from (is_below row next) (ascends (next ∷ rows)) (ap is_lt h.0.0) (ascends_from (next ∷ rows) h.1)

table_takes : (bytes : List ℕ) (rows : List (List Value)) (rest : List ℕ) → IsBytes bytes → table_at bytes ≡ Some (rows, rest) → Takes bytes (table_bytes rows) rest × IsSpelledTable rows
unfolding table_at
table_takes bytes rows rest fits e =
    let a = bind_some (counted_at row_at bytes) (λ found. cond (is_in_form found.0) (Some found) None) (rows, rest) e in
    let g = test_some (is_in_form a.0.0) a.0 (rows, rest) a.2 in
    let form = and_both (alike a.0.0) (ascends a.0.0) g.0 in
    let t = (counted_reads row_reads).takes bytes a.0.0 a.0.1 fits a.1 in
    subst (λ (y : List (List Value) × List ℕ). Takes bytes (table_bytes y.0) y.1 × IsSpelledTable y.0) g.1
    (t.0, record { count = t.1.0; rows = t.1.1; alike = alike_is a.0.0 form.0; ascending = ascends_is a.0.0 form.1 })

table_again : (rows : List (List Value)) (rest : List ℕ) → IsSpelledTable rows → table_at (table_bytes rows ++ rest) ≡ Some (rows, rest)
unfolding table_at
table_again rows rest fits =
    let form : is_in_form rows ≡ true = and_from (alike rows) (ascends rows) (alike_from rows fits.alike) (ascends_from rows fits.ascending) in
    rw ((counted_reads row_reads).again rows rest (fits.count, fits.rows), form) refl

pub table_reads : Reads table_at table_bytes IsSpelledTable
table_reads = record { takes = table_takes; again = table_again }

-- ---- deltas

delta_takes : (bytes : List ℕ) (delta : Delta) (rest : List ℕ) → IsBytes bytes → delta_at bytes ≡ Some (delta, rest) → Takes bytes (delta_bytes delta) rest × IsSpelledDelta delta
unfolding delta_at
delta_takes bytes delta rest fits e =
    let a = bind_some (table_at bytes) (λ deleted. table_at deleted.1 >>= λ inserted. Some (record { deleted = deleted.0; inserted = inserted.0 }, inserted.1)) (delta, rest) e in
    let b = bind_some (table_at a.0.1) (λ inserted. Some (record { deleted = a.0.0; inserted = inserted.0 }, inserted.1)) (delta, rest) a.2 in
    let first = table_reads.takes bytes a.0.0 a.0.1 fits a.1 in
    let second = table_reads.takes a.0.1 b.0.0 b.0.1 first.0.rest_fits b.1 in
    let both = Takes-then bytes (table_bytes a.0.0) a.0.1 (table_bytes b.0.0) b.0.1 first.0 second.0 in
    let made : Delta × List ℕ = (record { deleted = a.0.0; inserted = b.0.0 }, b.0.1) in
    subst (λ (y : Delta × List ℕ). Takes bytes (delta_bytes y.0) y.1 × IsSpelledDelta y.0) (some_is made (delta, rest) b.2)
    (both, record { deleted = first.1; inserted = second.1 })

delta_again : (delta : Delta) (rest : List ℕ) → IsSpelledDelta delta → delta_at (delta_bytes delta ++ rest) ≡ Some (delta, rest)
unfolding delta_at
delta_again delta rest fits =
    let regrouped : delta_bytes delta ++ rest ≡ table_bytes delta.deleted ++ (table_bytes delta.inserted ++ rest) = append_assoc (table_bytes delta.deleted) (table_bytes delta.inserted) rest in
    ap delta_at regrouped ∙ rw (table_reads.again delta.deleted (table_bytes delta.inserted ++ rest) fits.deleted, table_reads.again delta.inserted rest fits.inserted) refl

pub delta_reads : Reads delta_at delta_bytes IsSpelledDelta
delta_reads = record { takes = delta_takes; again = delta_again }
