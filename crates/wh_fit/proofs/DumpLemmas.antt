-- The rows of a dump have the kinds of the attributes, and their values have a spelling.
use Rattle.std.proofs.Common.{◌≡◌, ℕ, suc, ◌+◌, ◌<◌, ◌≤◌, ◌==◌, Bool, true, false, cond, if◌then◌else◌, List, [], ◌∷◌, map, length, Option, Some, None, Result, Ok, Err, Contains, refl, sym, ◌∙◌, ap, subst, inl, inr, arith}
use Rattle.std.specs.Prelude.{pos, FitsSigned, count_by, unwrap_or, nat_lt}
use Rattle.std.specs.Int.{w64}
use Rattle.std.specs.List.{AllByRecursion}
use Rattle.std.specs.Str.{is_utf8}
use Rattle.std.proofs.lemmas.Bool.{and_parts, cases_Bool, eqb-true, true≢false}
use Rattle.std.proofs.lemmas.Bool.Decides.{nat_tests}
use Rattle.std.proofs.lemmas.List.{length-map}
use Rattle.std.proofs.lemmas.List.Sums.{sum_by-cons}
use Rattle.std.proofs.lemmas.Str.{IsUtf8-from_is_utf8}
use Rattle.csv.specs.Records as Csv
use Rattle.wh_base.specs.declared.value.Attr.{Attr}
use Rattle.wh_base.specs.declared.value.Kind.{Kind}
use Rattle.wh_base.specs.declared.value.Kind.TheVariants as kind
use Rattle.wh_base.specs.declared.value.Value.{Value}
use Rattle.wh_base.specs.Columns.{name_eq, names_of, place_of}
use Rattle.wh_base.specs.Cond.{kind_of}
use Rattle.wh_base.specs.Integer.{integer_value}
use Rattle.wh_base.specs.RowSet.{first_seen}
use Rattle.wh_base.specs.Value.{row_eq, row_kinds}
use Rattle.wh_codec.specs.Body.{IsSpelledValue}
use Rattle.wh_csv.specs.declared.fault.CsvCause.{CsvCause}
use Rattle.wh_csv.specs.declared.fault.CsvCause.TheVariants.{Header}
use Rattle.wh_csv.specs.declared.fault.CsvFault.{CsvFault}
use Rattle.wh_csv.specs.declared.fault.CsvFault.TheVariants.{At}
use Rattle.wh_csv.specs.Dump.{column_kind, column_kinds, dump_of, each_once, field_in, is_header, row_of, rows_behind, rows_of, stand_once}
use Rattle.wh_csv.specs.Fields.{cause_or, fault_or, field_fault, field_value, fields_fault, first_fault, int_fault, integer, is_integer, record_fault, unless}
use Rattle.wh_csv.specs.Reading.{Record, records_of}
use Rattle.wh_csv.proofs.FieldLemmas.{is_integer-Decides}
use Rattle.wh_csv.proofs.RowLemmas.{row_kinds-row_of}
use Rattle.wh_schema.specs.Warehouse.{Row}
use Rattle.wh_store.specs.Image.{fit_attrs}
use Rattle.wh_laws.proofs.Equality.{Name, name_eq_decides, name_is_in, is_false}
use Rattle.wh_laws.proofs.Lists.{Contains-nil, Contains-here, Contains-there, Contains-cases, every_from, map_from, map_in}
use Rattle.wh_fit.specs.Fit.{AreSpelledRows}
use Rattle.wh_fit.proofs.Each.{each_in, seen_from}
use Rattle.wh_fit.proofs.KindLemmas.{fits_in}

-- ---- what breaks no rule

pub passes : (b : Bool) (cause : CsvCause) (later : Option CsvCause) → cond b (Some cause) later ≡ None → (b ≡ false) × (later ≡ None)
passes true cause later e = absurd cc
passes false cause later e = (refl, e)

pub holds : (b : Bool) (cause : CsvCause) (later : Option CsvCause) → cond b later (Some cause) ≡ None → (b ≡ true) × (later ≡ None)
holds true cause later e = (refl, e)
holds false cause later e = absurd cc

pub neither : (o later : Option CsvCause) → cause_or o later ≡ None → (o ≡ None) × (later ≡ None)
neither None later e = (refl, e)
neither (Some cause) later e = absurd cc

pub fine : {A : Type 0} (fault : Option CsvFault) (x y : A) → unless fault x ≡ Ok y → (fault ≡ None) × (x ≡ y)
fine None x y e = (refl, cc)
fine (Some fault) x y e = absurd cc

no_fault : (at : ℕ) (o : Option CsvCause) (later : Option CsvFault) → fault_or at o later ≡ None → (o ≡ None) × (later ≡ None)
no_fault at None later e = (refl, e)
no_fault at (Some cause) later e = absurd cc

-- records of which none is bad
pub each_fine : (broken : ℕ → Record → Option CsvCause) (rs : List Record) (at : ℕ) → first_fault broken at rs ≡ None → (r : Record) → Contains rs r → (n : ℕ) × (broken n r ≡ None)
each_fine broken [] at e r k = absurd (Contains-nil r k)
each_fine broken (q ∷ rs) at e r k =
    let f = no_fault at (broken at q) _ e in
    elim (Contains-cases q r rs k) [ inl same ↦ (at, ap (broken at) (sym same) ∙ f.0) | inr m ↦ each_fine broken rs (at + 1) f.1 r m ]

-- ---- values

spelled_text : (text : List ℕ) → field_fault kind.Text text ≡ None → IsSpelledValue (field_value kind.Text text)
spelled_text text e =
    let short = passes (nat_lt 65535 (length text)) _ _ e in
    let valid = holds (is_utf8 text) _ _ short.1 in
    (few short.0, IsUtf8-from_is_utf8 text valid.0)
  where
    few : nat_lt 65535 (length text) ≡ false → length text < 65536
    few f = grind (arith, nat_tests)

spelled_int : (text : List ℕ) → field_fault kind.Int text ≡ None → IsSpelledValue (field_value kind.Int text)
unfolding integer
spelled_int text e = by (is_integer text) refl e
  where
    by : (b : Bool) → is_integer text ≡ b → int_fault (if b then Some (integer_value text) else None) ≡ None → FitsSigned w64 (unwrap_or (if b then Some (integer_value text) else None) (pos 0))
    by true is e = ((is_integer-Decides text).0 is).1
    by false is e = absurd cc

-- the value of a field that breaks no rule has a spelling
pub spelled_field : (k : Kind) (text : List ℕ) → field_fault k text ≡ None → IsSpelledValue (field_value k text)
spelled_field kind.Int text e = spelled_int text e
spelled_field kind.Text text e = spelled_text text e

-- ---- columns by name

counted : (n m : Name) (names : List Name) (b : Bool) → name_eq n m ≡ b → count_by (name_eq n) (m ∷ names) ≡ cond b 1 0 + count_by (name_eq n) names
counted n m names b e = sum_by-cons (λ x. cond (name_eq n x) 1 0) m names ∙ ap (λ c. cond c 1 0 + count_by (name_eq n) names) e

count_none : (n : Name) (names : List Name) → (Contains names n → ⊥) → count_by (name_eq n) names ≡ 0
count_none n [] h = refl
count_none n (m ∷ names) h =
    let rest = count_none n names (λ k. h (Contains-there m n names k)) in
    let differs = is_false (name_eq n m) (name_eq_decides n m) (λ e. h (subst (Contains (m ∷ names)) (sym e) (Contains-here m names))) in
    omega (arith, counted n m names false differs, rest)

count_some : (n : Name) (names : List Name) → Contains names n → 1 ≤ count_by (name_eq n) names
count_some n [] k = absurd (Contains-nil n k)
count_some n (m ∷ names) k =
    elim (Contains-cases m n names k) [
      | inl e ↦ omega (arith, counted n m names true ((name_eq_decides n m).1 (sym e)))
      | inr l ↦
          let rest = count_some n names l in
          elim (cases_Bool (name_eq n m)) [
            | inl t ↦ omega (arith, counted n m names true t, rest)
            | inr f ↦ omega (arith, counted n m names false f, rest)
          ]
    ]

stands : (n : Name) (names : List Name) → count_by (name_eq n) names ≡ 1 → Contains names n
stands n names e = elim (name_is_in names n) [ inl k ↦ k | inr missing ↦ let none = count_none n names missing in absurd (omega (arith, e, none)) ]

-- the kind of an attribute whose name stands once
once_kind : (attrs : List Attr) (a : Attr) → Contains attrs a → count_by (name_eq a.name) (names_of attrs) ≡ 1 → kind_of a.name attrs ≡ Some a.kind
once_kind [] a k e = absurd (Contains-nil a k)
once_kind (b ∷ attrs) a k e =
    elim (cases_Bool (name_eq a.name b.name)) [
      | inl t ↦
          let none : count_by (name_eq a.name) (names_of attrs) ≡ 0 = omega (arith, counted a.name b.name (names_of attrs) true t, e) in
          elim (Contains-cases b a attrs k) [
            | inl same ↦ ap (λ c. if c then Some b.kind else kind_of a.name attrs) t ∙ ap (λ (x : Attr). Some x.kind) same
            | inr l ↦
                let some = count_some a.name (names_of attrs) (map_in (λ (x : Attr). x.name) attrs a l) in
                absurd (omega (arith, none, some))
          ]
      | inr f ↦
          let one : count_by (name_eq a.name) (names_of attrs) ≡ 1 = omega (arith, counted a.name b.name (names_of attrs) false f, e) in
          elim (Contains-cases b a attrs k) [
            | inl same ↦ absurd (true≢false (sym ((name_eq_decides a.name b.name).1 (ap (λ (x : Attr). x.name) (sym same))) ∙ f))
            | inr l ↦ ap (λ c. if c then Some b.kind else kind_of a.name attrs) f ∙ once_kind attrs a l one
          ]
    ]

once : (others names : List Name) → stand_once others names ≡ true → (n : Name) → Contains names n → count_by (name_eq n) others ≡ 1
once others names e n k = eqb-true (count_by (name_eq n) others) 1 (every_from (λ name. count_by (name_eq name) others == 1) names e n k)

-- the field in a column of a record that breaks no rule breaks none
column_fine : (f : Name → Kind) (header : List Name) (fields : Record) (n : Name) → Contains header n → length fields ≡ length header → fields_fault (map f header) fields ≡ None → field_fault (f n) (field_in header n fields) ≡ None
unfolding Csv.field_at
column_fine f [] fields n k l e = absurd (Contains-nil n k)
column_fine f (h ∷ header) [] n k l e = absurd (omega (arith, l))
column_fine f (h ∷ header) (x ∷ fields) n k l e =
    let parts = neither (field_fault (f h) x) (fields_fault (map f header) fields) e in
    by (name_eq n h) refl parts.0 (λ m. column_fine f header fields n m (omega (arith, l)) parts.1)
  where
    by : (b : Bool) → name_eq n h ≡ b → field_fault (f h) x ≡ None → (Contains header n → field_fault (f n) (field_in header n fields) ≡ None)
        → field_fault (f n) (unwrap_or (Csv.field_at (x ∷ fields) (if b then 0 else suc (place_of header n))) []) ≡ None
    by true is first more = ap (λ m. field_fault (f m) x) ((name_eq_decides n h).0 is) ∙ first
    by false is first more =
        more (elim (Contains-cases h n header k) [
          | inl same ↦ absurd (true≢false (sym ((name_eq_decides n h).1 (sym same)) ∙ is))
          | inr m ↦ m
        ])

-- ---- rows

row_spelled : (attrs : List Attr) (header fields : Record) → is_header attrs header ≡ true → record_fault (column_kinds attrs header) fields ≡ None → AllByRecursion IsSpelledValue (row_of attrs header fields)
row_spelled attrs header fields is e =
    let sides = and_parts (stand_once header (names_of attrs)) (stand_once (names_of attrs) header) is in
    let wide = holds (length fields == length (column_kinds attrs header)) _ _ e in
    let as_wide : length fields ≡ length header = eqb-true _ _ wide.0 ∙ length-map header (column_kind attrs) in
    let value : Attr → Value = λ a. field_value a.kind (field_in header a.name fields) in
    each_in IsSpelledValue (map value attrs) (λ v h.
    let a = map_from value attrs v h in
    let in_attrs : Contains (names_of attrs) a.0.name = map_in (λ (x : Attr). x.name) attrs a.0 a.1 in
    let in_header : Contains header a.0.name = stands a.0.name header (once header (names_of attrs) sides.0 a.0.name in_attrs) in
    let own : column_kind attrs a.0.name ≡ a.0.kind = ap (λ o. unwrap_or o kind.Int) (once_kind attrs a.0 a.1 (once (names_of attrs) header sides.1 a.0.name in_header)) in
    let good = column_fine (column_kind attrs) header fields a.0.name in_header as_wide wide.1 in
    subst IsSpelledValue a.2 (spelled_field a.0.kind (field_in header a.0.name fields) (subst (λ k. field_fault k (field_in header a.0.name fields) ≡ None) own good)))

seen_once : (o : Result (List Row) CsvFault) (rows : List Row) → each_once o ≡ Ok rows → (read : List Row) × (o ≡ Ok read) × (first_seen read ≡ rows)
seen_once (Ok read) rows e = (read, refl, cc)
seen_once (Err fault) rows e = absurd cc

rows_fit : (attrs : List Attr) (header : Record) (rs : List Record) (rows : List Row) → is_header attrs header ≡ true → each_once (rows_behind attrs header rs) ≡ Ok rows → (fit_attrs attrs rows ≡ true) × AreSpelledRows rows
rows_fit attrs header rs rows is e =
    let o = seen_once (rows_behind attrs header rs) rows e in
    let broken : ℕ → Record → Option CsvCause = λ at r. record_fault (column_kinds attrs header) r in
    let good = fine (first_fault broken 2 rs) (map (row_of attrs header) rs) o.0 o.1 in
    let from : (x : Row) → Contains rows x → (r : Record) × Contains rs r × (row_of attrs header r ≡ x) = λ x k.
    let seen : Contains (first_seen o.0) x = subst (λ z. Contains z x) (sym o.2) k in
    let read : Contains (map (row_of attrs header) rs) x = subst (λ z. Contains z x) (sym good.1) (seen_from row_eq o.0 x seen) in
    map_from (row_of attrs header) rs x read in (
      fits_in attrs rows (λ x k. let r = from x k in ap row_kinds (sym r.2) ∙ row_kinds-row_of attrs header r.0),
      each_in (AllByRecursion IsSpelledValue) rows (λ x k.
          let r = from x k in
          let one = each_fine broken rs 2 good.0 r.0 r.1 in
          subst (AllByRecursion IsSpelledValue) r.2 (row_spelled attrs header r.0 is one.1)),
    )

records_fit : (attrs : List Attr) (rs : List Record) (rows : List Row) → rows_of attrs rs ≡ Ok rows → (fit_attrs attrs rows ≡ true) × AreSpelledRows rows
records_fit attrs [] rows e = absurd cc
records_fit attrs (header ∷ rs) rows e = by (is_header attrs header) refl e
  where
    by : (b : Bool) → is_header attrs header ≡ b → (if b then each_once (rows_behind attrs header rs) else Err (At 1 Header)) ≡ Ok rows → (fit_attrs attrs rows ≡ true) × AreSpelledRows rows
    by true is e = rows_fit attrs header rs rows is e
    by false is e = absurd cc

pub dumps_fit : (text : List ℕ) (attrs : List Attr) (rows : List Row) → dump_of text attrs ≡ Ok rows → (fit_attrs attrs rows ≡ true) × AreSpelledRows rows
dumps_fit text attrs rows e = records_fit attrs (records_of text) rows e
