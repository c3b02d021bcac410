-- Lines of changes fit, and keep a state fitting.
use Rattle.std.proofs.Common.{◌≡◌, ◌⊎◌, ℕ, ◌<◌, ◌==◌, Bool, true, false, not, cond, List, [], ◌∷◌, ◌++◌, map, filter, length, get_or, None, Ok, Contains, refl, sym, ◌∙◌, ap, subst, inl, inr, arith}
use Rattle.std.specs.Prelude.{drop, nat_lt}
use Rattle.std.specs.List.{AllByRecursion}
use Rattle.std.proofs.lemmas.Bool.{cases_eq, eqb-true, ltb-true}
use Rattle.std.proofs.lemmas.List.{get_or-set_same, get_or-set_other, length-set}
use Rattle.std.proofs.lemmas.List.Elements.{Contains-append_cases}
use Rattle.wh_base.specs.declared.value.Attr.{Attr}
use Rattle.wh_base.specs.declared.value.Kind.{Kind}
use Rattle.wh_base.specs.RowSet.{has}
use Rattle.wh_base.specs.Value.{kinds, row_eq, row_kinds}
use Rattle.wh_codec.specs.Body.{IsSpelledValue}
use Rattle.wh_csv.specs.declared.change.Line as csv
use Rattle.wh_csv.specs.Change.{change_of, is_sign, kinds_of, line_of, number_of, numbered_fault}
use Rattle.wh_csv.specs.Fields.{field_at, field_fault, fields_fault, first_fault, values}
use Rattle.wh_csv.specs.Reading.{Record, records_of}
use Rattle.wh_csv.proofs.RowLemmas.{kind_is}
use Rattle.wh_schema.specs.declared.spec.Spec.{Spec}
use Rattle.wh_schema.specs.Changes.{Line, apply, apply_line}
use Rattle.wh_schema.specs.Warehouse.{Row, State, relation_at}
use Rattle.wh_store.specs.Image.{fit_attrs}
use Rattle.wh_laws.proofs.Lists.{Contains-here, Contains-there, filter_from, map_from}
use Rattle.wh_fit.specs.Fit.{IsFittingLine, IsFittingState, IsSpelledState, as_line}
use Rattle.wh_fit.proofs.DumpLemmas.{passes, holds, neither, fine, each_fine, spelled_field}
use Rattle.wh_fit.proofs.Each.{each_in, each_from, only}
use Rattle.wh_fit.proofs.KindLemmas.{fits_from, fits_in}

-- ---- lines that are read

values_kinds : (ks : List Kind) (fs : Record) → length fs ≡ length ks → row_kinds (values ks fs) ≡ ks
values_kinds [] fs e = refl
values_kinds (k ∷ ks) [] e = absurd (omega arith)
values_kinds (k ∷ ks) (f ∷ fs) e = let rest = values_kinds ks fs (omega arith) in λ i. kind_is k f i ∷ rest i

values_spelled : (ks : List Kind) (fs : Record) → fields_fault ks fs ≡ None → AllByRecursion IsSpelledValue (values ks fs)
values_spelled [] fs e = tt
values_spelled (k ∷ ks) [] e = tt
values_spelled (k ∷ ks) (f ∷ fs) e =
    let parts = neither (field_fault k f) (fields_fault ks fs) e in
    (spelled_field k f parts.0, values_spelled ks fs parts.1)

one_fits : (attrs : List Attr) (x : Row) → row_kinds x ≡ kinds attrs → fit_attrs attrs (x ∷ []) ≡ true
one_fits attrs x e = fits_in attrs (x ∷ []) (λ y k. ap row_kinds (sym (only x y k)) ∙ e)

line_fits : (spec : Spec) (at : ℕ) (r : Record) → numbered_fault spec at r ≡ None → IsFittingLine spec (as_line (line_of spec r))
line_fits spec at r e =
    let counted = passes (nat_lt 1000000 at) _ _ e in
    let signed = passes (not (is_sign (field_at r 0))) _ _ counted.1 in
    let named = passes (nat_lt (length r) 2) _ _ signed.1 in
    let n = number_of spec (field_at r 1) in
    let known = holds (nat_lt n (length spec.relations)) _ _ named.1 in
    let fields = drop 2 r in
    let wide = holds (length fields == length (kinds_of spec n)) _ _ known.1 in
    record {
      relation = ltb-true _ _ known.0;
      fits = one_fits (relation_at spec n).attrs (values (kinds_of spec n) fields) (values_kinds (kinds_of spec n) fields (eqb-true _ _ wide.0));
      spelled = values_spelled (kinds_of spec n) fields wide.1;
    }

pub changes_fit : (text : List ℕ) (spec : Spec) (lines : List csv.Line) → change_of text spec ≡ Ok lines → AllByRecursion (λ l. IsFittingLine spec (as_line l)) lines
changes_fit text spec lines e =
    let P : csv.Line → Type 0 = λ l. IsFittingLine spec (as_line l) in
    let rs = records_of text in
    let good = fine (first_fault (numbered_fault spec) 1 rs) (map (line_of spec) rs) lines e in
    subst (AllByRecursion P) good.1
    (each_in P (map (line_of spec) rs) (λ l k.
    let r = map_from (line_of spec) rs l k in
    let one = each_fine (numbered_fault spec) rs 1 good.0 r.0 r.1 in
    subst P r.2 (line_fits spec one.0 r.0 one.1)))

-- ---- lines that are applied

-- the rows of a relation after a line of it
abbrev line_rows : Bool → Row → List Row → List Row
line_rows inserts row rows = cond inserts (cond (has rows row) rows (rows ++ row ∷ [])) (filter (λ x. not (row_eq row x)) rows)

-- each of them was there, or is the row of the line
changed_from : (inserts : Bool) (row : Row) (rows : List Row) (x : Row) → Contains (line_rows inserts row rows) x → Contains rows x ⊎ (row ≡ x)
changed_from true row rows x k = by (has rows row) k
  where
    by : (b : Bool) → Contains (cond b rows (rows ++ row ∷ [])) x → Contains rows x ⊎ (row ≡ x)
    by true k = inl k
    by false k = elim (Contains-append_cases rows (row ∷ []) x k) [ inl m ↦ inl m | inr m ↦ inr (only row x m) ]
changed_from false row rows x k = inl (filter_from (λ y. not (row_eq row y)) rows x k).0

abbrev EachRow : ℕ → (ℕ → Row → Type 0) → State → Type 0
EachRow n Q s = (i : ℕ) → i < n → (x : Row) → Contains (get_or s i []) x → Q i x

line_keeps : (n : ℕ) (Q : ℕ → Row → Type 0) (s : State) (l : Line) → length s ≡ n → l.relation < n → Q l.relation l.row → EachRow n Q s → EachRow n Q (apply_line s l)
line_keeps n Q s l count below here h i m x k =
    let rows = line_rows l.inserts l.row (get_or s l.relation []) in
    elim (cases_eq i l.relation) [
      | inl e ↦
          let same : get_or (apply_line s l) i [] ≡ rows = ap (λ j. get_or (apply_line s l) j []) e ∙ get_or-set_same s l.relation rows [] (omega (arith, count, below)) in
          let there : Contains rows x = subst (λ z. Contains z x) same k in
          let one : Q l.relation x = elim (changed_from l.inserts l.row (get_or s l.relation []) x there) [
            | inl old ↦ h l.relation below x old
            | inr is ↦ subst (Q l.relation) is here
          ] in
          subst (λ j. Q j x) (sym e) one
      | inr d ↦ h i m x (subst (λ z. Contains z x) (get_or-set_other s l.relation i rows [] d) k)
    ]

line_count : (s : State) (l : Line) → length (apply_line s l) ≡ length s
line_count s l = length-set s l.relation (line_rows l.inserts l.row (get_or s l.relation []))

abbrev IsLineFor : ℕ → (ℕ → Row → Type 0) → Line → Type 0
IsLineFor n Q l = (l.relation < n) × Q l.relation l.row

lines_keep : (n : ℕ) (Q : ℕ → Row → Type 0) (lines : List Line) (s : State) → length s ≡ n → ((l : Line) → Contains lines l → IsLineFor n Q l) → EachRow n Q s → EachRow n Q (apply s lines)
lines_keep n Q [] s count fit h = h
lines_keep n Q (l ∷ lines) s count fit h =
    let one = fit l (Contains-here l lines) in
    lines_keep n Q lines (apply_line s l) (line_count s l ∙ count) (λ t k. fit t (Contains-there l t lines k)) (line_keeps n Q s l count one.0 one.1 h)

lines_count : (lines : List Line) (s : State) → length (apply s lines) ≡ length s
lines_count [] s = refl
lines_count (l ∷ lines) s = lines_count lines (apply_line s l) ∙ line_count s l

pub lines_keep_fit : (spec : Spec) (lines : List Line) (s : State) → AllByRecursion (IsFittingLine spec) lines → IsFittingState spec s
    → IsFittingState spec (apply s lines) × (IsSpelledState spec s → IsSpelledState spec (apply s lines))
lines_keep_fit spec lines s all h =
    let n = length spec.relations in
    let Fits : ℕ → Row → Type 0 = λ i x. row_kinds x ≡ kinds (relation_at spec i).attrs in
    let Spelled : ℕ → Row → Type 0 = λ i x. AllByRecursion IsSpelledValue x in
    let line : (l : Line) → Contains lines l → IsFittingLine spec l = each_from (IsFittingLine spec) lines all in
    let fits : EachRow n Fits (apply s lines) =
    lines_keep n Fits lines s h.relations (λ l k. let f = line l k in (f.relation, fits_from (relation_at spec l.relation).attrs (l.row ∷ []) f.fits l.row (Contains-here l.row [])))
    (λ i m x k. fits_from (relation_at spec i).attrs (get_or s i []) (h.rows i m) x k) in (
      record {
        relations = lines_count lines s ∙ h.relations;
        rows = λ i m. fits_in (relation_at spec i).attrs (get_or (apply s lines) i []) (fits i m);
      },
      λ spelled i m.
          let kept : EachRow n Spelled (apply s lines) =
          lines_keep n Spelled lines s h.relations (λ l k. let f = line l k in (f.relation, f.spelled))
          (λ j q x k. each_from (AllByRecursion IsSpelledValue) (get_or s j []) (spelled j q) x k) in
          each_in (AllByRecursion IsSpelledValue) (get_or (apply s lines) i []) (kept i m),
    )
