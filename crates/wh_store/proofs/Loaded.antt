-- A file of one snapshot is a loaded store.
use Rattle.std.proofs.Common.{◌≡◌, ℕ, zero, suc, ◌+◌, ◌<◌, ◌≤◌, ◌^◌, Bool, true, false, not, ◌&&◌, if◌then◌else◌, List, [], ◌∷◌, length, get_or, None, Some, is_some, Result, Ok, Err, refl, sym, ap, subst, ◌∙◌, arith, nat_eq, nat_lt, true≢false, cond}
use Rattle.std.specs.Cmp.Lexicographic.{pointwise}
use Rattle.std.specs.List.{list_all, AllByRecursion, position, position_or_len}
use Rattle.std.specs.Str.{bytes_eq}
use Rattle.std.proofs.lemmas.Bool.{eqb-true, lt-ltb, ltb-false}
use Rattle.std.proofs.lemmas.Option.{none-some}
use Rattle.std.proofs.lemmas.Slice.Eq.{bytes_eq-Decides}
use Rattle.wh_base.specs.declared.value.Attr.{Attr}
use Rattle.wh_base.specs.declared.value.Kind.{Kind}
use Rattle.wh_base.specs.declared.value.Kind.TheVariants.{Int, Text}
use Rattle.wh_base.specs.RowSet.{IsAscending}
use Rattle.wh_base.specs.Value.{row_kinds, kinds}
use Rattle.wh_codec.specs.declared.frame.Frame.TheVariants.{Snapshot}
use Rattle.wh_codec.specs.Body.{AreAlike, IsSpelledRow, IsSpelledTable, IsSpelledSnapshot}
use Rattle.wh_codec.specs.Reading.{frame_of}
use Rattle.wh_codec.proofs.Frames.{body_again}
use Rattle.wh_expr.specs.Typing.{kind_eq}
use Rattle.wh_journal.specs.File.{is_empty, frames_of, walk, judged}
use Rattle.wh_plan.specs.Plan.{too_many}
use Rattle.wh_schema.specs.declared.fault.SpecFault.{SpecFault}
use Rattle.wh_schema.specs.declared.raw.RawStatement.{RawStatement}
use Rattle.wh_schema.specs.declared.spec.Spec.{Spec}
use Rattle.wh_schema.specs.Rules.{IsWithinLimits, checked, empty_spec}
use Rattle.wh_schema.specs.Warehouse.{Row, numbers}
use Rattle.wh_grammar.specs.declared.fault.TextFault.{TextFault}
use Rattle.wh_laws.proofs.Accepting.{accepted, empty_within}
use Rattle.wh_spec_text.specs.Printed.{spec_text}
use Rattle.wh_spec_text.specs.SpecTexts.{spec_of_text, spec_of_raw, ruled}
use Rattle.wh_spec_text.specs.Texts.{raw_of_text}
use Rattle.wh_spec_text.specs.Textual.{IsTextualSpec}
use Rattle.wh_store.specs.Image.{stored_count, stored_attrs, row_limit, fit_attrs, fits_stored, fit_stored, first_over, end_behind, accepted_from, printed_spec, snapshot_over, after_first, replayed, replayed_on, some_image, image_of_bodies, image_of_frames, file_image, both, holding}
use Rattle.wh_store.specs.Store.{loaded_body, loaded_image, loaded}
use Rattle.wh_store.proofs.StoredLemmas.{and_true, all_at, all_from, item_of}

-- ---- limits of a specification that a text says

ruled_within : (r : Result Spec SpecFault) (spec : Spec) → ruled r ≡ Ok spec → r ≡ Ok spec
ruled_within (Ok s) spec e = let same : s ≡ spec = cc in ap (λ (x : Spec). Ok x) same
ruled_within (Err fault) spec e = absurd cc

raw_within : (raw : Result (List RawStatement) TextFault) (spec : Spec) → spec_of_raw raw ≡ Ok spec → IsWithinLimits spec
raw_within (Ok statements) spec e = (accepted statements 1 empty_spec spec (ruled_within (checked statements) spec e)).within empty_within
raw_within (Err fault) spec e = absurd cc

pub textual_within : (spec : Spec) → IsTextualSpec spec → IsWithinLimits spec
unfolding spec_of_text
textual_within spec textual = raw_within (raw_of_text (spec_text spec)) spec textual

-- ---- what fits has a spelling

kind_is : (a b : Kind) → kind_eq a b ≡ true → a ≡ b
kind_is Int Int e = refl
kind_is Int Text e = absurd (true≢false (sym e))
kind_is Text Int e = absurd (true≢false (sym e))
kind_is Text Text e = refl

kinds_are : (xs ys : List Kind) → pointwise kind_eq xs ys ≡ true → xs ≡ ys
kinds_are [] [] e = refl
kinds_are [] (y ∷ ys) e = absurd (true≢false (sym e))
kinds_are (x ∷ xs) [] e = absurd (true≢false (sym e))
kinds_are (x ∷ xs) (y ∷ ys) e =
    let both = and_true (kind_eq x y) (pointwise kind_eq xs ys) e in
    λ i. kind_is x y both.0 i ∷ kinds_are xs ys both.1 i

all_kinds : (attrs : List Attr) (rows : List Row) → fit_attrs attrs rows ≡ true → AllByRecursion (λ row. row_kinds row ≡ kinds attrs) rows
all_kinds attrs [] e = tt
all_kinds attrs (row ∷ rows) e =
    let both = and_true (pointwise kind_eq (row_kinds row) (kinds attrs)) (fit_attrs attrs rows) e in
    (kinds_are (row_kinds row) (kinds attrs) both.0, all_kinds attrs rows both.1)

alike_from : (ks : List Kind) (row : Row) (rows : List Row) → row_kinds row ≡ ks → AllByRecursion (λ other. row_kinds other ≡ ks) rows → AllByRecursion (λ other. row_kinds other ≡ row_kinds row) rows
alike_from ks row [] is all = tt
alike_from ks row (other ∷ rows) is all = (all.0 ∙ sym is, alike_from ks row rows is all.1)

are_alike : (attrs : List Attr) (rows : List Row) → fit_attrs attrs rows ≡ true → AreAlike rows
are_alike attrs [] e = tt
are_alike attrs (row ∷ rows) e = let all = all_kinds attrs (row ∷ rows) e in alike_from (kinds attrs) row rows all.0 all.1

-- no table is over the limit
reached : (p : List Row → Bool) (tables : List (List Row)) (k : ℕ) → k < length tables → p (get_or tables k []) ≡ true → position_or_len p tables < length tables
reached p [] k below e = absurd (omega arith)
reached p (t ∷ ts) k below e = by (p t) refl k below e (reached p ts)
  where
    by : (b : Bool) → p t ≡ b → (k : ℕ) → k < suc (length ts) → p (get_or (t ∷ ts) k []) ≡ true → ((j : ℕ) → j < length ts → p (get_or ts j []) ≡ true → position_or_len p ts < length ts) → position_or_len p (t ∷ ts) < suc (length ts)
    by true is k below e ih = subst (λ b. cond (not b) (1 + position_or_len p ts) 0 < suc (length ts)) (sym is) (omega arith)
    by false is zero below e ih = absurd (true≢false (sym e ∙ is))
    by false is (suc k) below e ih = let later : position_or_len p ts < length ts = ih k (omega arith) e in subst (λ b. cond (not b) (1 + position_or_len p ts) 0 < suc (length ts)) (sym is) (omega arith)

not_over : (p : List Row → Bool) (tables : List (List Row)) (k : ℕ) → position p tables ≡ None → k < length tables → p (get_or tables k []) ≡ false
not_over p tables k none below = by (p (get_or tables k [])) refl
  where
    found : position_or_len p tables < length tables → position p tables ≡ Some (position_or_len p tables)
    found inside = ap (λ b. cond b (Some (position_or_len p tables)) None) (lt-ltb (position_or_len p tables) (length tables) inside)

    by : (b : Bool) → p (get_or tables k []) ≡ b → p (get_or tables k []) ≡ false
    by true e = absurd (none-some (position_or_len p tables) (sym none ∙ found (reached p tables k below e)))
    by false e = e

pub few_tables : (spec : Spec) (tables : List (List Row)) → IsTextualSpec spec → fit_stored spec tables ≡ true → length tables ≤ 128
few_tables spec tables textual fits =
    let both = and_true (nat_eq (length tables) (stored_count spec)) (list_all (λ k. fits_stored spec k (get_or tables k [])) (numbers (stored_count spec))) fits in
    let count : length tables ≡ stored_count spec = eqb-true (length tables) (stored_count spec) both.0 in
    let within = textual_within spec textual in
    omega (arith, count, within.relations, within.views)

module _ (spec : Spec) (tables : List (List Row)) (textual : IsTextualSpec spec) (fits : fit_stored spec tables ≡ true) (few : first_over tables ≡ None)
    (ascending : AllByRecursion IsAscending tables) (spelled : AllByRecursion (AllByRecursion IsSpelledRow) tables) where
  counts : (length tables ≡ stored_count spec) × (list_all (λ k. fits_stored spec k (get_or tables k [])) (numbers (stored_count spec)) ≡ true)
  counts =
      let both = and_true (nat_eq (length tables) (stored_count spec)) (list_all (λ k. fits_stored spec k (get_or tables k [])) (numbers (stored_count spec))) fits in
      (eqb-true (length tables) (stored_count spec) both.0, both.1)

  spelled_table : (k : ℕ) → k < length tables → IsSpelledTable (get_or tables k [])
  spelled_table k below =
      let rows = get_or tables k [] in
      let small : length rows ≤ row_limit = ltb-false row_limit (length rows) (not_over (λ (r : List Row). nat_lt row_limit (length r)) tables k few below) in
      record {
        count = omega (arith, small);
        rows = item_of (AllByRecursion IsSpelledRow) tables [] k spelled below;
        alike = are_alike (stored_attrs spec k) rows (all_at (λ j. fits_stored spec j (get_or tables j [])) (stored_count spec) k counts.1 (omega (arith, counts.0)));
        ascending = item_of IsAscending tables [] k ascending below;
      }

  pub spelled_snapshot : length (spec_text spec) < 2 ^ 32 → IsSpelledSnapshot 1 0 (spec_text spec) tables
  spelled_snapshot short = record {
    generation = omega arith;
    seq = omega arith;
    spec = short;
    count = omega (arith, few_tables spec tables textual fits);
    tables = all_from IsSpelledTable tables [] spelled_table;
  }

-- ---- what the file holds

printed_again : (spec : Spec) → IsTextualSpec spec → too_many spec ≡ None → printed_spec (spec_text spec) ≡ Some spec
printed_again spec textual none =
    let same : bytes_eq (spec_text spec) (spec_text spec) ≡ true = (bytes_eq-Decides (spec_text spec) (spec_text spec)).1 refl in
    ap (accepted_from (spec_text spec)) textual ∙ (λ i. if same i && not (is_some (none i)) then Some spec else None)

module _ (spec : Spec) (tables : List (List Row)) (textual : IsTextualSpec spec) (none : too_many spec ≡ None) (fits : fit_stored spec tables ≡ true) (few : first_over tables ≡ None)
    (spelled : IsSpelledSnapshot 1 0 (spec_text spec) tables) where
  first_is : after_first (end_behind 0 (loaded_body spec tables)) (frame_of (loaded_body spec tables)) ≡ Some (loaded_image spec tables)
  first_is =
      let body = loaded_body spec tables in
      let end = end_behind 0 body in
      ap (after_first end) (body_again body (Snapshot 1 0 (spec_text spec) tables) (record { spelled = spelled; bytes = refl }))
      ∙ ap (snapshot_over 1 0 tables end) (printed_again spec textual none)
      ∙ (λ i. if fits i && not (is_some (few i)) then Some (loaded_image spec tables) else None)

  bodies_are : image_of_bodies (loaded_body spec tables ∷ []) ≡ Ok (Some (loaded_image spec tables))
  bodies_are = ap (λ o. some_image (replayed_on (replayed []) 0 o)) first_is

  pub alone_holds : (image second : List ℕ) → frames_of image ≡ Ok (loaded_body spec tables ∷ []) → is_empty second ≡ true → holding image second ≡ Ok (Some (loaded spec tables))
  unfolding holding
  alone_holds image second frames empty =
      let here : file_image image ≡ Ok (Some (loaded_image spec tables)) = ap image_of_frames frames ∙ bodies_are in
      let there : file_image second ≡ Ok None = ap image_of_frames (λ i. if empty i then Ok [] else judged (walk second)) in
      λ i. both (here i) (there i)
