-- Lines of changes have the kinds of their relations.
use Rattle.std.proofs.Common.{◌≡◌, ◌<◌, ◌==◌, ℕ, Bool, true, false, not, cond, List, [], ◌∷◌, length, map, Option, Some, None, Result, Ok, Err, refl, arith}
use Rattle.std.specs.Prelude.{All, IfOk, nat_lt}
use Rattle.std.specs.List.{AllByRecursion}
use Rattle.std.proofs.lemmas.Bool.{ltb-true}
use Rattle.std.proofs.lemmas.List.Elements.{All-from_recursion}
use borrow.Author.Tests.{eqb-true}
use Rattle.wh_base.specs.declared.value.Kind.{Kind}
use Rattle.wh_base.specs.Value.{row_kinds}
use Rattle.wh_schema.specs.declared.spec.Spec.{Spec}
use Rattle.wh_csv.proofs.RowLemmas.{kind_is, what_is_read}
use Rattle.wh_csv.specs.Change.{IsLineOf, is_sign, kinds_of, line_of, lines_of, numbered_fault, row_fault}
use Rattle.wh_csv.specs.declared.change.Line.{Line}
use Rattle.wh_csv.specs.declared.fault.CsvCause.{CsvCause}
use Rattle.wh_csv.specs.declared.fault.CsvFault.{CsvFault}
use Rattle.wh_csv.specs.Fields.{Gives, fault_or, field_at, first_fault, unless, values}
use Rattle.wh_csv.specs.Reading.{Record}

passes : (b : Bool) (cause : CsvCause) (later : Option CsvCause) → cond b (Some cause) later ≡ None → later ≡ None
passes true cause later e = absurd cc
passes false cause later e = e

holds : (b : Bool) (cause : CsvCause) (later : Option CsvCause) → cond b later (Some cause) ≡ None → (b ≡ true) × (later ≡ None)
holds true cause later e = (refl, e)
holds false cause later e = absurd cc

row_kinds-values : (ks : List Kind) (fs : Record) → length fs ≡ length ks → row_kinds (values ks fs) ≡ ks
row_kinds-values [] fs e = refl
row_kinds-values (k ∷ ks) [] e = absurd (omega arith)
row_kinds-values (k ∷ ks) (f ∷ fs) e = let rest = row_kinds-values ks fs (omega arith) in λ i. kind_is k f i ∷ rest i

of_row : (spec : Spec) (number : ℕ) (fs : Record) → row_fault spec number fs ≡ None → (number < length spec.relations) × (row_kinds (values (kinds_of spec number) fs) ≡ kinds_of spec number)
of_row spec number fs e =
    let known = holds (nat_lt number (length spec.relations)) _ _ e in
    let wide = holds (length fs == length (kinds_of spec number)) _ _ known.1 in
    (ltb-true _ _ known.0, row_kinds-values (kinds_of spec number) fs (eqb-true _ _ wide.0))

of_line : (spec : Spec) (at : ℕ) (r : Record) → numbered_fault spec at r ≡ None → IsLineOf spec (line_of spec r)
of_line spec at r e = of_row spec _ _ (passes (nat_lt (length r) 2) _ _ (passes (not (is_sign (field_at r 0))) _ _ (passes (nat_lt 1000000 at) _ _ e)))

no_fault : (at : ℕ) (o : Option CsvCause) (later : Option CsvFault) → fault_or at o later ≡ None → (o ≡ None) × (later ≡ None)
no_fault at None later e = (refl, e)
no_fault at (Some cause) later e = absurd cc

of_lines : (spec : Spec) (rs : List Record) (at : ℕ) → first_fault (numbered_fault spec) at rs ≡ None → AllByRecursion (IsLineOf spec) (map (line_of spec) rs)
of_lines spec [] at e = tt
of_lines spec (r ∷ rs) at e = let fine = no_fault at (numbered_fault spec at r) _ e in (of_line spec at r fine.0, of_lines spec rs _ fine.1)

no_first : {A : Type 0} (fault : Option CsvFault) (x y : A) → unless fault x ≡ Ok y → fault ≡ None
no_first None x y e = refl
no_first (Some fault) x y e = absurd cc

-- what is read as a change of a specification
pub lines_have_kinds : (spec : Spec) (rs : List (List (List ℕ))) (read : Result (List Line) CsvFault) → Gives read (lines_of spec rs) → IfOk read (λ lines. All (IsLineOf spec) lines)
lines_have_kinds spec rs (Ok lines) g = rw (← what_is_read _ _ _ g) (All-from_recursion (IsLineOf spec) _ (of_lines spec rs 1 (no_first _ _ _ g)))
lines_have_kinds spec rs (Err fault) g = tt
