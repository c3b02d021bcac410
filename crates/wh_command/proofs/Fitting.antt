-- What is stored of dumps may be loaded.
use Rattle.std.proofs.Common.{◌≡◌, ℕ, zero, suc, ◌<◌, true, List, [], ◌∷◌, length, get_or, refl, sym, subst, arith}
use Rattle.std.specs.List.{AllByRecursion}
use Rattle.wh_base.specs.RowSet.{IsAscending}
use Rattle.wh_codec.specs.Body.{IsSpelledRow}
use Rattle.wh_fit.specs.Fit.{IsLoad}
use Rattle.wh_fit.proofs.Loads.{loads}
use Rattle.wh_schema.specs.declared.spec.Relation.{Relation}
use Rattle.wh_schema.specs.declared.spec.Spec.{Spec}
use Rattle.wh_schema.specs.Warehouse.{Row, State, no_relation, stored}
use Rattle.wh_schema.specs.Legality.{WellFormed}
use Rattle.wh_spec_text.specs.Textual.{IsTextualSpec}
use Rattle.wh_spec_text.proofs.TextualLemmas.{answers_are_textual}
use Rattle.wh_store.specs.Image.{fit_stored}
use Rattle.wh_store.proofs.TextualLemmas.{textual_is_well_formed}
use Rattle.wh_command.specs.Inputs.{IsFromText, IsDumpOf, AreDumpsOf}

pub text_is_textual : (spec : Spec) → IsFromText spec → IsTextualSpec spec
text_is_textual spec text = answers_are_textual text.0 spec text.1

pub text_is_well_formed : (spec : Spec) → IsFromText spec → WellFormed spec
text_is_well_formed spec text = textual_is_well_formed spec (text_is_textual spec text)

dumps_count : (relations : List Relation) (s : State) → AreDumpsOf relations s → length s ≡ length relations
dumps_count [] [] dumps = refl
dumps_count [] (rows ∷ s) dumps = absurd dumps
dumps_count (r ∷ rs) [] dumps = absurd dumps
dumps_count (r ∷ rs) (rows ∷ s) dumps = let rest = dumps_count rs s dumps.1 in omega (arith, rest)

dumps_at : (relations : List Relation) (s : State) → AreDumpsOf relations s → (i : ℕ) → i < length relations → IsDumpOf (get_or relations i no_relation) (get_or s i [])
dumps_at [] s dumps i below = absurd (omega (arith, below))
dumps_at (r ∷ rs) [] dumps i below = absurd dumps
dumps_at (r ∷ rs) (rows ∷ s) dumps zero below = dumps.0
dumps_at (r ∷ rs) (rows ∷ s) dumps (suc i) below = dumps_at rs s dumps.1 i (omega (arith, below))

pub load_is : (spec : Spec) (s : State) → IsFromText spec → AreDumpsOf spec.relations s → IsLoad spec s
load_is spec s text dumps = loads text.0 spec s text.1 (record { relations = dumps_count spec.relations s dumps; dumps = dumps_at spec.relations s dumps })

module _ (spec : Spec) (s : State) (tables : List (List Row)) (text : IsFromText spec) (dumps : AreDumpsOf spec.relations s) (is : tables ≡ stored spec s) where
  pub stored_fits : fit_stored spec tables ≡ true
  stored_fits = subst (λ (t : List (List Row)). fit_stored spec t ≡ true) (sym is) (load_is spec s text dumps).loadable.fits

  pub stored_ascends : AllByRecursion IsAscending tables
  stored_ascends = subst (AllByRecursion IsAscending) (sym is) (load_is spec s text dumps).loadable.ascending

  pub stored_is_spelled : AllByRecursion (AllByRecursion IsSpelledRow) tables
  stored_is_spelled = subst (AllByRecursion (AllByRecursion IsSpelledRow)) (sym is) (load_is spec s text dumps).loadable.spelled
