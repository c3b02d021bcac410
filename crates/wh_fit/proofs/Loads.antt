-- States by dumps.
use Rattle.std.proofs.Common.{◌≡◌, ℕ, List, [], Ok, get_or}
use Rattle.wh_base.specs.RowSet.{IsAscending}
use Rattle.wh_schema.specs.declared.spec.Spec.{Spec}
use Rattle.wh_schema.specs.Warehouse.{State, relation_at, stored}
use Rattle.wh_spec_text.specs.SpecTexts.{spec_of_text}
use Rattle.wh_spec_text.proofs.TextualLemmas.{answers_are_textual}
use Rattle.wh_laws.proofs.Stored.{stored_ascending}
use Rattle.wh_fit.specs.Fit.{AreDumps, IsFittingState, IsLoad, IsSpelledState}
use Rattle.wh_fit.proofs.Carried.{fitting_is_state}
use Rattle.wh_fit.proofs.DumpLemmas.{dumps_fit}
use Rattle.wh_fit.proofs.Each.{each_in}
use Rattle.wh_fit.proofs.SpelledTables.{rows_spelled, stored_spelled}
use Rattle.wh_fit.proofs.StoredKinds.{stored_fits}
use Rattle.wh_fit.proofs.TextSpecs.{found}

dumps_fit_state : (spec : Spec) (s : State) → AreDumps spec s → IsFittingState spec s
dumps_fit_state spec s d = record {
  relations = d.relations;
  rows = λ i l. let t = d.dumps i l in (dumps_fit t.0 (relation_at spec i).attrs (get_or s i []) t.1).0;
}

dumps_are_spelled : (spec : Spec) (s : State) → AreDumps spec s → IsSpelledState spec s
dumps_are_spelled spec s d = λ i l. let t = d.dumps i l in (dumps_fit t.0 (relation_at spec i).attrs (get_or s i []) t.1).1

pub loads : (text : List ℕ) (spec : Spec) (s : State) → spec_of_text text ≡ Ok spec → AreDumps spec s → IsLoad spec s
loads text spec s e d =
    let f = found text spec e in
    let fits = dumps_fit_state spec s d in
    let spelled = dumps_are_spelled spec s d in
    record {
      well_formed = f.well_formed;
      state = fitting_is_state spec s fits;
      fits = fits;
      spelled = spelled;
      loadable = record {
        textual = answers_are_textual text spec e;
        fits = stored_fits spec s f.well_formed f.kinded fits;
        ascending = each_in IsAscending (stored spec s) (λ rows h. stored_ascending spec s rows h);
        spelled = rows_spelled spec s f.well_formed f.kinded fits spelled;
      };
      tables = stored_spelled spec s f.well_formed f.kinded fits spelled;
    }
