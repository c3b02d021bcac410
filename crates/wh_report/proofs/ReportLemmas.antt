-- The report goes by the rows as sets.
use Rattle.std.proofs.Common.{◌≡◌, ℕ, ◌+◌, ◌<◌, List, [], ◌++◌, length, refl, ap, subst, ◌∙◌, arith}
use Rattle.std.specs.Prelude.{codes}
use Rattle.std.specs.List.{flat_map}
use Rattle.wh_answer.specs.Answer.{rows_of}
use Rattle.wh_answer.proofs.SameSources.{reconstructed_same}
use Rattle.wh_base.specs.Lines.{line}
use Rattle.wh_base.specs.RowSet.{SameRows}
use Rattle.wh_base.proofs.InOrder.{SameRows-in_order}
use Rattle.wh_laws.proofs.Reconstruction.{reconstruction_gives, same_rows_is, same_rows_trans}
use Rattle.wh_laws.proofs.Stored.{stored_complement, stored_view}
use Rattle.wh_schema.specs.declared.spec.Spec.{Spec}
use Rattle.wh_schema.specs.EmptyMark.{always_empty}
use Rattle.wh_schema.specs.Reconstruction.{reconstructed}
use Rattle.wh_schema.specs.Warehouse.{Row, SameState, State, complement, numbers, relation_at, sources_of, stored, view_at, view_table}
use Rattle.wh_store.specs.declared.warehouse.Warehouse.{Warehouse}
use Rattle.wh_store.specs.Image.{Image}
use Rattle.wh_store.specs.Warehouse.{IsWarehouseOf}
use Rattle.wh_report.specs.Report.{Parts, ReportsAreOfState, complement_line, counted, mark, parts_beside, refreshes_line, relation_line, report_over, report_text, rows_at, state_parts, total, totals_line, view_line}
use Rattle.wh_report.proofs.GivenBack.{held_tables}
use Rattle.wh_report.proofs.Numbered.{count_same, flat_same, total_same, total_split}

-- the same rows of each view, of each complement and of each relation
pub record SameParts (spec : Spec) (a b : Parts) : Type 0 where
  pub views : (j : ℕ) → j < length spec.views → SameRows (a.view j) (b.view j)
  pub complements : (r : ℕ) → r < length spec.relations → SameRows (a.complement r) (b.complement r)
  pub relations : (r : ℕ) → r < length spec.relations → SameRows (a.relation r) (b.relation r)

module _ (spec : Spec) (a b : Parts) (same : SameParts spec a b) where
  views_same : flat_map (view_line spec a.view) (numbers (length spec.views)) ≡ flat_map (view_line spec b.view) (numbers (length spec.views))
  views_same =
      flat_same (view_line spec a.view) (view_line spec b.view) (length spec.views)
      (λ j l. ap (λ n. line (counted (codes "view") (view_at spec j).name n)) (count_same (a.view j) (b.view j) (same.views j l)))

  complements_same : flat_map (complement_line spec a.complement) (numbers (length spec.relations)) ≡ flat_map (complement_line spec b.complement) (numbers (length spec.relations))
  complements_same =
      flat_same (complement_line spec a.complement) (complement_line spec b.complement) (length spec.relations)
      (λ r l. ap (λ n. line (counted (codes "complement") (relation_at spec r).name n ++ mark (always_empty spec r))) (count_same (a.complement r) (b.complement r) (same.complements r l)))

  relations_same : flat_map (relation_line spec a.relation) (numbers (length spec.relations)) ≡ flat_map (relation_line spec b.relation) (numbers (length spec.relations))
  relations_same =
      flat_same (relation_line spec a.relation) (relation_line spec b.relation) (length spec.relations)
      (λ r l. ap (λ n. line (counted (codes "relation") (relation_at spec r).name n)) (count_same (a.relation r) (b.relation r) (same.relations r l)))

  totals_same : totals_line (total a.view (length spec.views) + total a.complement (length spec.relations)) (total a.relation (length spec.relations))
      ≡ totals_line (total b.view (length spec.views) + total b.complement (length spec.relations)) (total b.relation (length spec.relations))
  totals_same =
      let views = total_same a.view b.view (length spec.views) same.views in
      let complements = total_same a.complement b.complement (length spec.relations) same.complements in
      let relations = total_same a.relation b.relation (length spec.relations) same.relations in
      λ i. totals_line (views i + complements i) (relations i)

  pub report_same : (seq : ℕ) → report_over spec a seq ≡ report_over spec b seq
  report_same seq = λ i. refreshes_line seq ++ views_same i ++ complements_same i ++ relations_same i ++ totals_same i

-- the report, piece by piece
module _ (spec : Spec) (tables : List (List Row)) (s : State) (seq : ℕ) where
  pub written : (t0 t1 t2 t3 t4 t5 : List ℕ) (stored_rows source_rows : ℕ) → t0 ≡ [] → t1 ≡ t0 ++ refreshes_line seq
      → t2 ≡ t1 ++ flat_map (view_line spec (rows_at tables)) (numbers (length spec.views))
      → t3 ≡ t2 ++ flat_map (complement_line spec (λ r. rows_at tables (length spec.views + r))) (numbers (length spec.relations))
      → t4 ≡ t3 ++ flat_map (relation_line spec (rows_at s)) (numbers (length spec.relations))
      → t5 ≡ t4 ++ totals_line stored_rows source_rows
      → stored_rows ≡ total (rows_at tables) (length spec.views + length spec.relations) → source_rows ≡ total (rows_at s) (length spec.relations)
      → t5 ≡ report_over spec (parts_beside spec tables s) seq
  written t0 t1 t2 t3 t4 t5 stored_rows source_rows e0 e1 e2 e3 e4 e5 stored_are sources_are =
      let stored_is = stored_are ∙ total_split (rows_at tables) (length spec.views) (length spec.relations) in
      let views = flat_map (view_line spec (rows_at tables)) (numbers (length spec.views)) in
      let complements = flat_map (complement_line spec (λ r. rows_at tables (length spec.views + r))) (numbers (length spec.relations)) in
      let relations = flat_map (relation_line spec (rows_at s)) (numbers (length spec.relations)) in
      let front1 = e1 ∙ ap (λ t. t ++ refreshes_line seq) e0 in
      let front2 = e2 ∙ ap (λ t. t ++ views) front1 in
      let front3 = e3 ∙ ap (λ t. t ++ complements) front2 in
      let front4 = e4 ∙ ap (λ t. t ++ relations) front3 in
      e5 ∙ (λ i. front4 i ++ totals_line (stored_is i) (sources_are i))

-- the report over the tables of a warehouse, and the relations that these give back, is the one of its image
pub report_is : (w : Warehouse) (i : Image) (s : State) → IsWarehouseOf i w → SameState w.plan.spec s (reconstructed w.plan.spec (rows_of w.tables))
    → report_over w.plan.spec (parts_beside w.plan.spec (rows_of w.tables) s) w.seq ≡ report_text i
report_is w i s k given =
    let ts = rows_of w.tables in
    let held = held_tables w i k in
    let given_here = subst (λ (sp : Spec). SameState sp s (reconstructed sp ts)) k.spec given in
    (λ j. report_over (k.spec j) (parts_beside (k.spec j) ts s) (k.seq j))
    ∙ report_same i.spec (parts_beside i.spec ts s) (parts_beside i.spec i.tables (reconstructed i.spec i.tables))
    (record {
      views = λ j l. held j (omega (arith, l));
      complements = λ r l. held (length i.spec.views + r) (omega (arith, l));
      relations = λ r l. same_rows_trans _ _ _ (given_here r l) (reconstructed_same i.spec ts i.tables held r);
    }) i.seq

pub reports_are_of_state : ReportsAreOfState
reports_are_of_state i spec s n legal same_spec same_tables same_seq =
    let ts = stored spec s in
    (λ j. report_over (same_spec j) (parts_beside (same_spec j) (same_tables j) (reconstructed (same_spec j) (same_tables j))) (same_seq j))
    ∙ report_same spec (parts_beside spec ts (reconstructed spec ts)) (state_parts spec s)
    (record {
      views = λ j l. same_rows_trans _ _ _ (same_rows_is _ _ (stored_view spec s j l)) (SameRows-in_order (view_table spec s j).rows);
      complements = λ r l. same_rows_trans _ _ _ (same_rows_is _ _ (stored_complement spec s r l)) (SameRows-in_order (complement spec (sources_of spec s) r));
      relations = reconstruction_gives spec s legal.rules legal.state legal.legal ts (λ k. same_rows_is _ _ refl);
    }) n
