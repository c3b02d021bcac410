-- An audit goes by the rows as sets, and says nothing where they are the same.
use Rattle.std.proofs.Common.{◌≡◌, ℕ, not, List, [], ◌∷◌, ◌++◌, Contains, refl, sym, ap, subst, ◌∙◌, inl, inr}
use Rattle.std.specs.Prelude.{codes}
use Rattle.std.specs.List.{flat_map}
use Rattle.std.proofs.lemmas.Bool.{cases_Bool, true≢false}
use Rattle.wh_answer.specs.Answer.{rows_of}
use Rattle.wh_answer.proofs.SameSources.{reconstructed_same}
use Rattle.wh_base.specs.Lines.{comma, csv_record, line}
use Rattle.wh_base.specs.RowSet.{SameRows, has, in_order}
use Rattle.wh_base.specs.Tables.{without}
use Rattle.wh_base.proofs.InOrder.{SameMembers-from, SameRows-from, in_order-same}
use Rattle.wh_base.proofs.RowSets.{SameRows-filter}
use Rattle.wh_fit.specs.Differences.{difference}
use Rattle.wh_fit.proofs.DifferenceLemmas.{lost_from, lost_in}
use Rattle.wh_laws.proofs.Equality.{has_decides}
use Rattle.wh_laws.proofs.Lists.{Contains-nil, empty_list}
use Rattle.wh_laws.proofs.Reconstruction.{reconstruction_gives, same_rows_is, same_rows_trans}
use Rattle.wh_schema.specs.declared.spec.Spec.{Spec}
use Rattle.wh_schema.specs.Reconstruction.{reconstructed}
use Rattle.wh_schema.specs.Warehouse.{Row, relation_at, stored}
use Rattle.wh_store.specs.declared.warehouse.Warehouse.{Warehouse}
use Rattle.wh_store.specs.Image.{Image}
use Rattle.wh_store.specs.Warehouse.{IsWarehouseOf}
use Rattle.wh_report.specs.Audit.{AuditsAreOfState, SameRowsAreSilent, audit_over, audit_text, change_text, signed_line}
use Rattle.wh_report.specs.Report.{rows_at}
use Rattle.wh_report.proofs.GivenBack.{held_tables}

-- ---- differences from rows that are the same

pub difference_same : (xs us ys : List Row) → SameRows xs us → difference xs ys ≡ difference us ys
difference_same xs us ys same =
    let gone = in_order-same (without xs ys) (without us ys) (SameRows-filter (λ r. not (has ys r)) (λ r. not (has ys r)) (λ r. refl) xs us same) in
    let come = in_order-same (without ys xs) (without ys us) (SameRows-filter (λ r. not (has xs r)) (λ r. not (has us r)) (λ r. ap not (same r)) ys ys (λ r. refl)) in
    λ i. record { deleted = gone i; inserted = come i }

pub audit_same : (spec : Spec) (rel : ℕ) (before held after : List Row) → SameRows before held → audit_over spec rel before after ≡ audit_over spec rel held after
audit_same spec rel before held after same = ap (change_text _) (difference_same before held after same)

-- the audit of a relation that the tables of a warehouse give back is the one of its image
pub audit_is : (w : Warehouse) (i : Image) (rel : ℕ) (held rows : List Row) → IsWarehouseOf i w → SameRows held (rows_at (reconstructed w.plan.spec (rows_of w.tables)) rel)
    → audit_over w.plan.spec rel held rows ≡ audit_text i rel rows
audit_is w i rel held rows k same =
    let ts = rows_of w.tables in
    let here = subst (λ (sp : Spec). SameRows held (rows_at (reconstructed sp ts) rel)) k.spec same in
    ap (λ (sp : Spec). audit_over sp rel held rows) k.spec
    ∙ audit_same i.spec rel held (rows_at (reconstructed i.spec i.tables) rel) rows (same_rows_trans _ _ _ here (reconstructed_same i.spec ts i.tables (held_tables w i k) rel))

pub audits_are_of_state : AuditsAreOfState
audits_are_of_state i spec s rel rows legal same_spec same_tables below =
    let ts = stored spec s in
    (λ j. audit_over (same_spec j) rel (rows_at (reconstructed (same_spec j) (same_tables j)) rel) rows)
    ∙ audit_same spec rel (rows_at (reconstructed spec ts) rel) (rows_at s rel) rows (reconstruction_gives spec s legal.rules legal.state legal.legal ts (λ k. same_rows_is _ _ refl) rel below)

-- ---- silence

left_empty : (xs ys : List ℕ) → xs ++ ys ≡ [] → xs ≡ []
left_empty [] ys e = refl
left_empty (x ∷ xs) ys e = cc

right_empty : (xs ys : List ℕ) → xs ++ ys ≡ [] → ys ≡ []
right_empty [] ys e = e
right_empty (x ∷ xs) ys e = cc

-- each row has a line, and no line is empty
line_is_some : (text : List ℕ) → line text ≡ [] → ⊥
line_is_some [] e = cc
line_is_some (x ∷ text) e = cc

none_said : (sign name : List ℕ) (rows : List Row) → flat_map (signed_line sign name) rows ≡ [] → rows ≡ []
none_said sign name [] e = refl
none_said sign name (row ∷ rows) e =
    absurd (line_is_some (sign ++ comma ++ name ++ comma ++ csv_record row) (left_empty (signed_line sign name row) (flat_map (signed_line sign name) rows) e))

-- nothing is lost exactly where each row is there after
none_lost : (before after : List Row) → ((x : Row) → Contains before x → Contains after x) → in_order (without before after) ≡ []
none_lost before after kept = empty_list (in_order (without before after)) (λ x k. let lost = lost_from before after x k in lost.1 (kept x lost.0))

all_kept : (before after : List Row) → in_order (without before after) ≡ [] → (x : Row) → Contains before x → Contains after x
all_kept before after none x k =
    elim (cases_Bool (has after x)) [
      | inl there ↦ (has_decides after x).0 there
      | inr missing ↦
          let lost : Contains (in_order (without before after)) x = lost_in before after x k (λ m. true≢false (sym ((has_decides after x).1 m) ∙ missing)) in
          absurd (Contains-nil x (subst (λ rows. Contains rows x) none lost))
    ]

module _ (name : List ℕ) (before after : List Row) where
  spoken : change_text name (difference before after) ≡ [] → SameRows before after
  spoken e =
      let minus = flat_map (signed_line (codes "-") name) (in_order (without before after)) in
      let plus = flat_map (signed_line (codes "+") name) (in_order (without after before)) in
      let gone = none_said (codes "-") name (in_order (without before after)) (left_empty minus plus e) in
      let come = none_said (codes "+") name (in_order (without after before)) (right_empty minus plus e) in
      SameRows-from before after (λ x. (all_kept before after gone x, all_kept after before come x))

  silent : SameRows before after → change_text name (difference before after) ≡ []
  silent same =
      let members = SameMembers-from before after same in
      let gone = none_lost before after (λ x. (members x).0) in
      let come = none_lost after before (λ x. (members x).1) in
      λ i. flat_map (signed_line (codes "-") name) (gone i) ++ flat_map (signed_line (codes "+") name) (come i)

pub same_rows_are_silent : SameRowsAreSilent
same_rows_are_silent i rel rows =
    let name = (relation_at i.spec rel).name in
    let held = rows_at (reconstructed i.spec i.tables) rel in
    (spoken name held rows, silent name held rows)
