-- The relations that the tables of a warehouse give back are those of its image.
use Rattle.std.proofs.Common.{◌≡◌, ℕ, ◌-◌, ◌<◌, true, if◌then◌else◌, nat_lt, List, [], ◌++◌, length, get_or, Result, Ok, Err, OnOk, ap, subst, ◌∙◌, arith}
use Rattle.std.proofs.lemmas.Bool.Decides.{nat_tests}
use Rattle.std.proofs.lemmas.List.{get_or-map}
use Rattle.wh_answer.specs.Answer.{SameStored, rows_of, source_rows}
use Rattle.wh_answer.proofs.Below.{below_is}
use Rattle.wh_base.specs.declared.head.Head.{Head}
use Rattle.wh_base.specs.RowSet.{SameRows}
use Rattle.wh_eval.specs.Stored.{stored_rows}
use Rattle.wh_inverse.specs.Inverse.{inverse_rows, stored_below}
use Rattle.wh_laws.proofs.Reconstruction.{same_rows_is, same_rows_trans}
use Rattle.wh_schema.specs.declared.spec.Spec.{Spec}
use Rattle.wh_schema.specs.Heads.{heads_of}
use Rattle.wh_schema.specs.Reconstruction.{reconstructed}
use Rattle.wh_schema.specs.Warehouse.{Row, SameState, State}
use Rattle.wh_store.specs.declared.warehouse.Warehouse.{Warehouse}
use Rattle.wh_store.specs.Image.{Image, stored_count}
use Rattle.wh_store.specs.Warehouse.{IsInForm, IsWarehouseOf, no_table}
use Rattle.wh_table.specs.Table.{IndexedRows}
use Rattle.wh_report.specs.Report.{rows_at}

-- ---- the relations over the tables as they are below

module _ (w : Warehouse) (form : IsInForm w) where
  pub below_held : (known : Spec) (heads : List Head) (below : List IndexedRows) → known ≡ w.plan.spec → heads ≡ heads_of w.plan.spec → below ≡ w.tables
      → stored_below known (stored_rows heads below) ≡ rows_of w.tables
  below_held known heads below a b c = (λ i. stored_below (a i) (stored_rows (b i) (c i))) ∙ below_is w form

  pub relations_held : (known : Spec) (below : List (List Row)) (s : State) → known ≡ w.plan.spec → below ≡ rows_of w.tables
      → SameState known s (reconstructed known below) → SameState w.plan.spec s (reconstructed w.plan.spec (rows_of w.tables))
  relations_held known below s a b same =
      let one = subst (λ (sp : Spec). SameState sp s (reconstructed sp below)) a same in
      subst (λ (ts : List (List Row)). SameState w.plan.spec s (reconstructed w.plan.spec ts)) b one

at_relation : (n count : ℕ) (x y : List Row) → n < count → (if nat_lt n count then x else y) ≡ x
at_relation n count x y below =
    let e : nat_lt n count ≡ true = grind (arith, nat_tests) in
    ap (λ b. if b then x else y) e

-- the rows of one relation
pub relation_held : (w : Warehouse) (known : Spec) (rows : ℕ → List Row) (held : List Row) (rel : ℕ) → known ≡ w.plan.spec → stored_below known rows ≡ rows_of w.tables → rel < length w.plan.spec.relations
    → SameRows held (inverse_rows known rows rel) → SameRows held (rows_at (reconstructed w.plan.spec (rows_of w.tables)) rel)
relation_held w known rows held rel a b below same =
    let spec = w.plan.spec in
    let ts = rows_of w.tables in
    let e : inverse_rows known rows rel ≡ rows_at (reconstructed spec ts) rel =
    ap (λ below. source_rows known below rel) b ∙ ap (λ sp. source_rows sp ts rel) a
    ∙ at_relation rel (length spec.relations) (get_or (reconstructed spec ts) rel []) (get_or ts (rel - length spec.relations) []) below in
    same_rows_trans held _ _ same (same_rows_is _ _ e)

-- ---- the tables of a warehouse and those of its image

pub held_tables : (w : Warehouse) (i : Image) → IsWarehouseOf i w → SameStored i.spec (rows_of w.tables) i.tables
held_tables w i k n l =
    let within : n < length w.tables = omega (arith, l, k.form.count, ap stored_count k.spec) in
    same_rows_trans _ _ _ (same_rows_is _ _ (get_or-map (λ (t : IndexedRows). t.rows) w.tables n no_table [] within)) (k.rows n l)

-- ---- what was appended

pub appended : {E : Type 0} (w : Warehouse) (meant : Image → List ℕ) (before piece text after : List ℕ) (done : Result (Unit {0}) E) → ((i : Image) → IsWarehouseOf i w → text ≡ meant i) → piece ≡ text → OnOk done (after ≡ before ++ piece)
    → OnOk done ((i : Image) → IsWarehouseOf i w → after ≡ before ++ meant i)
appended w meant before piece text after (Ok x) is same h = λ i k. h ∙ ap (λ t. before ++ t) (same ∙ is i k)
appended w meant before piece text after (Err e) is same h = tt
