-- What an inverse gives for each number, and by key.
use Rattle.std.proofs.Common.{◌≡◌, ℕ, ◌+◌, ◌-◌, ◌<◌, ◌≤◌, true, cond, ◌&&◌, List, [], ◌∷◌, filter, length, get_or, slice_get, Option, None, Some, sym, ap, subst, ◌∙◌, arith, true≢false}
use Rattle.std.specs.Cmp.{first_so, second_so}
use Rattle.wh_base.specs.declared.value.Value.{Value}
use Rattle.wh_base.specs.Columns.{is_in, all_in, shared, cut}
use Rattle.wh_base.specs.RowSet.{has, SameRows, IsSetOf}
use Rattle.wh_base.specs.Tables.{Table, matching}
use Rattle.wh_base.specs.Value.{row_eq}
use Rattle.wh_base.specs.ValueLaws.{row_eq-Decides}
use Rattle.wh_base.proofs.InOrder.{SameRows-in_order}
use Rattle.wh_base.proofs.RowSets.{has-filter, has_itself}
use Rattle.wh_eval.specs.declared.relation.Relation.{Relation}
use Rattle.wh_eval.specs.Evaluates.{Evaluates}
use Rattle.wh_expr.specs.Narrowed.{narrowed, rows_with}
use Rattle.wh_expr.specs.SameTable.{SameTable}
use Rattle.wh_expr.proofs.NarrowedLemmas.{cut-cut, SameTable-narrowed}
use Rattle.wh_laws.proofs.Reconstruction.{reconstruction_gives}
use Rattle.wh_laws.proofs.Stored.{stored_view}
use Rattle.wh_laws.specs.Laws.{LegalState}
use Rattle.wh_schema.specs.declared.spec.Spec.{Spec}
use Rattle.wh_schema.specs.Reconstruction.{reconstructed, SameTables}
use Rattle.wh_schema.specs.Warehouse.{Row, State, columns_of, key_of, key_value, view_table, stored}
use Rattle.wh_inverse.specs.Inverse.{stored_below, back, inverse_rows}
use Rattle.wh_inverse.specs.Laws.{IsOneOf, IsRowWithKey}
use Rattle.wh_inverse.proofs.Tests.{lt-test, ge-test, or_left, all_in-from}
use Rattle.wh_inverse.proofs.Assignments.{in-filter}
use Rattle.wh_inverse.proofs.WalkLemmas.{filter_twice}
use Rattle.wh_inverse.proofs.BelowLemmas.{back-relation, stored-at}

-- ---- the rows of a number

module _ (spec : Spec) (rows : ℕ → List Row) where
  pub given-relation : (n : ℕ) → n < length spec.relations → get_or (reconstructed spec (stored_below spec rows)) n [] ≡ inverse_rows spec rows n
  given-relation n l = sym (ap (λ b. cond b (get_or (reconstructed spec (stored_below spec rows)) n []) (get_or (stored_below spec rows) (n - length spec.relations) [])) (lt-test n (length spec.relations) l))

  given-other : (n : ℕ) → length spec.relations ≤ n → inverse_rows spec rows n ≡ get_or (stored_below spec rows) (n - length spec.relations) []
  given-other n l = ap (λ b. cond b (get_or (reconstructed spec (stored_below spec rows)) n []) (get_or (stored_below spec rows) (n - length spec.relations) [])) (ge-test n (length spec.relations) l)

  pub given-view : (n : ℕ) → length spec.relations ≤ n → n < length spec.relations + length spec.views → rows n ≡ inverse_rows spec rows n
  given-view n l m =
      let is : length spec.relations + (n - length spec.relations) ≡ n = omega arith in
      sym (given-other n l ∙ stored-at spec rows (n - length spec.relations) (omega (arith, l, m)) ∙ ap rows is)

pub set-is : (xs ys zs : List (List Value)) → IsSetOf xs ys → ys ≡ zs → IsSetOf xs zs
set-is xs ys zs h e = subst (IsSetOf xs) e h

-- what was found of a relation is a set of its rows that match
pub where-is : (spec : Spec) (rows : ℕ → List Row) (r : ℕ) (cols : List (List ℕ)) (vals : List Value) (found : Relation) → Evaluates found (narrowed cols vals ((back spec rows).relation r))
    → IsSetOf found.rows (matching (columns_of spec r) cols vals (get_or (reconstructed spec (stored_below spec rows)) r []))
where-is spec rows r cols vals found h = record {
  distinct = h.distinct;
  same = λ q. h.same.rows q ∙ ap (λ (t : Table). has (rows_with cols vals t) q) (back-relation spec rows r);
}

-- ---- by key

module _ (columns key : List (List ℕ)) (vals : List Value) where
  abbrev Held : List (List ℕ)
  Held = shared key columns

  -- a row with the key is found at the columns that the key has
  pub key-found : (t : Table) → t.columns ≡ columns → (found kept : Table) → SameTable found (narrowed Held (cut key Held vals) t) → kept ≡ narrowed key vals found → SameRows kept.rows (matching columns key vals t.rows)
  key-found t e found kept h is q =
      let q1 = λ (x : List Value). row_eq (cut columns Held x) (cut key Held vals) in
      let p1 = λ (x : List Value). row_eq (cut columns key x) vals in
      let both : (x : List Value) → p1 x ≡ true → q1 x ≡ true = λ x k.
      (row_eq-Decides (cut columns Held x) (cut key Held vals)).1
      (sym (cut-cut columns key Held x within) ∙ ap (cut key Held) ((row_eq-Decides (cut columns key x) vals).0 k)) in
      ap (λ (u : Table). has u.rows q) is
      ∙ (SameTable-narrowed key vals found (narrowed Held (cut key Held vals) t) h).rows q
      ∙ ap (λ names. has (filter (λ x. row_eq (cut names key x) vals) (filter (λ x. row_eq (cut names Held x) (cut key Held vals)) t.rows)) q) e
      ∙ ap (λ l. has l q) (filter_twice p1 q1 both t.rows)
    where
      within : all_in key Held ≡ true
      within = all_in-from key Held (λ n k. (in-filter (is_in key) columns n k).0)

-- the first of the rows
pub one-found : (rows meant : List (List Value)) (o : Option (List Value)) → SameRows rows meant → o ≡ slice_get rows 0 → IsOneOf o meant
one-found [] meant o h e = subst (λ (x : Option Row). IsOneOf x meant) (sym e) (λ r. sym (h r))
one-found (x ∷ rows) meant o h e = subst (λ (y : Option Row). IsOneOf y meant) (sym e) (sym (h x) ∙ or_left (row_eq x x) (has rows x) (has_itself x))

-- ---- over the stored tables of a legal state

module _ (spec : Spec) (s : State) (rows : ℕ → List Row) (legal : LegalState spec s) (same : SameTables (stored_below spec rows) (stored spec s)) where
  pub back-is-state : (i : ℕ) → i < length spec.relations → SameRows (get_or (reconstructed spec (stored_below spec rows)) i []) (get_or s i [])
  back-is-state i l = reconstruction_gives spec s legal.rules legal.state legal.legal (stored_below spec rows) same i l

  pub gives-relation : (i : ℕ) → i < length spec.relations → SameRows (inverse_rows spec rows i) (get_or s i [])
  gives-relation i l q = sym (ap (λ l. has l q) (given-relation spec rows i l)) ∙ back-is-state i l q

  pub gives-view : (j : ℕ) → j < length spec.views → SameRows (inverse_rows spec rows (length spec.relations + j)) (view_table spec s j).rows
  gives-view j l q =
      let is : length spec.relations + j - length spec.relations ≡ j = omega arith in
      ap (λ l. has l q) (given-other spec rows (length spec.relations + j) (omega arith) ∙ ap (λ k. get_or (stored_below spec rows) k []) is)
      ∙ same j q ∙ ap (λ l. has l q) (stored_view spec s j l) ∙ SameRows-in_order (view_table spec s j).rows q

  module _ (r : ℕ) (l : r < length spec.relations) (key : List Value) where
    abbrev Given : List Row
    Given = get_or (reconstructed spec (stored_below spec rows)) r []

    pub row-with-key : (o : Option (List Value)) → IsOneOf o (matching (columns_of spec r) (key_of spec r) key Given) → IsRowWithKey spec s r key o
    row-with-key None h = λ x k e. true≢false (sym
        (has-filter (λ y. row_eq (key_value spec r y) key) Given x
        ∙ ap (λ b. b && row_eq (key_value spec r x) key) (back-is-state r l x ∙ k)
        ∙ (row_eq-Decides (key_value spec r x) key).1 e) ∙ h x)
    row-with-key (Some x) h =
        let both = sym (has-filter (λ y. row_eq (key_value spec r y) key) Given x) ∙ h in (
          sym (back-is-state r l x) ∙ first_so (has Given x) (row_eq (key_value spec r x) key) both,
          (row_eq-Decides (key_value spec r x) key).0 (second_so (has Given x) (row_eq (key_value spec r x) key) both),
        )
