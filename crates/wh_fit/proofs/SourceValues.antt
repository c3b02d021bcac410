-- What holds of each value of what is stored holds of each value of the sources.
use Rattle.std.proofs.Common.{◌≡◌, ℕ, ◌<◌, [], length, get_or, Contains, sym, ◌∙◌, ap, subst, inl, inr}
use Rattle.wh_base.specs.declared.value.Value.{Value}
use Rattle.wh_base.specs.Columns.{value_of}
use Rattle.wh_schema.specs.declared.spec.Inclusion.{Inclusion}
use Rattle.wh_schema.specs.declared.spec.Spec.{Spec}
use Rattle.wh_schema.specs.Legality.{WellFormed}
use Rattle.wh_schema.specs.Warehouse.{Row, State, columns_of, complement, covered, sources_of, view_table}
use Rattle.wh_laws.proofs.Acyclic.{Grounded, grounded, all_grounded}
use Rattle.wh_laws.proofs.Covered.{complement_in}
use Rattle.wh_laws.proofs.Equality.{Name, row_is_in}
use Rattle.wh_laws.proofs.Joins.{value_of-map}
use Rattle.wh_fit.proofs.PieceValues.{HoldsOfViews, OfRows, of_covered}

-- a claim of values under the names of relations, which holds of views and along inclusions, and of complements
pub record HoldsOfStored (spec : Spec) (s : State) (Q : ℕ → Name → Value → Type 0) : Type 0 where
  pub parts : HoldsOfViews spec (λ j. (view_table spec s j).rows) Q
  pub complements : (r : ℕ) → r < length spec.relations → (x : Row) → Contains (complement spec (sources_of spec s) r) x → (n : Name) → Contains (columns_of spec r) n → Q r n (value_of (columns_of spec r) x n)

module _ (spec : Spec) (s : State) (wf : WellFormed spec) (Q : ℕ → Name → Value → Type 0) (holds : HoldsOfStored spec s Q) where
  -- the claim of the rows of a relation
  abbrev OfRelation : ℕ → Type 0
  OfRelation = OfRows spec wf Q (λ i. get_or s i [])

  of_relation : (r : ℕ) → ((c : Inclusion) → Contains spec.inclusions c → c.to ≡ r → OfRelation c.from) → r < length spec.relations → OfRelation r
  of_relation r left l x h n k =
      let src = sources_of spec s in
      let columns = columns_of spec r in
      elim (row_is_in (covered spec src r) x) [
        | inr missing ↦ holds.complements r l x (complement_in spec src r x h missing) n k
        | inl given ↦
            let m = of_covered spec wf Q (λ i. get_or s i []) (λ j. (view_table spec s j).rows) holds.parts r left x given in
            let same : value_of columns x n ≡ m.0 n = ap (λ row. value_of columns row n) m.1 ∙ value_of-map m.0 columns n k in
            subst (Q r n) (sym same) (m.2 n k)
      ]

  of_grounded : (r : ℕ) → Grounded spec.inclusions r → r < length spec.relations → OfRelation r
  of_grounded r (grounded f) l = of_relation r (λ c k e. of_grounded c.from (f c k e) (wf.inclusions c k).left) l

  pub of_sources : (r : ℕ) → r < length spec.relations → (x : Row) → Contains (get_or s r []) x → (n : Name) → Contains (columns_of spec r) n → Q r n (value_of (columns_of spec r) x n)
  of_sources r l = of_grounded r (all_grounded spec.inclusions wf.acyclic r) l
