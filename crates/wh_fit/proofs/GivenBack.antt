-- What holds of each row of stored tables, and of each value of them, holds of each row that they give back.
use Rattle.std.proofs.Common.{◌≡◌, ℕ, ◌<◌, ◌+◌, List, [], ◌∷◌, map, length, get_or, set, replicate, fold, Contains, refl, sym, ◌∙◌, ap, subst, inl, inr, arith}
use Rattle.std.proofs.lemmas.Bool.{cases_eq}
use Rattle.std.proofs.lemmas.List.{get_or-replicate, get_or-set_same, get_or-set_other, length-replicate, length-set}
use Rattle.std.proofs.lemmas.List.Elements.{Contains-append_cases}
use Rattle.wh_base.specs.declared.value.Value.{Value}
use Rattle.wh_base.specs.Columns.{value_of}
use Rattle.wh_schema.specs.declared.spec.Spec.{Spec}
use Rattle.wh_schema.specs.Legality.{WellFormed}
use Rattle.wh_schema.specs.Reconstruction.{given, order, reconstruct_next, reconstructed, reconstructed_rows}
use Rattle.wh_schema.specs.Warehouse.{Row, State, columns_of, covered}
use Rattle.wh_laws.proofs.Equality.{Name}
use Rattle.wh_laws.proofs.Lists.{Contains-nil}
use Rattle.wh_fit.proofs.PieceValues.{HoldsOfViews, of_covered}

-- a claim of rows of relations and one of their values, of which each gives the other, and which hold of the tables
pub record HoldsOfTables (spec : Spec) (tables : List (List Row)) (P : ℕ → Row → Type 0) (Q : ℕ → Name → Value → Type 0) : Type 0 where
  pub parts : HoldsOfViews spec (λ j. get_or tables j []) Q
  pub complements : (r : ℕ) → r < length spec.relations → (x : Row) → Contains (get_or tables (length spec.views + r) []) x → P r x
  pub values : (r : ℕ) → r < length spec.relations → (x : Row) → P r x → (n : Name) → Contains (columns_of spec r) n → Q r n (value_of (columns_of spec r) x n)
  pub rows : (r : ℕ) → r < length spec.relations → (f : Name → Value) → ((n : Name) → Contains (columns_of spec r) n → Q r n (f n)) → P r (map f (columns_of spec r))

module _ (spec : Spec) (tables : List (List Row)) where
  counted : (numbers : List ℕ) (b : State) → length (fold (reconstruct_next spec tables) b numbers) ≡ length b
  counted [] b = refl
  counted (r ∷ numbers) b = counted numbers (reconstruct_next spec tables b r) ∙ length-set b r (reconstructed_rows spec tables b r)

  pub given_count : length (reconstructed spec tables) ≡ length spec.relations
  given_count = counted (order spec) (replicate (length spec.relations) []) ∙ length-replicate (length spec.relations) []

module _ (spec : Spec) (tables : List (List Row)) (wf : WellFormed spec) (P : ℕ → Row → Type 0) (Q : ℕ → Name → Value → Type 0) (holds : HoldsOfTables spec tables P Q) where
  abbrev AreHeld : State → Type 0
  AreHeld b = (r : ℕ) → r < length spec.relations → (x : Row) → Contains (get_or b r []) x → P r x

  given_row : (b : State) → AreHeld b → (r : ℕ) → r < length spec.relations → (x : Row) → Contains (reconstructed_rows spec tables b r) x → P r x
  given_row b h r l x k =
      elim (Contains-append_cases (get_or tables (length spec.views + r) []) (covered spec (given spec tables b) r) x k) [
        | inl a ↦ holds.complements r l x a
        | inr a ↦
            let m = of_covered spec wf Q (λ i. get_or b i []) (λ j. get_or tables j []) holds.parts r
            (λ c k e y z n q. let f = (wf.inclusions c k).left in holds.values c.from f y (h c.from f y z) n q) x a in
            subst (P r) (sym m.1) (holds.rows r l m.0 m.2)
      ]

  next_held : (b : State) (r : ℕ) → length b ≡ length spec.relations → AreHeld b → AreHeld (reconstruct_next spec tables b r)
  next_held b r count h i l x k =
      let rows = reconstructed_rows spec tables b r in
      elim (cases_eq i r) [
        | inl e ↦
            let below : r < length spec.relations = omega (arith, e, l) in
            let same : get_or (set b r rows) i [] ≡ rows = ap (λ j. get_or (set b r rows) j []) e ∙ get_or-set_same b r rows [] (omega (arith, count, below)) in
            subst (λ j. P j x) (sym e) (given_row b h r below x (subst (λ z. Contains z x) same k))
        | inr d ↦ h i l x (subst (λ z. Contains z x) (get_or-set_other b r i rows [] d) k)
      ]

  all_held : (numbers : List ℕ) (b : State) → length b ≡ length spec.relations → AreHeld b → AreHeld (fold (reconstruct_next spec tables) b numbers)
  all_held [] b count h = h
  all_held (r ∷ numbers) b count h =
      all_held numbers (reconstruct_next spec tables b r) (length-set b r (reconstructed_rows spec tables b r) ∙ count) (next_held b r count h)

  pub given_back : AreHeld (reconstructed spec tables)
  given_back =
      all_held (order spec) (replicate (length spec.relations) []) (length-replicate (length spec.relations) [])
      (λ r l x k. absurd (Contains-nil x (subst (λ z. Contains z x) (get_or-replicate (length spec.relations) r [] [] l) k)))
