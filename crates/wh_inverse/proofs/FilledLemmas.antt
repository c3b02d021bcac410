-- The tables while the relations are computed one after another.
use Rattle.std.proofs.Common.{◌≡◌, ℕ, suc, zero, ◌+◌, ◌<◌, ◌≤◌, Bool, true, false, cond, List, [], ◌∷◌, ◌++◌, length, get_or, set, replicate, fold, take, drop, nat_lt, refl, sym, ap, subst, ◌∙◌, arith, inl, inr, ◌⊎◌, length-append}
use Rattle.std.proofs.Math.Logic.{∥∥₁_elim}
use mathlib.Core.Bool.{Bool-set}
use Rattle.std.specs.List.{IsDistinct}
use Rattle.std.proofs.lemmas.Bool.{cases_eq}
use Rattle.std.proofs.lemmas.List.{get_or-set_same, get_or-set_other, length-set, length-replicate, get_or-replicate, get_or-drop, get_or_append_left, get_or-append-add, take_more}
use Rattle.std.proofs.lemmas.List.Elements.{Contains-get_or}
use Rattle.wh_base.specs.declared.head.Head.{Head}
use Rattle.wh_base.specs.Heads.{columns_at}
use Rattle.wh_base.specs.RowSet.{has, SameRows, IsSetOf, AreDistinct}
use Rattle.wh_base.specs.Tables.{Table}
use Rattle.wh_base.proofs.RowSets.{SameRows-append}
use Rattle.wh_expr.specs.declared.expr.Expr.{Expr}
use Rattle.wh_expr.specs.Meaning.{meaning, tables as tables_of, uses_only}
use Rattle.wh_plan.specs.Expressions.{complement_number, inverse_expr}
use Rattle.wh_plan.specs.Laws.{AreUnder, InverseExprsMeanSteps}
use Rattle.wh_schema.specs.declared.spec.Spec.{Spec}
use Rattle.wh_schema.specs.Reconstruction.{given, reconstructed_rows, reconstruct_next}
use Rattle.wh_schema.specs.Warehouse.{Row, State, inclusion_at}
use Rattle.wh_laws.proofs.Reconstruction.{Agree, covered_same}
use Rattle.wh_inverse.specs.Filled.{table_count, first_rows, AreFilled, step_rows}
use Rattle.wh_inverse.specs.Inverse.{IsBelow, stored_below}
use Rattle.wh_inverse.proofs.Tests.{lt-from, lt-test, ge-from, ge-test}
use Rattle.wh_inverse.proofs.BelowLemmas.{relation-at, view-at, complement-at, stored-at, from-within}
use Rattle.wh_inverse.proofs.UsesLemmas.{uses-inverse}

pub none-is-set : IsSetOf [] []
unfolding IsDistinct
none-is-set = record { distinct = tt; same = λ r. refl }

-- ---- the first tables

-- the tables of the numbers below k
pub record AreFirst (spec : Spec) (rows : ℕ → List Row) (k : ℕ) (tables : List (List Row)) : Type 0 where
  pub count : length tables ≡ k
  pub sets : (i : ℕ) → i < k → IsSetOf (get_or tables i []) (first_rows spec rows i)

pub AreFirst-none : (spec : Spec) (rows : ℕ → List Row) → AreFirst spec rows 0 []
AreFirst-none spec rows = record { count = refl; sets = λ i l. absurd (omega (arith, l)) }

pub AreFirst-more : (spec : Spec) (rows : ℕ → List Row) (k : ℕ) (tables more : List (List Row)) (new : List Row) → AreFirst spec rows k tables → IsSetOf new (first_rows spec rows k) → more ≡ tables ++ new ∷ [] → AreFirst spec rows (k + 1) more
AreFirst-more spec rows k tables more new f h is = record {
  count = ap length is ∙ length-append tables (new ∷ []) ∙ ap (λ n. n + 1) f.count;
  sets = λ i l.
      elim (cases_eq i k) [
        | inl e ↦
            let at : get_or more i [] ≡ new =
            ap (λ ts. get_or ts i []) is ∙ ap (λ n. get_or (tables ++ new ∷ []) n []) (last i e) ∙ get_or-append-add tables (new ∷ []) 0 [] in
            subst (λ ys. IsSetOf ys (first_rows spec rows i)) (sym at) (let P : ℕ → Type 0 = λ n. IsSetOf new (first_rows spec rows n) in subst P (sym e) h)
        | inr n ↦
            let before : i < k = omega (arith, l, n) in
            subst (λ ys. IsSetOf ys (first_rows spec rows i)) (sym (ap (λ ts. get_or ts i []) is ∙ get_or_append_left tables (new ∷ []) [] i (omega (arith, before, f.count)))) (f.sets i before)
      ];
}
  where
    last : (i : ℕ) → i ≡ k → i ≡ length tables + 0
    last i e = omega (arith, e, f.count)

past : (xs : List (List Row)) (i : ℕ) → length xs ≤ i → get_or xs i [] ≡ []
past [] i l = refl
past (x ∷ xs) zero l = absurd (omega (arith, l))
past (x ∷ xs) (suc i) l = past xs i (omega (arith, l))

-- below a bound or not
split : (i n : ℕ) → (i < n) ⊎ (n ≤ i)
split i n = by (nat_lt i n) refl
  where
    by : (b : Bool) → nat_lt i n ≡ b → (i < n) ⊎ (n ≤ i)
    by true e = inl (lt-from i n e)
    by false e = inr (ge-from i n e)

first-relation : (spec : Spec) (rows : ℕ → List Row) (i : ℕ) → i < length spec.relations → first_rows spec rows i ≡ []
first-relation spec rows i l = ap (λ b. cond b [] (rows i)) (lt-test i (length spec.relations) l)

first-other : (spec : Spec) (rows : ℕ → List Row) (i : ℕ) → length spec.relations ≤ i → first_rows spec rows i ≡ rows i
first-other spec rows i l = ap (λ b. cond b [] (rows i)) (ge-test i (length spec.relations) l)

-- no row stands for a relation
pub first-set : (spec : Spec) (rows : ℕ → List Row) (i : ℕ) → i < length spec.relations → (made : List Row) → made ≡ [] → IsSetOf made (first_rows spec rows i)
first-set spec rows i l made e = subst (λ xs. IsSetOf xs (first_rows spec rows i)) (sym e) (subst (IsSetOf []) (sym (first-relation spec rows i l)) none-is-set)

pub first-filled : (spec : Spec) (rows : ℕ → List Row) (k : ℕ) (tables : List (List Row)) → k ≡ table_count spec → AreFirst spec rows k tables → AreFilled spec rows (replicate (length spec.relations) []) tables
first-filled spec rows k tables e f = record {
  count = f.count ∙ e;
  distinct = λ i. elim (split i k) [
    | inl l ↦ (f.sets i l).distinct
    | inr l ↦ subst AreDistinct (sym (past tables i (omega (arith, l, f.count)))) none-is-set.distinct
  ];
  width = length-replicate (length spec.relations) [];
  relation = λ i l q.
      (f.sets i (omega (arith, l, e))).same q ∙ ap (λ ys. has ys q) (first-relation spec rows i l) ∙ sym (ap (λ ys. has ys q) (get_or-replicate (length spec.relations) i [] [] l));
  other = λ i l m q. (f.sets i (omega (arith, m, e))).same q ∙ ap (λ ys. has ys q) (first-other spec rows i l);
}

-- ---- one relation more

module _ (spec : Spec) (heads : List Head) (held : ℕ → Bool) (over : ∥ IsBelow spec heads held ∥₁) where
  -- the tables for all numbers stand under the names of an inverse expression
  under : (tables : List (List Row)) (hs : List Head) → hs ≡ heads → (r : ℕ) → r < length spec.relations
      → AreUnder spec (given spec (drop (length spec.relations) tables) tables) r (get_or (drop (length spec.relations) tables) (length spec.views + r) []) (tables_of hs (λ n. get_or tables n []))
  under tables hs e r l =
      let n = length spec.relations in
      record {
        relation = λ i k. (λ j. record { columns = (ap (λ z. columns_at z i) e ∙ relation-at spec heads held over i k) j; rows = get_or tables i [] });
        view = λ i k. (λ j. record { columns = (ap (λ z. columns_at z (n + i)) e ∙ view-at spec heads held over i k) j; rows = sym (get_or-drop n tables i []) j });
        complement = (λ j. record {
          columns = (ap (λ z. columns_at z (complement_number spec r)) e ∙ complement-at spec heads held over r l) j;
          rows = (ap (λ z. get_or tables z []) (apart r) ∙ sym (get_or-drop n tables (length spec.views + r) [])) j;
        });
      }
    where
      apart : (r : ℕ) → complement_number spec r ≡ length spec.relations + (length spec.views + r)
      apart r = omega arith

  -- evaluated, the expression gives the rows of one step
  pub step-found : InverseExprsMeanSteps → (tables : List (List Row)) (hs : List Head) → hs ≡ heads → (r : ℕ) → r < length spec.relations → (e : Expr) → ∥ e ≡ inverse_expr spec r ∥₁
      → (found : List Row) → IsSetOf found (meaning (tables_of hs (λ n. get_or tables n [])) e).rows → IsSetOf found (step_rows spec tables r)
  step-found law tables hs same r l e is found h = record {
    distinct = h.distinct;
    same = λ q. h.same q ∙ ∥∥₁_elim is (Bool-set _ _) (λ p. ∥∥₁_elim over (Bool-set _ _) (λ b.
        let g = tables_of hs (λ n. get_or tables n []) in
        ap (λ (x : Expr). has (meaning g x).rows q) p
        ∙ ap (λ (t : Table). has t.rows q) (law spec b.rules (drop (length spec.relations) tables) tables r l g (under tables hs same r l))));
  }

  pub step-uses : (count : ℕ) → count ≡ table_count spec → (r : ℕ) → r < length spec.relations → (e : Expr) → ∥ e ≡ inverse_expr spec r ∥₁ → uses_only (λ n. nat_lt n count) e ≡ true
  step-uses count same r l e is = ∥∥₁_elim is (Bool-set _ _) (λ p.
      let inside : (n : ℕ) → n < table_count spec → nat_lt n count ≡ true = λ n k. lt-test n count (omega (arith, k, same)) in
      ap (uses_only (λ n. nat_lt n count)) p
      ∙ uses-inverse (λ n. nat_lt n count) spec r (inside 0 (omega (arith, l))) (λ j k. inside (length spec.relations + j) (omega (arith, k, l)))
      (λ i k.
      let from : (inclusion_at spec i).from < length spec.relations = from-within spec heads held over (inclusion_at spec i) (Contains-get_or spec.inclusions i _ k) in
      inside (inclusion_at spec i).from (omega (arith, from)))
      (inside (complement_number spec r) (omega (arith, l))))

  module _ (rows : ℕ → List Row) (s : State) (tables : List (List Row)) (f : AreFilled spec rows s tables) where
    -- the stored tables are among them
    stored-same : (k : ℕ) → k < length spec.views + length spec.relations → SameRows (get_or (drop (length spec.relations) tables) k []) (get_or (stored_below spec rows) k [])
    stored-same k l q =
        ap (λ ys. has ys q) (get_or-drop (length spec.relations) tables k []) ∙ f.other (length spec.relations + k) (omega arith) (omega (arith, l)) q
        ∙ sym (ap (λ ys. has ys q) (stored-at spec rows k l))

    agrees : (r : ℕ) → Agree spec r (given spec (drop (length spec.relations) tables) tables) (given spec (stored_below spec rows) s)
    agrees r = record {
      views = λ j l. record { columns = refl; rows = stored-same j (omega (arith, l)) };
      sources = λ c k e. record { columns = refl; rows = f.relation c.from (from-within spec heads held over c k) };
    }

    step-same : (r : ℕ) → r < length spec.relations → SameRows (step_rows spec tables r) (reconstructed_rows spec (stored_below spec rows) s r)
    step-same r l = SameRows-append _ _ _ _ (stored-same (length spec.views + r) (omega (arith, l))) (covered_same spec r _ _ (agrees r))

    pub next-filled : (r : ℕ) → r < length spec.relations → (new : List Row) → IsSetOf new (step_rows spec tables r) → (more : List (List Row)) → more ≡ set tables r new
        → AreFilled spec rows (reconstruct_next spec (stored_below spec rows) s r) more
    next-filled r l new h more is =
        let made = reconstructed_rows spec (stored_below spec rows) s r in
        let inside : r < length tables = omega (arith, l, f.count) in
        let at_r : get_or more r [] ≡ new = ap (λ ts. get_or ts r []) is ∙ get_or-set_same tables r new [] inside in
        let at_other : (i : ℕ) → (i ≡ r → ⊥) → get_or more i [] ≡ get_or tables i [] = λ i n. ap (λ ts. get_or ts i []) is ∙ get_or-set_other tables r i new [] n in
        record {
          count = ap length is ∙ length-set tables r new ∙ f.count;
          distinct = λ i. elim (cases_eq i r) [
            | inl e ↦ subst AreDistinct (sym (ap (λ n. get_or more n []) e ∙ at_r)) h.distinct
            | inr n ↦ subst AreDistinct (sym (at_other i n)) (f.distinct i)
          ];
          width = length-set s r made ∙ f.width;
          relation = λ i k. elim (cases_eq i r) [
            | inl e ↦
                let P : ℕ → Type 0 = λ n. SameRows (get_or more n []) (get_or (set s r made) n []) in
                subst P (sym e) (λ q. ap (λ ys. has ys q) at_r ∙ h.same q ∙ step-same r l q ∙ sym (ap (λ ys. has ys q) (get_or-set_same s r made [] (omega (arith, l, f.width)))))
            | inr n ↦ λ q. ap (λ ys. has ys q) (at_other i n) ∙ f.relation i k q ∙ sym (ap (λ ys. has ys q) (get_or-set_other s r i made [] n))
          ];
          other = λ i k m q. ap (λ ys. has ys q) (at_other i (λ e. apart i r k l e)) ∙ f.other i k m q;
        }
      where
        apart : (i r : ℕ) → length spec.relations ≤ i → r < length spec.relations → i ≡ r → ⊥
        apart i r k l e = omega (arith, k, l, e)

-- ---- all relations

fold-append : {A B : Type 0} (f : B → A → B) (b : B) (xs ys : List A) → fold f b (xs ++ ys) ≡ fold f (fold f b xs) ys
fold-append f b [] ys = refl
fold-append f b (x ∷ xs) ys = fold-append f (f b x) xs ys

pub fold-more : {A B : Type 0} (f : B → A → B) (b : B) (xs : List A) (k : ℕ) (d : A) → k < length xs → fold f b (take (k + 1) xs) ≡ f (fold f b (take k xs)) (get_or xs k d)
fold-more f b xs k d l = ap (fold f b) (take_more xs k d l) ∙ fold-append f b (take k xs) (get_or xs k d ∷ [])

-- the first tables of distinct rows
distinct-taken : (n : ℕ) (tables : List (List Row)) → ((i : ℕ) → AreDistinct (get_or tables i [])) → (i : ℕ) → AreDistinct (get_or (take n tables) i [])
distinct-taken zero [] h i = none-is-set.distinct
distinct-taken zero (x ∷ xs) h i = none-is-set.distinct
distinct-taken (suc n) [] h i = none-is-set.distinct
distinct-taken (suc n) (x ∷ xs) h zero = h zero
distinct-taken (suc n) (x ∷ xs) h (suc i) = distinct-taken n xs (λ m. h (suc m)) i

pub distinct-first : (n : ℕ) (made tables : List (List Row)) → made ≡ take n tables → ((i : ℕ) → AreDistinct (get_or tables i [])) → (i : ℕ) → AreDistinct (get_or made i [])
distinct-first n made tables e h i = subst (λ (ts : List (List Row)). AreDistinct (get_or ts i [])) (sym e) (distinct-taken n tables h i)
