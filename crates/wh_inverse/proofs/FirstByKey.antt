-- The row of a complement with a key.
use Rattle.std.proofs.Common.{◌≡◌, ℕ, ◌+◌, ◌<◌, Bool, true, ◌&&◌, List, [], ◌∷◌, ◌++◌, map, filter, length, get_or, nat_lt, nat_eq, Option, None, Some, IfSome, refl, sym, ap, subst, ◌∙◌, arith}
use Rattle.std.specs.Prelude.{MatchOption, false}
use Rattle.std.specs.List.{flat_map}
use Rattle.std.proofs.lemmas.Bool.{eqb-true}
use Rattle.std.proofs.lemmas.List.{append-nil}
use Rattle.std.proofs.Math.Logic.{∥∥₁_elim}
use mathlib.Core.Bool.{Bool-set}
use Rattle.std.specs.Cmp.{first_so, second_so}
use Rattle.std.specs.Coded.{le_prop}
use Rattle.std.proofs.lemmas.List.Elements.{Contains-get_or}
use Rattle.wh_base.specs.declared.head.Head.{Head}
use Rattle.wh_base.specs.declared.value.Value.{Value}
use Rattle.wh_base.specs.Columns.{all_in, place_of, cut}
use Rattle.wh_base.specs.Heads.{columns_at}
use Rattle.wh_base.specs.RowSet.{has}
use Rattle.wh_base.specs.Tables.{matching}
use Rattle.wh_base.specs.Value.{row_eq}
use Rattle.wh_base.proofs.RowSets.{has-append, has-filter, SameRows-filter}
use Rattle.wh_eval.specs.Stored.{stored_indexes}
use Rattle.wh_expr.specs.Typing.{are_distinct}
use Rattle.wh_laws.proofs.Equality.{all_in_when}
use Rattle.wh_laws.proofs.Lists.{every_from}
use Rattle.wh_plan.specs.Indexes.{index_sets}
use Rattle.wh_plan.specs.Plan.{relation_covers}
use Rattle.wh_plan.proofs.IndexLemmas.{key_indexed}
use Rattle.wh_schema.specs.declared.spec.Relation.{Relation}
use Rattle.wh_schema.specs.declared.spec.Spec.{Spec}
use Rattle.wh_schema.specs.Reconstruction.{reconstructed}
use Rattle.wh_schema.specs.Warehouse.{Row, columns_of, covered, joined_pieces, key_of, pieces, pieces_at, relation_at, no_relation}
use Rattle.wh_table.specs.Table.{IndexedRows, IsIndexed}
use Rattle.wh_inverse.specs.ByKey.{complement_with_key}
use Rattle.wh_inverse.specs.Inverse.{HaveIndexes, IsBelow, back, stored_below}
use Rattle.wh_inverse.proofs.BelowLemmas.{complement-at, parts-back, stored-at}
use Rattle.wh_inverse.proofs.PieceLemmas.{covered-is}
use Rattle.wh_inverse.proofs.StoredSets.{complement_sets}
use Rattle.wh_inverse.proofs.Tests.{and_so, lt-from, or_left}

pub found_so : (P : Type 0) (o : Option Row) (xs ys : List Row) → MatchOption o P (λ x. has xs x ≡ true) → ((x : Row) → has xs x ≡ true → has ys x ≡ true) → IfSome o (λ x. has ys x ≡ true)
found_so P None xs ys h f = tt
found_so P (Some x) xs ys h f = f x h

-- where no row was found, there is none
pub missed_so : (P : Type 0) (o : Option Row) (xs : List Row) → MatchOption o P (λ x. has xs x ≡ true) → o ≡ None → P
missed_so P o xs h e = subst (λ (q : Option Row). MatchOption q P (λ x. has xs x ≡ true)) e h

pub empty_from : (xs : List (List ℕ)) → nat_eq (length xs) 0 ≡ true → xs ≡ []
empty_from [] h = refl
empty_from (x ∷ xs) h = absurd (let e = eqb-true (length (x ∷ xs)) 0 h in omega (arith, e))

module _ (spec : Spec) (heads : List Head) (held : ℕ → Bool) (over : ∥ IsBelow spec heads held ∥₁) (r : ℕ) (l : r < length spec.relations) where
  pub key_within : all_in (columns_of spec r) (key_of spec r) ≡ true
  key_within = ∥∥₁_elim over (Bool-set _ true) (λ b. all_in_when (columns_of spec r) (key_of spec r) (λ n k. b.rules.key r l n k))

  pub key_filled : 0 < length (key_of spec r)
  key_filled = ∥∥₁_elim over le_prop (λ b. lt-from 0 (length (key_of spec r)) (every_from (λ (q : Relation). nat_lt 0 (length q.key)) spec.relations b.keys (relation_at spec r) (Contains-get_or spec.relations r no_relation l)))

  module _ (number : ℕ) (e : number ≡ length spec.relations + length spec.views + r) where
    columns_are : columns_at heads number ≡ columns_of spec r
    columns_are = ap (columns_at heads) e ∙ complement-at spec heads held over r l

    pub key_asked : (key : List (List ℕ)) → key ≡ key_of spec r → all_in (columns_at heads number) key ≡ true
    key_asked key k = (λ i. all_in (columns_are i) (k i)) ∙ key_within

    pub complement_indexed : (tables : List IndexedRows) → HaveIndexes spec heads tables → (key : List (List ℕ)) → key ≡ key_of spec r → are_distinct key ≡ true
        → IsIndexed (stored_indexes heads tables number) (map (place_of (columns_at heads number)) key)
    complement_indexed tables have key k distinct =
        let same : number ≡ length spec.relations + (length spec.views + r) = omega (arith, e) in
        let sets : stored_indexes heads tables number ≡ index_sets spec (columns_of spec r) =
        ap (stored_indexes heads tables) same ∙ have (length spec.views + r) (omega (arith, l)) ∙ complement_sets spec r l in
        let at : IsIndexed (index_sets spec (columns_of spec r)) (map (place_of (columns_of spec r)) (key_of spec r)) =
        key_indexed spec (columns_of spec r) (relation_at spec r) (Contains-get_or spec.relations r no_relation l) key_filled (sym (ap are_distinct k) ∙ distinct) key_within in
        subst (λ (s : List (List ℕ)). IsIndexed s (map (place_of (columns_at heads number)) key)) (sym sets)
        (subst (λ (ps : List ℕ). IsIndexed (index_sets spec (columns_of spec r)) ps) (sym (λ i. map (place_of (columns_are i)) (k i))) at)

    -- the rows with the key that are stored there
    pub stored_with_key : (rows : ℕ → List Row) (key : List (List ℕ)) → key ≡ key_of spec r → (vals : List Value) → complement_with_key spec rows r vals ≡ matching (columns_at heads number) key vals (rows number)
    stored_with_key rows key k vals = λ i. matching (sym columns_are i) (sym k i) vals (rows (sym e i))

    -- a row of the complement is a row of the relation
    pub complement_gives : (rows : ℕ → List Row) (key : List (List ℕ)) → key ≡ key_of spec r → (vals : List Value) (x : Row) → has (matching (columns_at heads number) key vals (rows number)) x ≡ true
        → has (matching (columns_of spec r) (key_of spec r) vals (get_or (reconstructed spec (stored_below spec rows)) r [])) x ≡ true
    complement_gives rows key k vals x h =
        let same : number ≡ length spec.relations + (length spec.views + r) = omega (arith, e) in
        let base = get_or (stored_below spec rows) (length spec.views + r) [] in
        let more = covered spec (back spec rows) r in
        let stored : rows number ≡ base = ap rows same ∙ sym (stored-at spec rows (length spec.views + r) (omega (arith, l))) in
        let test = λ (y : Row). row_eq (cut (columns_of spec r) (key_of spec r) y) vals in
        let here : (has base x && test x) ≡ true = sym (has-filter test base x) ∙ sym (λ i. has (matching (columns_are i) (k i) vals (stored i)) x) ∙ h in
        let both = and_so (has (base ++ more) x) (test x) (has-append base more x ∙ or_left (has base x) (has more x) (first_so (has base x) (test x) here)) (second_so (has base x) (test x) here) in
        SameRows-filter test test (λ y. refl) (get_or (reconstructed spec (stored_below spec rows)) r []) (base ++ more) (parts-back spec heads held over rows r l) x
        ∙ has-filter test (base ++ more) x ∙ both

  -- without a cover the complement alone has the rows of the relation
  pub uncovered_none : (rows : ℕ → List Row) (vals : List Value) → relation_covers spec r ≡ [] → complement_with_key spec rows r vals ≡ []
      → (x : Row) → has (matching (columns_of spec r) (key_of spec r) vals (get_or (reconstructed spec (stored_below spec rows)) r [])) x ≡ false
  uncovered_none rows vals none empty x =
      let base = get_or (stored_below spec rows) (length spec.views + r) [] in
      let more = covered spec (back spec rows) r in
      let f : List ℕ → List Row = λ c. joined_pieces spec (back spec rows) r (pieces_at (pieces spec r) c) in
      let bare : more ≡ [] = sym (covered-is spec (back spec rows) r) ∙ ap (flat_map f) none in
      let number : length spec.relations + (length spec.views + r) ≡ length spec.relations + length spec.views + r = omega arith in
      let stored : base ≡ rows (length spec.relations + length spec.views + r) = stored-at spec rows (length spec.views + r) (omega (arith, l)) ∙ ap rows number in
      let test = λ (y : Row). row_eq (cut (columns_of spec r) (key_of spec r) y) vals in
      SameRows-filter test test (λ y. refl) (get_or (reconstructed spec (stored_below spec rows)) r []) (base ++ more) (parts-back spec heads held over rows r l) x
      ∙ ap (λ rows. has (filter test (base ++ rows)) x) bare ∙ ap (λ rows. has (filter test rows) x) (append-nil base ∙ stored) ∙ ap (λ rows. has rows x) empty
