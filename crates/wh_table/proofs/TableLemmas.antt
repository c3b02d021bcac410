-- Distinct rows before and after a change.
use Rattle.std.proofs.Common.{◌≡◌, Bool, true, false, ℕ, ◌&&◌, ◌||◌, List, [], ◌∷◌, ◌++◌, reverse, not, cond, refl, sym, ap, subst, ◌∙◌, true≢false}
use Rattle.std.proofs.lemmas.List.{reverse-append, length-map}
use Rattle.std.proofs.lemmas.List.Elements.{Contains-get_or}
use Rattle.std.proofs.lemmas.List.Sorted.{Contains-permutation}
use Rattle.std.proofs.Common.{length, get_or}
use Rattle.wh_table.proofs.LiveRows.{apart, other_way}
use Rattle.std.specs.List.{list_any, IsDistinct, AllByRecursion}
use Rattle.std.proofs.lemmas.Map.Keys.{IsDistinct-head, IsDistinct-tail, IsDistinct-cons}
use Rattle.wh_base.specs.declared.value.Delta.{Delta}
use Rattle.wh_base.specs.declared.value.Value.{Value}
use Rattle.wh_base.specs.RowSet.{has, AreDistinct, IsSetOf}
use Rattle.wh_base.specs.Tables.{without}
use Rattle.wh_base.specs.Value.{row_eq}
use Rattle.wh_base.specs.ValueLaws.{row_eq-Decides}
use Rattle.wh_base.proofs.RowSets.{has_itself, has-append, has-filter, IsDistinct-filter}
use Rattle.wh_table.specs.Table.{matching, CanApply, IsIndexed, HasSetWithin}
use Rattle.wh_base.specs.Columns.{picked, value_at}

neither : (a b : Bool) → (a || b) ≡ false → (a ≡ false) × (b ≡ false)
neither true b h = absurd (true≢false h)
neither false b h = (refl, h)

pub AreDistinct-nil : AreDistinct []
unfolding IsDistinct
AreDistinct-nil = tt

-- a row that is among some is not among others that these lack
lacks : (rows added : List (List Value)) (row : List Value) → list_any (has rows) added ≡ false → has rows row ≡ true → has added row ≡ false
lacks rows [] row absent there = refl
lacks rows (y ∷ added) row absent there = by (row_eq row y) refl (lacks rows added row (neither (has rows y) (list_any (has rows) added) absent).1 there)
  where
    by : (b : Bool) → row_eq row y ≡ b → has added row ≡ false → (row_eq row y || has added row) ≡ false
    by true e rest = absurd (true≢false (sym there ∙ ap (has rows) ((row_eq-Decides row y).0 e) ∙ (neither (has rows y) (list_any (has rows) added) absent).0))
    by false e rest = ap (λ b. b || has added row) e ∙ rest

differs : (row : List Value) (rows : List (List Value)) → has rows row ≡ false → AllByRecursion (λ y. row_eq row y ≡ false) rows
differs row [] h = tt
differs row (y ∷ rows) h = ((neither (row_eq row y) (has rows row) h).0, differs row rows (neither (row_eq row y) (has rows row) h).1)

both_differ : (row : List Value) (xs ys : List (List Value)) → AllByRecursion (λ y. row_eq row y ≡ false) xs → AllByRecursion (λ y. row_eq row y ≡ false) ys → AllByRecursion (λ y. row_eq row y ≡ false) (xs ++ ys)
both_differ row [] ys h k = k
both_differ row (x ∷ xs) ys h k = (h.0, both_differ row xs ys h.1 k)

AreDistinct-append : (xs ys : List (List Value)) → AreDistinct xs → AreDistinct ys → ((row : List Value) → has xs row ≡ true → has ys row ≡ false) → AreDistinct (xs ++ ys)
AreDistinct-append [] ys h k apart = k
AreDistinct-append (x ∷ xs) ys h k apart =
    IsDistinct-cons row_eq x (xs ++ ys)
    (both_differ x xs ys (IsDistinct-head row_eq x xs h) (differs x ys (apart x (ap (λ b. b || has xs x) (has_itself x)))))
    (AreDistinct-append xs ys (IsDistinct-tail row_eq x xs h) k (λ row there. apart row (by row (row_eq row x) there)))
  where
    by : (row : List Value) (b : Bool) → has xs row ≡ true → (b || has xs row) ≡ true
    by row true there = refl
    by row false there = there

left_and : (a b : Bool) → (a && b) ≡ true → a ≡ true
left_and true b h = refl
left_and false b h = h

-- a change leaves distinct rows
pub AreDistinct-changed : (rows : List (List Value)) (delta : Delta) → AreDistinct rows → CanApply rows delta → AreDistinct (without rows delta.deleted ++ delta.inserted)
AreDistinct-changed rows delta h can =
    AreDistinct-append (without rows delta.deleted) delta.inserted (IsDistinct-filter _ rows h) can.inserted_once
    (λ row there. lacks rows delta.inserted row can.absent (left_and (has rows row) _ (sym (has-filter _ rows row) ∙ there)))

-- the matching rows of distinct rows are distinct
pub AreDistinct-matching : (places : List ℕ) (values : List Value) (rows : List (List Value)) → AreDistinct rows → AreDistinct (matching places values rows)
AreDistinct-matching places values rows h = IsDistinct-filter (λ row. row_eq (picked places row) values) rows h

-- ---- rows turned round

or_swap : (a b : Bool) → (a || (b || false)) ≡ (b || a)
or_swap true true = refl
or_swap true false = refl
or_swap false true = refl
or_swap false false = refl

has-reverse : (rows : List (List Value)) (row : List Value) → has (reverse rows) row ≡ has rows row
has-reverse [] row = refl
has-reverse (x ∷ rows) row =
    ap (λ rs. has rs row) (reverse-append (x ∷ []) rows)
    ∙ has-append (reverse rows) (x ∷ []) row
    ∙ ap (λ b. b || (row_eq row x || false)) (has-reverse rows row)
    ∙ or_swap (has rows row) (row_eq row x)

AreDistinct-reverse : (rows : List (List Value)) → AreDistinct rows → AreDistinct (reverse rows)
AreDistinct-reverse [] h = h
AreDistinct-reverse (x ∷ rows) h =
    subst AreDistinct (sym (reverse-append (x ∷ []) rows))
    (AreDistinct-append (reverse rows) (x ∷ []) (AreDistinct-reverse rows (IsDistinct-tail row_eq x rows h)) (IsDistinct-cons row_eq x [] tt AreDistinct-nil)
    (λ row there. ap (λ b. b || false) (other_way x row (apart x row rows (IsDistinct-head row_eq x rows h) (sym (has-reverse rows row) ∙ there)))))

-- distinct rows turned round are the same set
pub IsSetOf-reverse : (kept rows : List (List Value)) → kept ≡ reverse rows → AreDistinct rows → IsSetOf kept rows
IsSetOf-reverse kept rows e h = record {
  distinct = subst AreDistinct (sym e) (AreDistinct-reverse rows h);
  same = λ row. ap (λ rs. has rs row) e ∙ has-reverse rows row;
}

-- rows without some and then without one more
pub without-more : (rows gone : List (List Value)) (row : List Value) → without (without rows gone) (row ∷ []) ≡ without rows (gone ++ row ∷ [])
without-more [] gone row = refl
without-more (x ∷ rows) gone row = by (has gone x) (has (row ∷ []) x) refl (has-append gone (row ∷ []) x) (without-more rows gone row)
  where
    by : (a b : Bool) → has (row ∷ []) x ≡ b → has (gone ++ row ∷ []) x ≡ (a || has (row ∷ []) x) → without (without rows gone) (row ∷ []) ≡ without rows (gone ++ row ∷ []) → without (cond (not a) (x ∷ without rows gone) (without rows gone)) (row ∷ []) ≡ cond (not (has (gone ++ row ∷ []) x)) (x ∷ without rows (gone ++ row ∷ [])) (without rows (gone ++ row ∷ []))
    by true b e both rest = rest ∙ sym (ap (λ c. cond (not c) (x ∷ without rows (gone ++ row ∷ [])) (without rows (gone ++ row ∷ []))) both)
    by false true e both rest =
        ap (λ c. cond (not c) (x ∷ without (without rows gone) (row ∷ [])) (without (without rows gone) (row ∷ []))) e
        ∙ rest
        ∙ sym (ap (λ c. cond (not c) (x ∷ without rows (gone ++ row ∷ [])) (without rows (gone ++ row ∷ []))) (both ∙ e))
    by false false e both rest =
        ap (λ c. cond (not c) (x ∷ without (without rows gone) (row ∷ [])) (without (without rows gone) (row ∷ []))) e
        ∙ ap (λ rs. x ∷ rs) rest
        ∙ sym (ap (λ c. cond (not c) (x ∷ without rows (gone ++ row ∷ [])) (without rows (gone ++ row ∷ []))) (both ∙ e))

pub without-none : (rows : List (List Value)) → without rows [] ≡ rows
without-none [] = refl
without-none (x ∷ rows) = ap (λ rs. x ∷ rs) (without-none rows)

-- ---- which sets are among columns

pub indexed_within : (indexes : List (List ℕ)) (columns : List ℕ) → IsIndexed indexes columns → HasSetWithin indexes columns
indexed_within indexes columns h = (h.0, h.1, h.2, h.3, λ k d lt. Contains-permutation h.1 columns (get_or h.1 k d) h.4 (Contains-get_or h.1 k d lt))

-- values of another number are those of no row
pub matching-none : (columns : List ℕ) (values : List Value) (rows : List (List Value)) → (length values ≡ length columns → ⊥) → matching columns values rows ≡ []
matching-none columns values [] other = refl
matching-none columns values (row ∷ rows) other = by (row_eq (picked columns row) values) refl (matching-none columns values rows other)
  where
    by : (b : Bool) → row_eq (picked columns row) values ≡ b → matching columns values rows ≡ [] → cond b (row ∷ matching columns values rows) (matching columns values rows) ≡ []
    by true h rest = absurd (other (sym (ap (λ vs. length vs) ((row_eq-Decides (picked columns row) values).0 h)) ∙ length-map columns (value_at row)))
    by false h rest = rest
