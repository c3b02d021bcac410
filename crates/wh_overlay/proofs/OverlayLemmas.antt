-- Rows without some and with others, and look-ups through them.
use Rattle.std.proofs.Common.{◌≡◌, ℕ, Bool, true, false, not, ◌&&◌, ◌||◌, List, [], ◌∷◌, ◌++◌, get_or, refl, sym, ap, subst, ◌∙◌}
use Rattle.std.specs.List.{AllByRecursion}
use Rattle.std.proofs.lemmas.Map.Keys.{IsDistinct-head, IsDistinct-tail, IsDistinct-cons}
use Rattle.wh_base.specs.declared.value.Delta.{Delta}
use Rattle.wh_base.specs.declared.value.Value.{Value}
use Rattle.wh_base.specs.Columns.{cut}
use Rattle.wh_base.specs.RowSet.{has, AreDistinct, SameRows, IsSetOf, first_seen}
use Rattle.wh_base.specs.Tables.{matching, without}
use Rattle.wh_base.specs.Value.{row_eq}
use Rattle.wh_base.proofs.FirstRows.{IsSetOf-first_seen}
use Rattle.wh_base.proofs.RowSets.{has-append, has-filter, has_itself, IsDistinct-filter, SameRows-append, SameRows-filter}
use Rattle.wh_overlay.specs.Overlay.{no_delta, deleted_at, inserted_at, overlay_rows}

abbrev Row : Type 0
Row = List Value

-- ---- distinct rows behind others

neither : (a b : Bool) → (a || b) ≡ false → (a ≡ false) × (b ≡ false)
neither true b h = absurd (cc)
neither false b h = (refl, h)

differ_all : (x : Row) (ys : List Row) → has ys x ≡ false → AllByRecursion (λ y. row_eq x y ≡ false) ys
differ_all x [] h = tt
differ_all x (y ∷ ys) h = let parts = neither (row_eq x y) (has ys x) h in (parts.0, differ_all x ys parts.1)

all_append : (P : Row → Type 0) (xs ys : List Row) → AllByRecursion P xs → AllByRecursion P ys → AllByRecursion P (xs ++ ys)
all_append P [] ys h k = k
all_append P (x ∷ xs) ys h k = (h.0, all_append P xs ys h.1 k)

or_left : (a b : Bool) → a ≡ true → (a || b) ≡ true
or_left a b h = ap (λ c. c || b) h

or_right : (a b : Bool) → b ≡ true → (a || b) ≡ true
or_right true b h = refl
or_right false b h = h

distinct_append : (xs ys : List Row) → AreDistinct xs → AreDistinct ys → ((r : Row) → has xs r ≡ true → has ys r ≡ false) → AreDistinct (xs ++ ys)
distinct_append [] ys h k apart = k
distinct_append (x ∷ xs) ys h k apart =
    IsDistinct-cons row_eq x (xs ++ ys)
    (all_append (λ y. row_eq x y ≡ false) xs ys (IsDistinct-head row_eq x xs h) (differ_all x ys (apart x (or_left (row_eq x x) (has xs x) (has_itself x)))))
    (distinct_append xs ys (IsDistinct-tail row_eq x xs h) k (λ r in_xs. apart r (or_right (row_eq r x) (has xs r) in_xs)))

-- ---- rows without some and with others

has-without : (rows gone : List Row) (r : Row) → has (without rows gone) r ≡ (has rows r && not (has gone r))
has-without rows gone r = has-filter (λ x. not (has gone x)) rows r

not_added : (l g a : Bool) → (l && not (g || a)) ≡ true → a ≡ false
not_added l g false h = refl
not_added false g true h = absurd (cc)
not_added true true true h = absurd (cc)
not_added true false true h = absurd (cc)

added_again : (l g a : Bool) → ((l && not (g || a)) || a) ≡ ((l && not g) || a)
added_again true true true = refl
added_again true true false = refl
added_again true false true = refl
added_again true false false = refl
added_again false g a = refl

kept_has : (rows gone added : List Row) (r : Row) → has (without rows (gone ++ added)) r ≡ (has rows r && not (has gone r || has added r))
kept_has rows gone added r = has-without rows (gone ++ added) r ∙ ap (λ b. has rows r && not b) (has-append gone added r)

exchanged : (rows gone added : List Row) → AreDistinct rows → AreDistinct added → IsSetOf (without rows (gone ++ added) ++ added) (without rows gone ++ added)
exchanged rows gone added h k = record {
  distinct =
      distinct_append (without rows (gone ++ added)) added (IsDistinct-filter (λ r. not (has (gone ++ added) r)) rows h) k
      (λ r there. not_added (has rows r) (has gone r) (has added r) (sym (kept_has rows gone added r) ∙ there));
  same = λ r.
      has-append (without rows (gone ++ added)) added r ∙ ap (λ b. b || has added r) (kept_has rows gone added r)
      ∙ added_again (has rows r) (has gone r) (has added r)
      ∙ sym (has-append (without rows gone) added r ∙ ap (λ b. b || has added r) (has-without rows gone r));
}

pub exchanged-is : (rows gone added twin leaving kept changed : List (List Value)) → twin ≡ added → leaving ≡ gone ++ twin → kept ≡ without rows leaving → changed ≡ kept ++ added
    → AreDistinct rows → AreDistinct added → IsSetOf changed (without rows gone ++ added)
exchanged-is rows gone added twin leaving kept changed a b e is h k =
    subst (λ l. IsSetOf l (without rows gone ++ added))
    (sym (is ∙ (λ j. e j ++ added) ∙ (λ j. without rows (b j) ++ added) ∙ (λ j. without rows (gone ++ a j) ++ added)))
    (exchanged rows gone added h k)

-- ---- all rows of a number

pub seen_once : (rows twin given : List (List Value)) → rows ≡ first_seen twin → twin ≡ given → IsSetOf rows given
seen_once rows twin given is a = subst (λ l. IsSetOf l given) (sym (is ∙ ap first_seen a)) (IsSetOf-first_seen given)

pub overlaid : (lower : ℕ → List (List Value)) (deltas : List Delta) (n : ℕ) (d : Delta) (rows gone twin added changed : List (List Value)) → get_or deltas n no_delta ≡ d → SameRows rows (lower n)
    → gone ≡ d.deleted → added ≡ first_seen twin → twin ≡ d.inserted → IsSetOf changed (without rows gone ++ added) → IsSetOf changed (overlay_rows lower deltas n)
overlaid lower deltas n d rows gone twin added changed at low del seen ins h = record {
  distinct = h.distinct;
  same = λ r.
      h.same r
      ∙ SameRows-append (without rows gone) added (without (lower n) (deleted_at deltas n)) (inserted_at deltas n)
      (SameRows-filter (λ x. not (has gone x)) (λ x. not (has (deleted_at deltas n) x)) (λ x. ap (λ l. not (has l x)) (del ∙ ap (λ (e : Delta). e.deleted) (sym at))) rows (lower n) low)
      (λ x. (seen_once added twin d.inserted seen ins).same x ∙ ap (λ (e : Delta). has e.inserted x) (sym at)) r;
}

-- ---- a look-up

-- whether a row is below (l), deleted (d) and inserted (i), and has the values (m)
spread : (l d i m : Bool) → (((l && m) && not (d && m)) || (i && m)) ≡ (((l && not d) || i) && m)
spread true true true true = refl
spread true true true false = refl
spread true true false true = refl
spread true true false false = refl
spread true false true true = refl
spread true false true false = refl
spread true false false true = refl
spread true false false false = refl
spread false d i m = refl

found_has : (columns head names cols : List (List ℕ)) (vals : List Value) (found table meant : List Row) → columns ≡ head → names ≡ cols → SameRows found (matching columns names vals table) → SameRows table meant
    → (r : Row) → has found r ≡ (has meant r && row_eq (cut head cols r) vals)
found_has columns head names cols vals found table meant a b h k r =
    h r ∙ (λ j. has (matching (a j) (b j) vals table) r) ∙ has-filter (λ x. row_eq (cut head cols x) vals) table r ∙ ap (λ c. c && row_eq (cut head cols r) vals) (k r)

pub overlaid-where : (lower : ℕ → List (List Value)) (deltas : List Delta) (n : ℕ) (columns head names cols : List (List ℕ)) (vals : List Value) (rows gone added out_rows in_rows changed : List (List Value))
    → columns ≡ head → names ≡ cols → SameRows rows (matching head cols vals (lower n))
    → SameRows gone (matching columns names vals out_rows) → SameRows out_rows (deleted_at deltas n)
    → SameRows added (matching columns names vals in_rows) → SameRows in_rows (inserted_at deltas n)
    → IsSetOf changed (without rows gone ++ added) → IsSetOf changed (matching head cols vals (overlay_rows lower deltas n))
overlaid-where lower deltas n columns head names cols vals rows gone added out_rows in_rows changed a b low g gone_is k added_is h =
    let m = λ (r : Row). row_eq (cut head cols r) vals in
    let del = deleted_at deltas n in
    let ins = inserted_at deltas n in
    record {
      distinct = h.distinct;
      same = λ r.
          h.same r ∙ has-append (without rows gone) added r ∙ ap (λ c. c || has added r) (has-without rows gone r)
          ∙ (λ j.
          (found_has head head cols cols vals rows (lower n) (lower n) refl refl low (λ x. refl) r j
          && not (found_has columns head names cols vals gone out_rows del a b g gone_is r j))
          || found_has columns head names cols vals added in_rows ins a b k added_is r j)
          ∙ spread (has (lower n) r) (has del r) (has ins r) (m r)
          ∙ sym (has-filter m (without (lower n) del ++ ins) r ∙ ap (λ c. c && m r) (has-append (without (lower n) del) ins r ∙ ap (λ c. c || has ins r) (has-without (lower n) del r)));
    }
