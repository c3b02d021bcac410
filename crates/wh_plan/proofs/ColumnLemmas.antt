-- The left column that an inclusion has for a right one, and names that are changed back.
use Rattle.std.proofs.Common.{◌≡◌, ℕ, suc, Bool, true, false, cond, not, List, [], ◌∷◌, map, filter, length, Contains, refl, sym, ◌∙◌, ap, subst, inl, inr, ◌⊎◌, suc-ne-zero, unwrap_or}
use Rattle.std.specs.Prelude.{slice_get}
use Rattle.std.specs.List.{IsDistinct}
use Rattle.std.proofs.lemmas.Bool.{true≢false}
use Rattle.std.proofs.lemmas.List.Elements.{All-contains, All-from_recursion}
use Rattle.std.proofs.lemmas.Map.Keys.{IsDistinct-head, IsDistinct-tail}
use Rattle.wh_base.specs.declared.value.Value.{Value}
use Rattle.wh_base.specs.Columns.{name_eq, place_of, value_at, value_of}
use Rattle.wh_expr.specs.declared.expr.Renaming.{Renaming}
use Rattle.wh_expr.specs.Rename.{new_name}
use Rattle.wh_laws.proofs.Lists.{Contains-nil, Contains-here, Contains-there, Contains-cases}
use Rattle.wh_laws.proofs.Equality.{Name, name_eq_decides, when_false}
use Rattle.wh_plan.specs.Expressions.{is_change}

-- the name at the place of another name in a list beside it
abbrev pub beside : List Name → List Name → Name → Name
beside lefts rights n = unwrap_or (slice_get lefts (place_of rights n)) []

module _ (x : Name) (xs : List Name) (t : Name) (ts : List Name) (n : Name) where
  abbrev at_place : Bool → Name
  at_place b = unwrap_or (slice_get (x ∷ xs) (cond b 0 (suc (place_of ts n)))) []

  beside_first : name_eq n t ≡ true → beside (x ∷ xs) (t ∷ ts) n ≡ x
  beside_first e = ap at_place e

  beside_later : name_eq n t ≡ false → beside (x ∷ xs) (t ∷ ts) n ≡ beside xs ts n
  beside_later e = ap at_place e

not_first : (n t : Name) (ts : List Name) → name_eq n t ≡ false → Contains (t ∷ ts) n → Contains ts n
not_first n t ts e h = elim (Contains-cases t n ts h) [ inl q ↦ absurd (true≢false (sym ((name_eq_decides n t).1 (sym q)) ∙ e)) | inr k ↦ k ]

beside_in : (lefts rights : List Name) → length lefts ≡ length rights → (n : Name) → Contains rights n → Contains lefts (beside lefts rights n)
beside_in [] [] l n h = absurd (Contains-nil n h)
beside_in [] (t ∷ ts) l n h = absurd (suc-ne-zero _ (sym l))
beside_in (x ∷ xs) [] l n h = absurd (Contains-nil n h)
beside_in (x ∷ xs) (t ∷ ts) l n h = by (name_eq n t) refl (beside_in xs ts (cc l) n)
  where
    by : (b : Bool) → name_eq n t ≡ b → (Contains ts n → Contains xs (beside xs ts n)) → Contains (x ∷ xs) (beside (x ∷ xs) (t ∷ ts) n)
    by true e more = let P : Name → Type 0 = Contains (x ∷ xs) in subst P (sym (beside_first x xs t ts n e)) (Contains-here x xs)
    by false e more = let P : Name → Type 0 = Contains (x ∷ xs) in subst P (sym (beside_later x xs t ts n e)) (Contains-there x (beside xs ts n) xs (more (not_first n t ts e h)))

differs : (h : Name) (hs : List Name) → IsDistinct name_eq (h ∷ hs) → (n : Name) → Contains hs n → h ≡ n → ⊥
differs h hs d n k = when_false (name_eq h n) (name_eq_decides h n) (All-contains (λ m. name_eq h m ≡ false) hs n (All-from_recursion (λ m. name_eq h m ≡ false) hs (IsDistinct-head name_eq h hs d)) k)

-- distinct left names tell the right ones apart
pub beside_apart : (lefts rights : List Name) → length lefts ≡ length rights → IsDistinct name_eq lefts → (n m : Name) → Contains rights n → Contains rights m
    → beside lefts rights n ≡ beside lefts rights m → n ≡ m
beside_apart [] [] l d n m h k e = absurd (Contains-nil n h)
beside_apart [] (t ∷ ts) l d n m h k e = absurd (suc-ne-zero _ (sym l))
beside_apart (x ∷ xs) [] l d n m h k e = absurd (Contains-nil n h)
beside_apart (x ∷ xs) (t ∷ ts) l d n m h k e = by (name_eq n t) (name_eq m t) refl refl (beside_apart xs ts (cc l) (IsDistinct-tail name_eq x xs d) n m)
  where
    by : (a b : Bool) → name_eq n t ≡ a → name_eq m t ≡ b → (Contains ts n → Contains ts m → beside xs ts n ≡ beside xs ts m → n ≡ m) → n ≡ m
    by true true p q more = (name_eq_decides n t).0 p ∙ sym ((name_eq_decides m t).0 q)
    by true false p q more =
        absurd (differs x xs d (beside xs ts m) (beside_in xs ts (cc l) m (not_first m t ts q k)) (sym (beside_first x xs t ts n p) ∙ e ∙ beside_later x xs t ts m q))
    by false true p q more =
        absurd (differs x xs d (beside xs ts n) (beside_in xs ts (cc l) n (not_first n t ts p h)) (sym (beside_first x xs t ts m q) ∙ sym e ∙ beside_later x xs t ts n p))
    by false false p q more = more (not_first n t ts p h) (not_first m t ts q k) (sym (beside_later x xs t ts n p) ∙ e ∙ beside_later x xs t ts m q)

-- values that stand beside names
pub value_beside : (f : List ℕ → Value) (lefts rights : List Name) → length lefts ≡ length rights → (n : Name) → Contains rights n → value_of rights (map f lefts) n ≡ f (beside lefts rights n)
value_beside f [] [] l n h = absurd (Contains-nil n h)
value_beside f [] (t ∷ ts) l n h = absurd (suc-ne-zero _ (sym l))
value_beside f (x ∷ xs) [] l n h = absurd (Contains-nil n h)
value_beside f (x ∷ xs) (t ∷ ts) l n h = by (name_eq n t) refl (value_beside f xs ts (cc l) n)
  where
    by : (b : Bool) → name_eq n t ≡ b → (Contains ts n → value_of ts (map f xs) n ≡ f (beside xs ts n)) → value_of (t ∷ ts) (map f (x ∷ xs)) n ≡ f (beside (x ∷ xs) (t ∷ ts) n)
    by true e more = ap (λ b. value_at (f x ∷ map f xs) (cond b 0 (suc (place_of ts n)))) e ∙ ap f (sym (beside_first x xs t ts n e))
    by false e more = ap (λ b. value_at (f x ∷ map f xs) (cond b 0 (suc (place_of ts n)))) e ∙ more (not_first n t ts e h) ∙ ap f (sym (beside_later x xs t ts n e))

-- ---- names that are changed back

module _ (f : Name → Name) (n : Name) where
  abbrev change : Name → Renaming
  change m = record { from = f m; to = m }

  pub changed_back : (ms : List (List ℕ)) → ((m : List ℕ) → Contains ms m → f n ≡ f m → n ≡ m) → Contains ms n ⊎ (f n ≡ n) → new_name (filter is_change (map (λ m. record { from = f m; to = m }) ms)) (f n) ≡ n
  changed_back [] apart h = elim h [ inl k ↦ absurd (Contains-nil n k) | inr e ↦ e ]
  changed_back (m ∷ ms) apart h = by (name_eq (f m) m) refl (changed_back ms (λ k i. apart k (Contains-there m k ms i)))
    where
      rest : List Renaming
      rest = filter is_change (map change ms)

      left_out : (f m ≡ m) → Contains (m ∷ ms) n ⊎ (f n ≡ n) → Contains ms n ⊎ (f n ≡ n)
      left_out e (inl k) = elim (Contains-cases m n ms k) [ inl q ↦ let P : Name → Type 0 = λ x. f x ≡ x in inr (subst P q e) | inr i ↦ inl i ]
      left_out e (inr k) = inr k

      later : (f n ≡ f m → ⊥) → Contains (m ∷ ms) n ⊎ (f n ≡ n) → Contains ms n ⊎ (f n ≡ n)
      later d (inl k) = elim (Contains-cases m n ms k) [ inl q ↦ absurd (d (ap f (sym q))) | inr i ↦ inl i ]
      later d (inr k) = inr k

      kept : (c : Bool) → name_eq (f n) (f m) ≡ c → (Contains ms n ⊎ (f n ≡ n) → new_name (filter is_change (map change ms)) (f n) ≡ n) → cond c m (new_name (filter is_change (map change ms)) (f n)) ≡ n
      kept true e more = sym (apart m (Contains-here m ms) ((name_eq_decides (f n) (f m)).0 e))
      kept false e more = more (later (when_false (name_eq (f n) (f m)) (name_eq_decides (f n) (f m)) e) h)

      by : (b : Bool) → name_eq (f m) m ≡ b → (Contains ms n ⊎ (f n ≡ n) → new_name (filter is_change (map change ms)) (f n) ≡ n)
          → new_name (filter is_change (change m ∷ map change ms)) (f n) ≡ n
      by true e more = ap (λ b. new_name (cond (not b) (change m ∷ filter is_change (map change ms)) (filter is_change (map change ms))) (f n)) e ∙ more (left_out ((name_eq_decides (f m) m).0 e) h)
      by false e more = ap (λ b. new_name (cond (not b) (change m ∷ filter is_change (map change ms)) (filter is_change (map change ms))) (f n)) e ∙ kept (name_eq (f n) (f m)) refl more
