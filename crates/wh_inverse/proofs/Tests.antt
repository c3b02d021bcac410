-- Tests on names and truth values.
use Rattle.std.proofs.Common.{◌≡◌, ℕ, suc, ◌<◌, ◌≤◌, Bool, true, false, cond, ◌&&◌, ◌||◌, List, [], ◌∷◌, map, filter, nat_lt, refl, sym, ap, ◌∙◌, arith, true≢false, inl, inr, ◌⊎◌}
use Rattle.std.specs.Cmp.{first_so, second_so}
use Rattle.std.specs.Cmp.Lexicographic.{bytes_decides}
use Rattle.std.specs.List.{list_any, list_all}
use Rattle.std.proofs.lemmas.Bool.Decides.{nat_tests}
use Rattle.wh_base.specs.declared.value.Value.{Value}
use Rattle.wh_base.specs.Columns.{name_eq, is_in, all_in, place_of, value_at}

pub or_assoc : (a b c : Bool) → ((a || b) || c) ≡ (a || (b || c))
or_assoc true b c = refl
or_assoc false b c = refl

pub or_cases : (a b : Bool) → (a || b) ≡ true → (a ≡ true) ⊎ (b ≡ true)
or_cases true b h = inl refl
or_cases false b h = inr h

pub or_left : (a b : Bool) → a ≡ true → (a || b) ≡ true
or_left a b h = ap (λ c. c || b) h

pub or_right : (a b : Bool) → b ≡ true → (a || b) ≡ true
or_right true b h = refl
or_right false b h = h

pub or_false : (b : Bool) → (b || false) ≡ b
or_false true = refl
or_false false = refl

pub and_so : (a b : Bool) → a ≡ true → b ≡ true → (a && b) ≡ true
and_so true b h k = k
and_so false b h k = h

pub and_true : (b : Bool) → (b && true) ≡ b
and_true true = refl
and_true false = refl

pub and_assoc : (a b c : Bool) → ((a && b) && c) ≡ (a && (b && c))
and_assoc true b c = refl
and_assoc false b c = refl

pub lt-from : (m n : ℕ) → nat_lt m n ≡ true → m < n
lt-from m n h = grind (arith, nat_tests)

pub lt-test : (m n : ℕ) → m < n → nat_lt m n ≡ true
lt-test m n h = grind (arith, nat_tests)

-- the value at a name's place, where the values are made from the names
pub value_at-made : (h : List ℕ → Value) (names : List (List ℕ)) (n : List ℕ) → is_in names n ≡ true → value_at (map h names) (place_of names n) ≡ h n
value_at-made h [] n k = absurd (true≢false (sym k))
value_at-made h (m ∷ names) n k = by (name_eq n m) refl (value_at-made h names n)
  where
    by : (b : Bool) → name_eq n m ≡ b → (is_in names n ≡ true → value_at (map h names) (place_of names n) ≡ h n) → value_at (h m ∷ map h names) (place_of (m ∷ names) n) ≡ h n
    by true e rest = ap (λ b. value_at (h m ∷ map h names) (cond b 0 (suc (place_of names n)))) e ∙ ap h (sym ((bytes_decides n m).0 e))
    by false e rest = ap (λ b. value_at (h m ∷ map h names) (cond b 0 (suc (place_of names n)))) e ∙ rest (sym (ap (λ b. b || is_in names n) e) ∙ k)

pub map_of_map : {A B C : Type 0} (f : B → C) (g : A → B) (xs : List A) → map f (map g xs) ≡ map (λ x. f (g x)) xs
map_of_map f g [] = refl
map_of_map f g (x ∷ xs) = ap (λ r. f (g x) ∷ r) (map_of_map f g xs)

pub is_in-all_in : (columns names : List (List ℕ)) (n : List ℕ) → is_in names n ≡ true → all_in columns names ≡ true → is_in columns n ≡ true
is_in-all_in columns [] n h k = absurd (true≢false (sym h))
is_in-all_in columns (m ∷ names) n h k =
    elim (or_cases (name_eq n m) (is_in names n) h) [
      | inl e ↦ ap (is_in columns) ((bytes_decides n m).0 e) ∙ first_so (is_in columns m) (all_in columns names) k
      | inr r ↦ is_in-all_in columns names n r (second_so (is_in columns m) (all_in columns names) k)
    ]

pub all_in-from : (columns names : List (List ℕ)) → ((n : List ℕ) → is_in names n ≡ true → is_in columns n ≡ true) → all_in columns names ≡ true
all_in-from columns [] h = refl
all_in-from columns (m ∷ names) h = and_so (is_in columns m) (all_in columns names) (h m (own m)) (all_in-from columns names (λ n k. h n (or_right (name_eq n m) (is_in names n) k)))
  where
    own : (n : List ℕ) → is_in (n ∷ names) n ≡ true
    own n = or_left (name_eq n n) (is_in names n) ((bytes_decides n n).1 refl)

pub all_in-trans : (xs ys zs : List (List ℕ)) → all_in xs ys ≡ true → all_in ys zs ≡ true → all_in xs zs ≡ true
all_in-trans xs ys zs h k = all_in-from xs zs (λ n m. is_in-all_in xs ys n (is_in-all_in ys zs n m k) h)

pub any-map : {X Y : Type 0} (p : Y → Bool) (f : X → Y) (xs : List X) → list_any p (map f xs) ≡ list_any (λ x. p (f x)) xs
any-map p f [] = refl
any-map p f (x ∷ xs) = ap (λ b. p (f x) || b) (any-map p f xs)

-- a test that holds of a list of names holds of each of them
pub all-named : (p : List ℕ → Bool) (names : List (List ℕ)) (n : List ℕ) → is_in names n ≡ true → list_all p names ≡ true → p n ≡ true
all-named p [] n h k = absurd (true≢false (sym h))
all-named p (m ∷ names) n h k =
    elim (or_cases (name_eq n m) (is_in names n) h) [
      | inl e ↦ ap p ((bytes_decides n m).0 e) ∙ first_so (p m) (list_all p names) k
      | inr r ↦ all-named p names n r (second_so (p m) (list_all p names) k)
    ]

pub filter-map : (f : List Value → List Value) (p q : List Value → Bool) → ((x : List Value) → q (f x) ≡ p x) → (xs : List (List Value)) → filter q (map f xs) ≡ map f (filter p xs)
filter-map f p q e [] = refl
filter-map f p q e (x ∷ xs) = ap (λ b. cond b (f x ∷ filter q (map f xs)) (filter q (map f xs))) (e x) ∙ by (p x) (filter-map f p q e xs)
  where
    by : (b : Bool) → filter q (map f xs) ≡ map f (filter p xs) → cond b (f x ∷ filter q (map f xs)) (filter q (map f xs)) ≡ map f (cond b (x ∷ filter p xs) (filter p xs))
    by true h = ap (λ r. f x ∷ r) h
    by false h = h

pub ge-from : (m n : ℕ) → nat_lt m n ≡ false → n ≤ m
ge-from m n h = grind (arith, nat_tests)

pub ge-test : (m n : ℕ) → n ≤ m → nat_lt m n ≡ false
ge-test m n h = grind (arith, nat_tests)
