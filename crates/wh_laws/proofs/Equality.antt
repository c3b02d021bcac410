-- The tests on names and rows say what they mean.
use Rattle.std.proofs.Common.{◌≡◌, ◌⊎◌, ℕ, Bool, true, false, not, List, Contains, Decides, refl, sym, ◌∙◌, ap, inl, inr}
use Rattle.std.specs.Cmp.Lexicographic.{bytes_decides}
use Rattle.std.proofs.lemmas.Bool.{cases_Bool, true≢false, not-true}
use Rattle.wh_base.specs.declared.value.Value.{Value}
use Rattle.wh_base.specs.Columns.{name_eq, is_in, all_in, shared, others}
use Rattle.wh_base.specs.RowSet.{has}
use Rattle.wh_base.proofs.InOrder.{any-Contains}
use Rattle.wh_laws.proofs.Lists.{any_from, any_in, every_from, every_in, filter_in, filter_from, Contains-is}

abbrev pub Name : Type 0
Name = List ℕ

pub name_eq_decides : (a b : Name) → Decides (name_eq a b) (a ≡ b)
name_eq_decides a b = bytes_decides a b

pub is_in_decides : (names : List Name) (n : Name) → Decides (is_in names n) (Contains names n)
is_in_decides names n = (
  λ e. let r = any_from (name_eq n) names e in Contains-is r.0 n names (sym ((name_eq_decides n r.0).0 r.2)) r.1,
  λ h. any_in (name_eq n) names n h ((name_eq_decides n n).1 refl),
)

pub has_decides : (rows : List (List Value)) (r : List Value) → Decides (has rows r) (Contains rows r)
has_decides rows r = any-Contains rows r

-- membership is decided
by_test : {P : Type 0} (b c : Bool) → c ≡ b → Decides c P → P ⊎ (P → ⊥)
by_test true c e d = inl (d.0 e)
by_test false c e d = inr (λ p. true≢false (sym (d.1 p) ∙ e))

pub decided : {P : Type 0} (c : Bool) → Decides c P → P ⊎ (P → ⊥)
decided c d = by_test c c refl d

pub is_false : {P : Type 0} (c : Bool) → Decides c P → (P → ⊥) → c ≡ false
is_false c d n = elim (cases_Bool c) [ inl e ↦ absurd (n (d.0 e)) | inr e ↦ e ]

pub when_false : {P : Type 0} (c : Bool) → Decides c P → c ≡ false → P → ⊥
when_false c d e p = true≢false (sym (d.1 p) ∙ e)

pub is_not : {P : Type 0} (c : Bool) → Decides c P → not c ≡ true → P → ⊥
is_not c d e p = when_false c d (not-true c e) p

pub is_not_in : {P : Type 0} (c : Bool) → Decides c P → (P → ⊥) → not c ≡ true
is_not_in c d n = ap not (is_false c d n)

pub row_is_in : (rows : List (List Value)) (r : List Value) → Contains rows r ⊎ (Contains rows r → ⊥)
row_is_in rows r = decided (has rows r) (has_decides rows r)

pub name_is_in : (names : List Name) (n : Name) → Contains names n ⊎ (Contains names n → ⊥)
name_is_in names n = decided (is_in names n) (is_in_decides names n)

-- ---- names that others share or lack

pub shared_in : (left right : List Name) (n : Name) → Contains left n → Contains right n → Contains (shared left right) n
shared_in left right n h k = filter_in (is_in left) right n k ((is_in_decides left n).1 h)

pub shared_from : (left right : List Name) (n : Name) → Contains (shared left right) n → Contains left n × Contains right n
shared_from left right n h = let r = filter_from (is_in left) right n h in ((is_in_decides left n).0 r.1, r.0)

pub others_in : (left right : List Name) (n : Name) → Contains right n → (Contains left n → ⊥) → Contains (others left right) n
others_in left right n h k = filter_in (λ m. not (is_in left m)) right n h (is_not_in (is_in left n) (is_in_decides left n) k)

pub others_from : (left right : List Name) (n : Name) → Contains (others left right) n → Contains right n × (Contains left n → ⊥)
others_from left right n h = let r = filter_from (λ m. not (is_in left m)) right n h in (r.0, is_not (is_in left n) (is_in_decides left n) r.1)

pub all_in_from : (columns names : List Name) → all_in columns names ≡ true → (n : Name) → Contains names n → Contains columns n
all_in_from columns names e n h = (is_in_decides columns n).0 (every_from (is_in columns) names e n h)

pub all_in_when : (columns names : List Name) → ((n : Name) → Contains names n → Contains columns n) → all_in columns names ≡ true
all_in_when columns names h = every_in (is_in columns) names (λ n k. (is_in_decides columns n).1 (h n k))
