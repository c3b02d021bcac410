-- A part in its place, where its level is known by an equation.
use Rattle.std.proofs.Common.{◌≡◌, ℕ, ◌<◌, ◌≤◌, ◌++◌, cond, codes, subst, ap}
use Rattle.std.proofs.lemmas.Bool.{lt-ltb, le-ltb}
use Rattle.wh_query_text.specs.Printed.{Shown, placed}

pub placed_loose : (least level : ℕ) (s : Shown) → level ≡ s.level → level < least → placed least s ≡ codes "(" ++ s.text ++ codes ")"
placed_loose least level s is h = ap (λ b. cond b (codes "(" ++ s.text ++ codes ")") s.text) (lt-ltb s.level least (subst (λ n. n < least) is h))

pub placed_tight : (least level : ℕ) (s : Shown) → level ≡ s.level → least ≤ level → placed least s ≡ s.text
placed_tight least level s is h = ap (λ b. cond b (codes "(" ++ s.text ++ codes ")") s.text) (le-ltb s.level least (subst (λ n. least ≤ n) is h))
