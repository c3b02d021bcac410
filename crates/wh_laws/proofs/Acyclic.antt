-- Without a cycle each relation stands on finitely many chains of inclusions.
use Rattle.std.proofs.Common.{◌≡◌, ℕ, suc, zero, ◌<◌, ◌≤◌, ◌+◌, List, [], ◌∷◌, ◌++◌, length, get_or, take, Contains, refl, sym, ◌∙◌, ap, subst, inl, inr, arith, take_all}
use Rattle.std.proofs.lemmas.List.{take_more}
use Rattle.std.proofs.lemmas.List.Elements.{Contains-append_cases}
use Rattle.wh_schema.specs.declared.spec.Inclusion.{Inclusion}
use Rattle.wh_schema.specs.Legality.{LeadsTo, here, along, IsAcyclic}
use Rattle.wh_schema.specs.Warehouse.{no_inclusion}
use Rattle.wh_laws.proofs.Lists.{Contains-nil, Contains-cases}

-- each source of r is grounded, and their sources, and so on
pub data Grounded (inclusions : List Inclusion) : ℕ → Type 0 where
  grounded : {r : ℕ} → ((c : Inclusion) → Contains inclusions c → c.to ≡ r → Grounded inclusions c.from) → Grounded inclusions r

one_more : (cs : List Inclusion) (a b : ℕ) (d : Inclusion) → Contains cs d → d.from ≡ b → LeadsTo cs a b → LeadsTo cs a d.to
one_more cs a b d k e here = along d k e here
one_more cs a b d k e (along c m f p) = along c m f (one_more cs c.to b d k e p)

module _ (cs : List Inclusion) (c : Inclusion) (none : LeadsTo cs c.to c.from → ⊥) where
  -- a relation to which the right one does not lead keeps its ground
  apart : (r : ℕ) → Grounded cs r → (LeadsTo cs c.to r → ⊥) → Grounded (cs ++ c ∷ []) r
  apart r (grounded f) n =
      grounded (λ d k e.
      elim (Contains-append_cases cs (c ∷ []) d k) [
        | inl a ↦ apart d.from (f d a e) (λ p. n (let P : ℕ → Type 0 = LeadsTo cs c.to in subst P e (one_more cs c.to d.from d a refl p)))
        | inr a ↦
            elim (Contains-cases c d [] a) [
              | inl q ↦ absurd (n (let P : ℕ → Type 0 = LeadsTo cs c.to in subst P (ap (λ (i : Inclusion). i.to) q ∙ e) here))
              | inr z ↦ absurd (Contains-nil d z)
            ]
      ])

  pub grounded_more : (left : Grounded cs c.from) (r : ℕ) → Grounded cs r → Grounded (cs ++ c ∷ []) r
  grounded_more left r (grounded f) =
      grounded (λ d k e.
      elim (Contains-append_cases cs (c ∷ []) d k) [
        | inl a ↦ grounded_more left d.from (f d a e)
        | inr a ↦
            elim (Contains-cases c d [] a) [
              | inl q ↦ let P : ℕ → Type 0 = Grounded (cs ++ c ∷ []) in subst P (ap (λ (i : Inclusion). i.from) q) (apart c.from left none)
              | inr z ↦ absurd (Contains-nil d z)
            ]
      ])

front_grounded : (cs : List Inclusion) → IsAcyclic cs → (k : ℕ) → k ≤ length cs → (r : ℕ) → Grounded (take k cs) r
front_grounded cs h zero l r = grounded (λ c k e. absurd (Contains-nil c k))
front_grounded cs h (suc k) l r =
    let m : k < length cs = omega arith in
    let c = get_or cs k no_inclusion in
    let below : (q : ℕ) → Grounded (take k cs) q = front_grounded cs h k (omega arith) in
    let next : suc k ≡ k + 1 = omega arith in
    let P : List Inclusion → Type 0 = λ z. Grounded z r in
    subst P (sym (ap (λ n. take n cs) next ∙ take_more cs k no_inclusion m)) (grounded_more (take k cs) c (h k m) (below c.from) r (below r))

pub all_grounded : (cs : List Inclusion) → IsAcyclic cs → (r : ℕ) → Grounded cs r
all_grounded cs h r =
    let P : List Inclusion → Type 0 = λ z. Grounded z r in
    subst P (take_all (length cs) cs (omega arith)) (front_grounded cs h (length cs) (omega arith) r)
