-- Lemmas on the walk along a chain.
use Rattle.std.proofs.Common.{◌≡◌, ◌<◌, ◌≤◌, ℕ, zero, suc, Bool, true, false, cond, refl, sym, ap, ◌∙◌, arith, true≢false}
use Rattle.std.proofs.Common.{◌%◌, ◌-◌, List, length, get_or}
use Rattle.std.proofs.lemmas.Bool.{eqb-true, eq-eqb, ne_eqb}
use Rattle.wh_chains.specs.Links.{last_link, slot_at, in_bucket, AreLinked}
use Rattle.wh_chains.specs.Chains.{has_key, last_slot}
use Rattle.std.specs.Prelude.{Some}

pub last_link-le : (p : ℕ → Bool) (n : ℕ) → last_link p n ≤ n
last_link-le p zero = omega arith
last_link-le p (suc k) = by (p k) (last_link-le p k)
  where
    by : (b : Bool) → last_link p k ≤ k → cond b (suc k) (last_link p k) ≤ suc k
    by true h = omega arith
    by false h = omega arith

-- the slot that is found passes
pub last_link-passes : (p : ℕ → Bool) (n k : ℕ) → last_link p n ≡ suc k → p k ≡ true
last_link-passes p zero k h = absurd (cc)
last_link-passes p (suc m) k h = by (p m) refl h (last_link-passes p m k)
  where
    by : (b : Bool) → p m ≡ b → cond b (suc m) (last_link p m) ≡ suc k → (last_link p m ≡ suc k → p k ≡ true) → p k ≡ true
    by true e h' rest = let same : m ≡ k = omega arith in ap p (sym same) ∙ e
    by false e h' rest = rest h'

-- a slot that fails is passed over
pub last_link-skip : (p : ℕ → Bool) (k : ℕ) → p k ≡ false → last_link p (suc k) ≡ last_link p k
last_link-skip p k h = ap (λ b. cond b (suc k) (last_link p k)) h

-- among the slots of a weaker test the last one is found by walking them
pub last_link-through : (p q : ℕ → Bool) → ((k : ℕ) → p k ≡ true → q k ≡ true) → (n : ℕ) → last_link p (last_link q n) ≡ last_link p n
last_link-through p q weaker zero = refl
last_link-through p q weaker (suc k) = by (q k) refl (last_link-through p q weaker k)
  where
    fails : (b : Bool) → p k ≡ b → q k ≡ false → p k ≡ false
    fails true e h = absurd (true≢false (sym (weaker k e) ∙ h))
    fails false e h = e

    by : (b : Bool) → q k ≡ b → last_link p (last_link q k) ≡ last_link p k → last_link p (cond b (suc k) (last_link q k)) ≡ last_link p (suc k)
    by true e rest = refl
    by false e rest = rest ∙ sym (last_link-skip p k (fails (p k) refl e))

-- tests that agree below a number find the same
pub last_link-agree : (p q : ℕ → Bool) (n : ℕ) → ((k : ℕ) → k < n → p k ≡ q k) → last_link p n ≡ last_link q n
last_link-agree p q zero same = refl
last_link-agree p q (suc k) same =
    ap (λ b. cond b (suc k) (last_link p k)) (same k (omega arith)) ∙ ap (λ m. cond (q k) (suc k) m) (last_link-agree p q k (λ j h. same j (omega arith)))

-- where a link of a bucket leads
pub landed : (keys : List ℕ) (buckets bucket m x : ℕ) → x ≡ last_link (in_bucket keys buckets bucket) m → (x ≤ m) × (0 < x → get_or keys (x - 1) 0 % buckets ≡ bucket)
landed keys buckets bucket m zero e = (omega arith, λ h. absurd (omega arith))
landed keys buckets bucket m (suc k) e =
    let q = in_bucket keys buckets bucket in
    let at : suc k - 1 ≡ k = omega arith in
    let le : last_link q m ≤ m = last_link-le q m in
    (omega arith, λ h. ap (λ j. get_or keys j 0 % buckets) at ∙ eqb-true _ _ (last_link-passes q m k (sym e)))

-- what a link of a bucket tells of a key in that bucket
pub reaches : (keys : List ℕ) (buckets key m x : ℕ) → x ≡ last_link (in_bucket keys buckets (key % buckets)) m → last_link (has_key keys key) x ≡ last_link (has_key keys key) m
reaches keys buckets key m x e =
    ap (last_link (has_key keys key)) e
    ∙ last_link-through (has_key keys key) (in_bucket keys buckets (key % buckets)) (λ k h. eq-eqb _ _ (ap (λ j. j % buckets) (eqb-true _ _ h))) m

-- one step of a walk
pub record Steps (keys : List ℕ) (buckets key at next : ℕ) : Type 0 where
  pub smaller : next < at
  pub bucket : 0 < next → get_or keys (next - 1) 0 % buckets ≡ key % buckets
  pub same : last_link (has_key keys key) next ≡ last_link (has_key keys key) at

pub steps : (keys nexts : List ℕ) (buckets key at : ℕ) → AreLinked buckets keys nexts → 0 < at → at ≤ length keys → get_or keys (at - 1) 0 % buckets ≡ key % buckets → (get_or keys (at - 1) 0 ≡ key → ⊥) → Steps keys buckets key at (get_or nexts (at - 1) 0)
steps keys nexts buckets key zero linked some within bucket differs = absurd (omega arith)
steps keys nexts buckets key (suc s) linked some within bucket differs =
    let at : suc s - 1 ≡ s = omega arith in
    let here : get_or keys s 0 % buckets ≡ key % buckets = ap (λ j. get_or keys j 0 % buckets) (sym at) ∙ bucket in
    let link : get_or nexts s 0 ≡ last_link (in_bucket keys buckets (key % buckets)) s = linked s (omega arith) ∙ ap (λ b. last_link (in_bucket keys buckets b) s) here in
    let next : get_or nexts (suc s - 1) 0 ≡ last_link (in_bucket keys buckets (key % buckets)) s = ap (λ j. get_or nexts j 0) at ∙ link in
    let lands = landed keys buckets (key % buckets) s (get_or nexts (suc s - 1) 0) next in
    record {
      smaller = omega (arith, lands.0);
      bucket = lands.1;
      same = reaches keys buckets key s (get_or nexts (suc s - 1) 0) next ∙ sym (last_link-skip (has_key keys key) s (ne_eqb _ _ (λ e. differs (ap (λ j. get_or keys j 0) at ∙ e))));
    }

-- the end of a walk
pub stands : (keys : List ℕ) (key at : ℕ) → 0 < at → get_or keys (at - 1) 0 ≡ key → last_link (has_key keys key) at ≡ at
stands keys key zero some e = absurd (omega arith)
stands keys key (suc s) some e =
    let at : suc s - 1 ≡ s = omega arith in
    ap (λ b. cond b (suc s) (last_link (has_key keys key) s)) (eq-eqb _ _ (ap (λ j. get_or keys j 0) (sym at) ∙ e))

-- the slot that a link leads to
pub slot_at-last_link : (p : ℕ → Bool) (n : ℕ) → slot_at (last_link p n) ≡ last_slot p n
slot_at-last_link p zero = refl
slot_at-last_link p (suc k) = by (p k) (slot_at-last_link p k)
  where
    by : (b : Bool) → slot_at (last_link p k) ≡ last_slot p k → slot_at (cond b (suc k) (last_link p k)) ≡ cond b (Some k) (last_slot p k)
    by true rest = refl
    by false rest = rest
