-- Lemmas on a slot that is linked, and on where a search begins.
use Rattle.std.proofs.Common.{◌≡◌, ◌<◌, ◌≤◌, ◌+◌, ◌%◌, ℕ, zero, suc, Bool, true, false, cond, refl, sym, ap, ◌∙◌, arith, List, [], ◌∷◌, ◌++◌, length, get_or, set, subst, get_or-set_other}
use Rattle.std.specs.Prelude.{nat_eq}
use Rattle.std.proofs.lemmas.Bool.{eqb-true, eqb-false}
use Rattle.std.proofs.lemmas.Nat.{mod_below}
use Rattle.std.proofs.lemmas.List.{get_or_append_left, get_or_push, get_or_read, length_push, length-set}
use Rattle.std.proofs.lemmas.Grind.{get_or-set_at}
use Rattle.wh_chains.specs.Links.{last_link, in_bucket, AreChained}

-- tests that agree below a number find the same
pub last_link-agree : (p q : ℕ → Bool) (n : ℕ) → ((k : ℕ) → k < n → p k ≡ q k) → last_link p n ≡ last_link q n
last_link-agree p q zero same = refl
last_link-agree p q (suc k) same =
    ap (λ b. cond b (suc k) (last_link p k)) (same k (omega arith)) ∙ ap (λ m. cond (q k) (suc k) m) (last_link-agree p q k (λ j h. same j (omega arith)))

-- a new slot changes nothing below it
pub before-same : (keys : List ℕ) (key m b s : ℕ) → s ≤ length keys → last_link (in_bucket (keys ++ key ∷ []) m b) s ≡ last_link (in_bucket keys m b) s
before-same keys key m b s le =
    last_link-agree (in_bucket (keys ++ key ∷ []) m b) (in_bucket keys m b) s
    (λ j h. ap (λ k. nat_eq (k % m) b) (get_or_append_left keys (key ∷ []) 0 j (omega arith)))

-- the last slot of a bucket, after a new slot
pub new-last : (keys : List ℕ) (key m b : ℕ) → last_link (in_bucket (keys ++ key ∷ []) m b) (suc (length keys)) ≡ cond (nat_eq (key % m) b) (suc (length keys)) (last_link (in_bucket keys m b) (length keys))
new-last keys key m b =
    ap (λ k. cond (nat_eq (k % m) b) (suc (length keys)) (last_link (in_bucket (keys ++ key ∷ []) m b) (length keys))) (get_or_push keys key 0 (length keys) refl)
    ∙ ap (λ x. cond (nat_eq (key % m) b) (suc (length keys)) x) (before-same keys key m b (length keys) (omega arith))

pub head-new : (heads nexts keys : List ℕ) (key n b : ℕ) → AreChained heads nexts keys → n ≡ length keys + 1 → b < length heads → get_or (set heads (key % length heads) n) b 0 ≡ last_link (in_bucket (keys ++ key ∷ []) (length heads) b) (suc (length keys))
head-new heads nexts keys key n b c e lt = by (nat_eq (key % length heads) b) refl ∙ sym (new-last keys key (length heads) b)
  where
    by : (t : Bool) → nat_eq (key % length heads) b ≡ t → get_or (set heads (key % length heads) n) b 0 ≡ cond t (suc (length keys)) (last_link (in_bucket keys (length heads) b) (length keys))
    by true h = get_or-set_at heads (key % length heads) b n 0 (sym (eqb-true _ _ h)) (mod_below key (length heads) c.some) ∙ omega (arith, e)
    by false h = get_or-set_other heads (key % length heads) b n 0 (λ same. eqb-false _ _ h (sym same)) ∙ c.are_heads b lt

pub link-old : (heads nexts keys : List ℕ) (key x s : ℕ) → AreChained heads nexts keys → s < length keys → get_or (nexts ++ x ∷ []) s 0 ≡ last_link (in_bucket (keys ++ key ∷ []) (length heads) (get_or (keys ++ key ∷ []) s 0 % length heads)) s
link-old heads nexts keys key x s c lt =
    let long = c.long in
    get_or_append_left nexts (x ∷ []) 0 s (omega (arith, long))
    ∙ c.are_linked s lt
    ∙ sym (before-same keys key (length heads) (get_or keys s 0 % length heads) s (omega arith))
    ∙ ap (λ k. last_link (in_bucket (keys ++ key ∷ []) (length heads) (k % length heads)) s) (sym (get_or_append_left keys (key ∷ []) 0 s lt))

pub link-new : (heads nexts keys : List ℕ) (key x : ℕ) → AreChained heads nexts keys → x ≡ get_or heads (key % length heads) x → get_or (nexts ++ x ∷ []) (length keys) 0 ≡ last_link (in_bucket (keys ++ key ∷ []) (length heads) (get_or (keys ++ key ∷ []) (length keys) 0 % length heads)) (length keys)
link-new heads nexts keys key x c read =
    let lt = mod_below key (length heads) c.some in
    get_or_push nexts x 0 (length keys) c.long
    ∙ get_or_read heads (key % length heads) x lt read 0
    ∙ c.are_heads (key % length heads) lt
    ∙ sym (before-same keys key (length heads) (key % length heads) (length keys) (omega arith))
    ∙ ap (λ k. last_link (in_bucket (keys ++ key ∷ []) (length heads) (k % length heads)) (length keys)) (sym (get_or_push keys key 0 (length keys) refl))

pub link-at : (heads nexts keys : List ℕ) (key x s : ℕ) → AreChained heads nexts keys → x ≡ get_or heads (key % length heads) x → s < suc (length keys) → get_or (nexts ++ x ∷ []) s 0 ≡ last_link (in_bucket (keys ++ key ∷ []) (length heads) (get_or (keys ++ key ∷ []) s 0 % length heads)) s
link-at heads nexts keys key x s c read lt = by (nat_eq s (length keys)) refl
  where
    by : (t : Bool) → nat_eq s (length keys) ≡ t → get_or (nexts ++ x ∷ []) s 0 ≡ last_link (in_bucket (keys ++ key ∷ []) (length heads) (get_or (keys ++ key ∷ []) s 0 % length heads)) s
    by true h =
        let Q : ℕ → Type 0 = λ j. get_or (nexts ++ x ∷ []) j 0 ≡ last_link (in_bucket (keys ++ key ∷ []) (length heads) (get_or (keys ++ key ∷ []) j 0 % length heads)) j in
        subst Q (sym (eqb-true _ _ h)) (link-new heads nexts keys key x c read)
    by false h = let ne = eqb-false _ _ h in link-old heads nexts keys key x s c (omega (arith, ne))

pub linked : (heads nexts keys : List ℕ) (key n x : ℕ) → AreChained heads nexts keys → n ≡ length keys + 1 → x ≡ get_or heads (key % length heads) x → AreChained (set heads (key % length heads) n) (nexts ++ x ∷ []) (keys ++ key ∷ [])
linked heads nexts keys key n x c e read =
    let same : length heads ≡ length (set heads (key % length heads) n) = sym (length-set heads (key % length heads) n) in
    let more : suc (length keys) ≡ length (keys ++ key ∷ []) = let l = length_push keys key in omega (arith, l) in
    record {
      some = let some = c.some in omega (arith, same, some);
      long = length_push nexts x ∙ ap (λ k. k + 1) c.long ∙ sym (length_push keys key);
      are_heads = λ b lt.
          head-new heads nexts keys key n b c e (omega (arith, same, lt))
          ∙ ap (λ m. last_link (in_bucket (keys ++ key ∷ []) m b) (suc (length keys))) same
          ∙ ap (λ j. last_link (in_bucket (keys ++ key ∷ []) (length (set heads (key % length heads) n)) b) j) more;
      are_linked = λ s lt.
          link-at heads nexts keys key x s c read (omega (arith, more, lt))
          ∙ ap (λ m. last_link (in_bucket (keys ++ key ∷ []) m (get_or (keys ++ key ∷ []) s 0 % m)) s) same;
    }

-- the same where the number of buckets has another name
pub linked-in : (heads nexts keys : List ℕ) (key n x m : ℕ) → m ≡ length heads → AreChained heads nexts keys → n ≡ length keys + 1 → x ≡ get_or heads (key % m) x → AreChained (set heads (key % m) n) (nexts ++ x ∷ []) (keys ++ key ∷ [])
linked-in heads nexts keys key n x m same c e =
    let Q : ℕ → Type 0 = λ k. x ≡ get_or heads (key % k) x → AreChained (set heads (key % k) n) (nexts ++ x ∷ []) (keys ++ key ∷ []) in
    subst Q (sym same) (linked heads nexts keys key n x c e)

-- where a search begins
pub starts : (heads nexts keys : List ℕ) (key m x : ℕ) → AreChained heads nexts keys → m ≡ length heads → x ≡ get_or heads (key % m) x → x ≡ last_link (in_bucket keys m (key % m)) (length keys)
starts heads nexts keys key m x c same =
    let lt = mod_below key (length heads) c.some in
    let Q : ℕ → Type 0 = λ k. x ≡ get_or heads (key % k) x → x ≡ last_link (in_bucket keys k (key % k)) (length keys) in
    subst Q (sym same) (λ read. get_or_read heads (key % length heads) x lt read 0 ∙ c.are_heads (key % length heads) lt)

-- where a search begins behind a slot
pub goes_on : (heads nexts keys : List ℕ) (key slot m x : ℕ) → AreChained heads nexts keys → m ≡ length heads → slot < length keys → get_or keys slot 0 ≡ key → x ≡ get_or nexts slot x → x ≡ last_link (in_bucket keys m (key % m)) slot
goes_on heads nexts keys key slot m x c same lt is read =
    let Q : ℕ → Type 0 = λ k. x ≡ last_link (in_bucket keys k (key % k)) slot in
    let within : slot < length nexts = let long = c.long in omega (arith, lt, long) in
    subst Q (sym same)
    (get_or_read nexts slot x within read 0
    ∙ c.are_linked slot lt
    ∙ ap (λ k. last_link (in_bucket keys (length heads) (k % length heads)) slot) is)
