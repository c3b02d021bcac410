-- How a run of disk calls goes on, and what a crash at any moment of it leaves.
use Rattle.std.proofs.Common.{rules, ◌≡◌, inl, inr, ⊎_elim, ℕ, ◌≤◌, List, length, take, Option, None, Some, IfSome, refl, sym, subst, arith}
use Rattle.std.specs.Option.{ForSome, option_map}
use Rattle.wh_io.specs.Disk.{written, Torn, PartlyCut, Changes}
use Rattle.wh_io.specs.Crash.{IsSettled, Within, Follows, Elapses, LeavesOnly}
use Rattle.wh_io.specs.Images.{torn_range, cut_taken}

module _ {D : Type 0} (moment : D → ℕ) (images_since : D → ℕ → List ℕ → Type 0) where
  -- what has P has Q
  pub leaves_map : (old new : D) (P Q : List ℕ → Type 0) → ((c : List ℕ) → P c → Q c) → LeavesOnly moment images_since old new P → LeavesOnly moment images_since old new Q
  leaves_map old new P Q step leaves = record {
    later = leaves.later;
    each = λ c left. step c (leaves.each c left);
    before = λ t c le left. ⊎_elim (λ earlier. inl earlier) (λ p. inr (step c p)) (leaves.before t c le left);
  }

  -- one run after another
  pub leaves_then : (old mid new : D) (P : List ℕ → Type 0) → LeavesOnly moment images_since old mid P → LeavesOnly moment images_since mid new P → LeavesOnly moment images_since old new P
  leaves_then old mid new P first second = record {
    later = omega (arith, first.later, second.later);
    each = λ c left. ⊎_elim (first.each c) (λ p. p) (second.before (moment old) c first.later left);
    before = λ t c le left. ⊎_elim (first.before t c le) (λ p. inr p) (second.before t c (omega (arith, le, first.later)) left);
  }

module _ {D : Type 0} (images : D → List ℕ → Type 0) (moment : D → ℕ) (images_since : D → ℕ → List ℕ → Type 0) where
  -- one call more, after which a crash leaves what has P
  pub goes_on : (old mid new : D) (P : List ℕ → Type 0) → LeavesOnly moment images_since old mid P → Elapses (moment mid) (moment new) (images_since mid) (images_since new) (images new)
      → ((c : List ℕ) → images new c → P c) → LeavesOnly moment images_since old new P
  goes_on old mid new P so_far time here = record {
    later = omega (arith, so_far.later, time.later);
    each = λ c left. ⊎_elim (so_far.each c) (here c) (time.nothing_else (moment old) c so_far.later left);
    before = λ t c le left. ⊎_elim (so_far.before t c le) (λ now. inr (here c now)) (time.nothing_else t c (omega (arith, le, so_far.later)) left);
  }

  -- before the first call
  pub started : (old : D) (P : List ℕ → Type 0) → ((c : List ℕ) → images_since old (moment old) c → P c) → LeavesOnly moment images_since old old P
  started old P here = record { later = omega arith; each = here; before = λ t c le left. inl left }

  -- one call that changes a settled content by a step, which may also leave it as it was
  module _ (step : List ℕ → List ℕ → Type 0) (stays : (c : List ℕ) → step c c) (old mid : D) (only_now : (c : List ℕ) → images_since old (moment old) c → images old c)
      (time : Elapses (moment old) (moment mid) (images_since old) (images_since mid) (images mid)) (crash : Follows step (images old) (images mid)) where
    -- what the call leaves
    step_of : (content : List ℕ) → IsSettled (Some content) (images old) → (c : List ℕ) → images mid c → step content c
    step_of content settled c left = let from = crash c left in subst (λ (d : List ℕ). step d c) (settled from.0 from.1) from.2

    -- the call alone
    pub change_leaves : (content : Option (List ℕ)) → IsSettled content (images old) → IfSome content (λ (bytes : List ℕ). LeavesOnly moment images_since old mid (step bytes))
    change_leaves None settled = search rules
    change_leaves (Some bytes) settled =
        goes_on old old mid (step bytes) (started old (step bytes) (λ c left. subst (step bytes) (sym (settled c (only_now c left))) (stays bytes))) time (step_of bytes settled)

    -- the call and a sync
    pub change_sync_leaves : (new : D) (content : Option (List ℕ)) → IsSettled content (images old) → Elapses (moment mid) (moment new) (images_since mid) (images_since new) (images new)
        → Within (images mid) (images new) → IfSome content (λ (bytes : List ℕ). LeavesOnly moment images_since old new (step bytes))
    change_sync_leaves new None settled time_sync within = search rules
    change_sync_leaves new (Some bytes) settled time_sync within =
        goes_on old mid new (step bytes) (change_leaves (Some bytes) settled) time_sync (λ c left. step_of bytes settled c (within c left))

-- a whole change of a content is one of those that may be done in part
changes_whole : (step : List ℕ → List ℕ → Type 0) (whole : List ℕ → List ℕ) (content after : Option (List ℕ)) → ForSome content (λ (c : List ℕ). step c (whole c)) → after ≡ option_map whole content → Changes step content after
changes_whole step whole None None holds is = tt
changes_whole step whole None (Some c) holds is = absurd (cc (is))
changes_whole step whole (Some c) None holds is = absurd (cc (is))
changes_whole step whole (Some c) (Some d) holds is = let same : whole c ≡ d = cc (is) in subst (step c) same (holds c refl)

pub changes_written : (at : ℕ) (bytes : List ℕ) (content after : Option (List ℕ)) → ForSome content (λ (c : List ℕ). at ≤ length c) → after ≡ option_map (λ (c : List ℕ). written c at bytes) content
    → Changes (Torn at (length bytes)) content after
changes_written at bytes content after inside is =
    changes_whole (Torn at (length bytes)) (λ c. written c at bytes) content after (λ c some. torn_range at (length bytes) bytes c refl (inside c some)) is

pub changes_cut : (to : ℕ) (content after : Option (List ℕ)) → after ≡ option_map (λ (c : List ℕ). take to c) content → Changes (PartlyCut to) content after
changes_cut to content after is = changes_whole (PartlyCut to) (λ c. take to c) content after (λ c some. cut_taken to c) is
