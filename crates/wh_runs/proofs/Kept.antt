-- What is left of disks at rest, and of disks that were kept.
use Rattle.std.proofs.Common.{◌≡◌, ⊎_elim, ℕ, Bool, true, false, List, Option, sym, subst}
use Rattle.wh_io.specs.Crash.{IsImage}
use Rattle.wh_runs.specs.Outcome.{Contents}
use Rattle.wh_runs.specs.Disks.{Form, Disks, Tells, Leaves, Rests, NoMore, Keeps, Stands}
use Rattle.wh_runs.specs.Ends.{RestsOn, StandsOn}

same_pair : (c d : Contents) → c.first ≡ d.first → c.second ≡ d.second → c ≡ d
same_pair c d first second = λ i. record { first = first i; second = second i }

module _ {D : Type 0} (form : Form D) where
  pub left_at_rest : (disks : Disks D) (c d : Contents) → Rests form disks d → Leaves form disks c → c ≡ d
  left_at_rest disks c d rests left = same_pair c d (rests.first c.first left.first) (rests.second c.second left.second)

  pub no_more : (before after : Disks D) (c : Contents) → NoMore form before after → Leaves form after c → Leaves form before c
  no_more before after c more left = record { first = more.first c.first left.first; second = more.second c.second left.second }

  -- nothing is pending where nothing more may be left
  pub still : (before after : Disks D) (start : Contents) → Rests form before start → Keeps form before after start → Rests form after start
  still before after start rests keeps = record {
    told = keeps.told;
    first = λ c left. rests.first c (keeps.no_more.first c left);
    second = λ c left. rests.second c (keeps.no_more.second c left);
  }

  -- a command on the two files
  pub rests_on : (apart : Bool) (before after : Disks D) (c : Contents) → apart ≡ false → RestsOn apart form before after c → Rests form after c
  rests_on apart before after c is state = subst (λ (b : Bool). RestsOn b form before after c) is state

  pub stands_on : (apart : Bool) (before after : Disks D) (c : Contents) (k : ℕ) → apart ≡ false → StandsOn apart form before after c k → Stands form before after c k
  stands_on apart before after c k is state = subst (λ (b : Bool). StandsOn b form before after c k) is state

module _ {D : Type 0} (form : Form D) (is_left : (d : D) → IsImage (form.content d) (form.images d)) where
  pub told_left : (disks : Disks D) (c : Contents) → Tells form disks c → Leaves form disks c
  told_left disks c told = record {
    first = subst (λ (o : Option (List ℕ)). IsImage o (form.images disks.first)) told.first (is_left disks.first);
    second = subst (λ (o : Option (List ℕ)). IsImage o (form.images disks.second)) told.second (is_left disks.second);
  }

  module _ (before after : Disks D) (start : Contents) (told : Tells form before start) where
    same_keeps : after ≡ before → Keeps form before after start
    same_keeps is = subst (λ (d : Disks D). Keeps form before d start) (sym is) (record { told = told; no_more = record { first = λ c left. left; second = λ c left. left } })

    rests_keeps : (c : Contents) → c ≡ start → Rests form after c → Keeps form before after start
    rests_keeps c is rests =
        let now = subst (Rests form after) is rests in
        let at_entry = told_left before start told in
        record {
          told = now.told;
          no_more = record {
            first = λ x left. subst (form.images before.first) (sym (now.first x left)) at_entry.first;
            second = λ x left. subst (form.images before.second) (sym (now.second x left)) at_entry.second;
          };
        }

    pub rests_on_keeps : (apart : Bool) (c : Contents) → c ≡ start → RestsOn apart form before after c → Keeps form before after start
    rests_on_keeps true c is state = same_keeps state
    rests_on_keeps false c is state = rests_keeps c is state

    pub stands_on_keeps : (apart : Bool) (c : Contents) (k : ℕ) → c ≡ start → StandsOn apart form before after c k → Keeps form before after start
    stands_on_keeps true c k is state = same_keeps state
    stands_on_keeps false c k is state = ⊎_elim (λ rests. rests_keeps c is rests) (λ kept. subst (Keeps form before after) is kept.1) state
