-- The counter is created.
use Rattle.std.proofs.Common.{◌≡◌, ◌⊎◌, inl, inr, ⊎_elim, ℕ, ◌<◌, ◌≤◌, zero, suc, true, false, List, [], ◌∷◌, length, Option, Some, IfSome, Result, Ok, Err, codes, refl, sym, ◌∙◌, ap, subst, arith}
use Rattle.std.specs.Option.{option_map}
use Rattle.wh_io.specs.Causes.{IsCounted, IsCountedPair}
use Rattle.wh_io.specs.Crash.{IsImage, IsSettled, Only, LeavesOnly}
use Rattle.wh_io.specs.Disk.{Torn, written}
use Rattle.wh_io.specs.Files.{Held}
use Rattle.wh_io.specs.Sink.{GainsPrefix}
use Rattle.wh_io.proofs.Moments.{leaves_map}
use Rattle.wh_io.proofs.Gained.{gained_nothing}
use Rattle.wh_runs.specs.Outcome.{Contents, empty, Finish, done, refused, read_fault, no_memory, write_fault, disk_fault, is_read_fault, is_refused, is_write_fault, is_disk_fault}
use Rattle.wh_runs.specs.Disks.{Form, Disks, Tells, Leaves, Rests, Keeps, first_file, with_part}
use Rattle.wh_runs.specs.Opens.{IsUnwritten, AreUnwritten}
use Rattle.wh_runs.specs.Ends.{Seen, Ends, IsReached, Crashes}
use Rattle.wh_base.specs.declared.Failed.{Failed}
use Rattle.wh_runs.specs.Asked as asked
use Rattle.wh_runs.specs.Asked.{CountsBoth}
use Rattle.wh_runs.specs.Answers.{Answers, OnDone}
use Rattle.wh_runs.specs.Program.{finish_of, expected}
use Rattle.wh_runs.specs.Shown.{MayStop}
use Rattle.wh_runs.specs.declared.creating.NotMade.{NotMade}
use Rattle.wh_runs.specs.declared.creating.NotMade.TheVariants.{CreatedBefore, WriteFault, DiskFault}
use Rattle.wh_runs.proofs.Showing.{in_place, same_unwritten, unwritten_safe, unbegun_ends, reached_led}
use Rattle.wh_runs.specs.Counter.{count_in, active, counter, counter_sound, create, planned, Refusal, created_before}
use Rattle.wh_runs.specs.Created.{WritesByte, HasByte, WritesFirst, HasFirst, IsBegun, TellsLine, create_finish}

nil_of : (bytes : List ℕ) → length bytes ≡ 0 → bytes ≡ []
nil_of [] is = refl
nil_of (byte ∷ bytes) is = absurd (cc (is))

no_first : (c : Contents) → count_in c ≡ 0 → c.first ≡ []
no_first c none = nil_of c.first (omega (arith, none))

no_second : (c : Contents) → count_in c ≡ 0 → c.second ≡ []
no_second c none = nil_of c.second (omega (arith, none))

some_of : (o : Option (List ℕ)) (x : List ℕ) (P : List ℕ → Type 0) → o ≡ Some x → IfSome o P → P x
some_of o x P is holds = subst (λ (p : Option (List ℕ)). IfSome p P) is holds

settled_of : (o : Option (List ℕ)) (x : List ℕ) (images : List ℕ → Type 0) → o ≡ Some x → IsSettled o images → Only x images
settled_of o x images is settled = subst (λ (p : Option (List ℕ)). IsSettled p images) is settled

module _ {D : Type 0} (form : Form D) (before mid after : Disks D) (opened : AreUnwritten form before mid) (none : (c : Contents) → Tells form before c → count_in c ≡ 0)
    (rests : (c : Contents) → Tells form before c → Rests form mid c) (second : after.second ≡ mid.second) where
  is_settled : (c : Contents) → Tells form before c → IsSettled (form.content mid.first) (form.images mid.first)
  is_settled c told = let now = rests c told in subst (λ (o : Option (List ℕ)). IsSettled o (form.images mid.first)) (sym now.told.first) now.first

  pub writes_first : WritesByte form mid.first after.first → WritesFirst form before after
  writes_first writes = record {
    mid = mid;
    opened = opened;
    none = none;
    rests = rests;
    second = second;
    first = λ c told. some_of (form.content mid.first) c.first (λ bytes. LeavesOnly form.moment form.images_since mid.first after.first (Torn 0 1 bytes)) (rests c told).told.first (writes (is_settled c told));
  }

  pub has_first : HasByte form mid.first after.first → HasFirst form before after
  has_first has c told =
      let now = rests c told in
      let bytes = has.content ∙ ap (λ (o : Option (List ℕ)). option_map (λ (b : List ℕ). written b 0 (1 ∷ [])) o) (now.told.first ∙ ap (λ (b : List ℕ). Some b) (no_first c (none c told))) in
      let rest = now.told.second ∙ ap (λ (b : List ℕ). Some b) (no_second c (none c told)) in
      record {
        told = record { first = bytes; second = ap form.content second ∙ rest };
        first = settled_of (form.content after.first) (1 ∷ []) (form.images after.first) bytes has.settled;
        second = subst (λ (d : D). Only [] (form.images d)) (sym second) (subst (λ (b : List ℕ). Only b (form.images mid.second)) (no_second c (none c told)) now.second);
      }

refused_by : (held : Held) (n : ℕ) → 0 < n → finish_of (planned create held n) ≡ refused created_before
refused_by held zero more = absurd (omega (arith, more))
refused_by held (suc n) more = refl

is_empty : (c : Contents) → count_in c ≡ 0 → c ≡ empty
is_empty c none = let first = no_first c none in let second = no_second c none in λ i. record { first = first i; second = second i }

-- nothing is counted, or one
around_one : (n : ℕ) → n ≤ 1 → (n ≡ 0) ⊎ (n ≡ 1)
around_one zero most = inl refl
around_one (suc zero) most = inr refl
around_one (suc (suc n)) most = absurd (omega (arith, most))

reached_one : (held : Held) (c : Contents) → count_in c ≤ 1 → IsReached count_in (expected counter create held empty) c
reached_one held c most =
    ⊎_elim (λ none. record { j = 0; within = omega arith; is = none }) (λ one. record { j = 1; within = omega arith; is = one }) (around_one (count_in c) most)

module _ {F D : Type 0} (form : Form D) (is_left : (d : D) → IsImage (form.content d) (form.images d))
    (counts_now : (d : D) (t : ℕ) (c : List ℕ) → t ≤ form.moment d → form.images d c → form.images_since d t c) (only_now : (d : D) (c : List ℕ) → form.images_since d (form.moment d) c → form.images d c)
    (files : F) (held_now : Option Held) (faults : ℕ) (out out_after : Option (List ℕ)) (out_faults out_faults_after : ℕ) (before after : Disks D) where
  abbrev seen : Seen F D
  seen = record {
    before = record { files = files; held = held_now; files_faults = faults; out = out; out_faults = out_faults; disks = before };
    after = record { files = files; held = held_now; files_faults = faults; out = out_after; out_faults = out_faults_after; disks = after };
  }

  -- ---- where neither file was written

  unwritten_crash : AreUnwritten form before after → (held : Held) (start : Contents) → Tells form before start → Crashes count_in form (active start) (expected counter create held start) before after
  unwritten_crash unwritten held start told c pair = inr ((unwritten_safe form is_left start before after told unwritten).crash _ c pair)

  unwritten_ends : AreUnwritten form before after → out_after ≡ out → (held : Held) (start : Contents) → Tells form before start → (finish : Finish (Unit {0}) Refusal) → MayStop counter create held start finish
      → Ends count_in form (expected counter create held start) seen finish
  unwritten_ends unwritten same held start told finish may =
      unbegun_ends form counter create held start seen refl (record { printed = same; kept = (unwritten_safe form is_left start before after told unwritten).kept }) finish may

  -- ---- where the first one was

  module _ (writes : WritesFirst form before after) (held : Held) (told : Tells form before empty) where
    few : (bytes : List ℕ) → Torn 0 1 [] bytes → length bytes ≤ 1
    few bytes torn = omega (arith, torn.no_longer)

    first_crash : Crashes count_in form first_file (expected counter create held empty) before after
    first_crash c pair = in_place form is_left counts_now first_file empty before writes.mid after (IsReached count_in (expected counter create held empty)) told writes.opened (writes.rests empty told)
        (record {
          others = subst (λ (d : D). IsUnwritten form writes.mid.second d) (sym writes.second) (same_unwritten form only_now writes.mid writes.mid refl).second;
          this = leaves_map form.moment form.images_since writes.mid.first after.first (Torn 0 1 []) (λ bytes. IsReached count_in (expected counter create held empty) (with_part first_file bytes empty))
              (λ bytes torn. reached_one held (with_part first_file bytes empty) (omega (arith, few bytes torn))) (writes.first empty told);
        }) c pair

    left_one : (c : Contents) → Leaves form after c → count_in c ≤ 1
    left_one c left =
        let torn = (writes.first empty told).each c.first (counts_now after.first (form.moment writes.mid.first) c.first (writes.first empty told).later left.first) in
        let second : c.second ≡ [] = (writes.rests empty told).second c.second (subst (λ (d : D). form.images d c.second) writes.second left.second) in
        let none : length c.second ≡ 0 = ap (λ (b : List ℕ). length b) second in
        omega (arith, few c.first torn, none)

    first_commit : out_after ≡ out → Ends count_in form (expected counter create held empty) seen disk_fault
    first_commit same = record {
      k = 0;
      within = omega arith;
      printed = same ∙ sym (gained_nothing out);
      state = λ c left. ⊎_elim (λ none. inl none) (λ one. inr (inl one)) (around_one (count_in c) (left_one c left));
    }

  -- ---- the whole run

  crash_first : WritesFirst form before after → (held : Held) (start : Contents) → Tells form before start → Crashes count_in form (active start) (expected counter create held start) before after
  crash_first writes held start told =
      let is = is_empty start (writes.none start told) in
      subst (λ (s : Contents). Crashes count_in form (active s) (expected counter create held s) before after) (sym is) (first_crash writes held (subst (Tells form before) is told))

  crash_of : (result : Result (Unit {0}) NotMade) → IsBegun form before after result → (held : Held) (start : Contents) → Tells form before start
      → Crashes count_in form (active start) (expected counter create held start) before after
  crash_of (Ok made) begun held start told = crash_first begun.0 held start told
  crash_of (Err CreatedBefore) begun held start told = unwritten_crash begun.0 held start told
  crash_of (Err WriteFault) begun held start told = crash_first begun.0 held start told
  crash_of (Err DiskFault) begun held start told = ⊎_elim (λ unwritten. unwritten_crash unwritten held start told) (λ writes. crash_first writes held start told) begun

  ends_empty : WritesFirst form before after → (held : Held) (start : Contents) (finish : Finish (Unit {0}) Refusal) → Tells form before start → Ends count_in form (expected counter create held empty) seen finish
      → Ends count_in form (expected counter create held start) seen finish
  ends_empty writes held start finish told ends = subst (λ (s : Contents). Ends count_in form (expected counter create held s) seen finish) (sym (is_empty start (writes.none start told))) ends

  ends_of : (result : Result (Unit {0}) NotMade) → IsBegun form before after result → TellsLine out out_after result → (held : Held) (start : Contents) → Tells form before start
      → Ends count_in form (expected counter create held start) seen (create_finish result)
  ends_of (Ok made) begun line held start told = ends_empty begun.0 held start (done tt) told (record { is = refl; printed = line; state = begun.1 start told })
  ends_of (Err CreatedBefore) begun line held start told = unwritten_ends begun.0 line held start told (refused created_before) (refused_by held (count_in start) (begun.1 start told))
  ends_of (Err WriteFault) begun line held start told = ends_empty begun.0 held start write_fault told (record {
    k = 0;
    within = omega arith;
    printed = subst (λ (o : Option (List ℕ)). GainsPrefix o out_after (codes "created\n")) (sym (gained_nothing out)) line;
    state = begun.1 start told;
  })
  ends_of (Err DiskFault) begun line held start told =
      ⊎_elim (λ unwritten. unwritten_ends unwritten line held start told disk_fault tt)
      (λ writes. ends_empty writes held start disk_fault told (first_commit writes held (subst (Tells form before) (is_empty start (writes.none start told)) told) line)) begun

  keeps_of : (result : Result (Unit {0}) NotMade) → IsBegun form before after result → is_refused (create_finish result) ≡ true → (start : Contents) → Tells form before start → Keeps form before after start
  keeps_of (Ok made) begun turned start told = absurd (cc (turned))
  keeps_of (Err CreatedBefore) begun turned start told = (unwritten_safe form is_left start before after told begun.0).kept
  keeps_of (Err WriteFault) begun turned start told = absurd (cc (turned))
  keeps_of (Err DiskFault) begun turned start told = absurd (cc (turned))

  no_read : (result : Result (Unit {0}) NotMade) → IsCounted (is_read_fault (create_finish result)) faults faults
  no_read (Ok made) = refl
  no_read (Err CreatedBefore) = refl
  no_read (Err WriteFault) = refl
  no_read (Err DiskFault) = refl

  any_status : (finish : Finish (Unit {0}) Refusal) → OnDone (λ status. Unit {0}) finish
  any_status (done status) = tt
  any_status (refused reason) = tt
  any_status (read_fault name) = tt
  any_status no_memory = tt
  any_status write_fault = tt
  any_status disk_fault = tt

  pub created : (result : Result (Unit {0}) NotMade) → IsBegun form before after result → TellsLine out out_after result → IsCounted (is_write_fault (create_finish result)) out_faults out_faults_after
      → IsCountedPair (is_disk_fault (create_finish result)) (form.faults before.first) (form.faults after.first) (form.faults before.second) (form.faults after.second)
      → Answers form counter create seen (create_finish result)
  created result begun line write disk = record {
    status = any_status (create_finish result);
    read_cause = no_read result;
    write_cause = write;
    disk_cause = disk;
    held = refl;
    files = λ none. refl;
    apart = λ apart. absurd (cc (apart));
    reads = λ start told. tt;
    refusal = λ turned start told. inr (refl, keeps_of result begun turned start told);
    led = λ held start is told c pair. ⊎_elim (λ reached. inl (reached_led counter counter_sound create held start c tt reached)) (λ left. inr left) (crash_of result begun held start told c pair);
    ends = λ held start is told premise. ends_of result begun line held start told;
    crash = λ held start is told premise c pair. crash_of result begun held start told c pair;
  }

-- ---- how it goes on

pub begun : {D : Type 0} (form : Form D) (before after : Disks D) (result : Result (Unit {0}) NotMade) → is_refused (create_finish result) ≡ false → WritesFirst form before after
    → (is_disk_fault (create_finish result) ≡ false → HasFirst form before after) → IsBegun form before after result
begun form before after (Ok made) not_before writes has = (writes, has refl)
begun form before after (Err CreatedBefore) not_before writes has = absurd (cc (not_before))
begun form before after (Err WriteFault) not_before writes has = (writes, has refl)
begun form before after (Err DiskFault) not_before writes has = inr writes

-- the count that was found is none
pub none_found : {D : Type 0} (form : Form D) (before mid : Disks D) (result : Result ℕ Failed) (n : ℕ) → result ≡ Ok n → n ≡ 0 → CountsBoth form before mid result
    → (c : Contents) → Tells form before c → (count_in c ≡ 0) × Rests form mid c
none_found form before mid result n is none counts c told =
    let found = subst (λ (r : Result ℕ Failed). asked.IsCounted form mid c r) is (counts c told) in
    (sym found.0 ∙ none, found.1)
