-- What the two files of a store stand for, and what a crash leaves of them.
use Rattle.std.proofs.Common.{◌≡◌, ◌⊎◌, inl, ℕ, ◌≤◌, Bool, true, false, not, ◌&&◌, ◌==◌, nat_lt, if◌then◌else◌, List, [], ◌∷◌, ◌++◌, length, Option, None, Some, Result, Ok, Err, refl, sym, ◌∙◌, ap, subst, arith, length-append}
use Rattle.std.specs.Int.{w64, to_be_bytes}
use Rattle.wh_io.specs.Crash.{Only, LeavesOnly}
use Rattle.wh_journal.specs.File.{Walk, walk, walk_on, walk_within, behind, span, body_at, judged, is_empty, is_open, framed}
use Rattle.wh_schema.specs.declared.spec.Spec.{Spec}
use Rattle.wh_schema.specs.Warehouse.{Row}
use Rattle.wh_store.specs.declared.warehouse.Which.TheVariants.{First, Second}
use Rattle.wh_store.specs.Image.{Image, Holding, equal_generations, holding, both, later_of, file_image, image_of_frames, some_image}
use Rattle.wh_store.specs.Store.{are_empty, loaded_file, loaded_body}
use Rattle.wh_command.specs.declared.stop.Stop.{Stop}
use Rattle.wh_command.specs.declared.stop.Stop.TheVariants.{AlreadyLoaded}
use Rattle.wh_command.specs.Disks.{BothRest, BothLeave, CrashReaches}
use Rattle.wh_command.specs.Load.{if_unloaded}
use Rattle.wh_command.specs.Outcome.{Outcome, IsReached}

-- ---- empty files

empty_file : (file : List ℕ) → is_empty file ≡ true → file_image file ≡ Ok None
empty_file file is = ap (λ (b : Bool). image_of_frames (if b then Ok [] else judged (walk file))) is

pub empty_holds : (a b : List ℕ) → are_empty a b ≡ true → holding a b ≡ Ok None
unfolding holding
empty_holds a b is = by (is_empty a) (is_empty b) refl refl is
  where
    by : (x y : Bool) → is_empty a ≡ x → is_empty b ≡ y → (x && y) ≡ true → both (file_image a) (file_image b) ≡ Ok None
    by true true x_is y_is is = λ i. both (empty_file a x_is i) (empty_file b y_is i)
    by true false x_is y_is is = absurd (cc (is))
    by false y x_is y_is is = absurd (cc (is))

-- something that is not nothing
abbrev IsSomething : Result (Option Image) ℕ → Type 0
IsSomething (Ok None) = ⊥
IsSomething other = Unit {0}

some_is_something : (r : Result Image ℕ) → IsSomething (some_image r)
some_is_something (Ok i) = tt
some_is_something (Err at) = tt

judged_something : (body : List ℕ) (rest : Walk) → IsSomething (image_of_frames (judged (behind body rest)))
judged_something body rest = by rest.closed
  where
    by : (closed : Bool) → IsSomething (image_of_frames (if closed then Ok (body ∷ rest.bodies) else Err (span (body ∷ rest.bodies))))
    by true = some_is_something _
    by false = tt

walked_something : (step : List ℕ → Walk) (found : Option (List ℕ × List ℕ)) → IsSomething (image_of_frames (judged (walk_on step found)))
walked_something step None = tt
walked_something step (Some found) = judged_something found.0 (step found.1)

open_walks : (mark : ℕ) (bytes : List ℕ) → is_open mark ≡ true → walk (mark ∷ bytes) ≡ walk_on (walk_within (length (mark ∷ bytes))) (body_at bytes)
unfolding walk_within
open_walks mark bytes opened = ap (λ (b : Bool). if b then walk_on (walk_within (length (mark ∷ bytes))) (body_at bytes) else record { bodies = []; closed = true }) opened

full_file : (file : List ℕ) → is_empty file ≡ false → IsSomething (file_image file)
full_file [] is = absurd (cc (is))
full_file (mark ∷ []) is = absurd (cc (is))
full_file (mark ∷ byte ∷ bytes) is =
    let opened : is_open mark ≡ true = by_mark (is_open mark) is in
    let walked = open_walks mark (byte ∷ bytes) opened in
    subst (λ (b : Bool). IsSomething (image_of_frames (if b then Ok [] else judged (walk (mark ∷ byte ∷ bytes))))) (sym is)
    (subst (λ (w : Walk). IsSomething (image_of_frames (judged w))) (sym walked) (walked_something (walk_within (length (mark ∷ byte ∷ bytes))) (body_at (byte ∷ bytes))))
  where
    by_mark : (b : Bool) → not b ≡ false → b ≡ true
    by_mark true none = refl
    by_mark false none = absurd (cc (none))

abbrev HoldsSomething : Holding → Type 0
HoldsSomething (Ok None) = ⊥
HoldsSomething other = Unit {0}

later_something : (a b : Image) → HoldsSomething (later_of a b)
later_something a b = by (a.generation == b.generation) (nat_lt b.generation a.generation)
  where
    by : (same less : Bool) → HoldsSomething (if same then Err equal_generations else if less then Ok (Some (record { which = First; image = a })) else Ok (Some (record { which = Second; image = b })))
    by true less = tt
    by false true = tt
    by false false = tt

first_something : (x y : Result (Option Image) ℕ) → IsSomething x → HoldsSomething (both x y)
first_something (Ok None) y some = absurd some
first_something (Ok (Some i)) (Ok None) some = tt
first_something (Ok (Some i)) (Ok (Some j)) some = later_something i j
first_something (Ok (Some i)) (Err at) some = tt
first_something (Err at) y some = tt

second_something : (x y : Result (Option Image) ℕ) → IsSomething y → HoldsSomething (both x y)
second_something x (Ok None) some = absurd some
second_something (Ok None) (Ok (Some j)) some = tt
second_something (Ok (Some i)) (Ok (Some j)) some = later_something i j
second_something (Err at) (Ok (Some j)) some = tt
second_something (Ok x) (Err at) some = tt
second_something (Err at) (Err at2) some = tt

pub full_holds : (a b : List ℕ) → are_empty a b ≡ false → HoldsSomething (holding a b)
unfolding holding
full_holds a b is = by (is_empty a) (is_empty b) refl refl is
  where
    by : (x y : Bool) → is_empty a ≡ x → is_empty b ≡ y → (x && y) ≡ false → HoldsSomething (both (file_image a) (file_image b))
    by true true x_is y_is is = absurd (cc (is))
    by true false x_is y_is is = second_something (file_image a) (file_image b) (full_file b y_is)
    by false y x_is y_is is = first_something (file_image a) (file_image b) (full_file a x_is)

-- a store is refused exactly where a file is not empty
pub unloaded_is : {T : Type 0} (next : Result T Stop) (a b : List ℕ) → are_empty a b ≡ true → if_unloaded (holding a b) next ≡ next
unloaded_is next a b is = ap (λ (h : Holding). if_unloaded h next) (empty_holds a b is)

refused_by : {T : Type 0} (next : Result T Stop) (h : Holding) → HoldsSomething h → if_unloaded h next ≡ Err AlreadyLoaded
refused_by next (Ok None) some = absurd some
refused_by next (Ok (Some active)) some = refl
refused_by next (Err damage) some = refl

pub loaded_is : {T : Type 0} (next : Result T Stop) (a b : List ℕ) → are_empty a b ≡ false → if_unloaded (holding a b) next ≡ Err AlreadyLoaded
loaded_is next a b is = refused_by next (holding a b) (full_holds a b is)

-- the file of a load is not empty
mark_and_more : (bytes : List ℕ) → 1 ≤ length bytes → is_empty (1 ∷ bytes) ≡ false
mark_and_more [] some = absurd (omega arith)
mark_and_more (byte ∷ bytes) some = refl

pub load_is_full : (spec : Spec) (tables : List (List Row)) → is_empty (loaded_file spec tables) ≡ false
load_is_full spec tables =
    let body = loaded_body spec tables in
    let header = to_be_bytes w64 (length body) in
    mark_and_more (framed body) (omega (arith, length-append header (body ++ 0 ∷ []), length-append body (0 ∷ [])))

-- ---- disks that stay as they are

module _ {D : Type 0} (content : D → Option (List ℕ)) (images : D → List ℕ → Type 0) (moment : D → ℕ) (images_since : D → ℕ → List ℕ → Type 0) where
  abbrev pub Stays : D → D → Type 0
  Stays old new = LeavesOnly moment images_since old new (images old)

  abbrev pub CountsNow : D → Type 0
  CountsNow new = (t : ℕ) (c : List ℕ) → t ≤ moment new → images new c → images_since new t c

  pub settled_on : (old new : D) (bytes : List ℕ) → Only bytes (images old) → Stays old new → CountsNow new → Only bytes (images new)
  settled_on old new bytes only stays counts c left = only c (stays.each c (counts (moment old) c stays.later left))

  module _ (first_old first_new second_old second_new : D) (start : Holding) (rest : BothRest content images first_old second_old start) (second_same : content second_new ≡ content second_old) (second_stays : Stays second_old second_new) (second_counts : CountsNow second_new) where
    -- the second one stays, and the first one rests on other bytes
    pub rest_on : (a : List ℕ) (w : Holding) → content first_new ≡ Some a → Only a (images first_new) → holding a rest.b ≡ w → BothRest content images first_new second_new w
    rest_on a w told only is = record {
      a = a;
      b = rest.b;
      told_first = told;
      told_second = second_same ∙ rest.told_second;
      settled_first = only;
      settled_second = settled_on second_old second_new rest.b rest.settled_second second_stays second_counts;
      is = is;
    }

    -- whatever is left of the first beside the second
    pub leave_on : (P : List ℕ → Type 0) (v w : Holding) → ((c : List ℕ) → P c → (holding c rest.b ≡ v) ⊎ (holding c rest.b ≡ w)) → LeavesOnly moment images_since first_old first_new P → CountsNow first_new → BothLeave images first_new second_new v w
    leave_on P v w means leaves counts = λ c d left_c left_d.
        let same : d ≡ rest.b = settled_on second_old second_new rest.b rest.settled_second second_stays second_counts d left_d in
        subst (λ (e : List ℕ). (holding c e ≡ v) ⊎ (holding c e ≡ w)) (sym same) (means c (leaves.each c (counts (moment first_old) c leaves.later left_c)))

    pub crash_on : (outcome : Outcome) → LeavesOnly moment images_since first_old first_new (λ (c : List ℕ). IsReached outcome (holding c rest.b)) → CrashReaches moment images_since outcome first_old first_new second_old second_new
    crash_on outcome leaves = λ c d left_c left_d.
        let same : d ≡ rest.b = rest.settled_second d (second_stays.each d left_d) in
        subst (λ (e : List ℕ). IsReached outcome (holding c e)) (sym same) (leaves.each c left_c)

    module _ (first_same : content first_new ≡ content first_old) (first_stays : Stays first_old first_new) (first_counts : CountsNow first_new) where
      -- both stay
      pub rest_still : BothRest content images first_new second_new start
      rest_still = rest_on rest.a start (first_same ∙ rest.told_first) (settled_on first_old first_new rest.a rest.settled_first first_stays first_counts) rest.is

      still_is : (c : List ℕ) → images first_old c → holding c rest.b ≡ start
      still_is c left = ap (λ (e : List ℕ). holding e rest.b) (rest.settled_first c left) ∙ rest.is

      pub leave_still : (w : Holding) → BothLeave images first_new second_new start w
      leave_still w = leave_on (images first_old) start w (λ c left. inl (still_is c left)) first_stays first_counts

      pub crash_still : (outcome : Outcome) → outcome.start ≡ start → CrashReaches moment images_since outcome first_old first_new second_old second_new
      crash_still outcome starts = λ c d left_c left_d. record {
        j = 0;
        within = omega arith;
        is =
            ap (holding c) (rest.settled_second d (second_stays.each d left_d)) ∙ still_is c (first_stays.each c left_c) ∙ sym starts;
      }
