-- One change file: what is stored, what a crash leaves, and the bytes of the active file.
use Rattle.std.proofs.Common.{◌≡◌, ◌⊎◌, ℕ, ◌-◌, ◌^◌, ◌==◌, ◌≤◌, Bool, true, false, if◌then◌else◌, List, ◌++◌, Option, None, Some, Ok, Err, refl, sym, ◌∙◌, ap, subst, append_assoc}
use Rattle.std.specs.Option.{option_map}
use Rattle.wh_base.specs.declared.value.Delta.{Delta}
use Rattle.wh_io.specs.Crash.{IsSettled, LeavesOnly, Only}
use Rattle.wh_io.proofs.Moments.{leaves_map, started}
use Rattle.wh_refresh.specs.declared.fault.RefreshFault.{RefreshFault}
use Rattle.wh_refresh.specs.declared.fault.RefreshFault.TheVariants as fault
use Rattle.wh_refresh.specs.Refresh.{checked, next_body, refreshed, sized, stored_changes}
use Rattle.wh_schema.specs.declared.broken.Broken as breach
use Rattle.wh_schema.specs.Changes.{Line}
use Rattle.wh_schema.specs.Constraints.{broken}
use Rattle.wh_schema.specs.Warehouse.{stored}
use Rattle.wh_check.specs.Check.{sources_after}
use Rattle.wh_store.specs.declared.warehouse.Place.{Place}
use Rattle.wh_store.specs.declared.warehouse.Warehouse.{Warehouse}
use Rattle.wh_store.specs.declared.warehouse.Which.{Which}
use Rattle.wh_store.specs.declared.warehouse.Which.TheVariants.{First, Second}
use Rattle.wh_store.specs.Commit.{IsHeldBeforeOrAfter, Matches, active_of, active_with, held_with, is_past_limit, other_of}
use Rattle.wh_store.specs.Image.{Active, Holding, Image, first_over, holding}
use Rattle.wh_command.specs.Disks.{BothLeave, beside}
use Rattle.wh_command.specs.Refresh.{accepted_lines, refusal, unless_refused}
use Rattle.wh_command.specs.RefreshSteps.{IsEitherState, Moves, StandsAt}

-- ---- what is accepted

numbered_is : (full past : Bool) (changes deltas : List Delta) → (if full then Err fault.SequenceLimit else if past then Err fault.FileLimit else Ok changes) ≡ Ok deltas → changes ≡ deltas
numbered_is true past changes deltas is = absurd (cc (is))
numbered_is false true changes deltas is = absurd (cc (is))
numbered_is false false changes deltas is = cc (is)

sized_is : (i : Image) (lines : List Line) (over : Option ℕ) (deltas : List Delta) → sized i lines over ≡ Ok deltas → stored_changes i lines ≡ deltas
sized_is i lines None deltas is = numbered_is (i.seq == 2 ^ 64 - 1) (is_past_limit i.end (next_body i lines)) (stored_changes i lines) deltas is
sized_is i lines (Some k) deltas is = absurd (cc (is))

checked_is : (i : Image) (lines : List Line) (found : Option breach.Broken) (deltas : List Delta) → checked i lines found ≡ Ok deltas → stored_changes i lines ≡ deltas
checked_is i lines None deltas is = sized_is i lines (first_over (stored i.spec (sources_after i lines))) deltas is
checked_is i lines (Some b) deltas is = absurd (cc (is))

-- what is accepted are the changes of the stored tables
pub accepted_is : (i : Image) (lines : List Line) (deltas : List Delta) → refreshed i lines ≡ Ok deltas → stored_changes i lines ≡ deltas
accepted_is i lines deltas is = checked_is i lines (broken i.spec (sources_after i lines)) deltas is

pub lines_accepted : (i : Image) (lines : List Line) (deltas : List Delta) → refreshed i lines ≡ Ok deltas → accepted_lines i (Ok lines) ≡ Ok lines
lines_accepted i lines deltas is = ap (unless_refused i.spec lines) is

pub lines_refused : (i : Image) (lines : List Line) (f : RefreshFault) → refreshed i lines ≡ Err f → accepted_lines i (Ok lines) ≡ Err (refusal i.spec f)
lines_refused i lines f is = ap (unless_refused i.spec lines) is

-- ---- the line of what was accepted

pub regroup : (name colon r n ls D p I ss d e end : List ℕ)
    → ((((name ++ colon) ++ (r ++ n)) ++ (((ls ++ D) ++ p) ++ I)) ++ (((ss ++ d) ++ p) ++ e)) ++ end ≡ (name ++ colon ++ (((((((((r ++ n) ++ ls) ++ D) ++ p) ++ I) ++ ss) ++ d) ++ p) ++ e)) ++ end
regroup name colon r n ls D p I ss d e end = simp append_assoc

-- ---- one disk of two

held_beside : (which : Which) (c a b : List ℕ) → held_with which c a b ≡ beside which c (other_of which a b)
held_beside First c a b = refl
held_beside Second c a b = refl

module _ {D : Type 0} (content : D → Option (List ℕ)) (images : D → List ℕ → Type 0) (moment : D → ℕ) (images_since : D → ℕ → List ℕ → Type 0) where
  abbrev pub CountsNow : Type 0
  CountsNow = (new : D) (t : ℕ) (c : List ℕ) → t ≤ moment new → images new c → images_since new t c

  abbrev pub OnlyNow : Type 0
  OnlyNow = (new : D) (c : List ℕ) → images_since new (moment new) c → images new c

  module _ (first second : D) (active : Active) (w : Warehouse) (p : Place) (stands : StandsAt content images first second active w p) where
    pub told_active : (which : Which) → content (active_of which first second) ≡ Some (active_of which stands.a stands.b)
    told_active First = stands.told_first
    told_active Second = stands.told_second

    pub told_other : (which : Which) → content (other_of which first second) ≡ Some (other_of which stands.a stands.b)
    told_other First = stands.told_second
    told_other Second = stands.told_first

    pub settled_active : (which : Which) → Only (active_of which stands.a stands.b) (images (active_of which first second))
    settled_active First = stands.settled_first
    settled_active Second = stands.settled_second

    pub settled_other : (which : Which) → Only (other_of which stands.a stands.b) (images (other_of which first second))
    settled_other First = stands.settled_second
    settled_other Second = stands.settled_first

    -- the active file as it is
    pub beside_is : (which : Which) → beside which (active_of which stands.a stands.b) (other_of which stands.a stands.b) ≡ holding stands.a stands.b
    beside_is First = refl
    beside_is Second = refl

    pub place_is : p.which ≡ active.which
    place_is = stands.matches.place.which

    -- the other file's bytes are those that are told
    pub other_bytes : (which : Which) (other : List ℕ) → content (other_of which first second) ≡ Some other → other_of which stands.a stands.b ≡ other
    other_bytes which other told = let here = told_other which in cc (here, told)

    -- nothing moved
    pub kept_moves : (P : Holding → Type 0) → OnlyNow → P (Ok (Some active)) → Moves content moment images_since active.which P first first second second
    kept_moves P only_now here = record {
      other_same = refl;
      crash = λ other told.
          let same : other_of active.which stands.a stands.b ≡ other = other_bytes active.which other told in
          started images moment images_since (active_of active.which first second) (λ (c : List ℕ). P (beside active.which c other))
          (λ c left.
          let bytes : c ≡ active_of active.which stands.a stands.b = settled_active active.which c (only_now (active_of active.which first second) c left) in
          let state : beside active.which c other ≡ Ok (Some active) = (λ i. beside active.which (bytes i) (sym same i)) ∙ beside_is active.which ∙ stands.matches.holds in
          subst P (sym state) here);
    }

    -- the active file moved
    module _ (first_new second_new : D) where
      both_leave : (which : Which) (P : List ℕ → Type 0) (v x : Holding) → other_of which first_new second_new ≡ other_of which first second → CountsNow
          → LeavesOnly moment images_since (active_of which first second) (active_of which first_new second_new) P
          → ((c : List ℕ) → P c → (beside which c (other_of which stands.a stands.b) ≡ v) ⊎ (beside which c (other_of which stands.a stands.b) ≡ x)) → BothLeave images first_new second_new v x
      both_leave First P v x same counts leaves means = λ c d left_c left_d.
          let bytes : d ≡ stands.b = stands.settled_second d (subst (λ (e : D). images e d) same left_d) in
          subst (λ (e : List ℕ). (holding c e ≡ v) ⊎ (holding c e ≡ x)) (sym bytes) (means c (leaves.each c (counts first_new (moment first) c leaves.later left_c)))
      both_leave Second P v x same counts leaves means = λ c d left_c left_d.
          let bytes : c ≡ stands.a = stands.settled_first c (subst (λ (e : D). images e c) same left_c) in
          subst (λ (e : List ℕ). (holding e d ≡ v) ⊎ (holding e d ≡ x)) (sym bytes) (means d (leaves.each d (counts second_new (moment second) d leaves.later left_d)))

      stands_after : (which : Which) (f : List ℕ → List ℕ) (next : Active) (w_new : Warehouse) (p_new : Place) → other_of which first_new second_new ≡ other_of which first second
          → content (active_of which first_new second_new) ≡ option_map f (content (active_of which first second)) → IsSettled (content (active_of which first_new second_new)) (images (active_of which first_new second_new))
          → ((c d : List ℕ) → content first_new ≡ Some c → content second_new ≡ Some d → Matches next c d w_new p_new) → StandsAt content images first_new second_new next w_new p_new
      stands_after First f next w_new p_new same file durable matches =
          let told : content first_new ≡ Some (f stands.a) = file ∙ ap (option_map f) stands.told_first in
          let other : content second_new ≡ Some stands.b = ap content same ∙ stands.told_second in
          record {
            a = f stands.a;
            b = stands.b;
            told_first = told;
            told_second = other;
            settled_first = subst (λ (o : Option (List ℕ)). IsSettled o (images first_new)) told durable;
            settled_second = subst (λ (e : D). Only stands.b (images e)) (sym same) stands.settled_second;
            matches = matches (f stands.a) stands.b told other;
          }
      stands_after Second f next w_new p_new same file durable matches =
          let told : content second_new ≡ Some (f stands.b) = file ∙ ap (option_map f) stands.told_second in
          let other : content first_new ≡ Some stands.a = ap content same ∙ stands.told_first in
          record {
            a = stands.a;
            b = f stands.b;
            told_first = other;
            told_second = told;
            settled_first = subst (λ (e : D). Only stands.a (images e)) (sym same) stands.settled_first;
            settled_second = subst (λ (o : Option (List ℕ)). IsSettled o (images second_new)) told durable;
            matches = matches stands.a (f stands.b) other told;
          }

      -- a change of the active file that may have been made
      module _ (deltas : List Delta) (same : other_of p.which first_new second_new ≡ other_of p.which first second)
          (any_moment : LeavesOnly moment images_since (active_of p.which first second) (active_of p.which first_new second_new) (IsHeldBeforeOrAfter active deltas stands.a stands.b)) where
        abbrev after : Active
        after = active_with active deltas

        abbrev Left : List ℕ → Type 0
        Left = IsHeldBeforeOrAfter active deltas stands.a stands.b

        same_other : other_of active.which first_new second_new ≡ other_of active.which first second
        same_other = subst (λ (x : Which). other_of x first_new second_new ≡ other_of x first second) place_is same

        left_active : LeavesOnly moment images_since (active_of active.which first second) (active_of active.which first_new second_new) Left
        left_active = subst (λ (x : Which). LeavesOnly moment images_since (active_of x first second) (active_of x first_new second_new) Left) place_is any_moment

        means_either : (c : List ℕ) → Left c → IsEitherState active after (beside active.which c (other_of active.which stands.a stands.b))
        means_either c left = subst (IsEitherState active after) (held_beside active.which c stands.a stands.b) left

        pub moved : Moves content moment images_since active.which (IsEitherState active after) first first_new second second_new
        moved = record {
          other_same = same_other;
          crash = λ other told.
              let bytes : other_of active.which stands.a stands.b ≡ other = other_bytes active.which other told in
              leaves_map moment images_since (active_of active.which first second) (active_of active.which first_new second_new) Left (λ (c : List ℕ). IsEitherState active after (beside active.which c other))
              (λ c left. subst (λ (o : List ℕ). IsEitherState active after (beside active.which c o)) bytes (means_either c left)) left_active;
        }

        pub left_either : CountsNow → BothLeave images first_new second_new (Ok (Some active)) (Ok (Some after))
        left_either counts = both_leave active.which Left (Ok (Some active)) (Ok (Some after)) same_other counts left_active means_either

        pub stands_on : (f : List ℕ → List ℕ) (w_new : Warehouse) (p_new : Place)
            → content (active_of p.which first_new second_new) ≡ option_map f (content (active_of p.which first second)) → IsSettled (content (active_of p.which first_new second_new)) (images (active_of p.which first_new second_new))
            → ((c d : List ℕ) → content first_new ≡ Some c → content second_new ≡ Some d → Matches after c d w_new p_new) → StandsAt content images first_new second_new after w_new p_new
        stands_on f w_new p_new file durable matches = stands_after p.which f after w_new p_new same file durable matches
