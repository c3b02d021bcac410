-- A run over change files, one after another: in its midst, cut off, and at its end.
use Rattle.std.proofs.Common.{◌≡◌, inl, inr, ℕ, zero, suc, ◌+◌, ◌≤◌, ◌<◌, List, [], ◌∷◌, ◌++◌, length, map, get_or, take, drop, Option, None, Some, Result, Ok, Err, refl, sym, ◌∙◌, ap, subst, arith, append_assoc, append-nil, length-append, add-one, drop-cons}
use Rattle.std.proofs.lemmas.Grind.{flat_map-append}
use Rattle.std.proofs.lemmas.List.{drop_all}
use Rattle.std.specs.Option.{option_map}
use Rattle.wh_io.specs.Files.{Held}
use Rattle.wh_io.specs.Sink.{gained, GainsPrefix}
use Rattle.wh_io.proofs.Gained.{gained_nothing, gained_twice}
use Rattle.wh_io.proofs.Moments.{leaves_map, leaves_then}
use Rattle.wh_schema.specs.Changes.{Line}
use Rattle.wh_store.specs.declared.warehouse.Place.{Place}
use Rattle.wh_store.specs.declared.warehouse.Warehouse.{Warehouse}
use Rattle.wh_store.specs.declared.warehouse.Which.{Which}
use Rattle.wh_store.specs.Commit.{active_of}
use Rattle.wh_store.specs.Image.{Active, Holding}
use Rattle.wh_command.specs.declared.status.Status.{Status}
use Rattle.wh_command.specs.declared.status.Status.TheVariants as status
use Rattle.wh_command.specs.declared.stop.Stop.{Stop}
use Rattle.wh_command.specs.declared.stop.Stop.TheVariants.{ReadFault, WriteFault, DiskFault, NoMemory}
use Rattle.wh_command.specs.Disks.{BothLeave, BothRest, beside}
use Rattle.wh_command.specs.Outcome.{IsReached, Piece, last_state, state_after, text_at, texts}
use Rattle.wh_command.specs.Refresh.{IsRefreshStatus, Rejection, Taken, accepted, file_after, file_by, first_status, piece_of, refresh_outcome, refresh_pieces, refresh_status, taken, taken_by}
use Rattle.wh_command.specs.RefreshSteps.{IsEitherState, Midway, Moves, StandsAt, TakesAll, TakesFile}
use Rattle.wh_command.proofs.RefreshOne.{OnlyNow, kept_moves}

-- ---- pieces

last_at : (start : Holding) (done rest : List Piece) → state_after start (done ++ rest) (length done) ≡ last_state start done
last_at start [] [] = refl
last_at start [] (piece ∷ rest) = refl
last_at start (piece ∷ done) rest = last_at piece.state done rest

next_at : (start : Holding) (done : List Piece) (piece : Piece) (rest : List Piece) → state_after start (done ++ piece ∷ rest) (suc (length done)) ≡ piece.state
next_at start [] piece [] = refl
next_at start [] piece (next ∷ rest) = refl
next_at start (first ∷ done) piece rest = next_at first.state done piece rest

last_push : (start : Holding) (done : List Piece) (piece : Piece) → last_state start (done ++ piece ∷ []) ≡ piece.state
last_push start [] piece = refl
last_push start (first ∷ done) piece = last_push first.state done piece

text_here : (done : List Piece) (piece : Piece) (rest : List Piece) → text_at (done ++ piece ∷ rest) (length done) ≡ piece.text
text_here [] piece rest = refl
text_here (first ∷ done) piece rest = text_here done piece rest

take_done : (done rest : List Piece) → take (length done) (done ++ rest) ≡ done
take_done [] [] = refl
take_done [] (piece ∷ rest) = refl
take_done (first ∷ done) rest = ap (λ (l : List Piece). first ∷ l) (take_done done rest)

push_length : (done : List Piece) (piece : Piece) → length (done ++ piece ∷ []) ≡ suc (length done)
push_length done piece = omega (arith, length-append done (piece ∷ []))

drop_next : (xs : List (List ℕ)) (k : ℕ) (y : List ℕ) (ys : List (List ℕ)) → drop k xs ≡ y ∷ ys → drop (suc k) xs ≡ ys
drop_next [] zero y ys is = absurd (cc (is))
drop_next [] (suc k) y ys is = absurd (cc (is))
drop_next (x ∷ xs) zero y ys is = cc (is)
drop_next (x ∷ xs) (suc k) y ys is = drop_next xs k y ys is

get_next : (xs : List (List ℕ)) (k : ℕ) (y : List ℕ) (ys : List (List ℕ)) → drop k xs ≡ y ∷ ys → get_or xs k [] ≡ y
get_next [] zero y ys is = absurd (cc (is))
get_next [] (suc k) y ys is = absurd (cc (is))
get_next (x ∷ xs) zero y ys is = cc (is)
get_next (x ∷ xs) (suc k) y ys is = get_next xs k y ys is

drop_below : (xs : List (List ℕ)) (k : ℕ) (y : List ℕ) (ys : List (List ℕ)) → drop k xs ≡ y ∷ ys → k < length xs
drop_below [] zero y ys is = absurd (cc (is))
drop_below [] (suc k) y ys is = absurd (cc (is))
drop_below (x ∷ xs) zero y ys is = omega arith
drop_below (x ∷ xs) (suc k) y ys is = let rest = drop_below xs k y ys is in omega (arith, rest)

-- ---- statuses

pub first_of_three : (a b c : Status) → first_status a (first_status b c) ≡ first_status (first_status a b) c
first_of_three status.Ok b c = refl
first_of_three other b c = refl

first_ok : (a : Status) → first_status a status.Ok ≡ a
first_ok status.Ok = refl
first_ok other = refl

-- ---- bytes

map_twice : (f g : List ℕ → List ℕ) (o : Option (List ℕ)) → option_map f (option_map g o) ≡ option_map (λ (b : List ℕ). f (g b)) o
map_twice f g None = refl
map_twice f g (Some b) = refl

map_nothing : (o : Option (List ℕ)) → option_map (λ (b : List ℕ). b) o ≡ o
map_nothing None = refl
map_nothing (Some b) = refl

which_after : (active : Active) (judged : Result (List Line) Rejection) → (taken_by active judged).active.which ≡ active.which
which_after active (Ok lines) = refl
which_after active (Err rejection) = refl

module _ {D : Type 0} (content : D → Option (List ℕ)) (images : D → List ℕ → Type 0) (moment : D → ℕ) (images_since : D → ℕ → List ℕ → Type 0) where
  rests_as : (first second : D) (active : Active) (w : Warehouse) (p : Place) (state : Holding) → StandsAt content images first second active w p → state ≡ Ok (Some active) → BothRest content images first second state
  rests_as first second active w p state stands is = record {
    a = stands.a;
    b = stands.b;
    told_first = stands.told_first;
    told_second = stands.told_second;
    settled_first = stands.settled_first;
    settled_second = stands.settled_second;
    is = stands.matches.holds ∙ sym is;
  }

  -- one run after another
  moves_then : (which : Which) (P : Holding → Type 0) (first_old first_mid first_new second_old second_mid second_new : D) → Moves content moment images_since which P first_old first_mid second_old second_mid
      → Moves content moment images_since which P first_mid first_new second_mid second_new → Moves content moment images_since which P first_old first_new second_old second_new
  moves_then which P first_old first_mid first_new second_old second_mid second_new one two = record {
    other_same = two.other_same ∙ one.other_same;
    crash = λ other told.
        leaves_then moment images_since (active_of which first_old second_old) (active_of which first_mid second_mid) (active_of which first_new second_new) (λ (c : List ℕ). P (beside which c other)) (one.crash other told)
        (two.crash other (ap content one.other_same ∙ told));
  }

  moves_map : (which : Which) (P Q : Holding → Type 0) (first_old first_new second_old second_new : D) → ((state : Holding) → P state → Q state) → Moves content moment images_since which P first_old first_new second_old second_new
      → Moves content moment images_since which Q first_old first_new second_old second_new
  moves_map which P Q first_old first_new second_old second_new step moves = record {
    other_same = moves.other_same;
    crash = λ other told.
        leaves_map moment images_since (active_of which first_old second_old) (active_of which first_new second_new) (λ (c : List ℕ). P (beside which c other)) (λ (c : List ℕ). Q (beside which c other))
        (λ c here. step (beside which c other) here) (moves.crash other told);
  }

  module _ (held : Held) (names : List (List ℕ)) (active : Active) (first_old second_old : D) (before : Option (List ℕ)) where
    abbrev start : Holding
    start = Ok (Some active)

    abbrev pieces : List Piece
    pieces = refresh_pieces held active names

    abbrev Reached : Holding → Type 0
    Reached = IsReached (refresh_outcome held names (Ok (Some active)))

    -- before the first file
    pub midway_begin : (w : Warehouse) (p : Place) → OnlyNow content images moment images_since → StandsAt content images first_old second_old active w p
        → Midway content images moment images_since held names names status.Ok active first_old first_old second_old second_old before before w p
    midway_begin w p only_now stands = record {
      now = active;
      done = [];
      left_is = refl;
      pieces_are = refl;
      status_is = refl;
      state_is = refl;
      printed = sym (gained_nothing before);
      stands = stands;
      which_is = refl;
      moves = kept_moves content images moment images_since first_old second_old active w p stands Reached only_now (record { j = 0; within = omega arith; is = refl });
      bytes = refl;
    }

    module _ (first_mid second_mid : D) (middle : Option (List ℕ)) (w : Warehouse) (p : Place) (so_far : Status) where
      -- behind the last one
      pub midway_over : Midway content images moment images_since held names [] so_far active first_old first_mid second_old second_mid before middle w p
          → TakesAll content images moment images_since held names active first_old first_mid second_old second_mid before middle (Ok so_far)
      midway_over m = record {
        ends = record {
          finish_is = ap (λ (s : Status). Ok s) (m.status_is ∙ first_ok so_far);
          printed = m.printed ∙ ap (λ (l : List Piece). gained before (texts l)) (sym all);
          state = rests_as first_mid second_mid m.now w p (last_state start pieces) m.stands (ap (λ (l : List Piece). last_state start l) all ∙ m.state_is);
        };
        moves = m.moves;
        under_way = tt;
        bytes = sym (m.bytes ∙ map_nothing (content (active_of active.which first_mid second_mid)));
      }
        where
          all : pieces ≡ m.done
          all = m.pieces_are ∙ append-nil m.done

      module _ (name : List ℕ) (rest : List (List ℕ)) (m : Midway content images moment images_since held names (name ∷ rest) so_far active first_old first_mid second_old second_mid before middle w p) (first_new second_new : D) (after : Option (List ℕ)) (w_new : Warehouse)
          (p_new : Place) where
        abbrev judged : Result (List Line) Rejection
        judged = accepted held m.now name

        abbrev t : Taken
        t = taken held m.now name

        abbrev piece : Piece
        piece = piece_of name t

        abbrev following : List Piece
        following = refresh_pieces held t.active rest

        pieces_here : pieces ≡ m.done ++ piece ∷ following
        pieces_here = m.pieces_are

        at_done : state_after start pieces (length m.done) ≡ Ok (Some m.now)
        at_done = ap (λ (l : List Piece). state_after start l (length m.done)) pieces_here ∙ last_at start m.done (piece ∷ following) ∙ m.state_is

        at_next : state_after start pieces (suc (length m.done)) ≡ Ok (Some t.active)
        at_next = ap (λ (l : List Piece). state_after start l (suc (length m.done))) pieces_here ∙ next_at start m.done piece following

        taken_here : take (length m.done) pieces ≡ m.done
        taken_here = ap (λ (l : List Piece). take (length m.done) l) pieces_here ∙ take_done m.done (piece ∷ following)

        printed_here : middle ≡ gained before (texts (take (length m.done) pieces))
        printed_here = m.printed ∙ ap (λ (l : List Piece). gained before (texts l)) (sym taken_here)

        done_below : length m.done < length pieces
        done_below = let size = ap (λ (l : List Piece). length l) pieces_here in omega (arith, size, length-append m.done (piece ∷ following))

        either_reached : (state : Holding) → IsEitherState m.now t.active state → Reached state
        either_reached state (inl is) = let below = done_below in record { j = length m.done; within = omega (arith, below); is = is ∙ sym at_done }
        either_reached state (inr is) = let below = done_below in record { j = suc (length m.done); within = omega (arith, below); is = is ∙ sym at_next }

        moves_here : Moves content moment images_since m.now.which (IsEitherState m.now t.active) first_mid first_new second_mid second_new → Moves content moment images_since active.which Reached first_old first_new second_old second_new
        moves_here moves =
            moves_then active.which Reached first_old first_mid first_new second_old second_mid second_new m.moves
            (moves_map active.which (IsEitherState m.now t.active) Reached first_mid first_new second_mid second_new either_reached
            (subst (λ (x : Which). Moves content moment images_since x (IsEitherState m.now t.active) first_mid first_new second_mid second_new) m.which_is moves))

        abbrev TookFile : Result Status Stop → Type 0
        TookFile finish = TakesFile content images moment images_since name m.now judged first_mid first_new second_mid second_new w_new p_new middle after finish

        -- the file was taken
        pub midway_on : (found : Status) → TookFile (Ok found) → Midway content images moment images_since held names rest (first_status so_far found) active first_old first_new second_old second_new before after w_new p_new
        midway_on found took = record {
          now = t.active;
          done = m.done ++ piece ∷ [];
          left_is = ap (λ (k : ℕ). drop k names) (push_length m.done piece) ∙ drop_next names (length m.done) name rest m.left_is;
          pieces_are = pieces_here ∙ sym (append_assoc m.done (piece ∷ []) following);
          status_is =
              m.status_is ∙ first_of_three so_far t.status (refresh_status held t.active rest) ∙ ap (λ (s : Status). first_status (first_status so_far s) (refresh_status held t.active rest)) (sym took.ends.0);
          state_is = last_push start m.done piece;
          printed = took.ends.1 ∙ ap (λ (o : Option (List ℕ)). gained o piece.text) m.printed ∙ gained_twice before (texts m.done) piece.text ∙ ap (gained before) (texts_push);
          stands = took.ends.2;
          which_is = which_after m.now judged ∙ m.which_is;
          moves = moves_here took.moves;
          bytes =
              m.bytes ∙ ap (λ (x : Which). option_map (file_after held m.now (name ∷ rest)) (content (active_of x first_mid second_mid))) (sym m.which_is)
              ∙ sym (map_twice (file_after held t.active rest) (λ (b : List ℕ). file_by m.now b judged) (content (active_of m.now.which first_mid second_mid)))
              ∙ ap (λ (o : Option (List ℕ)). option_map (file_after held t.active rest) o) (sym took.bytes)
              ∙ ap (λ (x : Which). option_map (file_after held t.active rest) (content (active_of x first_new second_new))) m.which_is;
        }
          where
            texts_push : texts m.done ++ piece.text ≡ texts (m.done ++ piece ∷ [])
            texts_push = ap (λ (l : List ℕ). texts m.done ++ l) (sym (append-nil piece.text)) ∙ sym (flat_map-append (λ (q : Piece). q.text) m.done (piece ∷ []))

        -- the file was cut off
        abbrev Off : Stop → Type 0
        Off stop = TakesAll content images moment images_since held names active first_old first_new second_old second_new before after (Err stop)

        printed_still : after ≡ middle → after ≡ gained before (texts (take (length m.done) pieces))
        printed_still same = same ∙ printed_here

        pub midway_off : (stop : Stop) → TookFile (Err stop) → Off stop
        midway_off (ReadFault file) took = record {
          ends = record { k = length m.done; within = let below = done_below in omega (arith, below); printed = printed_still took.ends.1; state = rests_as first_new second_new m.now w_new p_new _ took.ends.2 at_done };
          moves = moves_here took.moves;
          under_way = record { k = length m.done; within = drop_below names (length m.done) name rest m.left_is; is = get_next names (length m.done) name rest m.left_is ∙ sym took.ends.0; printed = printed_still took.ends.1 };
          bytes = tt;
        }
        midway_off NoMemory took = record {
          ends = record { k = length m.done; within = let below = done_below in omega (arith, below); printed = printed_still took.ends.0; state = rests_as first_new second_new m.now w_new p_new _ took.ends.1 at_done };
          moves = moves_here took.moves;
          under_way = tt;
          bytes = tt;
        }
        midway_off WriteFault took = record {
          ends = record {
            k = length m.done;
            within = done_below;
            printed =
                subst (λ (o : Option (List ℕ)). GainsPrefix o after (text_at pieces (length m.done))) printed_here
                (subst (λ (l : List ℕ). GainsPrefix middle after l) (sym (ap (λ (l : List Piece). text_at l (length m.done)) pieces_here ∙ text_here m.done piece following)) took.ends.0);
            state = rests_as first_new second_new t.active w_new p_new _ took.ends.1 at_next;
          };
          moves = moves_here took.moves;
          under_way = tt;
          bytes = tt;
        }
        midway_off DiskFault took = record {
          ends = record {
            k = length m.done;
            within = let below = done_below in omega (arith, below);
            printed = printed_still took.ends.0;
            state =
                subst (λ (v : Holding). BothLeave images first_new second_new v (state_after start pieces (suc (length m.done)))) (sym at_done)
                (subst (λ (x : Holding). BothLeave images first_new second_new (Ok (Some m.now)) x) (sym at_next) took.ends.1);
          };
          moves = moves_here took.moves;
          under_way = tt;
          bytes = tt;
        }
        midway_off other took = absurd took.ends

  -- ---- the names that are left

  module _ {S : Type 0} (bytes_of : S → List ℕ) (names : List S) (files_old files_mid : Option Held) (same : files_mid ≡ files_old) (first_old second_old : D) (before : Option (List ℕ)) (w_old : Warehouse) (p_old : Place) where
    abbrev Halfway : ℕ → Status → D → D → Option (List ℕ) → Warehouse → Place → Type 0
    Halfway i so_far first second middle w p = (h : Held) (active : Active) → files_old ≡ Some h → StandsAt content images first_old second_old active w_old p_old
        → Midway content images moment images_since h (map bytes_of names) (map bytes_of (drop i names)) so_far active first_old first second_old second before middle w p

    abbrev Whole : D → D → Option (List ℕ) → Result Status Stop → Type 0
    Whole first second after finish = (h : Held) (active : Active) → files_old ≡ Some h → StandsAt content images first_old second_old active w_old p_old
        → TakesAll content images moment images_since h (map bytes_of names) active first_old first second_old second before after finish

    pub go_over : (i : ℕ) (so_far : Status) (first second : D) (middle : Option (List ℕ)) (w : Warehouse) (p : Place) → length names ≤ i → Halfway i so_far first second middle w p → Whole first second middle (Ok so_far)
    go_over i so_far first second middle w p over halfway = λ h active held stands.
        midway_over h (map bytes_of names) active first_old second_old before first second middle w p so_far
        (subst (λ (l : List S). Midway content images moment images_since h (map bytes_of names) (map bytes_of l) so_far active first_old first second_old second before middle w p) (drop_all i names over) (halfway h active held stands))

    module _ (i : ℕ) (d : S) (name : List ℕ) (below : i < length names) (name_is : name ≡ bytes_of d) (item : d ≡ get_or names i d) where
      left_here : map bytes_of (drop i names) ≡ name ∷ map bytes_of (drop (i + 1) names)
      left_here =
          ap (map bytes_of) (drop-cons names i d below) ∙ ap (λ (n : ℕ). bytes_of (get_or names i d) ∷ map bytes_of (drop n names)) (sym (add-one i))
          ∙ ap (λ (l : List ℕ). l ∷ map bytes_of (drop (i + 1) names)) (sym (name_is ∙ ap bytes_of item))

      module _ (so_far : Status) (first second first_new second_new : D) (middle after : Option (List ℕ)) (w w_new : Warehouse) (p p_new : Place) (halfway : Halfway i so_far first second middle w p) where
        abbrev Stepped : Result Status Stop → Type 0
        Stepped finish = (h : Held) (active : Active) → files_mid ≡ Some h → StandsAt content images first second active w p
            → TakesFile content images moment images_since name active (accepted h active name) first first_new second second_new w_new p_new middle after finish

        pub go_on : (found later : Status) → later ≡ first_status so_far found → Stepped (Ok found) → Halfway (i + 1) later first_new second_new after w_new p_new
        go_on found later later_is stepped = λ h active held stands.
            let m = subst (λ (l : List (List ℕ)). Midway content images moment images_since h (map bytes_of names) l so_far active first_old first second_old second before middle w p) left_here (halfway h active held stands) in
            subst (λ (s : Status). Midway content images moment images_since h (map bytes_of names) (map bytes_of (drop (i + 1) names)) s active first_old first_new second_old second_new before after w_new p_new) (sym later_is)
            (midway_on h (map bytes_of names) active first_old second_old before first second middle w p so_far name (map bytes_of (drop (i + 1) names)) m first_new second_new after w_new p_new found (stepped h m.now (same ∙ held) m.stands))

        pub go_off : (stop : Stop) → Stepped (Err stop) → Whole first_new second_new after (Err stop)
        go_off stop stepped = λ h active held stands.
            let m = subst (λ (l : List (List ℕ)). Midway content images moment images_since h (map bytes_of names) l so_far active first_old first second_old second before middle w p) left_here (halfway h active held stands) in
            midway_off h (map bytes_of names) active first_old second_old before first second middle w p so_far name (map bytes_of (drop (i + 1) names)) m first_new second_new after w_new p_new stop (stepped h m.now (same ∙ held) m.stands)

pub kept_status : (so_far found later : Status) → later ≡ first_status so_far found → IsRefreshStatus so_far → IsRefreshStatus found → IsRefreshStatus later
kept_status so_far found later is one two = subst IsRefreshStatus (sym is) (at so_far one)
  where
    at : (so_far : Status) → IsRefreshStatus so_far → IsRefreshStatus (first_status so_far found)
    at status.Ok one = two
    at status.Refused one = tt
    at status.BadInput one = tt
    at status.Limit one = tt
    at status.NoFile one = tt
    at other one = absurd one
