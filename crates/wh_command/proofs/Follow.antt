-- One command after another: how the two end together, and which states they reach.
use Rattle.std.proofs.Common.{◌≡◌, ◌⊎◌, inl, inr, ⊎_elim, ℕ, zero, suc, ◌+◌, ◌≤◌, ◌<◌, List, [], ◌∷◌, ◌++◌, length, take, Option, Result, Ok, Err, refl, sym, ◌∙◌, ap, subst, arith, length-append}
use Rattle.std.proofs.Math.Seq.{take-append-add}
use Rattle.std.proofs.lemmas.Grind.{flat_map-append}
use Rattle.std.proofs.lemmas.List.{take-append-le}
use Rattle.wh_io.specs.Sink.{gained, GainsPrefix}
use Rattle.wh_io.proofs.Gained.{gained_twice}
use Rattle.wh_store.specs.Image.{Holding}
use Rattle.wh_command.specs.declared.status.Status.{Status}
use Rattle.wh_command.specs.declared.stop.Stop.{Stop}
use Rattle.wh_command.specs.Ends.{Ends, EndsBetween, EndsBy, EndsInCommit, EndsInText, EndsWhole, Way, whole, between, in_text, in_commit, way_of}
use Rattle.wh_command.specs.Outcome.{IsReached, Outcome, Piece, followed, joined, last_state, state_after, text_at, texts}

-- ---- pieces with more behind them

state_within : (start : Holding) (a b : List Piece) (k : ℕ) → k ≤ length a → state_after start (a ++ b) k ≡ state_after start a k
state_within start a b zero within = refl
state_within start [] b (suc k) within = absurd (omega arith)
state_within start (piece ∷ a) b (suc k) within = state_within piece.state a b k (omega arith)

state_behind : (start : Holding) (a b : List Piece) (j k : ℕ) → k ≡ length a + j → state_after start (a ++ b) k ≡ state_after (last_state start a) b j
state_behind start [] b j k is = let same : k ≡ j = omega arith in ap (state_after start b) same
state_behind start (piece ∷ a) b j zero is = absurd (omega arith)
state_behind start (piece ∷ a) b j (suc k) is = state_behind piece.state a b j k (omega arith)

last_behind : (start : Holding) (a b : List Piece) → last_state start (a ++ b) ≡ last_state (last_state start a) b
last_behind start [] b = refl
last_behind start (piece ∷ a) b = last_behind piece.state a b

-- behind the last piece nothing changes
state_over : (start : Holding) (a : List Piece) (k : ℕ) → length a ≤ k → state_after start a k ≡ last_state start a
state_over start [] zero over = refl
state_over start [] (suc k) over = refl
state_over start (piece ∷ a) zero over = absurd (omega arith)
state_over start (piece ∷ a) (suc k) over = state_over piece.state a k (omega arith)

text_within : (a b : List Piece) (k : ℕ) → k < length a → text_at (a ++ b) k ≡ text_at a k
text_within [] b k within = absurd (omega arith)
text_within (piece ∷ a) b zero within = refl
text_within (piece ∷ a) b (suc k) within = text_within a b k (omega arith)

text_behind : (a b : List Piece) (j k : ℕ) → k ≡ length a + j → text_at (a ++ b) k ≡ text_at b j
text_behind [] b j k is = let same : k ≡ j = omega arith in ap (text_at b) same
text_behind (piece ∷ a) b j zero is = absurd (omega arith)
text_behind (piece ∷ a) b j (suc k) is = text_behind a b j k (omega arith)

below_or_last : (k n : ℕ) → k ≤ n → (k < n) ⊎ (k ≡ n)
below_or_last zero zero within = inr refl
below_or_last zero (suc n) within = inl (omega arith)
below_or_last (suc k) zero within = absurd (omega arith)
below_or_last (suc k) (suc n) within = ⊎_elim (λ below. inl (omega (arith, below))) (λ same. inr (ap (λ (m : ℕ). suc m) same)) (below_or_last k n (omega arith))

texts_behind : (a b : List Piece) → texts (a ++ b) ≡ texts a ++ texts b
texts_behind a b = flat_map-append (λ (piece : Piece). piece.text) a b

-- ---- the two together

pub followed_start : (first : Outcome) (next : Holding → Outcome) → (followed first next).start ≡ first.start
followed_start first next = by first.finish
  where
    by : (r : Result Status Stop) → (joined first next r).start ≡ first.start
    by (Ok status) = refl
    by (Err stop) = refl

module _ (first : Outcome) (next : Holding → Outcome) where
  abbrev following : Outcome
  following = next (last_state first.start first.pieces)

  -- ---- the states

  pub reached_first : (w : Holding) → IsReached first w → IsReached (followed first next) w
  reached_first w reached = by first.finish
    where
      by : (r : Result Status Stop) → IsReached (joined first next r) w
      by (Ok status) = record {
        j = reached.j;
        within = let below = reached.within in omega (arith, below, length-append first.pieces following.pieces);
        is = reached.is ∙ sym (state_within first.start first.pieces following.pieces reached.j reached.within);
      }
      by (Err stop) = reached

  pub reached_next : (status : Status) → first.finish ≡ Ok status → following.start ≡ last_state first.start first.pieces → (w : Holding) → IsReached following w → IsReached (followed first next) w
  reached_next status done begins w reached = subst (λ (r : Result Status Stop). IsReached (joined first next r) w) (sym done) (record {
    j = length first.pieces + reached.j;
    within = let below = reached.within in omega (arith, below, length-append first.pieces following.pieces);
    is =
        reached.is ∙ ap (λ (s : Holding). state_after s following.pieces reached.j) begins
        ∙ sym (state_behind first.start first.pieces following.pieces reached.j (length first.pieces + reached.j) refl);
  })

  pub last_next : (status : Status) → first.finish ≡ Ok status → following.start ≡ last_state first.start first.pieces
      → last_state (followed first next).start (followed first next).pieces ≡ last_state following.start following.pieces
  last_next status done begins =
      subst (λ (r : Result Status Stop). last_state (joined first next r).start (joined first next r).pieces ≡ last_state following.start following.pieces) (sym done)
      (last_behind first.start first.pieces following.pieces ∙ ap (λ (s : Holding). last_state s following.pieces) (sym begins))

  module _ (Rests : Holding → Type 0) (Leaves : Holding → Holding → Type 0) where
    -- ---- the first one was stopped

    module _ (widen : (v w : Holding) → Leaves v v → Leaves v w) (before after : Option (List ℕ)) where
      -- k texts of the first one, which are those of both
      first_texts : (k : ℕ) → k ≤ length first.pieces → after ≡ gained before (texts (take k first.pieces)) → after ≡ gained before (texts (take k (first.pieces ++ following.pieces)))
      first_texts k within printed = printed ∙ ap (λ (l : List Piece). gained before (texts l)) (sym (take-append-le k first.pieces following.pieces within))

      first_between : (r : Result Status Stop) → EndsBetween first Rests before after → EndsBetween (joined first next r) Rests before after
      first_between (Ok status) ends = record {
        k = ends.k;
        within = let below = ends.within in omega (arith, below, length-append first.pieces following.pieces);
        printed = first_texts ends.k ends.within ends.printed;
        state = subst Rests (sym (state_within first.start first.pieces following.pieces ends.k ends.within)) ends.state;
      }
      first_between (Err stop) ends = ends

      first_in_text : (r : Result Status Stop) → EndsInText first Rests before after → EndsInText (joined first next r) Rests before after
      first_in_text (Ok status) ends = record {
        k = ends.k;
        within = let below = ends.within in omega (arith, below, length-append first.pieces following.pieces);
        printed =
            subst (λ (l : List Piece). GainsPrefix (gained before (texts l)) after (text_at (first.pieces ++ following.pieces) ends.k)) (sym (take-append-le ends.k first.pieces following.pieces (let below = ends.within in omega (arith, below))))
            (subst (λ (t : List ℕ). GainsPrefix (gained before (texts (take ends.k first.pieces))) after t) (sym (text_within first.pieces following.pieces ends.k ends.within)) ends.printed);
        state = subst Rests (sym (state_within first.start first.pieces following.pieces (suc ends.k) (let below = ends.within in omega (arith, below)))) ends.state;
      }
      first_in_text (Err stop) ends = ends

      -- on the way to the state of the last piece and beyond, where the next one's first state may be wanted
      beyond : (k : ℕ) → k ≤ length first.pieces → Leaves (state_after first.start first.pieces k) (state_after first.start first.pieces (suc k))
          → Leaves (state_after first.start first.pieces k) (state_after first.start (first.pieces ++ following.pieces) (suc k))
      beyond k within leaves = by (below_or_last k (length first.pieces) within)
        where
          by : (k < length first.pieces) ⊎ (k ≡ length first.pieces) → Leaves (state_after first.start first.pieces k) (state_after first.start (first.pieces ++ following.pieces) (suc k))
          by (inl below) = subst (Leaves (state_after first.start first.pieces k)) (sym (state_within first.start first.pieces following.pieces (suc k) (omega (arith, below)))) leaves
          by (inr last) =
              let here : state_after first.start first.pieces (suc k) ≡ state_after first.start first.pieces k =
              state_over first.start first.pieces (suc k) (omega (arith, last)) ∙ sym (state_over first.start first.pieces k (omega (arith, last))) in
              widen (state_after first.start first.pieces k) (state_after first.start (first.pieces ++ following.pieces) (suc k)) (subst (Leaves (state_after first.start first.pieces k)) here leaves)

      first_in_commit : (r : Result Status Stop) → EndsInCommit first Leaves before after → EndsInCommit (joined first next r) Leaves before after
      first_in_commit (Ok status) ends = record {
        k = ends.k;
        within = let below = ends.within in omega (arith, below, length-append first.pieces following.pieces);
        printed = first_texts ends.k ends.within ends.printed;
        state =
            subst (λ (v : Holding). Leaves v (state_after first.start (first.pieces ++ following.pieces) (suc ends.k))) (sym (state_within first.start first.pieces following.pieces ends.k ends.within))
            (beyond ends.k ends.within ends.state);
      }
      first_in_commit (Err stop) ends = ends

      first_whole : (stop : Stop) (r : Result Status Stop) → r ≡ Err stop → EndsWhole first Rests before after (Err stop) → EndsWhole (joined first next r) Rests before after (Err stop)
      first_whole stop (Ok status) is ends = absurd (cc (is))
      first_whole stop (Err other) is ends = ends

      first_by : (way : Way) (stop : Stop) → EndsBy way first Rests Leaves before after (Err stop) → EndsBy way (followed first next) Rests Leaves before after (Err stop)
      first_by whole stop ends = first_whole stop first.finish ends.finish_is ends
      first_by between stop ends = first_between first.finish ends
      first_by in_text stop ends = first_in_text first.finish ends
      first_by in_commit stop ends = first_in_commit first.finish ends

      pub ends_first : (stop : Stop) → Ends first Rests Leaves before after (Err stop) → Ends (followed first next) Rests Leaves before after (Err stop)
      ends_first stop ends = first_by (way_of (Err stop)) stop ends

    -- ---- the first one came to its end

    module _ (before middle after : Option (List ℕ)) (status : Status) (done : first.finish ≡ Ok status) (printed : middle ≡ gained before (texts first.pieces)) (begins : following.start ≡ last_state first.start first.pieces) where
      abbrev all : List Piece
      all = first.pieces ++ following.pieces

      next_texts : (pieces : List Piece) → gained middle (texts pieces) ≡ gained before (texts (first.pieces ++ pieces))
      next_texts pieces =
          ap (λ (o : Option (List ℕ)). gained o (texts pieces)) printed ∙ gained_twice before (texts first.pieces) (texts pieces) ∙ ap (gained before) (sym (texts_behind first.pieces pieces))

      texts_here : (k : ℕ) → gained middle (texts (take k following.pieces)) ≡ gained before (texts (take (length first.pieces + k) all))
      texts_here k = next_texts (take k following.pieces) ∙ ap (λ (l : List Piece). gained before (texts l)) (sym (take-append-add first.pieces following.pieces k))

      state_here : (j k : ℕ) → k ≡ length first.pieces + j → state_after following.start following.pieces j ≡ state_after first.start all k
      state_here j k is = ap (λ (s : Holding). state_after s following.pieces j) begins ∙ sym (state_behind first.start first.pieces following.pieces j k is)

      abbrev Both : Outcome
      Both = joined first next (Ok status)

      next_by : (way : Way) (finish : Result Status Stop) → EndsBy way following Rests Leaves middle after finish → EndsBy way Both Rests Leaves before after finish
      next_by whole finish ends = record {
        finish_is = ends.finish_is;
        printed = ends.printed ∙ next_texts following.pieces;
        state = subst Rests (ap (λ (s : Holding). last_state s following.pieces) begins ∙ sym (last_behind first.start first.pieces following.pieces)) ends.state;
      }
      next_by between finish ends = record {
        k = length first.pieces + ends.k;
        within = let below = ends.within in omega (arith, below, length-append first.pieces following.pieces);
        printed = ends.printed ∙ texts_here ends.k;
        state = subst Rests (state_here ends.k (length first.pieces + ends.k) refl) ends.state;
      }
      next_by in_text finish ends = record {
        k = length first.pieces + ends.k;
        within = let below = ends.within in omega (arith, below, length-append first.pieces following.pieces);
        printed =
            subst (λ (o : Option (List ℕ)). GainsPrefix o after (text_at all (length first.pieces + ends.k))) (texts_here ends.k)
            (subst (λ (t : List ℕ). GainsPrefix (gained middle (texts (take ends.k following.pieces))) after t) (sym (text_behind first.pieces following.pieces ends.k (length first.pieces + ends.k) refl)) ends.printed);
        state = subst Rests (state_here (suc ends.k) (suc (length first.pieces + ends.k)) (omega arith)) ends.state;
      }
      next_by in_commit finish ends = record {
        k = length first.pieces + ends.k;
        within = let below = ends.within in omega (arith, below, length-append first.pieces following.pieces);
        printed = ends.printed ∙ texts_here ends.k;
        state =
            subst (λ (v : Holding). Leaves v (state_after first.start all (suc (length first.pieces + ends.k)))) (state_here ends.k (length first.pieces + ends.k) refl)
            (subst (Leaves (state_after following.start following.pieces ends.k)) (state_here (suc ends.k) (suc (length first.pieces + ends.k)) (omega arith)) ends.state);
      }

      pub ends_next : (finish : Result Status Stop) → Ends following Rests Leaves middle after finish → Ends (followed first next) Rests Leaves before after finish
      ends_next finish ends = subst (λ (r : Result Status Stop). Ends (joined first next r) Rests Leaves before after finish) (sym done) (next_by (way_of finish) finish ends)
