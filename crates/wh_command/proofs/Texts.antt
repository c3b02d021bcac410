-- A command that writes one text after another, and leaves the state as it was.
use Rattle.std.proofs.Common.{◌≡◌, ℕ, zero, suc, ◌+◌, ◌≤◌, ◌<◌, List, [], ◌∷◌, ◌++◌, length, map, get_or, take, Option, Ok, Err, refl, sym, ◌∙◌, ap, subst, arith, append-nil, append_assoc}
use Rattle.std.specs.List.{flat_map, range_with_len}
use Rattle.std.proofs.lemmas.List.FromFn.{get_or-map-range_with_len, length-map-range_with_len}
use Rattle.std.proofs.lemmas.List.{take_all, get_or_default}
use Rattle.wh_io.specs.Sink.{gained, GainsPrefix}
use Rattle.wh_io.proofs.Gained.{gained_twice}
use Rattle.wh_command.specs.declared.status.Status.TheVariants as status
use Rattle.wh_command.specs.declared.stop.Stop.{Stop}
use Rattle.wh_command.specs.declared.stop.Stop.TheVariants.{Refused, Usage, BadSpec, BadInput, BadQuery, ReadFault, WriteFault, DiskFault, NotLoaded, AlreadyLoaded, Damaged, Limit, NoMemory, NoFile}
use Rattle.wh_command.specs.Steps.{Writes}
use Rattle.wh_command.specs.Outcome.{Piece, texts, text_at, state_after, last_state, stays}
use Rattle.wh_store.specs.Image.{Holding}
use Rattle.wh_command.specs.Ends.{Ends}

abbrev pub joined : List (List ℕ) → List ℕ
joined = flat_map (λ (row : List ℕ). row)

-- one text more
joined_more : (rows : List (List ℕ)) (i : ℕ) → i < length rows → joined (take (suc i) rows) ≡ joined (take i rows) ++ get_or rows i []
joined_more [] i below = absurd (omega arith)
joined_more (row ∷ rows) zero below = append-nil row
joined_more (row ∷ rows) (suc i) below = ap (λ (l : List ℕ). row ++ l) (joined_more rows i (omega arith)) ∙ sym (append_assoc row (joined (take i rows)) (get_or rows i []))

pub gained_more : (rows : List (List ℕ)) (i : ℕ) (text : List ℕ) (before middle after : Option (List ℕ)) → i < length rows → text ≡ get_or rows i []
    → middle ≡ gained before (joined (take i rows)) → after ≡ gained middle text → after ≡ gained before (joined (take (i + 1) rows))
gained_more rows i text before middle after below is so_far wrote =
    wrote ∙ ap (λ (t : Option (List ℕ)). gained t text) so_far ∙ gained_twice before (joined (take i rows)) text
    ∙ ap (gained before) (ap (λ (t : List ℕ). joined (take i rows) ++ t) is ∙ sym (joined_more rows i below) ∙ next i)
  where
    next : (n : ℕ) → joined (take (suc n) rows) ≡ joined (take (n + 1) rows)
    next n = let one : suc n ≡ n + 1 = omega arith in ap (λ (m : ℕ). joined (take m rows)) one

module _ (start : Holding) where
  abbrev row_piece : List ℕ → Piece
  row_piece row = record { text = row; state = start }

  stays_after : (rows : List (List ℕ)) (k : ℕ) → state_after start (map row_piece rows) k ≡ start
  stays_after [] zero = refl
  stays_after [] (suc k) = refl
  stays_after (row ∷ rows) zero = refl
  stays_after (row ∷ rows) (suc k) = stays_after rows k

  stays_last : (rows : List (List ℕ)) → last_state start (map row_piece rows) ≡ start
  stays_last [] = refl
  stays_last (row ∷ rows) = stays_last rows

  row_texts : (rows : List (List ℕ)) (k : ℕ) → texts (take k (map row_piece rows)) ≡ joined (take k rows)
  row_texts rows zero = refl
  row_texts [] (suc k) = refl
  row_texts (row ∷ rows) (suc k) = ap (λ (l : List ℕ). row ++ l) (row_texts rows k)

  pub all_texts : (rows : List (List ℕ)) → texts (map row_piece rows) ≡ joined rows
  all_texts [] = refl
  all_texts (row ∷ rows) = ap (λ (l : List ℕ). row ++ l) (all_texts rows)

  row_text : (rows : List (List ℕ)) (k : ℕ) → text_at (map row_piece rows) k ≡ get_or rows k []
  row_text [] zero = refl
  row_text [] (suc k) = refl
  row_text (row ∷ rows) zero = refl
  row_text (row ∷ rows) (suc k) = row_text rows k

  row_count : (rows : List (List ℕ)) → length (map row_piece rows) ≡ length rows
  row_count [] = refl
  row_count (row ∷ rows) = omega (arith, row_count rows)

  -- all texts are written
  pub texts_done : (rows : List (List ℕ)) (i : ℕ) (before after : Option (List ℕ)) → length rows ≤ i → after ≡ gained before (joined (take i rows))
      → Ends (stays start (Ok rows)) (λ (s : Holding). s ≡ start) (λ (_ _ : Holding). ⊥) before after (Ok status.Ok)
  texts_done rows i before after over taken = record {
    finish_is = refl;
    printed = taken ∙ ap (λ (l : List (List ℕ)). gained before (joined l)) (take_all i rows over) ∙ ap (gained before) (sym (all_texts rows));
    state = stays_last rows;
  }

  -- text i is not, or not wholly
  pub texts_cut : (rows : List (List ℕ)) (i : ℕ) (text : List ℕ) (before middle after : Option (List ℕ)) (stop : Stop) → i < length rows → text ≡ get_or rows i []
      → middle ≡ gained before (joined (take i rows)) → Writes {T = Unit {0}} text middle after (Err stop)
      → Ends (stays start (Ok rows)) (λ (s : Holding). s ≡ start) (λ (_ _ : Holding). ⊥) before after (Err stop)
  texts_cut rows i text before middle after NoMemory below is taken writes = record {
    k = i;
    within = omega (arith, row_count rows);
    printed = writes ∙ taken ∙ ap (gained before) (sym (row_texts rows i));
    state = stays_after rows i;
  }
  texts_cut rows i text before middle after WriteFault below is taken writes = record {
    k = i;
    within = omega (arith, row_count rows);
    printed = subst (λ (t : Option (List ℕ)). GainsPrefix t after (text_at (map row_piece rows) i)) (taken ∙ ap (gained before) (sym (row_texts rows i)))
        (subst (GainsPrefix middle after) (is ∙ sym (row_text rows i)) writes);
    state = stays_after rows (suc i);
  }
  texts_cut rows i text before middle after (ReadFault file) below is taken writes = absurd writes
  texts_cut rows i text before middle after DiskFault below is taken writes = absurd writes
  texts_cut rows i text before middle after NotLoaded below is taken writes = absurd writes
  texts_cut rows i text before middle after AlreadyLoaded below is taken writes = absurd writes
  texts_cut rows i text before middle after (Damaged words) below is taken writes = absurd writes
  texts_cut rows i text before middle after (Refused words) below is taken writes = absurd writes
  texts_cut rows i text before middle after Usage below is taken writes = absurd writes
  texts_cut rows i text before middle after (BadSpec words) below is taken writes = absurd writes
  texts_cut rows i text before middle after (BadInput words) below is taken writes = absurd writes
  texts_cut rows i text before middle after (BadQuery words) below is taken writes = absurd writes
  texts_cut rows i text before middle after (Limit words) below is taken writes = absurd writes
  texts_cut rows i text before middle after (NoFile file) below is taken writes = absurd writes

-- texts by numbers
module _ {X : Type 0} (f : ℕ → X → List ℕ) (d : X) (items : List X) where
  abbrev numbered : List (List ℕ)
  numbered = map (λ k. f k (get_or items k d)) (range_with_len 0 (length items))

  pub numbered_count : length numbered ≡ length items
  numbered_count = length-map-range_with_len (λ k. f k (get_or items k d)) 0 (length items)

  pub numbered_text : (i : ℕ) (x : X) → i < length items → x ≡ get_or items i x → f i x ≡ get_or numbered i []
  numbered_text i x below is = ap (f i) (is ∙ get_or_default items i x d below) ∙ sym (get_or-map-range_with_len (λ k. f k (get_or items k d)) 0 (length items) i i [] below (omega arith))
