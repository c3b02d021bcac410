-- One piece after another.
use Rattle.std.proofs.Common.{◌≡◌, inl, inr, ⊎_elim, ℕ, suc, ◌<◌, Bool, true, false, List, ◌∷◌, ◌++◌, length, take, Option, refl, sym, ◌∙◌, ap, subst, arith}
use Rattle.wh_io.specs.Files.{Held}
use Rattle.wh_io.specs.Sink.{gained, GainsPrefix}
use Rattle.wh_io.proofs.Gained.{gained_twice}
use Rattle.wh_runs.specs.Outcome.{Contents, Piece, Outcome, Finish, done, refused, read_fault, no_memory, write_fault, disk_fault, texts, text_at, contents_after}
use Rattle.wh_runs.specs.Disks.{Form, Keeps, Rests, Stands}
use Rattle.wh_runs.specs.Ends.{Scene, Seen, IsAround, EndsBetween, Ends}
use Rattle.wh_runs.specs.Program.{Program, expected}
use Rattle.wh_runs.specs.Shown.{left_over, is_cut}
use Rattle.wh_runs.proofs.Kept.{left_at_rest, still}
use Rattle.wh_runs.proofs.Means.{last_is}

module _ {F D : Type 0} (form : Form D) (program : Program) (command : program.Command) (held : Held) (m : program.format.Meaning) (n : ℕ) (start : Contents) (piece : Piece) (pieces : List Piece)
    (finish : Finish program.Status program.Refusal) (before mid after : Scene F D) (text : mid.out ≡ gained before.out piece.text) (rests : Rests form mid.disks piece.contents) where
  abbrev whole : Outcome program.Status program.Refusal
  whole = left_over program command held m n start (piece ∷ pieces) finish

  abbrev rest : Outcome program.Status program.Refusal
  rest = left_over program command held m (suc n) piece.contents pieces finish

  abbrev seen : Seen F D
  seen = record { before = before; after = after }

  abbrev seen_behind : Seen F D
  seen_behind = record { before = mid; after = after }

  -- the text of the piece, and more behind it
  printed_on : (more : List ℕ) → gained mid.out more ≡ gained before.out (piece.text ++ more)
  printed_on more = ap (λ (o : Option (List ℕ)). gained o more) text ∙ gained_twice before.out piece.text more

  stands_on : (c : Contents) (k : ℕ) → Stands form mid.disks after.disks c k → c ≡ contents_after piece.contents pieces k → Rests form after.disks c
  stands_on c k state is = ⊎_elim (λ now. now) (λ kept. kept_rests kept.0 kept.1) state
    where
      kept_rests : k ≡ 0 → Keeps form mid.disks after.disks c → Rests form after.disks c
      kept_rests none keeps =
          let same = is ∙ ap (λ (j : ℕ). contents_after piece.contents pieces j) none in
          still form mid.disks after.disks c (subst (Rests form mid.disks) (sym same) rests) keeps

  abbrev between : 0 < length pieces → EndsBetween form rest seen_behind → EndsBetween form whole seen
  between more ends = record {
    k = suc ends.k;
    within = omega (arith, ends.within, more);
    printed = ends.printed ∙ printed_on (texts (take ends.k pieces));
    state = inl (stands_on _ ends.k ends.state refl);
  }

  around : (k : ℕ) (c : Contents) → IsAround program.format.meaning form rest mid.disks k c → IsAround program.format.meaning form whole before.disks (suc k) c
  around k c (inl is) = inl is
  around k c (inr (inl is)) = inr (inl is)
  around k c (inr (inr kept)) =
      inl (ap program.format.meaning (left_at_rest form mid.disks c piece.contents rests kept.1 ∙ ap (λ (j : ℕ). contents_after piece.contents pieces j) (sym kept.0)))

  pub follows : (ended : Finish program.Status program.Refusal) → (is_cut ended ≡ true → 0 < length pieces) → Ends program.format.meaning form rest seen_behind ended → Ends program.format.meaning form whole seen ended
  follows (done status) more ends = record { is = ends.is; printed = ends.printed ∙ printed_on (texts pieces); state = ends.state }
  follows (refused reason) more ends = record {
    is = ends.is;
    printed = ends.printed ∙ printed_on (texts pieces);
    state = inl (stands_on _ (length pieces) ends.state (sym (last_is piece.contents pieces)));
  }
  follows (read_fault name) more ends = record { between = between (more refl) ends.between; named = ends.named }
  follows no_memory more ends = between (more refl) ends
  follows write_fault more ends = record {
    k = suc ends.k;
    within = omega (arith, ends.within);
    printed = subst (λ (o : Option (List ℕ)). GainsPrefix o after.out (text_at pieces ends.k)) (printed_on (texts (take ends.k pieces))) ends.printed;
    state = ends.state;
  }
  follows disk_fault more ends = record {
    k = suc ends.k;
    within = omega (arith, ends.within, more refl);
    printed = ends.printed ∙ printed_on (texts (take ends.k pieces));
    state = λ c left. around ends.k c (ends.state c left);
  }

-- ---- the whole

module _ {F D : Type 0} (form : Form D) (program : Program) (command : program.Command) (held : Held) (start : Contents) (seen : Seen F D) where
  -- the same outcome, apart or not
  abbrev outcome_with : Bool → Outcome program.Status program.Refusal
  outcome_with apart = record {
    start = start;
    pieces = (expected program command held start).pieces;
    finish = (expected program command held start).finish;
    is_apart = apart;
    may_read = (expected program command held start).may_read;
  }

  pub whole_left : (ended : Finish program.Status program.Refusal) → (program.profile command).is_apart ≡ false → Ends program.format.meaning form (outcome_with false) seen ended
      → Ends program.format.meaning form (expected program command held start) seen ended
  whole_left ended apart ends = subst (λ (b : Bool). Ends program.format.meaning form (outcome_with b) seen ended) (sym apart) ends
