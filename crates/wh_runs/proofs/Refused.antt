-- Bodies of the counter that its contract refuses.
use Rattle.std.proofs.Common.{◌≡◌, inl, inr, ⊎_elim, ℕ, ◌<◌, List, [], ◌∷◌, take, Option, Some, refl, sym, ◌∙◌, ap, subst, arith, codes}
use Rattle.wh_io.specs.Crash.{IsImage}
use Rattle.wh_io.specs.Files.{Held}
use Rattle.wh_io.specs.Sink.{gained}
use Rattle.wh_runs.specs.Outcome.{empty, Piece, texts}
use Rattle.wh_runs.specs.Disks.{Form, Disks, Rests}
use Rattle.wh_runs.specs.Program.{expected}
use Rattle.wh_runs.specs.Ends.{IsAround}
use Rattle.wh_runs.specs.Counter.{create, add, move, count_in, counter}
use Rattle.wh_runs.specs.Rows.{pair, two_files, pieces, NoLateWant, NoLateRead, NoCutRefusal, NoPendingAnswer, NoEarlyEmptying, NoSilentChange}
use Rattle.wh_runs.proofs.Kept.{told_left}

-- where there is one piece, a text that was printed before the first one was done is none
late : (pieces : List Piece) (before after : Option (List ℕ)) (text : List ℕ) (k : ℕ) → k < 1 → before ≡ Some [] → after ≡ Some text
    → after ≡ gained before (texts (take k pieces)) → Some text ≡ Some []
late pieces before after text k within none some printed =
    let zero_is : k ≡ 0 = omega (arith, within) in
    sym some ∙ printed ∙ ap (λ (o : Option (List ℕ)). gained o (texts (take k pieces))) none ∙ ap (λ (j : ℕ). gained (Some []) (texts (take j pieces))) zero_is

module _ (F : Type 0) {D : Type 0} (form : Form D) where
  pub late_want : NoLateWant F form
  late_want held seen is told none some answers =
      let ends = answers.ends held empty is told tt in
      absurd (cc (late (pieces create held empty) seen.before.out seen.after.out (codes "created\n") ends.k ends.within none some ends.printed))

  pub late_read : NoLateRead F form
  late_read seen name is told none some answers =
      let ends = (answers.ends two_files (pair (4 ∷ []) []) is told tt).between in
      absurd (cc (late (pieces (add ((1 ∷ []) ∷ [])) two_files (pair (4 ∷ []) [])) seen.before.out seen.after.out (codes "added\n") ends.k ends.within none some ends.printed))

  not_cut : (o : Option (List ℕ)) → o ≡ Some (9 ∷ []) → o ≡ Some [] → ⊥
  not_cut o a b = absurd (cc (sym a ∙ b))

  pub cut_refusal : NoCutRefusal F form
  cut_refusal seen before after answers =
      ⊎_elim (λ rests. not_cut (form.content seen.after.disks.second) rests.told.second after.second) (λ kept. not_cut (form.content seen.after.disks.second) kept.1.told.second after.second)
      (answers.refusal refl (pair (4 ∷ 6 ∷ []) (9 ∷ [])) before)

  pub pending_answer : NoPendingAnswer F form
  pending_answer held seen is told left answers = absurd (cc ((answers.ends held (pair (4 ∷ 6 ∷ []) []) is told tt).state.first (4 ∷ []) left.first))

  pub silent_change : NoSilentChange F form
  silent_change held seen is told after answers = absurd (cc (sym (answers.ends held (pair (4 ∷ []) []) is told tt).state.told.first ∙ after.first))

  module _ (is_left : (d : D) → IsImage (form.content d) (form.images d)) where
    not_around : (held : Held) (before : Disks D) → Rests form before (pair (4 ∷ []) []) → IsAround count_in form (expected counter move held (pair (4 ∷ []) [])) before 0 empty → ⊥
    not_around held before rests (inl is) = absurd (cc (is))
    not_around held before rests (inr (inl is)) = absurd (cc (is))
    not_around held before rests (inr (inr kept)) = absurd (cc (rests.first [] kept.1.first))

    pub early_emptying : NoEarlyEmptying F form
    early_emptying held seen is rests after answers =
        let ends = answers.ends held (pair (4 ∷ []) []) is rests.told tt in
        let zero_is : ends.k ≡ 0 = omega (arith, ends.within) in
        not_around held seen.before.disks rests
        (subst (λ (k : ℕ). IsAround count_in form (expected counter move held (pair (4 ∷ []) [])) seen.before.disks k empty) zero_is
        (ends.state empty (told_left form is_left seen.after.disks empty after)))
