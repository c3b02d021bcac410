-- What the contents after some first pieces mean.
use Rattle.std.proofs.Common.{◌≡◌, ℕ, zero, suc, ◌≤◌, List, [], ◌∷◌, ◌++◌, length, take, Option, None, Some, refl, sym, ◌∙◌, ap, subst, arith, append-nil, append_assoc}
use Rattle.std.proofs.lemmas.List.{take_all}
use Rattle.wh_io.specs.Files.{Held}
use Rattle.wh_runs.specs.Outcome.{Contents, Piece, refused, texts, text_at, contents_after, last_contents}
use Rattle.wh_runs.specs.Program.{Manner, Format, Step, Plan, does, refuses, steps_of, finish_of, step_meaning, led, IsAllowed, AreAllowed, HaveNoChange, step_contents, pieces_by, Program, steps_over, expected, IsSound}

pub last_is : (start : Contents) (pieces : List Piece) → contents_after start pieces (length pieces) ≡ last_contents start pieces
last_is start [] = refl
last_is start (piece ∷ pieces) = last_is piece.contents pieces

pub texts_more : (pieces : List Piece) (k : ℕ) → texts (take (suc k) pieces) ≡ texts (take k pieces) ++ text_at pieces k
texts_more [] zero = refl
texts_more [] (suc k) = refl
texts_more (piece ∷ pieces) zero = append-nil piece.text
texts_more (piece ∷ pieces) (suc k) = ap (λ (l : List ℕ). piece.text ++ l) (texts_more pieces k) ∙ sym (append_assoc piece.text (texts (take k pieces)) (text_at pieces k))

-- there are as many pieces as steps
lengths : (format : Format) (manner : Manner) (steps : List (Step format.Change)) (c : Contents) → length steps ≤ length (pieces_by format manner steps c)
lengths format manner [] c = omega arith
lengths format manner (step ∷ steps) c = omega (arith, lengths format manner steps (step_contents format manner step.change c))

-- ---- where no step changes anything

pub led_none : (format : Format) (steps : List (Step format.Change)) (m : format.Meaning) → HaveNoChange steps → led format m steps ≡ m
led_none format [] m none = refl
led_none format (step ∷ steps) m none = led_none format steps (step_meaning format step.change m) none.1 ∙ ap (λ (change : Option format.Change). step_meaning format change m) none.0

pub take_none : {X : Type 0} (k : ℕ) (steps : List (Step X)) → HaveNoChange steps → HaveNoChange (take k steps)
take_none zero steps none = tt
take_none (suc k) [] none = tt
take_none (suc k) (step ∷ steps) none = (none.0, take_none k steps none.1)

pub contents_none : (format : Format) (manner : Manner) (steps : List (Step format.Change)) (c : Contents) (k : ℕ) → HaveNoChange steps
    → contents_after c (pieces_by format manner steps c) k ≡ c
contents_none format manner steps c zero none = refl
contents_none format manner [] c (suc k) none = refl
contents_none format manner (step ∷ steps) c (suc k) none =
    contents_none format manner steps (step_contents format manner step.change c) k none.1 ∙ ap (λ (change : Option format.Change). step_contents format manner change c) none.0

pub last_none : (format : Format) (manner : Manner) (steps : List (Step format.Change)) (c : Contents) → HaveNoChange steps → last_contents c (pieces_by format manner steps c) ≡ c
last_none format manner steps c none =
    let pieces = pieces_by format manner steps c in
    sym (last_is c pieces) ∙ contents_none format manner steps c (length pieces) none

none_by : {X S R : Type 0} (plan : Plan X S R) (reason : R) → finish_of plan ≡ refused reason → steps_of plan ≡ []
none_by (does steps status) reason is = absurd (cc (is))
none_by (refuses other) reason is = refl

-- a refusal has no steps
pub refused_steps : (program : Program) (command : program.Command) (held : Held) (c : Contents) (reason : program.Refusal) → (expected program command held c).finish ≡ refused reason
    → steps_over program command held (program.format.meaning c) ≡ []
refused_steps program command held c reason is = none_by ((program.profile command).planned held (program.format.meaning c)) reason is

-- ---- what is written means what is planned

module _ (program : Program) (sound : IsSound program) where
  one : (manner : Manner) (change : Option program.format.Change) (c : Contents) → IsAllowed program.format manner change (program.format.meaning c)
      → program.format.meaning (step_contents program.format manner change c) ≡ step_meaning program.format change (program.format.meaning c)
  one manner None c allowed = refl
  one manner (Some change) c allowed = sound.means manner change c allowed

  steps_mean : (manner : Manner) (steps : List (Step program.format.Change)) (c : Contents) (k : ℕ) → AreAllowed program.format manner steps (program.format.meaning c)
      → program.format.meaning (contents_after c (pieces_by program.format manner steps c) k) ≡ led program.format (program.format.meaning c) (take k steps)
  steps_mean manner steps c zero allowed = refl
  steps_mean manner [] c (suc k) allowed = refl
  steps_mean manner (step ∷ steps) c (suc k) allowed =
      let first = one manner step.change c allowed.0 in
      steps_mean manner steps (step_contents program.format manner step.change c) k (subst (AreAllowed program.format manner steps) (sym first) allowed.1)
      ∙ ap (λ (m : program.format.Meaning). led program.format m (take k steps)) first

  module _ (command : program.Command) (held : Held) (c : Contents) (premise : (program.profile command).premise (program.format.meaning c)) where
    pub means : (k : ℕ) → program.format.meaning (contents_after c (expected program command held c).pieces k)
        ≡ led program.format (program.format.meaning c) (take k (steps_over program command held (program.format.meaning c)))
    means k = steps_mean (program.profile command).manner (steps_over program command held (program.format.meaning c)) c k (sound.plans command held (program.format.meaning c) premise)

    pub means_last : program.format.meaning (last_contents c (expected program command held c).pieces)
        ≡ led program.format (program.format.meaning c) (steps_over program command held (program.format.meaning c))
    means_last =
        let pieces = (expected program command held c).pieces in
        let steps = steps_over program command held (program.format.meaning c) in
        ap program.format.meaning (sym (last_is c pieces)) ∙ means (length pieces)
        ∙ ap (led program.format (program.format.meaning c)) (take_all (length pieces) steps (lengths program.format (program.profile command).manner steps c))
