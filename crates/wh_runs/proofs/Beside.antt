-- Commands that write in place leave the other file.
use Rattle.std.proofs.Common.{◌≡◌, ℕ, zero, suc, List, [], ◌∷◌, Option, None, Some, refl, sym, ◌∙◌, subst}
use Rattle.wh_io.specs.Files.{Held}
use Rattle.wh_runs.specs.Outcome.{Contents, contents_after}
use Rattle.wh_runs.specs.Disks.{Which, first_file, second_file, other, part, with_part}
use Rattle.wh_runs.specs.Program.{Manner, in_place, Step, IsAllowed, AreAllowed, step_contents, step_meaning, pieces_by, Program, steps_over, expected, IsSound}

part_other : (which : Which) (bytes : List ℕ) (c : Contents) → part (other which) (with_part which bytes c) ≡ part (other which) c
part_other first_file bytes c = refl
part_other second_file bytes c = refl

module _ (program : Program) (sound : IsSound program) where
  one_active : (change : Option program.format.Change) (c : Contents) → IsAllowed program.format in_place change (program.format.meaning c)
      → program.format.active (step_contents program.format in_place change c) ≡ program.format.active c
  one_active None c allowed = refl
  one_active (Some change) c allowed = sound.keeps_active change c allowed

  one_other : (change : Option program.format.Change) (c : Contents) → part (other (program.format.active c)) (step_contents program.format in_place change c) ≡ part (other (program.format.active c)) c
  one_other None c = refl
  one_other (Some change) c = part_other (program.format.active c) (program.format.in_place change c) c

  one_means : (change : Option program.format.Change) (c : Contents) → IsAllowed program.format in_place change (program.format.meaning c)
      → program.format.meaning (step_contents program.format in_place change c) ≡ step_meaning program.format change (program.format.meaning c)
  one_means None c allowed = refl
  one_means (Some change) c allowed = sound.means in_place change c allowed

  steps_other : (steps : List (Step program.format.Change)) (c : Contents) (k : ℕ) → AreAllowed program.format in_place steps (program.format.meaning c)
      → part (other (program.format.active c)) (contents_after c (pieces_by program.format in_place steps c) k) ≡ part (other (program.format.active c)) c
  steps_other steps c zero allowed = refl
  steps_other [] c (suc k) allowed = refl
  steps_other (step ∷ steps) c (suc k) allowed =
      let next = step_contents program.format in_place step.change c in
      subst (λ (w : Which). part (other w) (contents_after next (pieces_by program.format in_place steps next) k) ≡ part (other w) next) (one_active step.change c allowed.0)
      (steps_other steps next k (subst (AreAllowed program.format in_place steps) (sym (one_means step.change c allowed.0)) allowed.1))
      ∙ one_other step.change c

  by_manner : (manner : Manner) → manner ≡ in_place → (steps : List (Step program.format.Change)) (c : Contents) (k : ℕ) → AreAllowed program.format manner steps (program.format.meaning c)
      → part (other (program.format.active c)) (contents_after c (pieces_by program.format manner steps c) k) ≡ part (other (program.format.active c)) c
  by_manner manner is steps c k = subst (λ (way : Manner). AreAllowed program.format way steps (program.format.meaning c)
      → part (other (program.format.active c)) (contents_after c (pieces_by program.format way steps c) k) ≡ part (other (program.format.active c)) c) (sym is) (steps_other steps c k)

  pub keeps_other : (command : program.Command) (held : Held) (start : Contents) (k : ℕ) → (program.profile command).manner ≡ in_place → (program.profile command).premise (program.format.meaning start)
      → part (other (program.format.active start)) (contents_after start (expected program command held start).pieces k) ≡ part (other (program.format.active start)) start
  keeps_other command held start k is premise =
      by_manner (program.profile command).manner is (steps_over program command held (program.format.meaning start)) start k (sound.plans command held (program.format.meaning start) premise)
