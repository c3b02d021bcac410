-- What the command `plan SPEC` prints: the plan of the specification, as one text.
use Rattle.std.specs.Prelude.{ℕ, List, [], ◌∷◌, Result, Ok}
use Rattle.wh_io.specs.Files.{Held}
use Rattle.wh_plan.specs.PlanText.{plan_text}
use Rattle.wh_schema.specs.declared.spec.Spec.{Spec}
use Rattle.wh_command.specs.declared.stop.Stop.{Stop}
use Rattle.wh_command.specs.Inputs.{and_then, spec_file}

abbrev pub plan_lines : Spec → List (List ℕ)
plan_lines spec = plan_text spec ∷ []

abbrev pub plan_texts : Held → List ℕ → Result (List (List ℕ)) Stop
plan_texts held spec_name = and_then (spec_file held spec_name) (λ spec. Ok (plan_lines spec))
