-- The texts of a case as files that are read by name.
use Rattle.std.specs.Prelude.{ℕ, List, [], ◌∷◌, Option, None, Some, if◌then◌else◌, codes, position, slice_get}
use Rattle.std.specs.Str.{bytes_eq}
use Rattle.wh_io.specs.Files.{Held}
use Rattle.wh_gen.specs.Case.{CaseTexts}

abbrev pub case_spec : List ℕ
case_spec = codes "spec"

-- the folder of the dumps
abbrev pub case_dir : List ℕ
case_dir = codes "case"

abbrev pub dump_names : List (List ℕ)
dump_names = codes "case/Dept.csv" ∷ codes "case/Emp.csv" ∷ codes "case/Task.csv" ∷ []

-- in the order in which they are taken
abbrev pub change_names : List (List ℕ)
change_names =
    codes "change-1" ∷ codes "change-2" ∷ codes "change-3" ∷ codes "change-4" ∷ codes "change-5" ∷ codes "change-6" ∷ codes "change-7" ∷ codes "change-8" ∷ codes "change-9"
    ∷ codes "change-10" ∷ []

abbrev pub place_in : List (List ℕ) → List ℕ → Option ℕ
place_in names name = position (λ listed. bytes_eq name listed) names

-- by the place of a dump, or else that of a change text
abbrev pub text_at : CaseTexts → Option ℕ → Option ℕ → Option (List ℕ)
text_at t (Some dump) change = slice_get t.dumps dump
text_at t None (Some change) = slice_get t.changes change
text_at t None None = None

-- what stands under a name
abbrev pub case_held : CaseTexts → Held
case_held t name = if bytes_eq name case_spec then Some t.spec else text_at t (place_in dump_names name) (place_in change_names name)
