-- Texts of small cases, worked by hand, and the files of any case.
use Rattle.std.specs.Prelude.{◌≡◌, refl, ℕ, List, [], ◌∷◌, None, Some, codes}
use Rattle.std.specs.Fmt.{digits}
use Rattle.std.specs.List.{flat_map}
use Rattle.wh_base.specs.Lines.{line, csv_record}
use Rattle.wh_gen.specs.Case.{dept_dump, emp_dump, task_dump, emp_row, task_row, change_text, made_case, spec_text}
use Rattle.wh_gen.specs.Files.{case_held}

abbrev lines : List (List ℕ) → List ℕ
lines = flat_map line

pub depts_of_the_smallest : dept_dump 0 1 ≡ lines (codes "dept,site" ∷ codes "0,s0" ∷ [])
unfolding digits
depts_of_the_smallest = refl

pub emps_of_the_smallest : emp_dump 0 1 ≡ lines (codes "emp,dept,pay" ∷ codes "0,0,1000" ∷ [])
unfolding digits
emps_of_the_smallest = refl

pub tasks_of_the_smallest : task_dump 0 1 ≡ lines (codes "task,emp,hours" ∷ codes "0,0,0" ∷ codes "1,0,3" ∷ [])
unfolding digits
tasks_of_the_smallest = refl

pub first_change_of_the_smallest : change_text 0 1 1 ≡ lines (codes "+,Task,2,0,2" ∷ codes "-,Task,0,0,0" ∷ [])
unfolding digits
first_change_of_the_smallest = refl

pub last_change_of_the_smallest : change_text 0 1 10 ≡ lines (codes "-,Dept,0,s0" ∷ codes "+,Task,11,0,11" ∷ codes "-,Task,9,0,27" ∷ [])
unfolding digits
last_change_of_the_smallest = refl

-- of number 2 and size 10: 7 * 3 over 2 departments leaves 1, and 13 * 3 + 2 over 40 leaves 1
pub an_employee : csv_record (emp_row 2 10 7) ≡ codes "7,1,1009"
unfolding digits
an_employee = refl

pub a_task : csv_record (task_row 2 10 13) ≡ codes "13,5,1"
unfolding digits
a_task = refl

pub a_change_of_ten : change_text 3 10 2 ≡ lines (codes "+,Task,22,2,25" ∷ codes "-,Task,2,5,9" ∷ codes "+,Task,23,3,26" ∷ codes "-,Task,3,6,12" ∷ [])
unfolding digits
a_change_of_ten = refl

-- ---- files

pub the_specification : (q n : ℕ) → case_held (made_case q n) (codes "spec") ≡ Some spec_text
the_specification q n = refl

pub a_dump_file : (q n : ℕ) → case_held (made_case q n) (codes "case/Emp.csv") ≡ Some (emp_dump q n)
a_dump_file q n = refl

pub the_first_change_file : (q n : ℕ) → case_held (made_case q n) (codes "change-1") ≡ Some (change_text q n 1)
the_first_change_file q n = refl

pub the_last_change_file : (q n : ℕ) → case_held (made_case q n) (codes "change-10") ≡ Some (change_text q n 10)
the_last_change_file q n = refl

pub no_other_file : (q n : ℕ) → case_held (made_case q n) (codes "change-11") ≡ None
no_other_file q n = refl
