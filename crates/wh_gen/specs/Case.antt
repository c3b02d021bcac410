-- The texts of a generated case, by its number q and its size n.
use Rattle.std.specs.Prelude.{ℕ, ◌+◌, ◌-◌, ◌*◌, ◌/◌, ◌%◌, ◌==◌, List, [], ◌∷◌, ◌++◌, map, codes, decimal, pos, if◌then◌else◌}
use Rattle.std.specs.List.{flat_map, range_with_len}
use Rattle.wh_base.specs.declared.value.Value.{Value}
use Rattle.wh_base.specs.declared.value.Value.TheVariants.{Int, Text}
use Rattle.wh_base.specs.Lines.{comma, line, csv_record, csv_text}

-- the specification
abbrev pub spec_text : List ℕ
spec_text = flat_map line (
    codes "relation Dept(dept int, site text) key (dept);"
    ∷ codes "relation Emp(emp int, dept int, pay int) key (emp);"
    ∷ codes "relation Task(task int, emp int, hours int) key (task);"
    ∷ codes "inclusion Emp(dept) in Dept(dept);"
    ∷ codes "inclusion Task(emp) in Emp(emp);"
    ∷ codes "view Staff = Emp join Dept;"
    ∷ codes "view Work(task, emp, hours, dept) = Task join Emp where hours > 10;"
    ∷ [])

-- ---- rows

abbrev pub int : ℕ → Value
int k = Int (pos k)

-- how many departments a case has
abbrev pub dept_count : ℕ → ℕ
dept_count n = n / 10 + 1

abbrev pub dept_row : ℕ → ℕ → List Value
dept_row q i = int i ∷ Text (codes "s" ++ decimal ((i + q) % 7)) ∷ []

abbrev pub emp_row : ℕ → ℕ → ℕ → List Value
emp_row q n i = int i ∷ int (i * (q + 1) % dept_count n) ∷ int (1000 + (i + q) % 500) ∷ []

abbrev pub task_row : ℕ → ℕ → ℕ → List Value
task_row q n i = int i ∷ int ((i + q) % n) ∷ int ((3 * i + q) % 40) ∷ []

-- the task of a number that a change text enters
abbrev pub entering_row : ℕ → ℕ → ℕ → List Value
entering_row q n t = int t ∷ int (t % n) ∷ int ((t + q) % 40) ∷ []

-- the task of a number that a change text deletes: as a dump has it
abbrev pub leaving_row : ℕ → ℕ → ℕ → List Value
leaving_row = task_row

-- ---- dumps

-- n numbers, from 0 on
abbrev pub numbers : ℕ → List ℕ
numbers n = range_with_len 0 n

abbrev pub dept_columns : List (List ℕ)
dept_columns = codes "dept" ∷ codes "site" ∷ []

abbrev pub emp_columns : List (List ℕ)
emp_columns = codes "emp" ∷ codes "dept" ∷ codes "pay" ∷ []

abbrev pub task_columns : List (List ℕ)
task_columns = codes "task" ∷ codes "emp" ∷ codes "hours" ∷ []

abbrev pub dept_dump : ℕ → ℕ → List ℕ
dept_dump q n = csv_text dept_columns (map (dept_row q) (numbers (dept_count n)))

abbrev pub emp_dump : ℕ → ℕ → List ℕ
emp_dump q n = csv_text emp_columns (map (emp_row q n) (numbers n))

abbrev pub task_dump : ℕ → ℕ → List ℕ
task_dump q n = csv_text task_columns (map (task_row q n) (numbers (2 * n)))

-- ---- change texts

-- a line that enters a row into a relation, or deletes it: its sign, the relation's name and the row
abbrev pub change_line : List ℕ → List ℕ → List Value → List ℕ
change_line sign name row = line (sign ++ comma ++ name ++ comma ++ csv_record row)

-- how many tasks a change text enters, and how many it deletes
abbrev pub moved_count : ℕ → ℕ
moved_count n = n / 10 + 1

-- the two lines of number j in text c: new tasks are numbered on from the 2n tasks of the dump, and old ones leave from the first on
abbrev pub moved_lines : ℕ → ℕ → ℕ → ℕ → List ℕ
moved_lines q n c j =
    let place = (c - 1) * moved_count n + j in
    change_line (codes "+") (codes "Task") (entering_row q n (2 * n + place))
    ++ change_line (codes "-") (codes "Task") (leaving_row q n place)

-- the tenth text begins with the deletion of the first department, to which employees belong
abbrev pub opening : ℕ → ℕ → List ℕ
opening q c = if c == 10 then change_line (codes "-") (codes "Dept") (dept_row q 0) else []

-- the change text of number c, counted from 1
abbrev pub change_text : ℕ → ℕ → ℕ → List ℕ
change_text q n c = opening q c ++ flat_map (moved_lines q n c) (numbers (moved_count n))

-- ---- the case

pub record CaseTexts : Type 0 where
  pub spec : List ℕ
  pub dumps : List (List ℕ)
  pub changes : List (List ℕ)

abbrev pub made_case : ℕ → ℕ → CaseTexts
made_case q n = record {
  spec = spec_text;
  dumps = dept_dump q n ∷ emp_dump q n ∷ task_dump q n ∷ [];
  changes = map (change_text q n) (range_with_len 1 10);
}
