-- A counter in two files: a small program, to see on it what the definitions say. The longer file counts, by its length, and of two that are as long
-- the first; what its bytes are means nothing, so that a torn write does no harm.
use Rattle.std.specs.Prelude.{◌≡◌, ℕ, ◌+◌, ◌-◌, ◌%◌, max, zero, suc, true, false, List, [], ◌∷◌, ◌++◌, length, get_or, Option, None, Some, codes}
use Rattle.std.proofs.Common.{◌<◌, refl, arith, length-append}
use Rattle.wh_io.specs.Files.{Held}
use Rattle.wh_runs.specs.Outcome.{Contents}
use Rattle.wh_runs.specs.Disks.{Which, first_file, second_file, other, part, with_part}
use Rattle.wh_runs.specs.Program.{Manner, in_place, moves, Format, put, Step, Plan, does, refuses, Profile, Program, AreAllowed, HaveNoChange, HaveOneChange, steps_over, IsSound}

-- ---- the two files

-- what they count
abbrev pub count_in : Contents → ℕ
count_in c = max (length c.first) (length c.second)

-- the file that counts, by how much the second one is longer
abbrev pub longer_by : ℕ → Which
longer_by zero = first_file
longer_by (suc n) = second_file

abbrev pub active : Contents → Which
active c = longer_by (length c.second - length c.first)

-- one more is counted, or what is counted is moved
pub data Change : Type 0 where
  one_more : Change
  stays : Change

abbrev pub changed : Change → ℕ → ℕ
changed one_more n = n + 1
changed stays n = n

-- one more goes into the file that counts, and what is moved into the other one
abbrev pub may_write : Manner → Change → ℕ → Type 0
may_write in_place one_more n = Unit {0}
may_write moves stays n = Unit {0}
may_write manner change n = ⊥

-- the bytes of the file that counts with one more, or as they are
abbrev pub bytes_with : Change → List ℕ → List ℕ
bytes_with one_more bytes = bytes ++ 1 ∷ []
bytes_with stays bytes = bytes

-- the format of both files
abbrev pub format : Format
format = record {
  Meaning = ℕ;
  Change = Change;
  meaning = count_in;
  changed = changed;
  allowed = may_write;
  active = active;
  in_place = λ change c. bytes_with change (part (active c) c);
  moved = λ change c. bytes_with change (part (active c) c);
  emptied = [];
}

-- ---- the commands

-- what can be asked for, and why it is refused
pub data Command : Type 0 where
  help : Command
  create : Command
  -- one more for each file that is held and has one byte; another file has its text alone
  add : List (List ℕ) → Command
  move : Command
  -- what is counted, in one byte
  ask : Command

pub data Refusal : Type 0 where
  not_created : Refusal
  created_before : Refusal

-- the step for each file to add, and the plan of each command
abbrev pub step_for : Option (List ℕ) → Step Change
step_for (Some (byte ∷ [])) = record { text = codes "added\n"; change = Some one_more }
step_for other = record { text = codes "not added\n"; change = None }

abbrev pub add_steps : Held → List (List ℕ) → List (Step Change)
add_steps held [] = []
add_steps held (name ∷ names) = step_for (held name) ∷ add_steps held names

abbrev pub planned : Command → Held → ℕ → Plan Change (Unit {0}) Refusal
planned help held n = does (record { text = codes "help\n"; change = None } ∷ []) tt
planned create held zero = does (record { text = codes "created\n"; change = Some one_more } ∷ []) tt
planned create held (suc n) = refuses created_before
planned (add names) held zero = refuses not_created
planned (add names) held (suc n) = does (add_steps held names) tt
planned move held zero = refuses not_created
planned move held (suc n) = does (record { text = codes "moved\n"; change = Some stays } ∷ []) tt
planned ask held zero = refuses not_created
planned ask held (suc n) = does (record { text = suc n % 256 ∷ []; change = None } ∷ []) tt

-- one that reads no other files, and that may read as many bytes of the two as it will
abbrev pub quiet : (Held → ℕ → Plan Change (Unit {0}) Refusal) → Profile ℕ Change (Unit {0}) Refusal
quiet plan = record {
  planned = plan;
  manner = in_place;
  is_apart = false;
  reads_files = false;
  may_read = λ held n k name. ⊥;
  read_limit = None;
  ends_with = λ status. Unit {0};
  premise = λ n. Unit {0};
}

-- while piece k is under way the file of its number is read; and of the two files no byte twice
abbrev pub profile : Command → Profile ℕ Change (Unit {0}) Refusal
profile help = record (quiet (planned help)) { is_apart = true }
profile create = quiet (planned create)
profile (add names) = record (quiet (planned (add names))) { reads_files = true; may_read = λ held n k name. get_or names k [] ≡ name; read_limit = Some length }
profile move = record (quiet (planned move)) { manner = moves }
profile ask = quiet (planned ask)

-- the program
abbrev pub counter : Program
counter = record {
  format = format;
  Status = Unit {0};
  Refusal = Refusal;
  Command = Command;
  profile = profile;
  stands = λ n. Unit {0};
}

-- ---- it is sound

in_place_means : (n : ℕ) (c : Contents) → length c.second - length c.first ≡ n → count_in (with_part (longer_by n) (part (longer_by n) c ++ 1 ∷ []) c) ≡ count_in c + 1
in_place_means zero c is = omega (arith, is, length-append c.first (1 ∷ []))
in_place_means (suc n) c is = omega (arith, is, length-append c.second (1 ∷ []))

moves_means : (n : ℕ) (c : Contents) → length c.second - length c.first ≡ n
    → count_in (with_part (longer_by n) [] (with_part (other (longer_by n)) (part (longer_by n) c) c)) ≡ count_in c
moves_means zero c is = omega (arith, is)
moves_means (suc n) c is = omega (arith, is)

counter_means : (manner : Manner) (change : Change) (c : Contents) → may_write manner change (count_in c) → count_in (put format manner change c) ≡ changed change (count_in c)
counter_means in_place one_more c may = in_place_means (length c.second - length c.first) c refl
counter_means in_place stays c may = absurd may
counter_means moves one_more c may = absurd may
counter_means moves stays c may = moves_means (length c.second - length c.first) c refl

no_longer : (k : ℕ) → k ≡ 0 → longer_by k ≡ first_file
no_longer zero is = refl
no_longer (suc k) is = absurd (cc (is))

still_longer : (k : ℕ) → 0 < k → longer_by k ≡ second_file
still_longer zero less = absurd (omega (arith, less))
still_longer (suc k) less = refl

in_place_active : (n : ℕ) (c : Contents) → length c.second - length c.first ≡ n → active (with_part (longer_by n) (part (longer_by n) c ++ 1 ∷ []) c) ≡ longer_by n
in_place_active zero c is = no_longer (length c.second - length (c.first ++ 1 ∷ [])) (omega (arith, is, length-append c.first (1 ∷ [])))
in_place_active (suc n) c is = still_longer (length (c.second ++ 1 ∷ []) - length c.first) (omega (arith, is, length-append c.second (1 ∷ [])))

counter_active : (change : Change) (c : Contents) → may_write in_place change (count_in c) → active (put format in_place change c) ≡ active c
counter_active one_more c may = in_place_active (length c.second - length c.first) c refl
counter_active stays c may = absurd may

counter_once : (command : Command) → (profile command).manner ≡ moves → (held : Held) (n : ℕ) → HaveOneChange (steps_over counter command held n)
counter_once help is held n = tt
counter_once create is held zero = tt
counter_once create is held (suc n) = tt
counter_once (add names) is held n = absurd (cc (is))
counter_once move is held zero = tt
counter_once move is held (suc n) = tt
counter_once ask is held zero = tt
counter_once ask is held (suc n) = tt

step_allowed : (file : Option (List ℕ)) (steps : List (Step Change)) (n : ℕ) → ((m : ℕ) → AreAllowed format in_place steps m) → AreAllowed format in_place (step_for file ∷ steps) n
step_allowed None steps n rest = (tt, rest n)
step_allowed (Some []) steps n rest = (tt, rest n)
step_allowed (Some (byte ∷ [])) steps n rest = (tt, rest (n + 1))
step_allowed (Some (byte ∷ more ∷ others)) steps n rest = (tt, rest n)

add_allowed : (held : Held) (names : List (List ℕ)) (n : ℕ) → AreAllowed format in_place (add_steps held names) n
add_allowed held [] n = tt
add_allowed held (name ∷ names) n = step_allowed (held name) (add_steps held names) n (add_allowed held names)

counter_plans : (command : Command) (held : Held) (n : ℕ) → AreAllowed format (profile command).manner (steps_over counter command held n) n
counter_plans help held n = (tt, tt)
counter_plans create held zero = (tt, tt)
counter_plans create held (suc n) = tt
counter_plans (add names) held zero = tt
counter_plans (add names) held (suc n) = add_allowed held names (suc n)
counter_plans move held zero = tt
counter_plans move held (suc n) = (tt, tt)
counter_plans ask held zero = tt
counter_plans ask held (suc n) = (tt, tt)

counter_apart : (command : Command) → (profile command).is_apart ≡ true → (held : Held) (n : ℕ) → HaveNoChange (steps_over counter command held n)
counter_apart help is held n = (refl, tt)
counter_apart create is held n = absurd (cc (is))
counter_apart (add names) is held n = absurd (cc (is))
counter_apart move is held n = absurd (cc (is))
counter_apart ask is held n = absurd (cc (is))

counter_quiet : (command : Command) → (profile command).reads_files ≡ false → (held : Held) (n k : ℕ) (name : List ℕ) → (profile command).may_read held n k name → ⊥
counter_quiet help is held n k name may = may
counter_quiet create is held n k name may = may
counter_quiet (add names) is held n k name may = absurd (cc (is))
counter_quiet move is held n k name may = may
counter_quiet ask is held n k name may = may

counter_meets : (command : Command) (n : ℕ) → (profile command).premise n
counter_meets help n = tt
counter_meets create n = tt
counter_meets (add names) n = tt
counter_meets move n = tt
counter_meets ask n = tt

-- its format keeps what it says, and its commands keep to it
pub counter_sound : IsSound counter
counter_sound = record {
  means = counter_means;
  keeps_active = counter_active;
  moves_once = counter_once;
  plans = λ command held n premise. counter_plans command held n;
  apart = counter_apart;
  quiet = counter_quiet;
  begins = tt;
  stays = λ command held n k stands. tt;
  meets = λ command n stands. counter_meets command n;
}
