-- The texts of the command `show`.
use Rattle.std.proofs.Common.{◌≡◌, ℕ, ◌<◌, ◌≤◌, List, [], length, get_or, Option, None, Some, Result, Ok, Err, IfSome, refl, sym, ◌∙◌, ap, subst, arith}
use Rattle.std.specs.Option.{option_map}
use Rattle.wh_io.specs.Files.{Held}
use Rattle.wh_io.proofs.Gained.{gained_nothing}
use Rattle.wh_schema.specs.Warehouse.{Row, State}
use Rattle.wh_command.specs.declared.status.Status.{Status}
use Rattle.wh_command.specs.declared.stop.Stop.{Stop}
use Rattle.wh_command.specs.declared.stop.Stop.TheVariants.{Refused, Usage, BadSpec, BadInput, BadQuery, ReadFault, WriteFault, DiskFault, NotLoaded, AlreadyLoaded, Damaged, Limit, NoMemory, NoFile}
use Rattle.wh_command.specs.Outcome.{stays}
use Rattle.wh_store.specs.Image.{Holding}
use Rattle.wh_command.specs.Ends.{Ends, EndsWhole}
use Rattle.wh_schema.specs.declared.spec.Relation.{Relation}
use Rattle.wh_schema.specs.declared.spec.Spec.{Spec}
use Rattle.wh_command.specs.Inputs.{and_then, dump_files, spec_file}
use Rattle.wh_command.specs.Plan.{plan_lines, plan_texts}
use Rattle.wh_command.specs.Steps.{Settles, BlamesFiles}
use Rattle.wh_command.specs.declared.show.Shown.{Shown}
use Rattle.wh_command.specs.Show.{table_text, table_texts, tables_of, shown_of, show_texts}
use Rattle.wh_command.proofs.Texts.{numbered_count, numbered_text}

module _ (s : Shown) (items : List (List Row)) (same : items ≡ s.tables) where
  pub texts_count : (n : ℕ) → n < length items → n < length (table_texts s)
  texts_count n below = let counted = numbered_count (table_text s.spec) [] s.tables in let as_items = ap length same in omega (arith, counted, as_items)

  pub texts_over : (n : ℕ) → length items ≤ n → length (table_texts s) ≤ n
  texts_over n over = let counted = numbered_count (table_text s.spec) [] s.tables in let as_items = ap length same in omega (arith, counted, as_items)

  pub texts_at : (n : ℕ) (rows : List Row) → n < length items → rows ≡ get_or items n rows → table_text s.spec n rows ≡ get_or (table_texts s) n []
  texts_at n rows below is =
      numbered_text (table_text s.spec) [] s.tables n rows (subst (λ (l : List (List Row)). n < length l) same below) (is ∙ ap (λ (l : List (List Row)). get_or l n rows) same)

-- the specification was read, then the dumps, and then the tables are computed
pub dumps_shown : (spec_name dir : List ℕ) (spec : Spec) (relations : List Relation) (told now : Option Held) (state : State) (result : Result Shown Stop) → relations ≡ spec.relations → now ≡ told → Settles (option_map (λ (h : Held). spec_file h spec_name) told) (Ok spec)
    → Settles (option_map (λ (h : Held). dump_files h dir [] relations) now) (Ok state) → Settles (Some (tables_of spec state)) result → Settles (option_map (λ (h : Held). shown_of h spec_name dir) told) result
dumps_shown spec_name dir spec relations None now state result are same read dumps computed = tt
dumps_shown spec_name dir spec relations (Some h) now state result are same read dumps computed =
    let here : dump_files h dir [] relations ≡ Ok state = subst (λ (o : Option Held). Settles (option_map (λ (k : Held). dump_files k dir [] relations) o) (Ok state)) same dumps in
    let given : dump_files h dir [] spec.relations ≡ Ok state = ap (λ (l : List Relation). dump_files h dir [] l) (sym are) ∙ here in
    let over : shown_of h spec_name dir ≡ tables_of spec state = ap (λ (o : Result Spec Stop). and_then o (λ (p : Spec). and_then (dump_files h dir [] p.relations) (tables_of p))) read ∙ ap (λ (o : Result State Stop). and_then o (tables_of spec)) given in
    subst (λ (o : Result Shown Stop). Settles (Some o) result) (sym over) computed

-- a command that computes something, and then prints it
module _ {T : Type 0} (lines : T → List (List ℕ)) where
  abbrev printing : T → Result (List (List ℕ)) Stop
  printing x = Ok (lines x)

  begins : (start : Holding) (wanted : Result T Stop) → (stays start (and_then wanted printing)).start ≡ start
  begins start (Ok x) = refl
  begins start (Err e) = refl

  refuses : (start : Holding) (before : Option (List ℕ)) (wanted : Result T Stop) (stop : Stop) → wanted ≡ Err stop
      → EndsWhole (stays start (and_then wanted printing)) (λ (s : Holding). s ≡ start) before before (Err stop)
  refuses start before wanted stop is =
      subst (λ (r : Result T Stop). EndsWhole (stays start (and_then r printing)) (λ (s : Holding). s ≡ start) before before (Err stop)) (sym is)
      (record { finish_is = refl; printed = sym (gained_nothing before); state = refl })

  -- a stop before anything is printed
  pub stopped : (start : Holding) (before : Option (List ℕ)) (wanted : Result T Stop) (stop : Stop) → BlamesFiles {T = T} (Err stop) → Settles (Some wanted) (Err stop)
      → Ends (stays start (and_then wanted printing)) (λ (s : Holding). s ≡ start) (λ (_ _ : Holding). ⊥) before before (Err stop)
  stopped start before wanted (ReadFault file) blames settles = record { k = 0; within = omega arith; printed = sym (gained_nothing before); state = begins start wanted }
  stopped start before wanted NoMemory blames settles = record { k = 0; within = omega arith; printed = sym (gained_nothing before); state = begins start wanted }
  stopped start before wanted WriteFault blames settles = absurd (cc (blames.no_write))
  stopped start before wanted DiskFault blames settles = absurd (cc (blames.no_store))
  stopped start before wanted NotLoaded blames settles = absurd (cc (blames.no_store))
  stopped start before wanted AlreadyLoaded blames settles = absurd (cc (blames.no_store))
  stopped start before wanted (Damaged words) blames settles = absurd (cc (blames.no_store))
  stopped start before wanted (Refused words) blames settles = refuses start before wanted (Refused words) settles
  stopped start before wanted Usage blames settles = refuses start before wanted Usage settles
  stopped start before wanted (BadSpec words) blames settles = refuses start before wanted (BadSpec words) settles
  stopped start before wanted (BadInput words) blames settles = refuses start before wanted (BadInput words) settles
  stopped start before wanted (BadQuery words) blames settles = refuses start before wanted (BadQuery words) settles
  stopped start before wanted (Limit words) blames settles = refuses start before wanted (Limit words) settles
  stopped start before wanted (NoFile file) blames settles = refuses start before wanted (NoFile file) settles

-- the command `show` stops before anything is printed
pub show_stops : (held : Option Held) (spec_name dir : List ℕ) (before : Option (List ℕ)) (stop : Stop) → BlamesFiles {T = Shown} (Err stop)
    → Settles (option_map (λ (h : Held). shown_of h spec_name dir) held) (Err stop)
    → IfSome held (λ (h : Held). (start : Holding) → Ends (stays start (show_texts h spec_name dir)) (λ (s : Holding). s ≡ start) (λ (_ _ : Holding). ⊥) before before (Err stop))
show_stops None spec_name dir before stop blames settles = tt
show_stops (Some h) spec_name dir before stop blames settles = λ start. stopped table_texts start before (shown_of h spec_name dir) stop blames settles

-- and so does the command `plan`
pub plan_stops : (held : Option Held) (spec_name : List ℕ) (before : Option (List ℕ)) (stop : Stop) → BlamesFiles {T = Spec} (Err stop)
    → Settles (option_map (λ (h : Held). spec_file h spec_name) held) (Err stop)
    → IfSome held (λ (h : Held). (start : Holding) → Ends (stays start (plan_texts h spec_name)) (λ (s : Holding). s ≡ start) (λ (_ _ : Holding). ⊥) before before (Err stop))
plan_stops None spec_name before stop blames settles = tt
plan_stops (Some h) spec_name before stop blames settles = λ start. stopped plan_lines start before (spec_file h spec_name) stop blames settles

-- the plan is there, and is printed
pub plan_prints : (held : Option Held) (spec_name : List ℕ) (before after : Option (List ℕ)) (spec : Spec) (finish : Result Status Stop) → Settles (option_map (λ (h : Held). spec_file h spec_name) held) (Ok spec)
    → ((start : Holding) → Ends (stays start (Ok (plan_lines spec))) (λ (s : Holding). s ≡ start) (λ (_ _ : Holding). ⊥) before after finish)
    → IfSome held (λ (h : Held). (start : Holding) → Ends (stays start (plan_texts h spec_name)) (λ (s : Holding). s ≡ start) (λ (_ _ : Holding). ⊥) before after finish)
plan_prints None spec_name before after spec finish settles ends = tt
plan_prints (Some h) spec_name before after spec finish settles ends = λ start.
    subst (λ (r : Result Spec Stop). Ends (stays start (and_then r (printing plan_lines))) (λ (s : Holding). s ≡ start) (λ (_ _ : Holding). ⊥) before after finish) (sym settles) (ends start)
