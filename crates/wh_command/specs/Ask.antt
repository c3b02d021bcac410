-- What the commands `query TEXT` and `dump RELATION` come to: rows of the store, which stays as it is.
use Rattle.std.specs.Prelude.{◌≡◌, ◌⊎◌, ℕ, ◌-◌, ◌^◌, ◌==◌, if◌then◌else◌, List, [], ◌∷◌, ◌++◌, Option, None, Some, Result, Ok, Err, codes, decimal}
use Rattle.std.specs.List.{position}
use Rattle.wh_base.specs.Columns.{name_eq}
use Rattle.wh_expr.specs.declared.expr.Expr.TheVariants.{Base}
use Rattle.wh_io.specs.Sink.{gained, GainsPrefix}
use Rattle.wh_query_text.specs.declared.fault.QueryFault.{QueryFault}
use Rattle.wh_query_text.specs.declared.parsing.Query.{Query}
use Rattle.wh_query_text.specs.QueryTexts.{query_of_text, fault_words}
use Rattle.wh_schema.specs.declared.spec.Relation.{Relation}
use Rattle.wh_schema.specs.declared.spec.Spec.{Spec}
use Rattle.wh_schema.specs.Warehouse.{relation_at}
use Rattle.wh_store.specs.declared.fault.StoreFault.{StoreFault}
use Rattle.wh_store.specs.declared.fault.StoreFault.TheVariants as fault
use Rattle.wh_store.specs.declared.warehouse.Warehouse.{Warehouse}
use Rattle.wh_store.specs.declared.warehouse.Which.{Which}
use Rattle.wh_store.specs.declared.warehouse.Which.TheVariants.{First, Second}
use Rattle.wh_store.specs.Image.{Image, Holding}
use Rattle.wh_store.specs.Warehouse.{IsWarehouseOf}
use Rattle.wh_answer.specs.Answer.{answer_text}
use Rattle.wh_command.specs.declared.status.Status.{Status}
use Rattle.wh_command.specs.declared.status.Status.TheVariants as status
use Rattle.wh_command.specs.declared.stop.Stop.{Stop}
use Rattle.wh_command.specs.declared.stop.Stop.TheVariants.{BadInput, BadQuery, WriteFault, DiskFault, NotLoaded, Damaged, NoMemory}
use Rattle.wh_command.specs.Disks.{BothRest, BothLeave, CrashReaches}
use Rattle.wh_command.specs.Ends.{Ends}
use Rattle.wh_command.specs.Inputs.{and_then}
use Rattle.wh_command.specs.Outcome.{Outcome, stays}
use Rattle.wh_command.specs.Steps.{UnlessOutside, is_outside}

-- ---- the store

-- the file and the place of damage; two files of one generation are told at the greatest place of the second
abbrev pub damage_words : Which → ℕ → List ℕ
damage_words First at = codes "first file at " ++ decimal at
damage_words Second at = if at == 2 ^ 64 - 1 then codes "equal generations" else codes "second file at " ++ decimal at

-- the state of a store that is needed
abbrev pub opened : Holding → Result Image Stop
opened (Ok None) = Err NotLoaded
opened (Ok (Some active)) = Ok active.image
opened (Err damage) = Err (Damaged (damage_words damage.which damage.at))

-- ---- what is asked

-- a fault of a query text, as what stops the command
abbrev pub query_or_fault : Result Query QueryFault → Result Query Stop
query_or_fault (Ok q) = Ok q
query_or_fault (Err found) = Err (BadQuery (fault_words found))

-- the query that a text gives
abbrev pub query_in : List ℕ → Spec → Result Query Stop
query_in text spec = query_or_fault (query_of_text spec text)

abbrev pub unknown_words : List ℕ → List ℕ
unknown_words word = codes "unknown relation " ++ word

abbrev pub found_or : List ℕ → Option ℕ → Result ℕ Stop
found_or word None = Err (BadInput (unknown_words word))
found_or word (Some r) = Ok r

-- the place of the relation with a name, counted from 0
abbrev pub relation_place : List ℕ → List Relation → Option ℕ
relation_place word relations = position (λ r. name_eq r.name word) relations

-- its number
abbrev pub relation_named : Spec → List ℕ → Result ℕ Stop
relation_named spec word = found_or word (relation_place word spec.relations)

-- all rows of a relation, in its columns
abbrev pub relation_query : Spec → ℕ → Query
relation_query spec r = record { expr = Base r; attrs = (relation_at spec r).attrs }

-- the query of a relation's name; no view and no complement is dumped
abbrev pub relation_in : List ℕ → Spec → Result Query Stop
relation_in word spec = and_then (relation_named spec word) (λ r. Ok (relation_query spec r))

-- ---- what it comes to

-- the text of what is asked of a state
abbrev pub answer_in : Image → Result Query Stop → Result (List ℕ) Stop
answer_in image (Ok q) = Ok (answer_text image.spec image.tables q)
answer_in image (Err stop) = Err stop

-- the store first, and then what is asked
abbrev pub answered : Holding → (Spec → Result Query Stop) → Result (List ℕ) Stop
answered start ask = and_then (opened start) (λ image. answer_in image (ask image.spec))

abbrev pub one_text : Result (List ℕ) Stop → Result (List (List ℕ)) Stop
one_text (Ok text) = Ok (text ∷ [])
one_text (Err stop) = Err stop

-- one text, and the state stays
abbrev pub asking : Holding → Result (List ℕ) Stop → Outcome
asking start wanted = stays start (one_text wanted)

abbrev pub query_outcome : List ℕ → Holding → Outcome
query_outcome text start = asking start (answered start (query_in text))

abbrev pub dump_outcome : List ℕ → Holding → Outcome
dump_outcome word start = asking start (answered start (relation_in word))

-- ---- the steps

-- the stop that a fault of opening a store is told as
abbrev pub IsOpeningStop : StoreFault → Stop → Type 0
IsOpeningStop fault.NotLoaded stop = stop ≡ NotLoaded
IsOpeningStop (fault.Damaged which at) stop = (stop ≡ Damaged (damage_words which at)) ⊎ (stop ≡ NoMemory)
IsOpeningStop fault.DiskFault stop = stop ≡ DiskFault
IsOpeningStop other stop = stop ≡ NoMemory

-- what opening a store that is needed answers
abbrev pub IsNeeded : Holding → Result Warehouse Stop → Type 0
IsNeeded found (Ok w) = (image : Image) × (opened found ≡ Ok image) × IsWarehouseOf image w
IsNeeded found (Err stop) = UnlessOutside (is_outside stop) (opened found ≡ Err stop)

-- A run of one of these commands: how it ends, and what a crash leaves.
pub record EndsAsk {D : Type 0} (content : D → Option (List ℕ)) (images : D → List ℕ → Type 0) (moment : D → ℕ) (images_since : D → ℕ → List ℕ → Type 0)
    (outcome : Outcome) (first_old first_new second_old second_new : D) (before after : Option (List ℕ)) (finish : Result Status Stop) : Type 0 where
  pub ends : Ends outcome (BothRest content images first_new second_new) (BothLeave images first_new second_new) before after finish
  pub crash : CrashReaches moment images_since outcome first_old first_new second_old second_new

-- one text is printed, or a first part of it where the sink failed
abbrev pub TellsText : List ℕ → Option (List ℕ) → Option (List ℕ) → Result Status Stop → Type 0
TellsText text before after (Ok answer) = (answer ≡ status.Ok) × (after ≡ gained before text)
TellsText text before after (Err WriteFault) = GainsPrefix before after text
TellsText text before after (Err other) = ⊥
