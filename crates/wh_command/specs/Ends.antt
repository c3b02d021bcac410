-- How a run of a command may end: what `out` has gained, and what the disks stand for.
use Rattle.std.specs.Prelude.{◌≡◌, ℕ, suc, ◌≤◌, ◌<◌, List, length, take, Option, Result, Ok, Err}
use Rattle.wh_io.specs.Sink.{gained, GainsPrefix}
use Rattle.wh_command.specs.declared.status.Status.{Status}
use Rattle.wh_command.specs.declared.stop.Stop.{Stop}
use Rattle.wh_command.specs.declared.stop.Stop.TheVariants.{ReadFault, WriteFault, DiskFault, NoMemory}
use Rattle.wh_command.specs.Outcome.{Outcome, texts, text_at, state_after, last_state}
use Rattle.wh_store.specs.Image.{Holding}

-- `Rests w`: nothing is pending and the disks stand for w. `Leaves v w`: whatever a crash leaves stands for v or w.
-- The command came to its end: all the texts, and the last state.
pub record EndsWhole (outcome : Outcome) (Rests : Holding → Type 0) (before after : Option (List ℕ)) (finish : Result Status Stop) : Type 0 where
  pub finish_is : outcome.finish ≡ finish
  pub printed : after ≡ gained before (texts outcome.pieces)
  pub state : Rests (last_state outcome.start outcome.pieces)

-- It was cut off before piece k was begun: exactly k texts, and the state after them.
pub record EndsBetween (outcome : Outcome) (Rests : Holding → Type 0) (before after : Option (List ℕ)) : Type 0 where
  pub k : ℕ
  pub within : k ≤ length outcome.pieces
  pub printed : after ≡ gained before (texts (take k outcome.pieces))
  pub state : Rests (state_after outcome.start outcome.pieces k)

-- It was cut off in the text of piece k: k texts and a first part of that one, whose state stands.
pub record EndsInText (outcome : Outcome) (Rests : Holding → Type 0) (before after : Option (List ℕ)) : Type 0 where
  pub k : ℕ
  pub within : k < length outcome.pieces
  pub printed : GainsPrefix (gained before (texts (take k outcome.pieces))) after (text_at outcome.pieces k)
  pub state : Rests (state_after outcome.start outcome.pieces (suc k))

-- It was cut off on the way to the state of piece k: k texts, and a crash leaves the state before or that one.
pub record EndsInCommit (outcome : Outcome) (Leaves : Holding → Holding → Type 0) (before after : Option (List ℕ)) : Type 0 where
  pub k : ℕ
  pub within : k ≤ length outcome.pieces
  pub printed : after ≡ gained before (texts (take k outcome.pieces))
  pub state : Leaves (state_after outcome.start outcome.pieces k) (state_after outcome.start outcome.pieces (suc k))

-- the ways to end: at the end, before a piece, in a piece's text, on the way to a piece's state
pub data Way : Type 0 where
  whole : Way
  between : Way
  in_text : Way
  in_commit : Way

abbrev pub way_of : Result Status Stop → Way
way_of (Ok status) = whole
way_of (Err (ReadFault file)) = between
way_of (Err NoMemory) = between
way_of (Err WriteFault) = in_text
way_of (Err DiskFault) = in_commit
way_of (Err other) = whole

abbrev pub EndsBy : Way → Outcome → (Holding → Type 0) → (Holding → Holding → Type 0) → Option (List ℕ) → Option (List ℕ) → Result Status Stop → Type 0
EndsBy whole outcome Rests Leaves before after finish = EndsWhole outcome Rests before after finish
EndsBy between outcome Rests Leaves before after finish = EndsBetween outcome Rests before after
EndsBy in_text outcome Rests Leaves before after finish = EndsInText outcome Rests before after
EndsBy in_commit outcome Rests Leaves before after finish = EndsInCommit outcome Leaves before after

-- how a command ended is one of the ways that its outcome allows
abbrev pub Ends : Outcome → (Holding → Type 0) → (Holding → Holding → Type 0) → Option (List ℕ) → Option (List ℕ) → Result Status Stop → Type 0
Ends outcome Rests Leaves before after finish = EndsBy (way_of finish) outcome Rests Leaves before after finish
