-- What a command comes to, piece by piece.
use Rattle.std.specs.Prelude.{◌≡◌, ℕ, zero, suc, ◌≤◌, List, [], ◌∷◌, ◌++◌, length, map, Result, Ok, Err}
use Rattle.std.specs.List.{flat_map}
use Rattle.wh_store.specs.Image.{Holding}
use Rattle.wh_command.specs.declared.status.Status.{Status}
use Rattle.wh_command.specs.declared.status.Status.TheVariants as status
use Rattle.wh_command.specs.declared.stop.Stop.{Stop}

-- a text for `out`, and the state that stands once it is written
pub record Piece : Type 0 where
  pub text : List ℕ
  pub state : Holding

-- the state at the beginning, the pieces in their order, and a status or what stops the command
pub record Outcome : Type 0 where
  pub start : Holding
  pub pieces : List Piece
  pub finish : Result Status Stop

abbrev pub texts : List Piece → List ℕ
texts pieces = flat_map (λ (piece : Piece). piece.text) pieces

-- the state after the first k pieces
abbrev pub state_after : Holding → List Piece → ℕ → Holding
state_after start pieces zero = start
state_after start [] (suc k) = start
state_after start (piece ∷ pieces) (suc k) = state_after piece.state pieces k

-- the state after all of them
abbrev pub last_state : Holding → List Piece → Holding
last_state start [] = start
last_state start (piece ∷ pieces) = last_state piece.state pieces

-- the text of piece k, the first being 0
abbrev pub text_at : List Piece → ℕ → List ℕ
text_at [] k = []
text_at (piece ∷ pieces) zero = piece.text
text_at (piece ∷ pieces) (suc k) = text_at pieces k

-- nothing is done but to refuse
abbrev pub refused : Holding → Stop → Outcome
refused start stop = record { start = start; pieces = []; finish = Err stop }

-- texts alone: the state stays
abbrev pub stays : Holding → Result (List (List ℕ)) Stop → Outcome
stays start (Ok rows) = record { start = start; pieces = map (λ (row : List ℕ). record { text = row; state = start }) rows; finish = Ok status.Ok }
stays start (Err stop) = refused start stop

-- a state that some first pieces lead to
pub record IsReached (outcome : Outcome) (state : Holding) : Type 0 where
  pub j : ℕ
  pub within : j ≤ length outcome.pieces
  pub is : state ≡ state_after outcome.start outcome.pieces j

-- ---- one after another

-- by how the first one ends
abbrev pub joined : Outcome → (Holding → Outcome) → Result Status Stop → Outcome
joined first next (Ok status) =
    let following = next (last_state first.start first.pieces) in
    record { start = first.start; pieces = first.pieces ++ following.pieces; finish = following.finish }
joined first next (Err stop) = first

-- the first one, and where it comes to a status the next one from its last state on; only a stop of the first one ends both
abbrev pub followed : Outcome → (Holding → Outcome) → Outcome
followed first next = joined first next first.finish
