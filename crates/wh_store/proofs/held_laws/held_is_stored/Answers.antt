use Rattle.wh_store.proofs.SoundFiles.{active_held}
use Rattle.wh_store.proofs.held_laws.held_is_stored.Goals as goal

pub returns : goal.returns
returns c = active_held
