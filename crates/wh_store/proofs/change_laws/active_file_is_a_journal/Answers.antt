use Rattle.wh_store.proofs.SoundFiles.{place_is_journal}
use Rattle.wh_store.proofs.change_laws.active_file_is_a_journal.Goals as goal

pub returns : goal.returns
returns c = place_is_journal
