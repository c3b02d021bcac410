use Rattle.wh_schema.proofs.CoverNumbers.{cover_numbers_are}
use Rattle.wh_laws.proofs.cover_numbers_are_covers.Goals as goal

pub returns : goal.returns
returns c = cover_numbers_are
