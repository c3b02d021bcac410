use Rattle.wh_csv.proofs.FieldLemmas.{is_integer-Decides}
use Rattle.wh_csv.proofs.laws.integers_are_tested.Goals as goal

pub returns : goal.returns
returns c = is_integer-Decides
