-- The texts that a case of the program holds.
use Rattle.std.specs.Prelude.{map}
use Rattle.wh_gen.specs.declared.make.Case.{Case}
use Rattle.wh_gen.specs.Case.{CaseTexts}

abbrev pub texts_of : Case → CaseTexts
texts_of case = record {
  spec = case.spec.bytes;
  dumps = map (λ text. text.bytes) case.dumps;
  changes = map (λ text. text.bytes) case.changes;
}
