-- The words of causes.
use Rattle.std.specs.Prelude.{ℕ, List, codes}
use Rattle.wh_csv.specs.declared.fault.CsvCause.{CsvCause}
use Rattle.wh_csv.specs.declared.fault.CsvCause.TheVariants.{Header, Width, NotUtf8, BadInt, TextTooLong, UnknownRelation, BadSign, TooManyRecords}

-- the words that name a cause
abbrev pub cause_words : CsvCause → List ℕ
cause_words Header = codes "header"
cause_words Width = codes "wrong width"
cause_words NotUtf8 = codes "not UTF-8"
cause_words BadInt = codes "bad integer"
cause_words TextTooLong = codes "text too long"
cause_words UnknownRelation = codes "unknown relation"
cause_words BadSign = codes "bad sign"
cause_words TooManyRecords = codes "records"
