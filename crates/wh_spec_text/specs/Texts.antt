-- What a specification text says.
use Rattle.std.specs.Prelude.{ℕ, List, [], ◌∷◌, drop, nat_eq, Result, if◌then◌else◌}
use Rattle.std.specs.List.{starts_with}
use Rattle.wh_grammar.specs.declared.fault.TextFault.{TextFault}
use Rattle.wh_grammar.specs.Scanned.{read_text}
use Rattle.wh_schema.specs.declared.raw.RawStatement.{RawStatement}
use Rattle.wh_spec_text.specs.Statements.{specification}

-- the UTF-8 byte order mark
abbrev pub byte_order_mark : List ℕ
byte_order_mark = 239 ∷ 187 ∷ 191 ∷ []

-- one byte order mark is taken off the front
abbrev pub without_mark : List ℕ → List ℕ
without_mark text = if starts_with nat_eq text byte_order_mark then drop 3 text else text

-- the statements of a text, or its first fault; places count from 0 after the mark
unfoldable pub raw_of_text : List ℕ → Result (List RawStatement) TextFault
raw_of_text text = read_text specification (without_mark text)
