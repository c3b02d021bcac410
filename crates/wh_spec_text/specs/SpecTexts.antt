-- What a specification text gives by all rules, and the line of its fault.
use Rattle.std.specs.Prelude.{ℕ, List, [], ◌++◌, Result, Ok, Err, codes}
use Rattle.std.specs.Fmt.{decimal}
use Rattle.wh_lex.specs.Causes.{words}
use Rattle.wh_grammar.specs.declared.fault.TextFault.{TextFault}
use Rattle.wh_grammar.specs.declared.fault.TextFault.TheVariants as text_fault
use Rattle.wh_schema.specs.declared.fault.SpecFault.{SpecFault}
use Rattle.wh_schema.specs.declared.fault.SpecFault.TheVariants as spec_fault
use Rattle.wh_schema.specs.declared.raw.RawStatement.{RawStatement}
use Rattle.wh_schema.specs.declared.spec.Spec.{Spec}
use Rattle.wh_schema.specs.Rules.{checked}
use Rattle.wh_schema.specs.RuleWords.{rule_words}
use Rattle.wh_spec_text.specs.declared.fault.SpecTextFault.{SpecTextFault}
use Rattle.wh_spec_text.specs.declared.fault.SpecTextFault.TheVariants.{Text, Rule, NoMemory}
use Rattle.wh_spec_text.specs.Texts.{raw_of_text}

-- a fault of the text, as a fault of a specification text
abbrev pub of_text : TextFault → SpecTextFault
of_text (text_fault.At at cause) = Text at cause
of_text text_fault.NoMemory = NoMemory

-- a broken rule, as a fault of a specification text
abbrev pub of_rules : SpecFault → SpecTextFault
of_rules (spec_fault.At statement cause) = Rule statement cause
of_rules spec_fault.NoMemory = NoMemory

-- what the rules give
abbrev pub ruled : Result Spec SpecFault → Result Spec SpecTextFault
ruled (Ok spec) = Ok spec
ruled (Err fault) = Err (of_rules fault)

-- what the rules give of the statements of a text
abbrev pub spec_of_raw : Result (List RawStatement) TextFault → Result Spec SpecTextFault
spec_of_raw (Err fault) = Err (of_text fault)
spec_of_raw (Ok raw) = ruled (checked raw)

-- the specification of a text, or its first fault: of its tokens, else of its nesting, else of the grammar, else of the rules
unfoldable pub spec_of_text : List ℕ → Result Spec SpecTextFault
spec_of_text text = spec_of_raw (raw_of_text text)

-- ---- the line of a fault

-- the statements of a text, or none
abbrev pub raw_or_none : Result (List RawStatement) TextFault → List RawStatement
raw_or_none (Ok raw) = raw
raw_or_none (Err fault) = []

-- `byte AT: WORDS` or `statement N: WORDS`; want of memory has no words
abbrev pub fault_words : List ℕ → SpecTextFault → List ℕ
fault_words text (Text at cause) = codes "byte " ++ decimal at ++ codes ": " ++ words cause
fault_words text (Rule n cause) = codes "statement " ++ decimal n ++ codes ": " ++ rule_words (raw_or_none (raw_of_text text)) (spec_fault.At n cause)
fault_words text NoMemory = []
