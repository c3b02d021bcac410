use Rattle.std.proofs.Common.{rules, arith, sym, ◌∙◌}
use Rattle.std.proofs.lemmas.Grind.{common_steps}
use Rattle.wh_grammar.specs.Grammar.{push, next}
use Rattle.wh_grammar.proofs.GrammarLemmas.{whole_goes, whole_stops}
use Rattle.wh_spec_text.specs.Statements.{statement}
use Rattle.wh_spec_text.proofs.StatementLemmas.{statement_takes, statement_refuses, ends}
use Rattle.wh_spec_text.proofs.reading.statements.Goals as goal

pub returns-in_err-statement : goal.returns-in_err-statement
returns-in_err-statement c =
    let d = c.args.depth in
    let e = c.more.invariant ∙ whole_goes push (statement d) c.more.found c.more.cursor (statement_takes d) (statement_refuses d) (sym c.sees.ensures ∙ c.more-test.true) in
    first_of (search rules, grind (arith, common_steps))

pub more-smaller : goal.more-smaller
more-smaller c = statement_takes c.args.depth c.more.cursor c.in_ok-statement.field-0 c.statement.new.cursor c.in_ok-statement.ensures

pub more-preserved : goal.more-preserved
more-preserved c =
    let d = c.args.depth in
    let e = c.more.invariant ∙ whole_goes push (statement d) c.more.found c.more.cursor (statement_takes d) (statement_refuses d) (sym c.sees.ensures ∙ c.more-test.true) in
    first_of (search rules, grind (arith, common_steps))

pub returns : goal.returns
returns c =
    let done = sym c.sees.ensures ∙ c.more-test.false in
    c.more.invariant ∙ whole_stops push (statement c.args.depth) c.more.found c.more.cursor done (ends c.args.depth (next c.more.cursor) done)
