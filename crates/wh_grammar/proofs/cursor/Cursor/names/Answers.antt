use Rattle.std.proofs.Common.{rules, arith, sym, ◌∙◌}
use Rattle.std.proofs.lemmas.Grind.{common_steps}
use Rattle.wh_grammar.specs.Grammar.{name}
use Rattle.wh_grammar.proofs.GrammarLemmas.{more_stops, more_goes, name_takes, turn_takes}
use Rattle.wh_grammar.proofs.cursor.Cursor.names.Goals as goal

pub returns-in_err-name-2 : goal.returns-in_err-name-2
returns-in_err-name-2 c =
    let e = c.more.invariant ∙ more_goes name c.args.between c.more.found c.more.self c.requires name_takes (sym c.sees.ensures ∙ c.more-test.true) in
    first_of (search rules, grind (arith, common_steps))

pub more-smaller : goal.more-smaller
more-smaller c = turn_takes name name_takes c.more.self c.advance.new.self c.name-in-more.new.self c.in_ok-name-2.field-0 c.advance.ensures c.in_ok-name-2.ensures

pub more-preserved : goal.more-preserved
more-preserved c =
    let e = c.more.invariant ∙ more_goes name c.args.between c.more.found c.more.self c.requires name_takes (sym c.sees.ensures ∙ c.more-test.true) in
    first_of (search rules, grind (arith, common_steps))

pub returns : goal.returns
returns c = c.more.invariant ∙ more_stops name c.args.between c.more.found c.more.self (sym c.sees.ensures ∙ c.more-test.false)
