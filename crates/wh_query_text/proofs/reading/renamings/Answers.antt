use Rattle.std.proofs.Common.{rules, arith, refl, sym, ◌∙◌}
use Rattle.std.proofs.lemmas.Grind.{common_steps}
use Rattle.wh_grammar.specs.declared.symbol.Symbol.TheVariants as s
use Rattle.wh_grammar.specs.Grammar.{same}
use Rattle.wh_query_text.specs.Queries.{renaming}
use Rattle.wh_grammar.proofs.GrammarLemmas.{more_stops, more_goes, turn_takes}
use Rattle.wh_query_text.proofs.QueryLemmas.{renaming_takes}
use Rattle.wh_query_text.proofs.reading.renamings.Goals as goal

pub returns-in_err-renaming-2 : goal.returns-in_err-renaming-2
unfolding same
returns-in_err-renaming-2 c =
    let e = c.more.invariant ∙ more_goes renaming s.Comma c.more.found c.more.cursor refl renaming_takes (sym c.sees.ensures ∙ c.more-test.true) in
    first_of (search rules, grind (arith, common_steps))

pub more-smaller : goal.more-smaller
more-smaller c = turn_takes renaming renaming_takes c.more.cursor c.advance.new.self c.renaming-in-more.new.cursor c.in_ok-renaming-2.field-0 c.advance.ensures c.in_ok-renaming-2.ensures

pub more-preserved : goal.more-preserved
unfolding same
more-preserved c =
    let e = c.more.invariant ∙ more_goes renaming s.Comma c.more.found c.more.cursor refl renaming_takes (sym c.sees.ensures ∙ c.more-test.true) in
    first_of (search rules, grind (arith, common_steps))

pub returns : goal.returns
returns c = c.more.invariant ∙ more_stops renaming s.Comma c.more.found c.more.cursor (sym c.sees.ensures ∙ c.more-test.false)
