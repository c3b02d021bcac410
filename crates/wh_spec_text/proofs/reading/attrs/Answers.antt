use Rattle.std.proofs.Common.{rules, arith, refl, sym, ◌∙◌}
use Rattle.std.proofs.lemmas.Grind.{common_steps}
use Rattle.wh_grammar.specs.declared.symbol.Symbol.TheVariants as s
use Rattle.wh_grammar.specs.Grammar.{same}
use Rattle.wh_spec_text.specs.Statements.{attr}
use Rattle.wh_grammar.proofs.GrammarLemmas.{more_stops, more_goes, turn_takes}
use Rattle.wh_spec_text.proofs.StatementLemmas.{attr_takes}
use Rattle.wh_spec_text.proofs.reading.attrs.Goals as goal

pub returns-in_err-attr-2 : goal.returns-in_err-attr-2
unfolding same
returns-in_err-attr-2 c =
    let e = c.more.invariant ∙ more_goes attr s.Comma c.more.found c.more.cursor refl attr_takes (sym c.sees.ensures ∙ c.more-test.true) in
    first_of (search rules, grind (arith, common_steps))

pub more-smaller : goal.more-smaller
more-smaller c = turn_takes attr attr_takes c.more.cursor c.advance.new.self c.attr-in-more.new.cursor c.in_ok-attr-2.field-0 c.advance.ensures c.in_ok-attr-2.ensures

pub more-preserved : goal.more-preserved
unfolding same
more-preserved c =
    let e = c.more.invariant ∙ more_goes attr s.Comma c.more.found c.more.cursor refl attr_takes (sym c.sees.ensures ∙ c.more-test.true) in
    first_of (search rules, grind (arith, common_steps))

pub returns : goal.returns
returns c = c.more.invariant ∙ more_stops attr s.Comma c.more.found c.more.cursor (sym c.sees.ensures ∙ c.more-test.false)
