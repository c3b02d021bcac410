use Rattle.std.proofs.Common.{◌≡◌, ◌∙◌, sym, ap, true, false, not, ◌&&◌, take, drop, length, ◌++◌, ◌+◌, ◌-◌, arith}
use Rattle.std.proofs.lemmas.Grind.{common_steps}
use Rattle.wh_covers.specs.Covers.{has_all, needs_each}
use Rattle.wh_covers.proofs.CoverLemmas.{needs_each_more}
use Rattle.wh_covers.proofs.cover.needs_each.Goals as goal

pub returns-then-has_all : goal.returns-then-has_all
returns-then-has_all c =
    let lists = c.args.lists.now in
    let cover = c.args.cover.now in
    let i = c.loop-i.i in
    let rest : take (length cover - (i + 1)) (drop (i + 1) cover) ≡ drop (i + 1) cover = grind (arith, common_steps) in
    let held : has_all lists (take i cover ++ drop (i + 1) cover) ≡ true = ap (λ r. has_all lists (take i cover ++ r)) (sym rest) ∙ sym c.has_all.ensures ∙ c.if-has_all.true in
    sym (c.loop-i.invariant ∙ needs_each_more (has_all lists) cover i c.loop-i-test.true ∙ ap (λ b. not b && needs_each (λ s. has_all lists (take (i + 1) cover ++ s)) (drop (i + 1) cover)) held)

pub loop-i-preserved : goal.loop-i-preserved
loop-i-preserved c =
    let lists = c.args.lists.now in
    let cover = c.args.cover.now in
    let i = c.loop-i.i in
    let rest : take (length cover - (i + 1)) (drop (i + 1) cover) ≡ drop (i + 1) cover = grind (arith, common_steps) in
    let held : has_all lists (take i cover ++ drop (i + 1) cover) ≡ false = ap (λ r. has_all lists (take i cover ++ r)) (sym rest) ∙ sym c.has_all.ensures ∙ c.if-has_all.false in
    c.loop-i.invariant ∙ needs_each_more (has_all lists) cover i c.loop-i-test.true ∙ ap (λ b. not b && needs_each (λ s. has_all lists (take (i + 1) cover ++ s)) (drop (i + 1) cover)) held
