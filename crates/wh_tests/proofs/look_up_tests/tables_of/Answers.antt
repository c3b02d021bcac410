use Rattle.std.proofs.Common.{◌≡◌, ◌+◌, ◌-◌, [], ◌∷◌, ◌++◌, List, length, sym, ap, subst, ◌∙◌, arith}
use Rattle.wh_eval.specs.Stored.{FitHeads}
use Rattle.wh_inverse.proofs.StoredSets.{heads_count, three_fit, three_indexed}
use Rattle.wh_table.specs.Table.{IndexedRows}
use Rattle.wh_inverse.specs.Inverse.{HaveIndexes}
use Rattle.wh_tests.proofs.look_up_tests.tables_of.Goals as goal

pub returns-clause-fits : goal.returns-clause-fits
returns-clause-fits c =
    let spec = c.args.plan.now.spec in
    let heads = c.args.heads.now in
    let a = c.in_ok-sold.sold in
    let b = c.in_ok-emp.emp in
    let d = c.in_ok-sale.sale in
    let one : c.push.new.self ≡ a ∷ [] = c.in_ok-push.ensures.ok ∙ ap (λ (l : List IndexedRows). l ++ a ∷ []) c.new-tables.ensures in
    let two : c.push-2.new.self ≡ a ∷ b ∷ [] = c.in_ok-push-2.ensures.ok ∙ ap (λ (l : List IndexedRows). l ++ b ∷ []) one in
    let three : c.push-3.new.self ≡ a ∷ b ∷ d ∷ [] = c.in_ok-push-3.ensures.ok ∙ ap (λ (l : List IndexedRows). l ++ d ∷ []) two in
    let long : length heads ≡ length spec.relations + length spec.views + length spec.relations = ap length c.requires.heads ∙ heads_count spec in
    let views = c.requires.views in
    let relations = c.requires.relations in
    let first : length heads - 3 ≡ length spec.relations = omega (arith, long, views, relations) in
    subst (FitHeads heads) (sym three) (three_fit heads (length spec.relations) a b d first c.in_ok-sold.ensures.fits c.in_ok-emp.ensures.fits c.in_ok-sale.ensures.fits)

pub returns-clause-indexed : goal.returns-clause-indexed
returns-clause-indexed c =
    let spec = c.args.plan.now.spec in
    let heads = c.args.heads.now in
    let a = c.in_ok-sold.sold in
    let b = c.in_ok-emp.emp in
    let d = c.in_ok-sale.sale in
    let one : c.push.new.self ≡ a ∷ [] = c.in_ok-push.ensures.ok ∙ ap (λ (l : List IndexedRows). l ++ a ∷ []) c.new-tables.ensures in
    let two : c.push-2.new.self ≡ a ∷ b ∷ [] = c.in_ok-push-2.ensures.ok ∙ ap (λ (l : List IndexedRows). l ++ b ∷ []) one in
    let three : c.push-3.new.self ≡ a ∷ b ∷ d ∷ [] = c.in_ok-push-3.ensures.ok ∙ ap (λ (l : List IndexedRows). l ++ d ∷ []) two in
    let long : length heads ≡ length spec.relations + length spec.views + length spec.relations = ap length c.requires.heads ∙ heads_count spec in
    let views = c.requires.views in
    let relations = c.requires.relations in
    let first : length heads - 3 ≡ length spec.relations = omega (arith, long, views, relations) in
    subst (HaveIndexes spec heads) (sym three) (three_indexed spec heads a b d relations views first c.in_ok-sold.ensures.sets c.in_ok-emp.ensures.sets c.in_ok-sale.ensures.sets)
