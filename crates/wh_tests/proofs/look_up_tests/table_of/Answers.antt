use Rattle.std.proofs.Common.{◌≡◌, ◌+◌, ℕ, [], List, All, get_or, length, sym, ap, subst, ◌∙◌, Some}
use Rattle.wh_base.specs.declared.head.Head.{Head}
use Rattle.wh_base.specs.Heads.{attrs_at}
use Rattle.wh_eval.specs.Stored.{fits}
use Rattle.wh_plan.specs.declared.plan.Plan.{Plan}
use Rattle.wh_plan.specs.Indexes.{indexes}
use Rattle.wh_schema.specs.Heads.{heads_of}
use Rattle.wh_table.specs.Table.{IsColumnSet}
use Rattle.wh_inverse.proofs.StoredSets.{sets_fit, table_fits}
use Rattle.wh_tests.proofs.look_up_tests.table_of.Goals as goal

pub filled-requires-clause-sets : goal.filled-requires-clause-sets
filled-requires-clause-sets c =
    let spec = c.args.plan.now.spec in
    let n = c.args.k in
    let number = c.len.ensures in
    let width : c.width_at-width.result ≡ length (attrs_at (heads_of spec) (length spec.relations + n)) =
    c.width_at-width.ensures ∙ (λ i. length (attrs_at (c.requires.heads i) (number i + n))) in
    let sets : c.in_ok-sets.sets ≡ get_or (indexes spec) n [] = c.in_ok-sets.ensures ∙ ap (λ (p : Plan). get_or p.indexes n []) c.requires.plan in
    subst (λ (w : ℕ). All (IsColumnSet w) c.in_ok-sets.sets) (sym width)
    (subst (λ (s : List (List ℕ)). All (IsColumnSet (length (attrs_at (heads_of spec) (length spec.relations + n)))) s) (sym sets) (sets_fit spec n c.requires.stored))

pub returns-clause-fits : goal.returns-clause-fits
returns-clause-fits c =
    let spec = c.args.plan.now.spec in
    let n = c.args.k in
    let number = c.len.ensures in
    let width : c.width_at-width.result ≡ length (attrs_at (heads_of spec) (length spec.relations + n)) =
    c.width_at-width.ensures ∙ (λ i. length (attrs_at (c.requires.heads i) (number i + n))) in
    let sets : c.in_ok-sets.sets ≡ get_or (indexes spec) n [] = c.in_ok-sets.ensures ∙ ap (λ (p : Plan). get_or p.indexes n []) c.requires.plan in
    subst (λ (hs : List Head). fits (attrs_at hs (length spec.relations + n)) (Some c.in_ok-table.table) ≡ _) (sym c.requires.heads)
    (table_fits spec n c.requires.stored c.in_ok-table.table (c.in_ok-table.ensures.width ∙ width) (c.in_ok-table.ensures.sets ∙ sets))

pub returns-clause-sets : goal.returns-clause-sets
returns-clause-sets c = c.in_ok-table.ensures.sets ∙ c.in_ok-sets.ensures ∙ ap (λ (p : Plan). get_or p.indexes c.args.k []) c.requires.plan
