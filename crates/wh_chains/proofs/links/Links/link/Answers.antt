use Rattle.std.proofs.Common.{◌≡◌, ◌∙◌, ◌+◌, ◌%◌, ◌∷◌, ◌++◌, [], length, subst, sym, ap, set}
use Rattle.std.proofs.lemmas.List.{length_push}
use Rattle.wh_chains.specs.Links.{AreChained}
use Rattle.wh_chains.proofs.Linking.{linked-in}
use Rattle.wh_chains.proofs.links.Links.link.Goals as goal

pub returns-clause-chained : goal.returns-clause-chained
returns-clause-chained c =
    λ keys chained.
    let items = c.push_reserved.ensures.items in
    let count : c.len-2.result ≡ length keys + 1 =
    c.len-2.ensures ∙ c.push_reserved.new.self.ok.0 ∙ ap (λ xs. length xs) items ∙ length_push c.args.self.now.nexts.items c.index-older.result.now ∙ ap (λ k. k + 1) chained.long in
    subst (λ xs. AreChained (set c.args.self.now.heads.items (c.args.key % c.len.result) c.len-2.result) xs (keys ++ c.args.key ∷ [])) (sym items)
    (linked-in c.args.self.now.heads.items c.args.self.now.nexts.items keys c.args.key c.len-2.result c.index-older.result.now c.len.result (c.len.ensures ∙ c.args.self.now.heads.ok.0) chained count c.index-older.ensures)
