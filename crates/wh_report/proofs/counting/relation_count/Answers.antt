use Rattle.std.proofs.Common.{◌≡◌, ◌<◌, [], length, get_or, ap, ◌∙◌, arith}
use Rattle.std.proofs.lemmas.List.{get_or_read}
use Rattle.wh_report.proofs.Numbered.{count_distinct}
use Rattle.wh_report.proofs.counting.relation_count.Goals as goal

pub returns : goal.returns
returns c =
    let item = c.index-as_slice-number in
    let relations = c.args.relations.now in
    let within : c.args.number < length c.as_slice.result.now = omega (arith, c.requires.number, ap length c.as_slice.ensures) in
    let is : item.result ≡ get_or relations c.args.number [] = get_or_read c.as_slice.result.now c.args.number item.result within item.is [] ∙ ap (λ l. get_or l c.args.number []) c.as_slice.ensures in
    c.len.ensures ∙ ap length is ∙ count_distinct (get_or relations c.args.number []) (c.requires.distinct c.args.number)
