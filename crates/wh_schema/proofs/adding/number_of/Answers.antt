use Rattle.std.proofs.Common.{◌≡◌, ◌∙◌, map, ap, arith}
use Rattle.std.proofs.lemmas.List.{length-map}
use Rattle.wh_base.specs.Columns.{place_of}
use Rattle.wh_schema.specs.Rules.{relation_names, number_of}
use Rattle.wh_schema.proofs.Places.{place_of_within}
use Rattle.wh_schema.proofs.adding.number_of.Goals as goal

pub overflow_cast-result : goal.overflow_cast-result
overflow_cast-result c =
    let spec = c.args.spec.now in
    let name = c.args.name.now in
    let is : c.place_of.result ≡ number_of spec name = c.place_of.ensures ∙ ap (λ relations. place_of (map (λ r. r.name) relations) name) c.as_slice.ensures in
    omega (arith, is, place_of_within (relation_names spec) name, length-map spec.relations (λ r. r.name))
