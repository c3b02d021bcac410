use Rattle.wh_inverse.proofs.FilledLemmas.{distinct-first}
use Rattle.wh_inverse.proofs.relations.all_relations.Goals as goal

pub returns-clause-distinct : goal.returns-clause-distinct
returns-clause-distinct g c = distinct-first _ c.first_of.result c.in_ok-tables.tables c.first_of.ensures c.in_ok-tables.ensures.tables.distinct
