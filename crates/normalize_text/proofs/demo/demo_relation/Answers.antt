use Rattle.normalize_text.proofs.Drawn.{demo-drawn}
use Rattle.normalize_text.proofs.demo.demo_relation.Goals as goal

pub returns : goal.returns
returns c = demo-drawn c.relation_of.result c.args.seed c.in_ok-names.field-0 c.in_ok-names.ensures c.relation_of.ensures.names c.relation_of.ensures.rows
