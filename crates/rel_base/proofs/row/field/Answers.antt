use Rattle.csv.specs.Records.{fields_of}
use Rattle.rel_base.proofs.Fields.{field-there, field-now}
use Rattle.rel_base.proofs.row.field.Goals as goal

pub unwrap-requires : goal.unwrap-requires
unwrap-requires c = field-there c.get.result (fields_of c.args.fields.now) c.args.place c.requires c.get.ensures.value

pub returns : goal.returns
returns c = field-now c.get.result c.unwrap.result (fields_of c.args.fields.now) c.args.place c.unwrap.ensures c.requires c.get.ensures.value
