use Rattle.csv.specs.Records.{fields_of}
use Rattle.batch_update.proofs.Entries.{first_is, no_first}
use Rattle.batch_update.proofs.reading.read_entry.Goals as goal

pub returns-in_default : goal.returns-in_default
returns-in_default c = no_first c.args.columns c.args.limits.now (fields_of c.args.fields.now) c.get.result c.in_default.is c.get.ensures.value

pub by_kind-requires : goal.by_kind-requires
by_kind-requires c =
    (first_is c.args.columns c.args.limits.now (fields_of c.args.fields.now) c.get.result c.in-Some.first c.kind_of.result c.in-Some.is c.get.ensures.value c.kind_of.ensures).some

pub returns : goal.returns
returns c =
    let first = first_is c.args.columns c.args.limits.now (fields_of c.args.fields.now) c.get.result c.in-Some.first c.kind_of.result c.in-Some.is c.get.ensures.value c.kind_of.ensures in
    rw first.says at c.by_kind.ensures
